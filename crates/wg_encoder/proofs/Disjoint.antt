-- A reference to a list that has no successor in common with the page. Nothing is copied, so that the record is no
-- shorter than without a reference.
use Rattle.std.proofs.Common.{◌≡◌, ℕ, ◌+◌, ◌≤◌, ltb, true, false, List, [], ◌∷◌, ◌++◌, length, refl, sym, ap, ◌∙◌, inl, inr, arith}
use Rattle.std.specs.Prelude.{Some, None}
use Rattle.std.proofs.lemmas.Bool.{cases_Bool, or_parts, cond-true, cond-false}
use Rattle.wg_graph.specs.Numbers.{is_in}
use Rattle.wg_params.specs.declared.code.Code.{Code}
use Rattle.wg_params.specs.declared.code.Code.TheVariants.{Gamma, Delta}
use Rattle.wg_params.specs.Codes.{is_unary_gamma_or_delta}
use Rattle.wg_params.specs.Parameters.{Parameters, IsWithinLimits}
use Rattle.wg_params.proofs.FieldCodes.{three_codes}
use Rattle.wg_codes.specs.Words.{first_where, highest, word}
use Rattle.wg_codes.proofs.UnaryWords.{length-unary}
use Rattle.wg_codes.proofs.Lengths.{length-gamma, length-delta}
use Rattle.wg_codes.proofs.CodeLaws.{word_some}
use Rattle.wg_grammar.specs.Context.{Context, referenced}
use Rattle.wg_grammar.specs.declared.fault.Field.TheVariants as field
use Rattle.wg_greedy.specs.Fields.{written, bits_of_fields, extras, extra_fields, reference_fields, copy_fields, list_fields, record_fields}
use Rattle.wg_encoder.specs.Cost.{IsFewer}
use Rattle.wg_greedy.specs.Greedy.{size_of, is_candidate}
use Rattle.wg_encoder.specs.Encoding.{offer_of}
use Rattle.wg_encoder.specs.Sharing.{shares}
use Rattle.wg_greedy.proofs.NoReference.{nothing_copied}
use Rattle.wg_greedy.proofs.Short.{bits_both, bits_more}

nothing_shared : (list other : List ℕ) → shares list other ≡ false → extras list other ≡ list
nothing_shared [] other none = refl
nothing_shared (y ∷ ys) other none =
    let parts = or_parts (is_in y other) (shares ys other) none in
    rw parts.0 (ap (λ xs. y ∷ xs) (nothing_shared ys other parts.1))

-- ---- the reference: no word is shorter than that of 0

lowest : 0 ≡ highest (0 + 1)
unfolding highest first_where
lowest = refl

shortest_word : (code : Code) (r : ℕ) → is_unary_gamma_or_delta code ≡ true → length (word code 0) ≤ length (word code r)
shortest_word code r is =
    three_codes (λ c. length (word c 0) ≤ length (word c r)) code is (omega (arith, length-unary 0, length-unary r)) (omega (arith, length-gamma 0 0 lowest, word_some Gamma r))
    (omega (arith, length-delta 0 0 lowest, length-gamma 0 0 lowest, word_some Delta r))

shortest_reference : (p : Parameters) (r : ℕ) → IsWithinLimits p → length (bits_of_fields (reference_fields p 0)) ≤ length (bits_of_fields (reference_fields p r))
shortest_reference p r within =
    elim (cases_Bool (ltb 0 p.window)) [
      | inl h ↦ rw h (omega (arith, bits_more (written field.Reference p.references 0) [], bits_more (written field.Reference p.references r) [], shortest_word p.references r within.references))
      | inr h ↦ rw h (omega arith)
    ]

-- ---- the record

list_no_shorter : (p : Parameters) (page r : ℕ) (other list : List ℕ) → IsWithinLimits p → shares list other ≡ false
    → length (bits_of_fields (list_fields p page 0 [] list)) ≤ length (bits_of_fields (list_fields p page r other list))
list_no_shorter p page r other [] within none = omega arith
list_no_shorter p page r other (y ∷ ys) within none =
    let list : List ℕ = y ∷ ys in
    let same : extras list [] ≡ extras list other = nothing_copied list ∙ sym (nothing_shared list other none) in
    omega (
      arith,
      bits_both (reference_fields p 0 ++ copy_fields p 0 [] list) (extra_fields p page (extras list [])),
      bits_both (reference_fields p 0) (copy_fields p 0 [] list),
      bits_both (reference_fields p r ++ copy_fields p r other list) (extra_fields p page (extras list other)),
      bits_both (reference_fields p r) (copy_fields p r other list),
      shortest_reference p r within,
      ap (λ xs. length (bits_of_fields (extra_fields p page xs))) same,
    )

no_shorter : (p : Parameters) (c : Context) (list : List ℕ) (r : ℕ) → IsWithinLimits p → shares list (referenced c.behind r) ≡ false → size_of p c list 0 ≤ size_of p c list r
unfolding record_fields
no_shorter p c list r within none =
    let other : List ℕ = referenced c.behind r in
    omega (
      arith,
      bits_more (written field.Outdegree p.outdegrees (length list)) (list_fields p c.page 0 [] list),
      bits_more (written field.Outdegree p.outdegrees (length list)) (list_fields p c.page r other list),
      list_no_shorter p c.page r other list within none,
    )

-- so it is not wanted below what the record takes without a reference
pub none_wanted : (p : Parameters) (c : Context) (list : List ℕ) (r most : ℕ) → IsWithinLimits p → shares list (referenced c.behind r) ≡ false → most ≤ size_of p c list 0 → IsFewer most (offer_of p c list r) None
none_wanted p c list r most within none low n there =
    elim (cases_Bool (is_candidate p c list r)) [
      | inl h ↦ let bits : size_of p c list r ≡ n = same_bits (size_of p c list r) n (sym (cond-true (is_candidate p c list r) (Some (size_of p c list r)) None h) ∙ there) in omega (arith, bits, low, no_shorter p c list r within none)
      | inr h ↦ absurd (none_some n (sym (cond-false (is_candidate p c list r) (Some (size_of p c list r)) None h) ∙ there))
    ]
  where
    same_bits : (m n : ℕ) → Some m ≡ Some n → m ≡ n
    same_bits m n e = cc

    none_some : (n : ℕ) → None ≡ Some n → ⊥
    none_some n e = cc
