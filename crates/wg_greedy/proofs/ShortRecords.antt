-- The record that is written takes few bits for each successor, since the one without a reference does.
use Rattle.std.proofs.Common.{◌≡◌, ℕ, ◌+◌, ◌*◌, ◌^◌, ◌<◌, ◌≤◌, ltb, Bool, true, ◌&&◌, List, [], ◌∷◌, ◌++◌, length, length-append, refl, sym, subst, inl, inr, arith}
use Rattle.std.specs.Prelude.{filter}
use Rattle.std.specs.List.{flat_map}
use Rattle.std.proofs.lemmas.Bool.{cases_Bool}
use Rattle.std.proofs.lemmas.List.FromFn.{length-range_with_len}
use Rattle.wg_graph.specs.Ascending.{Ascends}
use Rattle.wg_params.specs.declared.code.Code.{Code}
use Rattle.wg_params.specs.declared.code.Code.TheVariants.{Gamma}
use Rattle.wg_params.specs.Codes.{is_unary_gamma_or_delta}
use Rattle.wg_params.specs.Parameters.{Parameters, IsWithinLimits}
use Rattle.wg_params.proofs.FieldCodes.{three_codes}
use Rattle.wg_codes.specs.Words.{highest, word}
use Rattle.wg_codes.proofs.Highest.{highest_is}
use Rattle.wg_codes.proofs.UnaryWords.{length-unary}
use Rattle.wg_codes.proofs.Lengths.{length-gamma, length-delta}
use Rattle.wg_intervals.specs.declared.run.Run.{Run}
use Rattle.wg_intervals.specs.Canonical.{is_long, numbers_of}
use Rattle.wg_intervals.proofs.Divided.{are_once}
use Rattle.wg_grammar.specs.Context.{Context}
use Rattle.wg_grammar.specs.declared.fault.Field.TheVariants as field
use Rattle.wg_greedy.specs.Fields.{written, bits_of_fields, count_fields, extras, extra_fields, reference_fields, copy_fields, list_fields, record_fields}
use Rattle.wg_greedy.specs.Greedy.{size_of, chosen}
use Rattle.wg_greedy.specs.Laws.{IsList, enough_bits}
use Rattle.wg_greedy.proofs.Extra.{long_enough}
use Rattle.wg_greedy.proofs.NoReference.{nothing_copied}
use Rattle.wg_greedy.proofs.Least.{chosen_shortest}
use Rattle.wg_greedy.proofs.Short.{gamma_short, outdegree_short, bits_both, bits_more, intervals_short, residuals_short}

-- the word of 0 is one bit
one_lowest : 0 ≡ highest (0 + 1)
one_lowest = sym (highest_is 1 0 (omega arith) (omega arith) (omega arith))

nothing_short : (code : Code) → is_unary_gamma_or_delta code ≡ true → length (word code 0) ≤ 1
nothing_short code is =
    three_codes (λ c. length (word c 0) ≤ 1) code is (omega (arith, length-unary 0)) (omega (arith, length-gamma 0 0 one_lowest))
    (omega (arith, length-delta 0 0 one_lowest, length-gamma 0 0 one_lowest))

no_reference_bits : (p : Parameters) → IsWithinLimits p → length (bits_of_fields (reference_fields p 0)) ≤ 1
no_reference_bits p within =
    elim (cases_Bool (ltb 0 p.window)) [
      | inl h ↦ rw h (omega (arith, bits_more (written field.Reference p.references 0) [], nothing_short p.references within.references))
      | inr h ↦ rw h (omega arith)
    ]

count_bits : (found : Bool) (least count : ℕ) → length (bits_of_fields (count_fields found least count)) ≤ 2 ^ 7
count_bits found least count =
    elim (cases_Bool (found && ltb 0 least)) [
      | inl h ↦ rw h (omega (arith, bits_more (written field.IntervalCount Gamma count) [], gamma_short count))
      | inr h ↦ rw h (omega arith)
    ]

-- an interval has at least one number
few_inside : (least : ℕ) (rs : List Run) → length (filter (is_long least) rs) ≤ length (flat_map numbers_of (filter (is_long least) rs))
few_inside least [] = omega arith
few_inside least (r ∷ rs) =
    let rest = few_inside least rs in
    elim (cases_Bool (is_long least r)) [
      | inl h ↦ let some =
          long_enough least r h in rw h (omega (arith, rest, some.0, some.1, length-append (numbers_of r) (flat_map numbers_of (filter (is_long least) rs)), length-range_with_len r.left r.length))
      | inr h ↦ rw h rest
    ]

others_few : (p : Parameters) (page : ℕ) (xs : List ℕ) → IsWithinLimits p → Ascends 0 xs → length (bits_of_fields (extra_fields p page xs)) ≤ 2 ^ 7 + 2 ^ 8 * length xs
others_few p page xs within up = grind (arith, are_once, bits_both, intervals_short, residuals_short, count_bits, few_inside)

list_few : (p : Parameters) (page : ℕ) (list : List ℕ) → IsWithinLimits p → Ascends 0 list → length (bits_of_fields (list_fields p page 0 [] list)) ≤ 1 + 2 ^ 7 + 2 ^ 8 * length list
list_few p page [] within up = omega arith
list_few p page (y ∷ ys) within up =
    let list : List ℕ = y ∷ ys in
    let others : length (bits_of_fields (extra_fields p page (extras list []))) ≤ 2 ^ 7 + 2 ^ 8 * length list =
    subst (λ xs. length (bits_of_fields (extra_fields p page xs)) ≤ 2 ^ 7 + 2 ^ 8 * length list) (sym (nothing_copied list)) (others_few p page list within up) in
    omega (
      arith,
      bits_both (reference_fields p 0 ++ copy_fields p 0 [] list) (extra_fields p page (extras list [])),
      bits_both (reference_fields p 0) (copy_fields p 0 [] list),
      no_reference_bits p within,
      others,
    )

record_few : (p : Parameters) (page : ℕ) (list : List ℕ) → IsWithinLimits p → Ascends 0 list → length (bits_of_fields (record_fields p page 0 [] list)) ≤ enough_bits 1 (length list)
unfolding record_fields
record_few p page list within up = omega (arith, outdegree_short, bits_more, list_few)

pub chosen_short : (p : Parameters) (c : Context) (list : List ℕ) → IsWithinLimits p → c.page < p.nodes → IsList p list → size_of p c list (chosen p c list) ≤ enough_bits 1 (length list)
chosen_short p c list within here is = omega (arith, (chosen_shortest p c list 0 refl).0, record_few p c.page list within is.ascends)
