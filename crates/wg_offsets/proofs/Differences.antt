-- The first page whose record has two lengths is the first of those that have.
use Rattle.std.proofs.Common.{◌≡◌, ℕ, suc, ◌+◌, ◌-◌, Bool, true, false, not, ◌==◌, List, [], ◌∷◌, length, sym, ◌∙◌, ap, arith}
use Rattle.std.proofs.lemmas.Bool.{eq-eqb, ne_eqb}
use Rattle.wg_graph.specs.Numbers.{numbers_where}
use Rattle.wg_graph.proofs.Sets.{where_none, where_split}
use Rattle.wg_offsets.specs.Places.{record_length, AgreeInLengths, IsFirstMismatch, pages_that_differ}

module _ (here there : List ℕ) where
  abbrev differs : ℕ → Bool
  differs x = not (record_length here x == record_length there x)

  agrees : (x : ℕ) → record_length here x ≡ record_length there x → differs x ≡ false
  agrees x same = ap not (eq-eqb _ _ same)

  pub none_differ : AgreeInLengths here there → pages_that_differ here there ≡ []
  none_differ agree = where_none differs 0 (length here - 1) (λ x from lt. agrees x (agree x (omega arith)))

  first_is : (page rest : ℕ) → numbers_where differs 0 page ≡ [] → differs page ≡ true → numbers_where differs 0 (page + suc rest) ≡ page ∷ numbers_where differs (page + 1) rest
  first_is page rest none_before it_does = grind (arith, where_split)

  pub first_differs : (page a b : ℕ) → IsFirstMismatch here there page a b → (rest : List ℕ) × (pages_that_differ here there ≡ page ∷ rest)
  first_differs page a b h =
      let rest : ℕ = length here - 1 - suc page in
      let all : length here - 1 ≡ page + suc rest = omega (arith, h.is_page) in
      let none_before : numbers_where differs 0 page ≡ [] = where_none differs 0 page (λ x from lt. agrees x (h.same_before x (omega arith))) in
      let it_does : differs page ≡ true = ap not (ne_eqb _ _ (λ same. h.differ (h.here_is ∙ same ∙ sym h.there_is))) in
      (numbers_where differs (page + 1) rest, ap (λ (k : ℕ). numbers_where differs 0 k) all ∙ first_is page rest none_before it_does)
