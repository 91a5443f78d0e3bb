-- The references of a page that are looked at one after the other.
use Rattle.std.proofs.Common.{◌≡◌, ◌^◌, ℕ, ◌+◌, ◌<◌, ◌≤◌, min, true, List, length, sym, subst, ◌∙◌, inl, inr, arith}
use Rattle.std.specs.Prelude.{Option, Some, None}
use Rattle.std.specs.Option.{ForSome}
use Rattle.std.proofs.lemmas.Bool.{cases_lt, cases_eq, cases_Bool, cond-true, cond-false}
use Rattle.wg_graph.specs.Ascending.{Ascends, Below}
use Rattle.wg_params.specs.Parameters.{Parameters, IsWithinLimits}
use Rattle.wg_grammar.specs.Context.{Context}
use Rattle.wg_encoder.specs.declared.choice.Choice.{Choice}
use Rattle.wg_greedy.specs.Fields.{Written, bits_of_fields, all_have_words, record_fields}
use Rattle.wg_encoder.specs.Cost.{cost_of}
use Rattle.wg_greedy.specs.Greedy.{canonical, size_of, is_candidate, chosen}
use Rattle.wg_greedy.specs.Laws.{IsList}
use Rattle.wg_encoder.specs.Encoding.{IsBest, offer_of}
use Rattle.wg_greedy.proofs.NoReference.{no_reference_has}
use Rattle.wg_greedy.proofs.Short.{record_short}
use Rattle.wg_greedy.proofs.Least.{chosen_candidate, chosen_shortest, within}

-- ---- offers

cost_there : (fields : List Written) → all_have_words fields ≡ true → cost_of fields ≡ Some (length (bits_of_fields fields))
cost_there fields words = cond-true (all_have_words fields) (Some (length (bits_of_fields fields))) None words

pub alone_is : (p : Parameters) (c : Context) (list : List ℕ) → IsWithinLimits p → c.page < p.nodes → IsList p list → cost_of (canonical p c list 0) ≡ Some (size_of p c list 0)
alone_is p c list within here is = cost_there (canonical p c list 0) (no_reference_has p c.page p.nodes list within (let n = within.nodes in omega (arith, n)) here is.ascends is.below)

pub size_low : (p : Parameters) (page r : ℕ) (list referenced : List ℕ) (cost : Option ℕ) → IsWithinLimits p → r ≤ min p.window page → IsList p list → Ascends 0 referenced → Below p.nodes referenced
    → cost ≡ cost_of (record_fields p page r referenced list) → ForSome cost (λ n. n < 2 ^ 63)
size_low p page r list referenced cost within reach is up low how n there =
    let fields : List Written = record_fields p page r referenced list in
    let short : length (bits_of_fields fields) < 2 ^ 63 = record_short p page r p.nodes referenced list within (let m = within.nodes in omega (arith, m)) (let w = within.window in omega (arith, reach, w)) is.ascends is.below up low in
    elim (cases_Bool (all_have_words fields)) [
      | inl h ↦ let bits : n ≡ length (bits_of_fields fields) = some_same n (length (bits_of_fields fields)) (sym there ∙ how ∙ cost_there fields h) in omega (arith, bits, short)
      | inr h ↦ absurd (none_some n (sym (cond-false (all_have_words fields) (Some (length (bits_of_fields fields))) None h) ∙ sym how ∙ there))
    ]
  where
    some_same : (a b : ℕ) → Some a ≡ Some b → a ≡ b
    some_same a b e = cc

    none_some : (a : ℕ) → None ≡ Some a → ⊥
    none_some a e = cc

-- ---- the best of all

pub best_chosen : (p : Parameters) (c : Context) (list : List ℕ) (n : ℕ) (best : Choice) → min p.window c.page < n → IsBest p c list n best → best.reference ≡ chosen p c list
best_chosen p c list n best all is =
    let r : ℕ = chosen p c list in
    let may : is_candidate p c list r ≡ true = chosen_candidate p c list in
    let low : r ≤ min p.window c.page = within p c list r may in
    let least = chosen_shortest p c list best.reference is.candidate in
    let shortest : best.bits ≤ size_of p c list r = is.shortest r (omega (arith, low, all)) may in
    elim (cases_eq best.reference r) [
      | inl same ↦ same
      | inr other ↦ elim (cases_lt best.reference r) [
        | inl lt ↦ absurd (let l = least.1 lt in omega (arith, l, shortest, is.bits))
        | inr ge ↦ absurd (let l = is.first r (omega arith) may in let k = least.0 in omega (arith, l, k, is.bits))
      ]
    ]

-- a reference that comes next and takes fewer bits is the best so far
pub best_so_far : (p : Parameters) (c : Context) (list : List ℕ) (n bits : ℕ) (best : Choice) → IsBest p c list n best → offer_of p c list n ≡ Some bits → bits < best.bits
    → IsBest p c list (n + 1) (record { reference = n; bits = bits })
best_so_far p c list n bits best is offered fewer = elim (cases_Bool (is_candidate p c list n)) [
  | inl may ↦ (let same : size_of p c list n ≡ bits = some_is _ _ (sym (cond-true (is_candidate p c list n) (Some (size_of p c list n)) None may) ∙ offered) in record {
    candidate = may;
    bits = sym same;
    among = omega arith;
    shortest = λ r lt can. elim (cases_lt r n) [
      | inl low ↦ (let s = is.shortest r low can in omega (arith, s, fewer))
      | inr high ↦ (let at : r ≡ n = omega arith in subst (λ m. bits ≤ size_of p c list m) (sym at) (omega (arith, same)))
    ];
    first = λ r low can. (let s = is.shortest r low can in omega (arith, s, fewer));
  })
  | inr none ↦ absurd (no_is bits (sym (cond-false (is_candidate p c list n) (Some (size_of p c list n)) None none) ∙ offered))
]
  where
    some_is : (a b : ℕ) → Some a ≡ Some b → a ≡ b
    some_is a b e = cc

    no_is : (a : ℕ) → None ≡ Some a → ⊥
    no_is a e = cc
