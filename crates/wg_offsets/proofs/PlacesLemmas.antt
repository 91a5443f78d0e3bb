-- Places of records, one after the other.
use Rattle.std.proofs.Common.{◌≡◌, ℕ, ◌+◌, ◌-◌, ◌≤◌, Bool, List, [], ◌∷◌, ◌++◌, length, get_or, sum, None, Ok, refl, sym, ◌∙◌, ap, subst, arith}
use Rattle.std.proofs.lemmas.List.Elements.{All-push, All-nil}
use Rattle.std.proofs.lemmas.List.Sorted.{IsNonDecreasingBy-push, IsNonDecreasingBy-short}
use Rattle.std.proofs.lemmas.Grind.{get_or_default_zero}
use Rattle.wg_params.specs.declared.code.Code.{Code}
use Rattle.wg_codes.specs.declared.outcome.Read.TheVariants.{Value}
use Rattle.wg_codes.specs.Words.{word}
use Rattle.wg_graph.proofs.Copies.{sum_push}
use Rattle.wg_offsets.specs.declared.places.TheConstants.{MOST_PLACE}
use Rattle.wg_offsets.specs.Places.{ArePlaces, last_place}
use Rattle.wg_offsets.specs.Words.{places_of, refusal, Words, ReadsOffsets}
use Rattle.wg_offsets.proofs.WordsLemmas.{ends_more, length_ends, last_more, first_value, value_within}

first_place : (places : List ℕ) (p : ℕ) → get_or places 0 0 ≡ 0 → (length places ≡ 0 → p ≡ 0) → get_or (places ++ p ∷ []) 0 0 ≡ 0
first_place [] p first starts = starts refl
first_place (q ∷ places) p first starts = first

one_place_more : (places : List ℕ) (p : ℕ) → ArePlaces places → (length places ≡ 0 → p ≡ 0) → last_place places ≤ p → p ≤ MOST_PLACE → ArePlaces (places ++ p ∷ [])
one_place_more places p h starts later small = record {
  first = first_place places p h.first starts;
  never_fall = IsNonDecreasingBy-push (λ (q : ℕ). q) places p h.never_fall (λ d some. omega (arith, get_or_default_zero places (length places - 1) d (omega arith)));
  within = All-push (λ (q : ℕ). q ≤ MOST_PLACE) places p h.within small;
}

-- the places that values lead to, and the last of them
pub record Lead (values : List ℕ) : Type 0 where
  pub places : ArePlaces (places_of values)
  pub last : last_place (places_of values) ≡ sum values

one_value_more : (values : List ℕ) (v : ℕ) → Lead values → refusal (length values) (sum values) (Value v) ≡ None → Lead (values ++ v ∷ [])
one_value_more values v h fine =
    let p : ℕ = 0 + sum values + v in
    let more : places_of (values ++ v ∷ []) ≡ places_of values ++ p ∷ [] = ends_more 0 values v in
    let starts : length (places_of values) ≡ 0 → p ≡ 0 = λ none.
    let empty : length values ≡ 0 = sym (length_ends 0 values) ∙ none in
    let total : sum values ≡ 0 = sum_none values empty in
    let value : v ≤ 0 = first_value (sum values) v (subst (λ (k : ℕ). refusal k (sum values) (Value v) ≡ None) empty fine) in
    omega arith in
    record {
      places = subst ArePlaces (sym more) (one_place_more (places_of values) p h.places starts (omega (arith, h.last)) (omega (arith, value_within (length values) (sum values) v fine)));
      last = omega (arith, ap last_place more, last_more (places_of values) p, sum_push values v);
    }
  where
    sum_none : (vs : List ℕ) → length vs ≡ 0 → sum vs ≡ 0
    sum_none [] e = refl
    sum_none (x ∷ vs) e = absurd (omega arith)

leads_on : (c : Code) (bits : List Bool) (before : List ℕ) (at : ℕ) (vs values : List ℕ) (end : ℕ) → Lead before → Words c bits before at vs values end → Lead values
leads_on c bits before at [] values end h words = subst Lead (sym words.0) h
leads_on c bits before at (v ∷ vs) values end h words =
    leads_on c bits (before ++ v ∷ []) (at + length (word c v)) vs values end (one_value_more before v h words.1) words.2

pub places_within : (c : Code) (n : ℕ) (bits : List Bool) (places : List ℕ) → ReadsOffsets c n bits (Ok places) → (length places ≡ n + 1) × ArePlaces places
places_within c n bits places h = grind (arith, length_ends, leads_on, IsNonDecreasingBy-short, All-nil)
