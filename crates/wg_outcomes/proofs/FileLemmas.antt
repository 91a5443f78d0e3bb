-- Files of an archive that was written.
use Rattle.std.proofs.Common.{◌≡◌, ℕ, ◌+◌, ◌-◌, ◌≤◌, List, [], ◌∷◌, length, get_or, map, sum, nat_lt, ap, ◌∙◌, arith, Option, Some}
use Rattle.std.proofs.lemmas.Bool.{cond-false, le-ltb}
use Rattle.wg_outside.specs.declared.limits.TheConstants.{MOST_BYTES}
use Rattle.wg_params.specs.Parameters.{Parameters}
use Rattle.wg_graph.specs.Copied.{ends_of}
use Rattle.wg_graph.proofs.Copies.{sum_cons}
use Rattle.wg_offsets.specs.{Places.last_place, Words.places_of}
use Rattle.wg_offsets.proofs.WordsLemmas.{length_ends}
use Rattle.wg_greedy.specs.Archive.{graph_bits, offset_values, record_bits}
use Rattle.wg_greedy.proofs.Totals.{values_sum}
use Rattle.wg_outcomes.specs.{Judged.Judged, Judged.refused, Judged.with_file, declared.status.Input.Input}
use Rattle.wg_outcomes.specs.declared.status.Status.TheVariants.{OverLimit}

-- the last of the ends is what the values add up to
last_end : (n v : ℕ) (vs : List ℕ) → get_or (ends_of n (v ∷ vs)) (length vs) 0 ≡ n + sum (v ∷ vs)
last_end n v [] = omega (arith, sum_cons v [])
last_end n v (w ∷ ws) = omega (arith, last_end (n + v) w ws, sum_cons v (w ∷ ws))

last_sum : (v : ℕ) (vs : List ℕ) → last_place (places_of (v ∷ vs)) ≡ sum (v ∷ vs)
last_sum v vs =
    let at : length (places_of (v ∷ vs)) - 1 ≡ length vs = omega (arith, length_ends 0 (v ∷ vs)) in
    ap (λ (k : ℕ). get_or (places_of (v ∷ vs)) k 0) at ∙ omega (arith, last_end 0 v vs)

-- the last record ends where the bits do
pub last_bit : (p : Parameters) (lists : List (List ℕ)) → last_place (places_of (offset_values p lists)) ≡ length (graph_bits p lists)
last_bit p lists = last_sum 0 (map length (record_bits p lists)) ∙ values_sum p lists

-- a file that is not too long is read
pub file_goes : (i : Input) (bytes : List ℕ) → length bytes ≤ MOST_BYTES → (next : List ℕ → Judged) → with_file i (Some bytes) next ≡ next bytes
file_goes i bytes few next = cond-false (nat_lt MOST_BYTES (length bytes)) (refused (OverLimit i)) (next bytes) (le-ltb MOST_BYTES (length bytes) few)

pub held_goes : (i : Input) (held : Option (List ℕ)) (bytes : List ℕ) → held ≡ Some bytes → length bytes ≤ MOST_BYTES → (next : List ℕ → Judged) → with_file i held next ≡ next bytes
held_goes i held bytes is few next = ap (λ (o : Option (List ℕ)). with_file i o next) is ∙ file_goes i bytes few next
