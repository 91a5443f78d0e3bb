-- The bits of a graph file: the records of all pages, one after the other, and the tail.
use Rattle.std.specs.Prelude.{◌≡◌, ◌⊎◌, ℕ, ◌+◌, ◌<◌, ◌≤◌, Bool, true, false, List, [], ◌∷◌, length, take, get_or, map}
use Rattle.std.specs.Prelude.{reverse, Result, Ok, Err}
use Rattle.std.specs.List.{sum_by}
use Rattle.wg_params.specs.Parameters.{Parameters}
use Rattle.wg_grammar.specs.declared.tail.TheConstants.{MOST_TAIL}
use Rattle.wg_grammar.specs.declared.fault.ArchiveFault.{ArchiveFault}
use Rattle.wg_grammar.specs.declared.fault.ArchiveFault.TheVariants as faults
use Rattle.wg_grammar.specs.Context.{Context}
use Rattle.wg_grammar.specs.Record.{Whole, ReadsRecord}

-- the arcs of the records behind
abbrev pub arcs_read : List Whole → ℕ
arcs_read behind = sum_by (λ w. length w.known.list) behind

-- the page after the records behind, the last of them first; a reference reaches as far back as the window
abbrev pub context_of : Parameters → List Whole → Context
context_of p behind =
    record { page = length behind; arcs_before = arcs_read behind; behind = take p.window (map (λ w. w.known) behind) }

-- With these records behind, the proper records of ws stand one after the other from the bit at; then last are behind,
-- and end is reached.
abbrev pub Pages : Parameters → List Bool → List Whole → ℕ → List Whole → List Whole → ℕ → Type 0
Pages p bits behind at [] last end = (last ≡ behind) × (end ≡ at)
Pages p bits behind at (w ∷ ws) last end =
    (length behind < p.nodes) × ReadsRecord p (context_of p behind) bits at (Ok w)
    × Pages p bits (w ∷ behind) w.end ws last end

-- what follows the last word: few bits, all 0
pub record IsTail (bits : List Bool) (end : ℕ) : Type 0 where
  pub short : length bits ≤ end + MOST_TAIL
  pub zeros : (i : ℕ) → end ≤ i → i < length bits → get_or bits i false ≡ false

-- the first bit after the last word that is a one or one too many
pub record IsTailFault (bits : List Bool) (end at : ℕ) : Type 0 where
  pub from : end ≤ at
  pub there : at < length bits
  pub near : at ≤ end + MOST_TAIL
  pub zeros : (i : ℕ) → end ≤ i → i < at → get_or bits i false ≡ false
  pub why : (get_or bits at false ≡ true) ⊎ (at ≡ end + MOST_TAIL)

-- a graph as the lists of its pages, and the places of its records: where each begins, and last the bit after them
pub record Accepted : Type 0 where
  pub graph : List (List ℕ)
  pub places : List ℕ

abbrev pub lists_of : List Whole → List (List ℕ)
lists_of behind = reverse (map (λ w. w.known.list) behind)

-- the first record begins at the first bit, and each ends where the next begins
abbrev pub places_of : List Whole → List ℕ
places_of behind = 0 ∷ reverse (map (λ w. w.end) behind)

-- what the file is, if these records are behind and no more proper ones are taken
abbrev pub EndsAs : Parameters → List Bool → List Whole → ℕ → Result Accepted ArchiveFault → Type 0
EndsAs p bits behind at (Ok a) =
    (length behind ≡ p.nodes) × IsTail bits at × (arcs_read behind ≡ p.arcs) × (a.graph ≡ lists_of behind)
    × (a.places ≡ places_of behind)
EndsAs p bits behind at (Err (faults.Record e)) = (length behind < p.nodes)
    × ReadsRecord p (context_of p behind) bits at (Err e)
EndsAs p bits behind at (Err (faults.Tail offset)) = (length behind ≡ p.nodes) × IsTailFault bits at offset
EndsAs p bits behind at (Err (faults.ArcsShort total)) =
    (length behind ≡ p.nodes) × IsTail bits at × (total ≡ arcs_read behind) × (total < p.arcs)
EndsAs p bits behind at (Err (faults.Offsets w)) = ⊥
EndsAs p bits behind at (Err (faults.Length page found stored)) = ⊥

-- The bits stand for this graph, or this is their first fault.
abbrev pub ReadsGraph : Parameters → List Bool → Result Accepted ArchiveFault → Type 0
ReadsGraph p bits w = (ws : List Whole) × (behind : List Whole) × (at : ℕ) × Pages p bits [] 0 ws behind at
    × EndsAs p bits behind at w
