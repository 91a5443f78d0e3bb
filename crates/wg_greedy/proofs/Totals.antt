-- The two files of a graph within the limits are short.
use Rattle.std.proofs.Common.{◌≡◌, ℕ, ◌+◌, ◌*◌, ◌/◌, ◌^◌, ◌<◌, ◌≤◌, Bool, true, false, List, [], ◌∷◌, length, length-append, map, replicate, take, drop, sum, refl, arith}
use Rattle.std.specs.Prelude.{All}
use Rattle.std.specs.List.{flat_map, sum_by}
use Rattle.std.proofs.lemmas.List.{length-map, length-replicate}
use Rattle.std.proofs.lemmas.List.Concat.{length-flat_map}
use Rattle.std.proofs.lemmas.List.Elements.{All-head, All-tail}
use Rattle.std.proofs.lemmas.List.FromFn.{length-map-range_with_len}
use Rattle.std.proofs.lemmas.List.Sums.{sum_by-cons, sum-map}
use Rattle.wg_outside.specs.declared.limits.TheConstants.{MOST_BYTES}
use Rattle.wg_bits.specs.Written.{padding}
use Rattle.wg_params.specs.declared.code.Code.{Code}
use Rattle.wg_params.specs.Codes.{is_gamma_or_delta}
use Rattle.wg_params.specs.Parameters.{Parameters, IsWithinLimits}
use Rattle.wg_codes.specs.Words.{word}
use Rattle.wg_graph.specs.Ascending.{Ascends, Below}
use Rattle.wg_graph.proofs.Copies.{sum_cons}
use Rattle.wg_grammar.specs.Context.{Known}
use Rattle.wg_greedy.specs.Fields.{bits_of_fields}
use Rattle.wg_greedy.specs.Greedy.{canonical, chosen, known_of, context_after, records_of}
use Rattle.wg_greedy.specs.Archive.{record_bits, graph_bits, offset_values, filled, spelled, bytes_of, graph_file, offsets_file}
use Rattle.wg_greedy.specs.Laws.{IsList, enough_bits}
use Rattle.wg_greedy.proofs.Short.{outdegree_short}
use Rattle.wg_greedy.proofs.ShortRecords.{chosen_short}

-- ---- the lists of a graph

-- each is that of a page
abbrev pub AreLists : Parameters → List (List ℕ) → Type 0
AreLists p [] = Unit {0}
AreLists p (list ∷ lists) = IsList p list × AreLists p lists

pub are_lists : (p : Parameters) (lists : List (List ℕ)) → All (Ascends 0) lists → All (Below p.nodes) lists → AreLists p lists
are_lists p [] up low = tt
are_lists p (list ∷ lists) up low = (
  record { ascends = All-head (Ascends 0) list lists up; below = All-head (Below p.nodes) list lists low },
  are_lists p lists (All-tail (Ascends 0) list lists up) (All-tail (Below p.nodes) list lists low),
)

-- how many numbers lists have
abbrev pub numbers_in : List (List ℕ) → ℕ
numbers_in lists = sum_by (λ list. length list) lists

-- ---- records

-- the bits of the records of these lists, if these pages are behind
abbrev pub bits_after : Parameters → List Known → List (List ℕ) → List Bool
bits_after p behind lists = flat_map (λ bits. bits) (map bits_of_fields (records_of p behind lists))

records_short : (p : Parameters) (behind : List Known) (lists : List (List ℕ)) → IsWithinLimits p → AreLists p lists → length behind + length lists ≤ p.nodes
    → length (bits_after p behind lists) ≤ enough_bits (length lists) (numbers_in lists)
records_short p behind [] within are few = omega arith
records_short p behind (list ∷ lists) within are few =
    omega (
      arith,
      length-append (bits_of_fields (canonical p (context_after p behind) list (chosen p (context_after p behind) list))) (bits_after p (known_of p (context_after p behind) list ∷ behind) lists),
      chosen_short p (context_after p behind) list within (omega (arith, few)) are.0,
      sum_by-cons (λ (l : List ℕ). length l) list lists,
      records_short p (known_of p (context_after p behind) list ∷ behind) lists within are.1 (omega (arith, few)),
    )

pub graph_short : (p : Parameters) (lists : List (List ℕ)) → IsWithinLimits p → AreLists p lists → length lists ≡ p.nodes → numbers_in lists ≡ p.arcs → length (graph_bits p lists) ≤ 2 ^ 45 + 2 ^ 48
graph_short p lists within are nodes arcs = omega (arith, records_short p [] lists within are (omega (arith, nodes)), nodes, arcs, within.nodes, within.arcs)

-- the lengths of the records are together that of the bits
pub values_sum : (p : Parameters) (lists : List (List ℕ)) → sum (offset_values p lists) ≡ length (graph_bits p lists)
values_sum p lists = grind (arith, length-flat_map, sum-map, sum_cons)

as_many_records : (p : Parameters) (behind : List Known) (lists : List (List ℕ)) → length (map bits_of_fields (records_of p behind lists)) ≡ length lists
as_many_records p behind [] = refl
as_many_records p behind (list ∷ lists) = omega (arith, as_many_records p (known_of p (context_after p behind) list ∷ behind) lists)

pub as_many_values : (p : Parameters) (lists : List (List ℕ)) → length (offset_values p lists) ≡ length lists + 1
as_many_values p lists = omega (arith, length-map (record_bits p lists) length, as_many_records p [] lists)

-- ---- offsets

words_short : (c : Code) (vs : List ℕ) → is_gamma_or_delta c ≡ true → length (flat_map (word c) vs) ≤ 2 ^ 8 * length vs
words_short c [] is = omega arith
words_short c (v ∷ vs) is = omega (arith, length-append (word c v) (flat_map (word c) vs), outdegree_short c v is, words_short c vs is)

-- ---- bytes

pub few_missing : (n : ℕ) → padding n ≤ 7
unfolding padding
few_missing n = omega arith

file_short : (bits : List Bool) → 8 * length (bytes_of (filled bits)) ≤ length bits + 7
file_short bits =
    omega (
      arith,
      length-map-range_with_len (λ (i : ℕ). spelled (take 8 (drop (8 * i) (filled bits)))) 0 (length (filled bits) / 8),
      length-append bits (replicate (padding (length bits)) false),
      length-replicate (padding (length bits)) false,
      few_missing (length bits),
    )

pub short_graph : (p : Parameters) (lists : List (List ℕ)) → IsWithinLimits p → AreLists p lists → length lists ≡ p.nodes → numbers_in lists ≡ p.arcs → length (graph_file p lists) < MOST_BYTES
unfolding graph_file
short_graph p lists within are nodes arcs = omega (arith, file_short (graph_bits p lists), graph_short p lists within are nodes arcs)

pub short_offsets : (p : Parameters) (lists : List (List ℕ)) → IsWithinLimits p → length lists ≡ p.nodes → length (offsets_file p lists) < MOST_BYTES
unfolding offsets_file
short_offsets p lists within nodes = omega (arith, file_short, as_many_values, words_short, within)
