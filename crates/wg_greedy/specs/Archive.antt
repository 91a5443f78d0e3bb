-- The graph file and the offsets file of a graph, and its archive.
use Rattle.std.specs.Prelude.{ℕ, ◌+◌, ◌*◌, ◌/◌, Bool, false, nat_lt, if◌then◌else◌, List, [], ◌∷◌, ◌++◌, length, take}
use Rattle.std.specs.Prelude.{drop, map, replicate, fold}
use Rattle.std.specs.List.{flat_map, range_with_len, count_by}
use Rattle.wg_bits.specs.Written.{padding}
use Rattle.wg_codes.specs.Words.{word}
use Rattle.wg_params.specs.Parameters.{Parameters}
use Rattle.wg_greedy.specs.Fields.{bits_of_fields}
use Rattle.wg_greedy.specs.Greedy.{references_of, records_of}

-- the bits of each record
abbrev pub record_bits : Parameters → List (List ℕ) → List (List Bool)
record_bits p lists = map bits_of_fields (records_of p [] lists)

-- the records one after the other
abbrev pub graph_bits : Parameters → List (List ℕ) → List Bool
graph_bits p lists = flat_map (λ bits. bits) (record_bits p lists)

-- whether a reference names a page before
abbrev pub refers : ℕ → Bool
refers r = nat_lt 0 r

-- how many pages are written with a reference above 0
abbrev pub referring_pages : Parameters → List (List ℕ) → ℕ
referring_pages p lists = count_by refers (references_of p [] lists)

-- 0, and the length of each record
abbrev pub offset_values : Parameters → List (List ℕ) → List ℕ
offset_values p lists = 0 ∷ map length (record_bits p lists)

-- a word of each
abbrev pub offsets_bits : Parameters → List (List ℕ) → List Bool
offsets_bits p lists = flat_map (word p.offsets) (offset_values p lists)

-- zero bits up to a whole byte
abbrev pub filled : List Bool → List Bool
filled bits = bits ++ replicate (padding (length bits)) false

-- the number that bits spell, the highest first
abbrev pub spelled : List Bool → ℕ
spelled bits = fold (λ n b. 2 * n + (if b then 1 else 0)) 0 bits

-- bytes of eight bits each
abbrev pub bytes_of : List Bool → List ℕ
bytes_of bits = map (λ i. spelled (take 8 (drop (8 * i) bits))) (range_with_len 0 (length bits / 8))

unfoldable pub graph_file : Parameters → List (List ℕ) → List ℕ
graph_file p lists = bytes_of (filled (graph_bits p lists))

unfoldable pub offsets_file : Parameters → List (List ℕ) → List ℕ
offsets_file p lists = bytes_of (filled (offsets_bits p lists))

-- the bytes of an archive's three files
pub record Archive : Type 0 where
  pub properties : List ℕ
  pub graph : List ℕ
  pub offsets : List ℕ
