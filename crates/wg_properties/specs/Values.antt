-- Where the value of each key is kept.
use Rattle.std.specs.Prelude.{ℕ, List, Option, None, slice_index_or}
use Rattle.wg_params.specs.declared.key.Key.{Key}
use Rattle.wg_params.specs.declared.key.Key.TheVariants.{GraphClass, Version, Endianness, Nodes, Arcs, WindowSize, MaxRefCount, MinIntervalLength, ZetaK, CompressionFlags}

-- the place of a key among the keys
abbrev pub place_of : Key → ℕ
place_of GraphClass = 0
place_of Version = 1
place_of Endianness = 2
place_of Nodes = 3
place_of Arcs = 4
place_of WindowSize = 5
place_of MaxRefCount = 6
place_of MinIntervalLength = 7
place_of ZetaK = 8
place_of CompressionFlags = 9

-- what is kept for a key
abbrev pub value_at : List (Option (List ℕ)) → Key → Option (List ℕ)
value_at values k = slice_index_or values (place_of k) None
