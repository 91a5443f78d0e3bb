-- The keys of the properties of an archive.
use Rattle.std.specs.Prelude.{ℕ, List, codes}
use Rattle.wg_params.specs.declared.key.Key.{Key}
use Rattle.wg_params.specs.declared.key.Key.TheVariants as key

-- the name of each key
unfoldable pub name_of : Key → List ℕ
name_of key.GraphClass = codes "graphclass"
name_of key.Version = codes "version"
name_of key.Endianness = codes "endianness"
name_of key.Nodes = codes "nodes"
name_of key.Arcs = codes "arcs"
name_of key.WindowSize = codes "windowsize"
name_of key.MaxRefCount = codes "maxrefcount"
name_of key.MinIntervalLength = codes "minintervallength"
name_of key.ZetaK = codes "zetak"
name_of key.CompressionFlags = codes "compressionflags"
