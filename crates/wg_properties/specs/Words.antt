-- The words of a properties text.
use Rattle.std.specs.Prelude.{ℕ, List, ◌++◌, codes}
unfoldable pub use Rattle.wg_params.specs.Keys.{name_of}
use Rattle.wg_properties.specs.declared.flags.Field.{Field}
use Rattle.wg_properties.specs.declared.flags.Field.TheVariants.{Outdegrees, Blocks, References, BlockCounts, Residuals, Offsets}
use Rattle.wg_properties.specs.declared.flags.Form.{Form}
use Rattle.wg_properties.specs.declared.flags.Form.TheVariants.{Unary, Gamma, Delta, Zeta, Nibble}

-- a flag: a field and the form of its code
abbrev pub Flag : Type 0
Flag = Field × Form

-- the front of its word
unfoldable pub front_of : Field → List ℕ
front_of Outdegrees = codes "OUTDEGREES_"
front_of Blocks = codes "BLOCKS_"
front_of References = codes "REFERENCES_"
front_of BlockCounts = codes "BLOCK_COUNT_"
front_of Residuals = codes "RESIDUALS_"
front_of Offsets = codes "OFFSETS_"

-- the end of a flag's word
unfoldable pub end_of : Form → List ℕ
end_of Unary = codes "UNARY"
end_of Gamma = codes "GAMMA"
end_of Delta = codes "DELTA"
end_of Zeta = codes "ZETA"
end_of Nibble = codes "NIBBLE"

abbrev pub word_of : Flag → List ℕ
word_of flag = front_of flag.0 ++ end_of flag.1

-- the class of graphs in this format, and the same as some write it
unfoldable pub class_name : List ℕ
class_name = codes "it.unimi.dsi.webgraph.BVGraph"

unfoldable pub long_class_name : List ℕ
long_class_name = codes "class it.unimi.dsi.webgraph.BVGraph"
