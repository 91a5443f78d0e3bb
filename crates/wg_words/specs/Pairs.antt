-- The two archives of a conversion as the words give them.
use Rattle.wg_words.specs.declared.conversion.Conversion.{Conversion}
use Rattle.wg_words.specs.declared.conversion.Pair.{Pair}

-- the conversion with the texts of its names
abbrev pub converted : Pair → Conversion
converted p = record { input = p.input.now; output = p.output.now; layout = p.layout }
