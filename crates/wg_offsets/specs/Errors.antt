-- What a call that reads offsets from bits in memory answers.
use Rattle.wg_grammar.specs.declared.error.ReadError.{ReadError}
use Rattle.wg_grammar.specs.declared.error.ReadError.TheVariants as reads
use Rattle.wg_grammar.specs.declared.fault.OffsetWord.{OffsetWord}
use Rattle.wg_offsets.specs.declared.error.OffsetsError.{OffsetsError}
use Rattle.wg_offsets.specs.declared.error.OffsetsError.TheVariants as errors

-- the error of bits in memory, of which no word is refused
abbrev pub known_error : {R : Type 0} → ReadError OffsetWord R → OffsetsError
known_error (reads.Fault w) = errors.Word w
known_error (reads.Refused r) = errors.Memory
known_error reads.Memory = errors.Memory
