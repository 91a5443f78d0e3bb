-- An error of a word as one of bits in memory.
use Rattle.std.proofs.Common.{arith}
use Rattle.wg_grammar.specs.declared.error.ReadError.{ReadError}
use Rattle.wg_grammar.specs.declared.fault.OffsetWord.{OffsetWord}
use Rattle.wg_grammar.specs.Errors.{OfFault}
use Rattle.wg_offsets.specs.Errors.{known_error}
use Rattle.wg_offsets.specs.Stages.{IfWord}

pub word_of_bits : {R : Type 0} (x : ReadError OffsetWord R) (P : OffsetWord → Type 0) → OfFault x P → IfWord (known_error x) P
word_of_bits x P h = grind arith
