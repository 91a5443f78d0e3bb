use Rattle.std.proofs.Common.{[], refl, sym, subst}
use Rattle.wg_bits.specs.Bits.{bits_of}
use Rattle.wg_source.specs.Held.{IsHeldOf}
use Rattle.wg_stream.proofs.reader.Reader.new.Goals as goal

pub returns-clause-in_step : goal.returns-clause-in_step
returns-clause-in_step c = λ file. record {
  held = subst (IsHeldOf file) (sym c.new-2.ensures) (record { before = []; behind = file; whole = refl; offset = refl; ended = λ e. absurd (cc e); short = λ e. absurd (cc e) });
  records = c.new.ensures.behind (bits_of file);
}
