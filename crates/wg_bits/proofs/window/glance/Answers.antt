use Rattle.std.proofs.Common.{◌≡◌, ℕ, ◌+◌, ◌*◌, ◌/◌, ◌%◌, false, get_or, arith, sym, ap, ◌∙◌}
use Rattle.std.proofs.lemmas.List.{get_or-drop}
use Rattle.wg_bits.specs.Bits.{bits_of}
use Rattle.wg_bits.proofs.Words.{shift_at}
use Rattle.wg_bits.proofs.window.glance.Goals as goal

pub returns : goal.returns
returns c = λ i l.
    let place : 8 * (c.args.at / 8) + (c.args.at % 8 + i) ≡ c.args.at + i = omega arith in
    shift_at c.load-high.result.0 (c.args.at % 8) i (omega arith)
    ∙ c.load-high.ensures.word (c.args.at % 8 + i) (omega arith)
    ∙ ap (λ (k : ℕ). get_or (bits_of c.args.bytes.now) k false) place
    ∙ sym (get_or-drop c.args.at (bits_of c.args.bytes.now) i false)
