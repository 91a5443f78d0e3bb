use Rattle.std.proofs.Common.{◌∷◌, [], ◌++◌, length, take, ap, ◌∙◌, arith}
use Rattle.std.proofs.lemmas.List.{length-take-le}
use Rattle.wg_lines.specs.declared.lines.TheConstants.{BUFFER, MOST_START}
use Rattle.wg_lines.proofs.PrintLemmas.{line_stored}
use Rattle.wg_lines.proofs.lines.Lines.hold_pair_after.Goals as goal

pub returns : goal.returns
returns c =
    let held = length-take-le c.self.inside.len c.self.inside.bytes (omega arith) in
    line_stored BUFFER c.self.inside.len c.args.count c.decimal_at.result MOST_START c.self.inside.bytes c.put_start.new.bytes
    c.args.start.now c.decimal_at.new.buf (omega arith) (omega (arith, ap length c.self.view_is, held, c.requires.room))
    (omega (arith, ap length c.self.view_is, held, c.requires.room)) c.requires.start (omega arith) (omega arith) c.put_start.ensures
    c.decimal_at.ensures.length
    ∙ (λ i. c.self.view_is i ++ (take c.args.count c.args.start.now ++ c.decimal_at.ensures.digits i ++ 10 ∷ []))
