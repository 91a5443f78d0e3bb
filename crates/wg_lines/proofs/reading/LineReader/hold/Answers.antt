use Rattle.std.proofs.Common.{◌≢◌, ℕ, List, get_or, length, ap, subst, rules, arith}
use Rattle.wg_lines.proofs.HoldLemmas.{piece_more, unlent}
use Rattle.wg_lines.proofs.reading.LineReader.hold.Goals as goal

pub invariant_of-self-2 : goal.invariant_of-self-2
invariant_of-self-2 c =
    let r = c.self.inside in
    let i = c.self.invariant in
    let w = c.whole_lines-whole.ensures in
    let value = c.deref.ensures.value in
    let all = c.extend_from_slice.new.self.items in (
      search rules,
      search rules,
      piece_more r.first c.whole_lines-whole.result r.bytes.items all c.args.piece.now c.in_ok-extend_from_slice.ensures.items
          (unlent _ _ _ _ c.self.view_is c.requires.none i.2) c.requires.piece (λ k old whole lt.
          subst (λ (l : List ℕ). get_or l k 0 ≢ 10) value (w.none k (search rules) whole (omega (arith, lt, ap length value)))),
    )

pub returns-clause-whole : goal.returns-clause-whole
returns-clause-whole c = search rules
