use Rattle.std.proofs.Common.{refl, sym, subst, rules, ◌+◌, ◌≤◌, ◌<◌}
use Rattle.wg_ascii.specs.Growing.{IsFirst}
use Rattle.wg_ascii.proofs.PageLemmas.{all_read, page_missing}
use Rattle.wg_ascii.proofs.page_lines.PageLines.end.Goals as goal

pub returns-then-is_page-clause-fault : goal.returns-then-is_page-clause-fault
returns-then-is_page-clause-fault c = λ all lists h.
    let s = c.args.self.now in
    let left : s.line ≤ s.nodes = search rules in
    subst (IsFirst all) (sym c.fault.ensures) (page_missing all lists s (s.line + 1) left refl h)

pub returns-clause-read : goal.returns-clause-read
returns-clause-read c = λ all lists h.
    let s = c.args.self.now in
    let over : s.nodes < s.line = search rules in
    all_read all lists s over h
