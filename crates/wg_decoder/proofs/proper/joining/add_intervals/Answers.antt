use Rattle.std.proofs.Common.{◌≡◌, ℕ, List, ◌++◌, length, sym, ap, subst, ◌∙◌, arith}
use Rattle.std.proofs.lemmas.List.{append-nil}
use Rattle.wg_intervals.specs.Stored.{numbers_inside}
use Rattle.wg_graph.specs.Unions.{union_of}
use Rattle.wg_decoder.specs.Proper.Joining.{AreJoinable}
use Rattle.wg_decoder.proofs.ProperLemmas.JoinLemmas.{none_joined, no_numbers, none_below}
use Rattle.wg_decoder.proofs.proper.joining.add_intervals.Goals as goal

pub returns-then-count-eq0-clause-list : goal.returns-then-count-eq0-clause-list
returns-then-count-eq0-clause-list c lefts lengths behind len stand h = none_joined c.args.row.now.list _ (no_numbers lefts lengths c.args.count (omega arith) len) h

pub hold-requires : goal.hold-requires
hold-requires c = c.requires.stand.5.members_ascend

pub join_intervals-requires-clause-stand : goal.join_intervals-requires-clause-stand
join_intervals-requires-clause-stand c =
    let s = c.requires.stand in
    let t = c.hold.ensures.held in
    let none = none_below c.hold.new.self.list c.hold.ensures.left in
    let waits : c.hold.new.self.waiting ≡ c.args.row.now.list = t.3 ∙ ap (λ (w : List ℕ). t.0 ++ w) c.requires.waiting ∙ append-nil t.0 ∙ ap (λ (l : List ℕ). l ++ t.0) (sym none) ∙ sym t.2 in (
      s.0,
      s.1,
      s.2,
      s.3,
      s.4,
      subst (λ (w : List ℕ). AreJoinable w (numbers_inside s.0 s.1)) (sym waits) s.5,
      omega (arith, s.6, c.hold.ensures.room, ap (λ (l : List ℕ). length l) none, ap (λ (w : List ℕ). length (union_of w (numbers_inside s.0 s.1))) waits),
    )

pub returns-clause-list : goal.returns-clause-list
returns-clause-list c lefts lengths behind len stand h =
    let t = c.hold.ensures.held in
    let none = none_below c.hold.new.self.list c.hold.ensures.left in
    let waits : c.hold.new.self.waiting ≡ c.args.row.now.list = t.3 ∙ ap (λ (w : List ℕ). t.0 ++ w) c.requires.waiting ∙ append-nil t.0 ∙ ap (λ (l : List ℕ). l ++ t.0) (sym none) ∙ sym t.2 in
    c.join_intervals.ensures.list lefts lengths behind len stand (subst (λ (w : List ℕ). AreJoinable w (numbers_inside lefts lengths)) (sym waits) h) ∙ ap (λ (l : List ℕ). l ++ union_of c.hold.new.self.waiting (numbers_inside lefts lengths)) none ∙ ap (λ (w : List ℕ). union_of w (numbers_inside lefts lengths)) waits

pub returns-clause-behind : goal.returns-clause-behind
returns-clause-behind c lefts lengths behind len stand h =
    let t = c.hold.ensures.held in
    let none = none_below c.hold.new.self.list c.hold.ensures.left in
    let waits : c.hold.new.self.waiting ≡ c.args.row.now.list = t.3 ∙ ap (λ (w : List ℕ). t.0 ++ w) c.requires.waiting ∙ append-nil t.0 ∙ ap (λ (l : List ℕ). l ++ t.0) (sym none) ∙ sym t.2 in
    c.join_intervals.ensures.behind lefts lengths behind len stand (subst (λ (w : List ℕ). AreJoinable w (numbers_inside lefts lengths)) (sym waits) h)
