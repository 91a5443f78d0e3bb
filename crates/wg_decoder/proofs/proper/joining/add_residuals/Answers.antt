use Rattle.std.proofs.Common.{rules, ◌≡◌, ℕ, List, [], ◌∷◌, ◌++◌, length, sym, ap, subst, ◌∙◌, arith}
use Rattle.std.proofs.lemmas.List.{append-nil, length-append}
use Rattle.wg_graph.specs.Unions.{union_of}
use Rattle.wg_decoder.specs.Proper.Joining.{AreJoinable}
use Rattle.wg_decoder.proofs.ProperLemmas.JoinLemmas.{none_joined, first_joins, first_joined_to, number_fits}
use Rattle.wg_decoder.proofs.proper.joining.add_residuals.Goals as goal

pub returns-in_default-clause-list : goal.returns-in_default-clause-list
returns-in_default-clause-list c residuals behind len stand h =
    let none : c.new-residuals.result.list ≡ [] = search rules in
    none_joined c.args.row.now.list residuals (sym (c.new-residuals.ensures.list residuals behind len stand) ∙ none) h

pub hold-requires : goal.hold-requires
hold-requires c = c.requires.stand.4.members_ascend

pub push-requires : goal.push-requires
push-requires c =
    let s = c.requires.stand in
    let t = c.hold.ensures.held in
    let more : c.new-residuals.result.list ≡ c.in-Some.first ∷ c.next.new.self.list = search rules in
    let are : s.0 ≡ c.in-Some.first ∷ c.next.new.self.list = sym (c.new-residuals.ensures.list s.0 s.1 s.2 s.3) ∙ more in
    let waits : c.hold.new.self.waiting ≡ t.0 = t.3 ∙ ap (λ (w : List ℕ). t.0 ++ w) c.requires.waiting ∙ append-nil t.0 in
    let joinable = subst (λ (l : List ℕ). AreJoinable c.args.row.now.list l) are s.4 in
    let on = first_joins c.args.row.now.list c.hold.new.self.list t.0 c.hold.new.self.waiting c.next.new.self.list c.in-Some.first t.2 waits c.hold.ensures.left joinable in
    omega (arith, c.hold.ensures.room, number_fits _ c.hold.new.self.list c.hold.new.self.waiting c.next.new.self.list c.in-Some.first c.args.row.now.room (omega (arith, s.5, ap (λ (l : List ℕ). length (union_of c.args.row.now.list l)) are)) on)

pub join_residuals-requires-clause-joinable : goal.join_residuals-requires-clause-joinable
join_residuals-requires-clause-joinable c =
    let s = c.requires.stand in
    let t = c.hold.ensures.held in
    let more : c.new-residuals.result.list ≡ c.in-Some.first ∷ c.next.new.self.list = search rules in
    let are : s.0 ≡ c.in-Some.first ∷ c.next.new.self.list = sym (c.new-residuals.ensures.list s.0 s.1 s.2 s.3) ∙ more in
    let waits : c.push.new.self.waiting ≡ t.0 = c.push.ensures.waiting ∙ t.3 ∙ ap (λ (w : List ℕ). t.0 ++ w) c.requires.waiting ∙ append-nil t.0 in
    let joinable = subst (λ (l : List ℕ). AreJoinable c.args.row.now.list l) are s.4 in
    (first_joined_to c.args.row.now.list c.hold.new.self.list t.0 c.push.new.self.waiting c.next.new.self.list c.push.new.self.list c.in-Some.first t.2 waits c.hold.ensures.left t.1 c.push.ensures.list joinable).joinable

pub join_residuals-requires-clause-room : goal.join_residuals-requires-clause-room
join_residuals-requires-clause-room c =
    let s = c.requires.stand in
    let t = c.hold.ensures.held in
    let more : c.new-residuals.result.list ≡ c.in-Some.first ∷ c.next.new.self.list = search rules in
    let are : s.0 ≡ c.in-Some.first ∷ c.next.new.self.list = sym (c.new-residuals.ensures.list s.0 s.1 s.2 s.3) ∙ more in
    let waits : c.push.new.self.waiting ≡ t.0 = c.push.ensures.waiting ∙ t.3 ∙ ap (λ (w : List ℕ). t.0 ++ w) c.requires.waiting ∙ append-nil t.0 in
    let joinable = subst (λ (l : List ℕ). AreJoinable c.args.row.now.list l) are s.4 in
    let on = first_joined_to c.args.row.now.list c.hold.new.self.list t.0 c.push.new.self.waiting c.next.new.self.list c.push.new.self.list c.in-Some.first t.2 waits c.hold.ensures.left t.1 c.push.ensures.list joinable in
    omega (arith, s.5, ap (λ (l : List ℕ). length (union_of c.args.row.now.list l)) are, c.hold.ensures.room, c.push.ensures.room, ap (λ (l : List ℕ). length l) on.list, length-append c.push.new.self.list (union_of c.push.new.self.waiting c.next.new.self.list))

pub returns-clause-list : goal.returns-clause-list
returns-clause-list c residuals behind len stand h =
    let t = c.hold.ensures.held in
    let more : c.new-residuals.result.list ≡ c.in-Some.first ∷ c.next.new.self.list = search rules in
    let are : residuals ≡ c.in-Some.first ∷ c.next.new.self.list = sym (c.new-residuals.ensures.list residuals behind len stand) ∙ more in
    let waits : c.push.new.self.waiting ≡ t.0 = c.push.ensures.waiting ∙ t.3 ∙ ap (λ (w : List ℕ). t.0 ++ w) c.requires.waiting ∙ append-nil t.0 in
    let joinable = subst (λ (l : List ℕ). AreJoinable c.args.row.now.list l) are h in
    c.join_residuals.ensures.list ∙ (first_joined_to c.args.row.now.list c.hold.new.self.list t.0 c.push.new.self.waiting c.next.new.self.list c.push.new.self.list c.in-Some.first t.2 waits c.hold.ensures.left t.1 c.push.ensures.list joinable).list ∙ ap (λ (l : List ℕ). union_of c.args.row.now.list l) (sym are)
