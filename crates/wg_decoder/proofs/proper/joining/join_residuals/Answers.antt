use Rattle.std.proofs.Common.{rules, ◌≡◌, ℕ, List, [], ◌∷◌, ◌++◌, ◌∙◌, sym, subst, arith}
use Rattle.wg_graph.specs.Unions.{union_of}
use Rattle.wg_decoder.specs.Proper.Joining.{Joining}
use Rattle.wg_decoder.proofs.ProperLemmas.JoinLemmas.{all_fit, members_joined, given_number, given_up, number_joined, number_fits, rest_joined}
use Rattle.wg_decoder.proofs.proper.joining.join_residuals.Goals as goal

pub push-requires : goal.push-requires
push-requires c =
    let all : List ℕ = c.args.row.now.list ++ union_of c.args.row.now.waiting c.args.residuals.list in
    let given = given_number all c.residuals.row.list c.residuals.row.waiting c.residuals.coming.list c.next.new.self.list c.in-Some.residual (search rules) c.residuals.invariant.on in
    let moved = members_joined all c.residuals.row.list c.take_below.new.self.list c.residuals.row.waiting c.take_below.new.self.waiting (c.in-Some.residual ∷ c.next.new.self.list) c.in-Some.residual c.take_below.ensures.taken c.take_below.ensures.left (given_up all c.residuals.row.list c.residuals.row.waiting c.next.new.self.list c.in-Some.residual given) given in
    omega (arith, c.take_below.ensures.room, c.residuals.invariant.room, number_fits all c.take_below.new.self.list c.take_below.new.self.waiting c.next.new.self.list c.in-Some.residual c.args.row.now.room (all_fit c.args.row.now.list _ c.args.row.now.room c.requires.room) moved.on)

pub residuals-preserved : goal.residuals-preserved
residuals-preserved c =
    let all : List ℕ = c.args.row.now.list ++ union_of c.args.row.now.waiting c.args.residuals.list in
    let given = given_number all c.residuals.row.list c.residuals.row.waiting c.residuals.coming.list c.next.new.self.list c.in-Some.residual (search rules) c.residuals.invariant.on in
    let moved = members_joined all c.residuals.row.list c.take_below.new.self.list c.residuals.row.waiting c.take_below.new.self.waiting (c.in-Some.residual ∷ c.next.new.self.list) c.in-Some.residual c.take_below.ensures.taken c.take_below.ensures.left (given_up all c.residuals.row.list c.residuals.row.waiting c.next.new.self.list c.in-Some.residual given) given in
    record {
      on = subst (λ (w : List ℕ). Joining all c.push.new.self.list w c.next.new.self.list) (sym c.push.ensures.waiting)
          (number_joined all c.take_below.new.self.list c.push.new.self.list c.take_below.new.self.waiting c.next.new.self.list c.in-Some.residual moved.up c.push.ensures.list moved.on).on;
      room = c.push.ensures.room ∙ c.take_below.ensures.room ∙ c.residuals.invariant.room;
      behind = c.next.ensures.behind ∙ c.residuals.invariant.behind;
    }

pub returns-clause-list : goal.returns-clause-list
returns-clause-list c =
    let all : List ℕ = c.args.row.now.list ++ union_of c.args.row.now.waiting c.args.residuals.list in
    let none : c.residuals.coming.list ≡ [] = search rules in
    rest_joined all c.residuals.row.list c.take_all.new.self.list c.residuals.row.waiting c.residuals.coming.list none c.take_all.ensures.list c.residuals.invariant.on
