use Rattle.std.proofs.Common.{◌≡◌, ℕ, List, ◌++◌, OnErr, subst, arith}
use Rattle.std.proofs.lemmas.Grind.{common_steps}
use Rattle.wg_shape.specs.Graphs.{both}
use Rattle.wg_shape.proofs.paging.next_union.Goals as goal

pub returns-clause-some : goal.returns-clause-some
returns-clause-some g c page at =
    let is : c.new-3.result ≡ both (g.A.Lists.graph c.args.first.now) (g.B.Lists.graph c.args.second.now) page = first_of (grind arith, grind (arith, common_steps)) in
    subst (λ (xs : List ℕ). OnErr c.fill.result ((left : List ℕ) × (xs ≡ c.fill.new.list ++ left))) is c.fill.ensures.some
