use Rattle.std.proofs.Common.{◌≡◌, ℕ, ◌%◌, length, ap, ◌∙◌, arith}
use Rattle.wg_vectors.specs.Generated.{Drafted, with_successor}
use Rattle.wg_vectors.proofs.Loops.{scatters_on}
use Rattle.wg_vectors.proofs.drafting.Draft.scatter.Goals as goal

pub loop-preserved : goal.loop-preserved
loop-preserved c =
    let same : length c.draw.new.self.list ≡ length c.loop.self.list = ap (λ (d : Drafted). length d.list) c.draw.ensures.after in
    let page : ℕ = c.draw.result % c.args.pages in
    record {
      ascends = c.add.ensures.ascends;
      few = omega arith;
      rest = scatters_on c.args.pages (c.draw-count.result % 4) c.loop.counter page c.loop.self c.add.new.self c.loop-test.true
          (ap (λ (r : ℕ). r % c.args.pages) c.draw.ensures.value) (c.add.ensures.after ∙ ap (with_successor page) c.draw.ensures.after) ∙ c.loop.invariant.rest;
    }
