use Rattle.std.proofs.Common.{◌∙◌, sym, arith}
use Rattle.wg_encoder.proofs.Shared.{same_shared, past_a, past_b, ends_a, ends_b}
use Rattle.wg_encoder.proofs.sharing.shares.Goals as goal

pub returns-then-y-x : goal.returns-then-y-x
returns-then-y-x c = sym (c.merge.invariant.left ∙ same_shared c.args.list.now c.args.referenced.now c.merge.i c.merge.j c.requires.list c.requires.referenced c.merge-test.true c.if-j-referenced.true (omega (arith, c.if-y-x.true)))

pub merge-preserved-then-y-x-2 : goal.merge-preserved-then-y-x-2
merge-preserved-then-y-x-2 c = record {
  within = omega (arith, c.merge-test.true);
  near = c.merge.invariant.near;
  left = c.merge.invariant.left ∙ past_a c.args.list.now c.args.referenced.now c.merge.i c.merge.j c.requires.list c.requires.referenced c.merge-test.true c.if-j-referenced.true (omega (arith, c.if-y-x-2.true));
}

pub merge-preserved : goal.merge-preserved
merge-preserved c = record {
  within = c.merge.invariant.within;
  near = omega (arith, c.if-j-referenced.true);
  left = c.merge.invariant.left ∙ past_b c.args.list.now c.args.referenced.now c.merge.i c.merge.j c.requires.list c.requires.referenced c.merge-test.true c.if-j-referenced.true (omega (arith, c.if-y-x.false, c.if-y-x-2.false));
}

pub returns-else-j-referenced : goal.returns-else-j-referenced
returns-else-j-referenced c = sym (c.merge.invariant.left ∙ ends_b c.args.list.now c.args.referenced.now c.merge.i c.merge.j (omega (arith, c.if-j-referenced.false)))

pub returns-after-merge : goal.returns-after-merge
returns-after-merge c = sym (c.merge.invariant.left ∙ ends_a c.args.list.now c.args.referenced.now c.merge.i c.merge.j (omega (arith, c.merge-test.false)))
