use Rattle.std.proofs.Common.{ℕ, [], length, subst, sym}
use Rattle.wg_transpose.specs.SoFar.{onward, ArePrefixes}
use Rattle.wg_transpose.proofs.Whole.{none_placed}
use Rattle.wg_transpose.proofs.ranges.fill.Goals as goal

pub place-requires : goal.place-requires
place-requires g c =
    let whole = onward c.args.from (g.P.Placing.lists c.args.pass.now) in
    let none = none_placed (length c.args.ends.now) whole c.args.ends.now c.set_starts.new.counts c.args.all.now c.requires.counted c.set_starts.ensures.pages c.set_starts.ensures.starts c.requires.room in
    record { none = subst (λ (n : ℕ). ArePrefixes n whole (λ v. []) c.set_starts.new.counts c.args.all.now) (sym c.set_starts.ensures.pages) none }
