use Rattle.std.proofs.Common.{rules, ℕ, ◌<◌, length, sym, subst}
use Rattle.std.specs.Prelude.{set}
use Rattle.std.proofs.lemmas.List.{length-set}
use Rattle.wg_graph.specs.Filled.{Filled}
use Rattle.wg_stream.specs.Sweeping.{AreKept, IsBack}
use Rattle.wg_stream.proofs.SweepLemmas.{kept_more}
use Rattle.wg_stream.proofs.sweep.keep.Goals as goal

pub returns-clause-kept : goal.returns-clause-kept
returns-clause-kept c records page kept is =
    let within : c.args.turn < length c.args.kept.now = search rules in
    let on = subst (λ (n : ℕ). IsBack n c.row_after.result 1 c.args.turn) (length-set c.args.kept.now c.args.turn c.swap.new.x) c.row_after.ensures.back in
    subst (λ (f : Filled). AreKept records page (set c.args.kept.now c.args.turn f) c.row_after.result) (sym c.swap.ensures.x_after)
    (kept_more records page c.args.turn c.row_after.result c.args.kept.now c.args.list.now within on kept is)
