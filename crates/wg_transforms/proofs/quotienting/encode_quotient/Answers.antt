use Rattle.std.proofs.Common.{◌≡◌, refl, subst}
use Rattle.wg_graph.specs.Digraph.{Digraph}
use Rattle.wg_shape.specs.{Classes.whole, Quotient.quotient_of}
use Rattle.wg_writing.specs.Writing.{IsArchiveOf}
use Rattle.wg_outside.proofs.PutsLemmas.{is_that_err}
use Rattle.wg_transforms.proofs.quotienting.encode_quotient.Goals as goal

pub returns-in_err-ranges : goal.returns-in_err-ranges
returns-in_err-ranges g c = rw (is_that_err c.from_residual.result _ c.from_residual.ensures.1) record { made = tt; only = refl }

pub returns-in_err-archive_of_ranges : goal.returns-in_err-archive_of_ranges
returns-in_err-archive_of_ranges g c =
    rw (is_that_err c.from_residual-in_err-archive_of_ranges.result _ c.from_residual-in_err-archive_of_ranges.ensures.1) record { made = tt; only = refl }

pub returns : goal.returns
returns g c =
    let r = c.in_ok-ranges.ensures in
    let is : whole c.in_ok-ranges.ranges.pages ≡ quotient_of (g.L.Lists.graph c.args.lists) c.args.classes_of.now c.args.classes =
    (λ i. quotient_of (r.graph i) (r.classes i) (r.count i)) in
    record { made = subst (λ (q : Digraph). IsArchiveOf c.args.layout.now q c.in_ok-archive_of_ranges.field-0) is c.in_ok-archive_of_ranges.ensures; only = tt }
