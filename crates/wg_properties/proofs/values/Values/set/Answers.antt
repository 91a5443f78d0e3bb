use Rattle.std.proofs.Common.{◌∙◌, ap, arith}
use Rattle.wg_properties.specs.Values.{value_at}
use Rattle.wg_properties.proofs.Kept.{kept_set, kept_other}
use Rattle.wg_properties.proofs.values.Values.set.Goals as goal

pub returns-clause-set : goal.returns-clause-set
returns-clause-set c = kept_set c.self.inside.values c.args.key c.place_of.result c.args.value c.place_of.ensures.place (omega arith)

pub returns-clause-others : goal.returns-clause-others
returns-clause-others c = λ k other.
    kept_other c.self.inside.values c.args.key k c.place_of.result c.args.value c.place_of.ensures.place other ∙ ap (λ v. value_at v k) c.self.view_is
