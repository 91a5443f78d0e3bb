use Rattle.std.proofs.Common.{◌∙◌, ap, arith}
use Rattle.wg_properties.specs.Values.{value_at}
use Rattle.wg_properties.proofs.Kept.{kept_get}
use Rattle.wg_properties.proofs.values.Values.get.Goals as goal

pub returns : goal.returns
returns c =
    kept_get c.self.inside.values c.args.key c.place_of.result c.place_of.ensures.place (omega arith)
    ∙ ap (λ v. value_at v c.args.key) c.self.view_is
