use Rattle.std.proofs.Common.{◌∙◌, ap, subst, List, refl, All}
use Rattle.wg_io.specs.Held.{files_of, IsAt, IsOther}
use Rattle.wg_io.specs.declared.held.Held.{Held}
use Rattle.wg_io.proofs.HeldLemmas.{put_at, pushed}
use Rattle.wg_io.proofs.held.put.Goals as goal

pub returns-in-Some-clause-ok : goal.returns-in-Some-clause-ok
returns-in-Some-clause-ok c =
    let at = subst (λ (hs : List Held). IsAt hs c.args.name.now c.in-Some.index) c.as_slice.ensures.value c.in-Some.ensures.found in
    put_at c.args.helds.now.items c.in-Some.index c.args.name.now c.index_mut-held.result.now _ at c.index_mut-held.ensures.value refl

pub returns-in_ok-push-in-None-clause-ok : goal.returns-in_ok-push-in-None-clause-ok
returns-in_ok-push-in-None-clause-ok c =
    let none = subst (λ (hs : List Held). All (IsOther c.args.name.now) hs) c.as_slice.ensures.value c.in-None.ensures.missing in
    ap (λ (hs : List Held). files_of hs) c.in_ok-push-in-None.ensures.items
    ∙ pushed c.args.helds.now.items c.args.name.now _ none c.in_ok-name-in-None.ensures.ok
