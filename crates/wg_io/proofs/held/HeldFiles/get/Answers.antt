use Rattle.std.proofs.Common.{sym, ◌∙◌, ap, subst, ℕ, List, Option, Some, Bor, All}
use Rattle.std.specs.Option.{option_map}
use Rattle.std.specs.FinMap.{get}
use Rattle.wg_outside.specs.Outside.{Files}
use Rattle.wg_io.specs.Held.{IsAt, IsOther}
use Rattle.wg_io.specs.declared.held.Held.{Held}
use Rattle.wg_io.proofs.HeldLemmas.{get_at, content_nowhere}
use Rattle.wg_io.proofs.held.HeldFiles.get.Goals as goal

pub returns-in_err-index : goal.returns-in_err-index
returns-in_err-index c =
    let name = c.args.name.now in
    let none = subst (λ (hs : List Held). All (IsOther name) hs) c.as_slice.ensures.value c.in_err-index.ensures.missing in
    ap (λ (o : Option (Bor (List ℕ))). option_map (λ bytes. bytes.now) o) c.from_residual.ensures
    ∙ sym (content_nowhere c.self.inside.helds.items name none)
    ∙ ap (λ (f : Files). get f name) c.self.view_is

pub returns : goal.returns
returns c =
    let name = c.args.name.now in
    let at = subst (λ (hs : List Held). IsAt hs name c.in_ok-index.index) c.as_slice.ensures.value c.in_ok-index.ensures.found in
    ap (λ (bytes : List ℕ). Some bytes) c.as_slice-2.ensures.value
    ∙ sym (get_at c.self.inside.helds.items c.in_ok-index.index name c.index.result.now at c.index.ensures)
    ∙ ap (λ (f : Files). get f name) c.self.view_is
