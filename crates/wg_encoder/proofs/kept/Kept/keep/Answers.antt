use Rattle.std.proofs.Common.{◌≡◌, ◌∷◌, List, ℕ, take, ap, subst, ◌∙◌, arith}
use Rattle.wg_decoder.specs.Remembered.{Remembered}
use Rattle.wg_encoder.proofs.Going.{none_kept}
use Rattle.wg_encoder.proofs.kept.Kept.keep.Goals as goal

pub returns-then-self-eq0-clause-behind : goal.returns-then-self-eq0-clause-behind
returns-then-self-eq0-clause-behind c =
    subst (λ (x : Remembered). x.behind ≡ take x.window (record { list = c.args.list.now; depth = c.args.depth } ∷ x.behind)) c.self.view_is
    (none_kept c.self.inside.window.window c.self.inside.window.behind _ (omega (arith, c.self.invariant.0, c.if-self-eq0.true)) (omega (arith, c.self.invariant.0, c.self.invariant.1)))

pub returns-clause-behind : goal.returns-clause-behind
returns-clause-behind c =
    ap (λ (x : Remembered). x.behind) c.take_furthest.ensures ∙ c.in_ok-furthest.ensures.ok
    ∙ ap (λ (l : List ℕ). take c.self-2.inside.window.window (record { list = l; depth = c.args.depth } ∷ c.self-2.inside.window.behind)) c.in_ok-copy.ensures.copy
    ∙ ap (λ (x : Remembered). take x.window (record { list = c.args.list.now; depth = c.args.depth } ∷ x.behind)) (c.self-2.view_is ∙ c.in_ok-copy.ensures.same)
