use Rattle.std.proofs.Common.{rules, ℕ, Bool, ◌≡◌, ◌∙◌, ap, ◌&&◌, nat_eq}
use Rattle.std.proofs.Math.Bool.{and_assoc}
use Rattle.wg_params.specs.declared.layout.Layout.{Layout}
use Rattle.wg_params.specs.Parameters.{Parameters, params_of}
use Rattle.wg_params.specs.contracts.layout.LayoutPartialEq.TheImpl as layout
use Rattle.wg_params.specs.contracts.params.ParamsPartialEq.TheImpl as params
use Rattle.wg_params.proofs.params.ParamsPartialEq.eq.Goals as goal

-- pages, arcs and layouts, compared one after the other
compared : (p q : Parameters) (n m a b : ℕ) (k l : Layout) (first second third : Bool) → params_of k n a ≡ p → params_of l m b ≡ q
    → first ≡ nat_eq n m → second ≡ (first && nat_eq a b) → third ≡ (second && layout.ghosts.eq k l) → third ≡ params.ghosts.eq p q
compared p q n m a b k l first second third e f g h i =
    rw (← e, ← f) (i ∙ ap (λ x. x && layout.ghosts.eq k l) (h ∙ ap (λ x. x && nat_eq a b) g) ∙ and_assoc (nat_eq n m) (nat_eq a b) (layout.ghosts.eq k l))

pub returns : goal.returns
returns c = search (compared, rules)
