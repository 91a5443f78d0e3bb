-- Lines that are written one after the other.
use Rattle.std.proofs.Common.{◌≡◌, ℕ, List, [], ◌∷◌, ◌++◌, ap, ◌∙◌}
use Rattle.std.specs.List.{flat_map}
use Rattle.std.proofs.lemmas.List.{flat_map_more}
use Rattle.wg_properties.specs.Text.{ended}

-- one line more
pub line_more : (lines : List (List ℕ)) (text new line same : List ℕ) → text ≡ flat_map ended lines → new ≡ text ++ ended line → line ≡ same → new ≡ flat_map ended (lines ++ same ∷ [])
line_more lines text new line same is added e = added ∙ ap (λ l. text ++ ended l) e ∙ ap (λ t. t ++ ended same) is ∙ flat_map_more ended [] lines same
