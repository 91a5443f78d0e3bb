-- What is promised of a page that is read without a check of its archive.
use Rattle.std.specs.Prelude.{◌≡◌, ℕ, List, [], ◌∷◌, Option}
use Rattle.wg_words.specs.declared.jobs.Job.TheVariants.{Check, Show, Spot}
use Rattle.wg_outcomes.specs.Judged.{status_of}
use Rattle.wg_outcomes.specs.Readings.{Readings}
use Rattle.wg_outcomes.specs.declared.status.Input.{Input}
use Rattle.wg_outcomes.specs.declared.status.Status.TheVariants.{Done}
use Rattle.wg_outcomes.specs.Commands.{judged}

-- Of an archive that `check` accepts, `spot` comes to what `show` comes to, whatever the page.
abbrev pub SpotsAreShown : Readings → Type 0
SpotsAreShown r = (held : Input → Option (List ℕ)) (base : List ℕ) (page : ℕ)
    → status_of (judged r (Check base) held) ≡ Done
    → judged r (Spot base page) held ≡ judged r (Show base (page ∷ [])) held
