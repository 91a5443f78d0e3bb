use Rattle.std.proofs.Common.{◌≡◌, ◌∙◌, ℕ, false, List, Result, Ok, Err, sym, ap}
use Rattle.std.specs.FinMap as map
use Rattle.wg_outside.specs.declared.whole.LoadError.{LoadError}
use Rattle.wg_outside.specs.declared.whole.LoadError.TheVariants as load
use Rattle.wg_source.specs.Held.{HeldBytes}
use Rattle.wg_outcomes.specs.declared.status.Input.TheVariants.{Offsets}
use Rattle.wg_readings.specs.Pairing.{status_at}
use Rattle.wg_readings.proofs.{PassLemmas.found_after, PairingLemmas.load_stopped}
use Rattle.wg_readings.proofs.pairing.look.Goals as goal

abbrev failed : LoadError → Result (Unit {0}) LoadError
failed e = Err e

abbrev done : Result (Unit {0}) LoadError
done = Ok tt

pub returns-in-Err-clause-stopped : goal.returns-in-Err-clause-stopped
returns-in-Err-clause-stopped g c = λ held.
    let e = c.in-Err.ensures in
    let files = g.D.Depot.files c.args.depot.now in
    let is : c.unread.result ≡ record { status = status_at Offsets c.in-Err.error; promised = 0 } =
    λ i. record { status = c.unread.ensures.status i; promised = c.unread.ensures.promised i } in
    rw (is, ← c.as_str.ensures)
    (load_stopped _ c.as_str.result.now _ _ _ c.args.pairing.now.held _ c.in-Err.error e.cause
    (λ t none. let a : failed c.in-Err.error ≡ failed load.Absent = e.absent t none (ap (λ (h : HeldBytes). h.looked) c.requires.held) in cc)
    (λ t file is. held t file (ap (λ (n : List ℕ). map.get files n) (sym c.as_str.ensures) ∙ is)))

pub returns-in-Ok-clause-there : goal.returns-in-Ok-clause-there
returns-in-Ok-clause-there g c = λ t.
    let files = g.D.Depot.files c.args.depot.now in
    found_after (map.get files c.args.pairing.now.name) false
    (λ none unlooked.
    let a : done ≡ failed load.Absent = c.in-Ok.ensures.absent t (ap (λ (n : List ℕ). map.get files n) c.as_str.ensures ∙ none) (ap (λ (h : HeldBytes). h.looked) c.requires.held) in
    absurd cc)
    (λ looked. absurd (cc looked))
