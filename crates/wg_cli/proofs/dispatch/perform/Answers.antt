use Rattle.std.proofs.Common.{◌≡◌, true, false, refl}
use Rattle.wg_outcomes.proofs.PerformsLemmas.{generates}
use Rattle.wg_cli.proofs.dispatch.perform.Goals as goal

-- a job that asks the depot for files
calls : {A : Type 0} → true ≡ false → A
calls none = absurd cc

pub returns-in-Check : goal.returns-in-Check
returns-in-Check g c = rw c.in-Check.is record { does = c.check.ensures; anywhere = tt; untouched = λ none. calls none }

pub returns-in-Arcs : goal.returns-in-Arcs
returns-in-Arcs g c = rw c.in-Arcs.is record { does = c.print_records.ensures; anywhere = tt; untouched = λ none. calls none }

pub returns-in-Ascii : goal.returns-in-Ascii
returns-in-Ascii g c = rw c.in-Ascii.is record { does = c.print_records-in-Ascii.ensures; anywhere = tt; untouched = λ none. calls none }

pub returns-in-Offsets : goal.returns-in-Offsets
returns-in-Offsets g c = rw c.in-Offsets.is record { does = c.print_records-in-Offsets.ensures; anywhere = tt; untouched = λ none. calls none }

pub returns-in-Show : goal.returns-in-Show
returns-in-Show g c = rw c.in-Show.is record { does = c.show.ensures; anywhere = tt; untouched = λ none. calls none }

pub returns-in-Spot : goal.returns-in-Spot
returns-in-Spot g c = rw c.in-Spot.is record { does = c.spot.ensures; anywhere = tt; untouched = λ none. calls none }

pub returns-in-Rank : goal.returns-in-Rank
returns-in-Rank g c =
    rw c.in-Rank.is record { does = c.rank.ensures.does; anywhere = c.rank.ensures.anywhere; untouched = λ none. calls none }

pub returns-in-Verify : goal.returns-in-Verify
returns-in-Verify g c =
    rw c.in-Verify.is record { does = c.verify.ensures.does; anywhere = c.verify.ensures.anywhere; untouched = λ none. calls none }

pub returns-in-Write : goal.returns-in-Write
returns-in-Write g c = rw c.in-Write.is record { does = c.write.ensures; anywhere = tt; untouched = λ none. calls none }

pub returns-in-Bulk : goal.returns-in-Bulk
returns-in-Bulk g c =
    rw c.in-Bulk.is record {
      does = record { does = c.bulk.ensures.does _ _ _; later = c.bulk.ensures.later };
      anywhere = generates g.O.Sink _ _ c.args.out.now c.bulk.new.out c.bulk.result c.bulk.ensures.does;
      untouched = λ none. refl;
    }
