use Rattle.std.proofs.Common.{◌≡◌, ℕ, List, ◌++◌, Some, IsTrue}
use Rattle.std.specs.FinMap as map
use Rattle.wg_outside.specs.declared.suffixes.TheConstants.{OFFSETS}
use Rattle.wg_grammar.specs.Archive.{places_of}
use Rattle.wg_offsets.specs.Places.{last_place}
use Rattle.wg_readings.specs.Pairing.{ComesWith, HasCome}
use Rattle.wg_readings.proofs.UnderWay.{IsUnderWay}
use Rattle.wg_readings.proofs.judge.judge_files.Given as goal

-- the words of the offsets file, as far as they were read, are those beside the records so far
abbrev pub invariant-loop-page : goal.invariant-loop-page
invariant-loop-page g l = let d = g.D.Depot in let stored = l.fn.base ++ OFFSETS.now in record {
  way : IsUnderWay d.told l.fn.base l.fn.params (d.files l.fn.depot) (d.files l.depot) (d.counts l.fn.depot) (d.counts l.depot) l._page l.reader
      (λ whole. (last_place (places_of whole) ≡ l.reader.at)
      × (IsTrue d.told → (file : List ℕ) → map.get (d.files l.fn.depot) stored ≡ Some file → ComesWith file l.pairing (places_of whole)));
  name : l.pairing.name ≡ stored;
  come : HasCome d.told (d.files l.fn.depot) (d.counts l.fn.depot) (d.counts l.depot) l.fn.params stored l._page l.reader.at l.pairing;
}
