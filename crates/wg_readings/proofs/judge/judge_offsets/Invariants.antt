use Rattle.std.proofs.Common.{◌≡◌, ℕ, List, ◌+◌, ◌++◌, take, Some, IsTrue}
use Rattle.std.specs.Prelude.{get_or}
use Rattle.std.specs.FinMap as map
use Rattle.wg_outside.specs.{Outside.NonDecreasing, declared.suffixes.TheConstants.OFFSETS}
use Rattle.wg_readings.specs.Pairing.{ComesWith, HasCome}
use Rattle.wg_readings.proofs.judge.judge_offsets.Given as goal

-- the words of the offsets file, as far as they were read, are those beside the records so far
abbrev pub invariant-loop-page : goal.invariant-loop-page
invariant-loop-page g l = let d = g.D.Depot in let stored = l.fn.base ++ OFFSETS.now in let found = l.fn.offsets in record {
  name : l.pairing.name ≡ stored;
  same : d.files l.depot ≡ d.files l.fn.depot;
  later : NonDecreasing (d.counts l.fn.depot) (d.counts l.depot);
  come : HasCome d.told (d.files l.fn.depot) (d.counts l.fn.depot) (d.counts l.depot) l.fn.params stored l.page (get_or found l.page 0) l.pairing;
  reads : IsTrue d.told → (file : List ℕ) → map.get (d.files l.fn.depot) stored ≡ Some file → ComesWith file l.pairing (take (l.page + 1) found);
}
