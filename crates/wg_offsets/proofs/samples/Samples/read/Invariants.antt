use Rattle.std.proofs.Common.{◌≡◌, ℕ, ◌+◌, ◌-◌, ◌/◌, ◌≤◌, Bool, List, length}
use Rattle.std.specs.Prelude.{All}
use Rattle.wg_offsets.specs.Sampling.{AreSamples}
use Rattle.wg_offsets.specs.Stages.{AreRead}
use Rattle.wg_offsets.specs.declared.places.TheConstants.{MOST_PLACE}
use Rattle.wg_offsets.specs.declared.samples.TheConstants.{SAMPLED}
use Rattle.wg_offsets.proofs.samples.Samples.read.Given as goal

-- if the source can tell its bits, the words that were read lead to some places, and the samples are of them
abbrev pub invariant-loop-page : goal.invariant-loop-page
invariant-loop-page g l = let s = g.S.Source in record {
  code : l.words.code ≡ l.fn.code;
  pages : l.words.pages ≡ l.fn.pages;
  count : l.words.count ≡ l.page;
  places : length l.places.items ≡ (l.page + SAMPLED - 1) / SAMPLED;
  bits : length l.bits.items ≡ length l.places.items;
  within : All (λ p. p ≤ MOST_PLACE) l.places.items;
  later : s.later l.fn.source l.source;
  read : (file : List Bool) → s.reads_from l.fn.source file → (before : List ℕ) × AreRead file l.words (s.offset l.source) before;
  samples : (file : List Bool) → s.reads_from l.fn.source file → AreSamples l.fn.code file l.places.items l.bits.items;
}
