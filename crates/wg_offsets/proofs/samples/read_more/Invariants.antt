use Rattle.std.proofs.Common.{◌≡◌, ℕ, ◌+◌, Bool, List}
use Rattle.wg_offsets.specs.Stages.{AreRead}
use Rattle.wg_offsets.proofs.samples.read_more.Given as goal

-- if the source can tell its bits, the words that were read lead to some places
abbrev pub invariant-loop-word : goal.invariant-loop-word
invariant-loop-word g l = let s = g.S.Source in record {
  code : l.words.code ≡ l.fn.words.code;
  pages : l.words.pages ≡ l.fn.words.pages;
  count : l.words.count ≡ l.fn.words.count + l._word;
  later : s.later l.fn.source l.source;
  read : (bits : List Bool) (before : List ℕ) → s.reads_from l.fn.source bits → AreRead bits l.fn.words (s.offset l.fn.source) before
      → (all : List ℕ) × AreRead bits l.words (s.offset l.source) all;
}
