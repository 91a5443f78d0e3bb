use Rattle.std.proofs.Common.{◌≡◌, Bool, List, length}
use Rattle.wg_offsets.specs.Places.{last_place}
use Rattle.wg_offsets.specs.Stages.{AreRead}
use Rattle.wg_offsets.proofs.reading.read_from.Given as goal

-- if the source can tell its bits, the places are those that the words lead to
abbrev pub invariant-loop-word : goal.invariant-loop-word
invariant-loop-word g l = let s = g.S.Source in record {
  code : l.words.code ≡ l.fn.code;
  pages : l.words.pages ≡ l.fn.n;
  count : l.words.count ≡ l._word;
  counted : length l.offsets ≡ l._word;
  last : last_place l.offsets ≡ l.words.offset;
  later : s.later l.fn.source l.source;
  read : (bits : List Bool) → s.reads_from l.fn.source bits → AreRead bits l.words (s.offset l.source) l.offsets;
}
