use Rattle.std.proofs.Common.{◌≡◌, ◌∷◌, ◌++◌, Bool, List, drop, get_or}
use Rattle.wg_memory.specs.Writing.{IsPut, nothing, words_from}
use Rattle.wg_memory.proofs.writing.put_words.Given as goal

-- the words so far are put, and behind them those of the other places are due
abbrev pub invariant-loop-index : goal.invariant-loop-index
invariant-loop-index l = record {
  before : l.before ≡ get_or (0 ∷ l.fn.places) l.index 0;
  put : (done : List Bool) × IsPut l.fn.file l.file nothing done l.held
      × (done ++ words_from l.fn.code l.before (drop l.index l.fn.places) ≡ words_from l.fn.code 0 l.fn.places);
}
