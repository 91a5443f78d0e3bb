use Rattle.std.proofs.Common.{◌≡◌, ◌++◌, map, drop, option_map}
use Rattle.wg_words.specs.Values.{numbers_of}
use Rattle.wg_words.proofs.values.numbers_of.Given as goal

-- the numbers so far, and those of what is left
abbrev pub invariant-loop-text : goal.invariant-loop-text
invariant-loop-text l = numbers_of (map (λ s. s.now) l.texts) ≡ option_map (λ rest. l.numbers ++ rest) (numbers_of (map (λ s. s.now) (drop l.text-index l.texts)))
