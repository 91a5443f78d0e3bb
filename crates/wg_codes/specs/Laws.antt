-- What holds of the words and of the fold, whoever reads and writes them.
use Rattle.std.specs.Prelude.{◌≡◌, ◌≢◌, ◌⊎◌, ℕ, ◌≤◌, Bool, List, [], ◌++◌, length, ℤ, pos, ◌-ℤ◌, Some, ◌↔◌}
use Rattle.wg_codes.specs.Fold.{folded, unfolded, unfolded_from}
use Rattle.wg_params.specs.declared.code.Code.{Code}
use Rattle.wg_params.specs.declared.code.Code.TheVariants.{Unary, Gamma, Zeta}
use Rattle.wg_codes.specs.declared.outcome.Read.{Read}
use Rattle.wg_codes.specs.declared.outcome.Read.TheVariants.{Cut}
use Rattle.wg_codes.specs.Words.{word, top}
use Rattle.wg_params.specs.Codes.{IsCode}
use Rattle.wg_codes.specs.Reading.{Begins, Reads}

-- At any bits exactly one case holds, with one value.
abbrev pub OneCaseHolds : Type 0
OneCaseHolds = (c : Code) → IsCode c → (z : List Bool)
    → (r : Read) × Reads (word c) (top c) z r × ((s : Read) → Reads (word c) (top c) z s → s ≡ r)

-- A word that begins a word of its code is that word, of the same value.
abbrev pub NoWordBeginsAnother : Type 0
NoWordBeginsAnother = (c : Code) → IsCode c → (v w : ℕ) → v ≤ top c → w ≤ top c → Begins (word c v) (word c w) → v ≡ w

-- No word of a code other than unary has more than 128 bits.
abbrev pub WordsAreShort : Type 0
WordsAreShort = (c : Code) → IsCode c → c ≢ Unary → (v : ℕ) → v ≤ top c → length (word c v) ≤ 128

-- A whole word, or no word, that is read at a prefix z of some bits is read at all of them, whatever stands behind.
abbrev pub PrefixesTell : Type 0
PrefixesTell = (c : Code) → IsCode c → (z behind : List Bool) (r : Read) → r ≢ Cut → Reads (word c) (top c) z r
    → Reads (word c) (top c) (z ++ behind) r

-- So is any outcome, unless the code is unary, if the prefix has 128 bits or is all of them.
abbrev pub LongPrefixesTell : Type 0
LongPrefixesTell = (c : Code) → IsCode c → c ≢ Unary → (z behind : List Bool) (r : Read)
    → (128 ≤ length z) ⊎ (behind ≡ []) → Reads (word c) (top c) z r → Reads (word c) (top c) (z ++ behind) r

-- Zeta with k = 1 is gamma.
abbrev pub ZetaOneIsGamma : Type 0
ZetaOneIsGamma = (top (Zeta 1) ≡ top Gamma) × ((v : ℕ) → v ≤ top Gamma → word (Zeta 1) v ≡ word Gamma v)

-- The fold and its inverse undo each other.
abbrev pub FoldsBack : Type 0
FoldsBack = ((e : ℤ) → unfolded (folded e) ≡ e) × ((v : ℕ) → folded (unfolded v) ≡ v)

-- A number y comes from x and v exactly if its distance from x folds to v.
abbrev pub UnfoldsFrom : Type 0
UnfoldsFrom = (x v y : ℕ) → (unfolded_from x v ≡ Some y) ↔ (folded (pos y -ℤ pos x) ≡ v)
