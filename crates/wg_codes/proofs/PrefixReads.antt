-- What is read at a prefix of some bits, and what at all of them.
use Rattle.std.proofs.Common.{◌≡◌, ◌≢◌, ◌⊎◌, ℕ, ◌<◌, ◌≤◌, Bool, List, [], ◌++◌, length, take, drop, refl, sym, ◌∙◌, ap, ⊎_elim, arith, append_assoc, length-append, length-drop}
use Rattle.std.proofs.Math.Seq.{take-append_seam}
use Rattle.std.proofs.lemmas.List.{take-append-le, take-append-drop, append-nil}
use Rattle.std.proofs.lemmas.Bool.{cases_lt}
use Rattle.wg_params.specs.Codes.{IsCode}
use Rattle.wg_params.specs.declared.code.Code.{Code}
use Rattle.wg_params.specs.declared.code.Code.TheVariants.{Unary}
use Rattle.wg_codes.specs.Reading.{Begins, ProperlyBegins, Reads}
use Rattle.wg_codes.specs.Words.{word, top}
use Rattle.wg_codes.specs.Laws.{PrefixesTell, LongPrefixesTell}
use Rattle.wg_codes.specs.declared.outcome.Read.{Read}
use Rattle.wg_codes.specs.declared.outcome.Read.TheVariants.{Value, Cut, NoWord}
use Rattle.wg_codes.proofs.ShortWords.{short_word}

pub prefix_value : (words : ℕ → List Bool) (most v : ℕ) (z t : List Bool) → Reads words most z (Value v) → Reads words most (z ++ t) (Value v)
prefix_value words most v z t r = (r.0, (r.1.0 ++ t, ap (λ (x : List Bool). x ++ t) r.1.1 ∙ append_assoc (words v) r.1.0 t))

-- of two that begin the same bits the shorter begins the longer
begins_same : (z t w u : List Bool) → z ++ t ≡ w ++ u → length w ≤ length z → z ≡ w ++ drop (length w) z
begins_same z t w u e few =
    let prefix : take (length w) z ≡ w = sym (take-append-le (length w) z t few) ∙ ap (take (length w)) e ∙ take-append_seam w u in
    sym (take-append-drop (length w) z) ∙ ap (λ (x : List Bool). x ++ drop (length w) z) prefix

pub prefix_no_word : (words : ℕ → List Bool) (most : ℕ) (z t : List Bool) → Reads words most z NoWord → Reads words most (z ++ t) NoWord
prefix_no_word words most z t r v fits = (
  (λ (b : Begins (words v) (z ++ t)). ⊎_elim
      (λ (more : length z < length (words v)). (r v fits).1
      (drop (length z) (words v), omega (arith, length-drop (length z) (words v)), begins_same (words v) b.0 z t (sym b.1) (omega arith)))
      (λ (few : length (words v) ≤ length z). (r v fits).0 (drop (length (words v)) z, begins_same z t (words v) b.0 b.1 few))
      (cases_lt (length z) (length (words v)))),
  (λ (p : ProperlyBegins (z ++ t) (words v)). (r v fits).1 (t ++ p.0, omega (arith, length-append t p.0, p.1), p.2 ∙ append_assoc z t p.0)),
)

-- so many bits are no cut word
pub never_cut : (c : Code) (z : List Bool) → IsCode c → c ≢ Unary → 128 ≤ length z → ¬ Reads (word c) (top c) z Cut
never_cut c z is other many r =
    omega (arith, short_word c r.0 is other r.1, ap length r.2.2, length-append z r.2.0, r.2.1)

-- a word or no word at a prefix is read at all of the bits
pub prefix_tells : (c : Code) (z t : List Bool) (r : Read) → r ≢ Cut → Reads (word c) (top c) z r → Reads (word c) (top c) (z ++ t) r
prefix_tells c z t (Value v) whole r = prefix_value (word c) (top c) v z t r
prefix_tells c z t NoWord whole r = prefix_no_word (word c) (top c) z t r
prefix_tells c z t Cut whole r = absurd (whole refl)

-- what is read at a prefix of so many bits, or at all that there are, is read at all of them
pub prefix_reads : (c : Code) (z t : List Bool) (r : Read) → IsCode c → c ≢ Unary → (128 ≤ length z) ⊎ (t ≡ []) → Reads (word c) (top c) z r → Reads (word c) (top c) (z ++ t) r
prefix_reads c z t (Value v) is other enough r = prefix_value (word c) (top c) v z t r
prefix_reads c z t NoWord is other enough r = prefix_no_word (word c) (top c) z t r
prefix_reads c z t Cut is other enough r = grind (arith, append-nil, never_cut)

pub prefixes_tell : PrefixesTell
prefixes_tell c is z behind r = prefix_tells c z behind r

pub long_prefixes_tell : LongPrefixesTell
long_prefixes_tell c is other z behind r = prefix_reads c z behind r is other
