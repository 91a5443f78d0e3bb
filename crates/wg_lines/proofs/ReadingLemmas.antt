-- What the reads of a file say that is read in lines.
use Rattle.std.proofs.Common.{◌≡◌, ◌≢◌, ℕ, ◌+◌, ◌≤◌, ◌==◌, ◌<◌, Bool, true, false, not, ne_eqb, List, [], ◌∷◌, length, refl, ap, ◌∙◌, subst, arith, Option, Some, None, Result, Ok, Err}
use Rattle.wg_outside.specs.declared.limits.TheConstants.{MOST_BYTES}
use Rattle.wg_outside.specs.declared.whole.LoadError.{LoadError}
use Rattle.wg_outside.specs.Reads.{Reads, IsPieceOf}
use Rattle.wg_num.specs.Lines.{lines_of}
use Rattle.wg_lines.specs.Reading.{HeldLines, IsReadable, lines_ahead}

-- no byte is at the limit
pub readable : (o : Option (List ℕ)) (buf : List ℕ) (count : ℕ) → Reads o (MOST_BYTES) buf (Ok count) → count ≤ 0 → IsReadable o
readable None buf count told none = absurd (cc (told))
readable (Some file) buf count told none = told.end (omega (arith, none))

-- a read of a file that is there
pub piece_of : (o : Option (List ℕ)) (file : List ℕ) (at : ℕ) (buf : List ℕ) (count : ℕ) → o ≡ Some file → Reads o at buf (Ok count) → IsPieceOf file at buf count
piece_of o file at buf count is told = subst (λ (q : Option (List ℕ)). Reads q at buf (Ok count)) is told

-- no lines are lent if that is the answer
pub none_lent : (lines lent : List ℕ) (b : Bool) → lent ≡ lines → b ≡ (length lent == 0) → ◌≡◌ {A = Result Bool LoadError} (Ok (not b)) (Ok false) → lines ≡ []
none_lent [] lent b is empty ok = refl
none_lent (x ∷ xs) lent b is empty ok = absurd (let some : b ≡ false = empty ∙ ap (λ (l : List ℕ). length l == 0) is ∙ ne_eqb (length (x ∷ xs)) 0 (λ e. omega arith) in cc (some, ok))

-- some are lent if that is the answer
pub some_lent : (lines lent : List ℕ) (b : Bool) → lent ≡ lines → b ≡ (length lent == 0) → ◌≡◌ {A = Result Bool LoadError} (Ok (not b)) (Ok true) → 0 < length lines
some_lent [] lent b is empty ok = absurd (let none : b ≡ true = empty ∙ ap (λ (l : List ℕ). length l == 0) is in cc (none, ok))
some_lent (x ∷ xs) lent b is empty ok = omega arith

-- an error is no answer, and one answer is not the other
pub no_answer : {A : Type 0} (e : LoadError) (a : A) → ◌≡◌ {A = Result A LoadError} (Err e) (Ok a) → ⊥
no_answer e a is = cc is

pub not_false : ◌≡◌ {A = Result Bool LoadError} (Ok true) (Ok false) → ⊥
not_false is = cc is

pub not_true : ◌≡◌ {A = Result Bool LoadError} (Ok false) (Ok true) → ⊥
not_true is = cc is

-- what is said of the end of a file, in a case that does not come
pub not_ended : (file : List ℕ) (h : HeldLines) → ⊥ → lines_ahead file h ≡ lines_of h.lines
not_ended file h bad = absurd bad

-- where the reading stands after a piece more
pub more_read : (from to count : ℕ) → to ≡ from + count → count ≢ 0 → from < to
more_read from to count is some = omega (arith, is, some)

pub short_read : (from to end count : ℕ) → to ≡ from + count → end ≡ from → end + count ≤ MOST_BYTES → to ≤ MOST_BYTES
short_read from to end count is at le = omega (arith, is, at, le)

-- nothing is left behind the end
pub read_out : (size end from : ℕ) → size ≤ end → end ≡ from → size ≤ from
read_out size end from le at = omega (arith, le, at)
