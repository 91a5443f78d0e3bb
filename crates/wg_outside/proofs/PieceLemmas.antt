-- A list in pieces, and what a read of a told file says.
use Rattle.std.proofs.Common.{◌≡◌, ℕ, ◌+◌, ◌-◌, ◌<◌, ◌≤◌, List, ◌++◌, length, take, drop, refl, sym, ◌∙◌, ap, subst, arith, length-drop, Option, Some, None, Ok, Err}
use Rattle.std.proofs.Math.Seq.{take-add}
use Rattle.std.proofs.lemmas.List.{take_all}
use Rattle.std.specs.Option.{ForSome}
use Rattle.wg_outside.specs.declared.limits.TheConstants.{MOST_BYTES}
use Rattle.wg_outside.specs.Reads.{Reads, Loads, IsPieceOf}
use Rattle.wg_outside.specs.declared.depot.ReadError.TheVariants as read
use Rattle.wg_outside.specs.declared.whole.LoadError.TheVariants as load

-- a front, and a front of what is left
pub next_piece : (at count : ℕ) (piece : List ℕ) → at ≤ length piece → take at piece ++ take count (take (length piece - at) (drop at piece)) ≡ take (at + count) piece
next_piece at count piece le =
    ap (λ (l : List ℕ). take at piece ++ take count l) (take_all (length piece - at) (drop at piece) (omega (arith, length-drop at piece)))
    ∙ sym (take-add at count piece)

-- a read of a file that is there, and of one that is not
pub reads_piece : (o : Option (List ℕ)) (file : List ℕ) (at : ℕ) (buf : List ℕ) (count : ℕ) → o ≡ Some file → IsPieceOf file at buf count → Reads o at buf (Ok count)
reads_piece o file at buf count is piece = subst (λ (q : Option (List ℕ)). Reads q at buf (Ok count)) (sym is) piece

pub reads_absent : (o : Option (List ℕ)) (at : ℕ) (buf : List ℕ) → o ≡ None → Reads o at buf (Err read.Absent)
reads_absent o at buf is = subst (λ (q : Option (List ℕ)). Reads q at buf (Err read.Absent)) (sym is) refl

-- a byte at the limit
pub probed : (o : Option (List ℕ)) (buf : List ℕ) (count : ℕ) → Reads o (MOST_BYTES) buf (Ok count) → 0 < count → Loads o (Err load.TooLong)
probed None buf count told some = absurd (cc (told))
probed (Some file) buf count told some = (λ e. cc (e), λ e. omega (arith, told.within, length-drop (MOST_BYTES) file))

-- the end, behind all of it
pub loaded : (o : Option (List ℕ)) (bytes buf : List ℕ) (at count : ℕ) → Reads o at buf (Ok count) → count ≡ 0
    → ForSome o (λ file. (bytes ≡ take at file) × (at ≤ length file) × (length file ≤ MOST_BYTES)) → Loads o (Ok bytes)
loaded None bytes buf at count told none front = absurd (cc (told))
loaded (Some file) bytes buf at count told none front =
    let f = front file refl in
    (f.0 ∙ take_all at file (told.end none), f.2)

-- one piece more
pub longer : (file bytes buf : List ℕ) (at count : ℕ) → IsPieceOf file at buf count → bytes ≡ take at file → at ≤ length file
    → (bytes ++ take count buf ≡ take (at + count) file) × (at + count ≤ length file)
longer file bytes buf at count piece front le = (
  ap (λ (l : List ℕ). l ++ take count buf) front ∙ ap (λ (l : List ℕ). take at file ++ l) piece.bytes ∙ sym (take-add at count file),
  omega (arith, piece.within, length-drop at file),
)

pub grown : (file now bytes buf : List ℕ) (at count size : ℕ) → now ≡ bytes ++ take count buf → size ≡ at + count
    → (bytes ++ take count buf ≡ take (at + count) file) × (at + count ≤ length file) → (now ≡ take size file) × (size ≤ length file)
grown file now bytes buf at count size is long more = (is ∙ more.0 ∙ ap (λ (n : ℕ). take n file) (sym long), subst (λ (n : ℕ). n ≤ length file) (sym long) more.1)
