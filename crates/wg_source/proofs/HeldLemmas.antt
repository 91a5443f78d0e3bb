-- A part of a file that is held.
use Rattle.std.proofs.Common.{◌≡◌, ℕ, ◌+◌, ◌-◌, ◌*◌, ◌<◌, ◌≤◌, true, false, List, [], ◌++◌, length, take, drop, Option, Some, Ok, refl, sym, ◌∙◌, ap, subst, arith, append_assoc, length-append, length-drop}
use Rattle.std.proofs.Math.Seq.{drop-append-add, drop-append_seam}
use Rattle.std.proofs.lemmas.List.{drop-append-le, take-append-drop, drop-take, length-take-le, nil_from_length}
use Rattle.std.proofs.lemmas.List.Edits.{take-paste}
use Rattle.std.specs.List.{copy_within}
use Rattle.wg_bits.specs.Bits.{bits_of, Position, rest, moved}
use Rattle.wg_outside.specs.Reads.{Reads, IsPieceOf}
use Rattle.wg_bits.proofs.Words.{length-bits_of}
use Rattle.wg_bits.proofs.Writes.{bits_of-append}
use Rattle.wg_source.specs.Held.{HeldBytes, IsHeldOf, IsInside, IsSmall, ahead}
use Rattle.wg_source.specs.declared.stretch.TheConstants.{MOST_HELD}

-- the bits of the file from the next one on
pub rest_of_file : (file : List ℕ) (h : HeldBytes) (i : IsHeldOf file h) → IsInside h → drop h.at (bits_of file) ≡ ahead h ++ bits_of i.behind
rest_of_file file h i inside = grind (arith, drop-append-add, drop-append-le, length-bits_of, bits_of-append)

-- how many bits are held from the next one on
pub length-ahead : (h : HeldBytes) → IsInside h → length (ahead h) ≡ 8 * (h.first + length h.bytes) - h.at
length-ahead h inside = let a = length-drop (h.at - 8 * h.first) (bits_of h.bytes) in let b = length-bits_of h.bytes in omega (arith, inside.from, inside.to)

-- two that agree in each part
pub same_held : (g h : HeldBytes) → g.bytes ≡ h.bytes → g.first ≡ h.first → g.at ≡ h.at → g.ended ≡ h.ended → g.looked ≡ h.looked → g ≡ h
same_held g h bytes first at ended looked = λ i. record { bytes = bytes i; first = first i; at = at i; ended = ended i; looked = looked i }

-- bytes copied to the front
pub front_dropped : (bytes : List ℕ) (n k : ℕ) → k ≤ n → n ≤ length bytes → take (n - k) (copy_within bytes k n 0) ≡ drop k (take n bytes)
front_dropped bytes n k few fits =
    let left : n - k ≤ length (drop k bytes) = omega (arith, length-drop k bytes) in
    let sum : n ≡ k + (n - k) = omega arith in
    let none : n - k ≡ 0 + (n - k) = omega arith in
    ap (λ m. take m (copy_within bytes k n 0)) none ∙ take-paste bytes 0 (drop k bytes) (n - k) (omega arith) left ∙ sym (drop-take k (n - k) bytes) ∙ ap (λ m. drop k (take m bytes)) (sym sum)

-- the first bytes are let go
pub dropped : (file : List ℕ) (h1 h2 : HeldBytes) (k : ℕ) → k ≤ length h1.bytes → h2.bytes ≡ drop k h1.bytes → h2.first ≡ h1.first + k → h2.ended ≡ h1.ended → h2.looked ≡ h1.looked
    → IsHeldOf file h1 → IsHeldOf file h2
dropped file h1 h2 k few bytes first ended looked i = record {
  before = i.before ++ take k h1.bytes;
  behind = i.behind;
  whole =
      i.whole ∙ ap (λ (b : List ℕ). i.before ++ (b ++ i.behind)) (sym (take-append-drop k h1.bytes) ∙ ap (λ (b : List ℕ). take k h1.bytes ++ b) (sym bytes))
      ∙ ap (λ (b : List ℕ). i.before ++ b) (append_assoc (take k h1.bytes) h2.bytes i.behind)
      ∙ sym (append_assoc i.before (take k h1.bytes) (h2.bytes ++ i.behind));
  offset = omega (arith, length-append i.before (take k h1.bytes), length-take-le k h1.bytes few, i.offset, first);
  ended = λ e. i.ended (sym ended ∙ e);
  short = λ e. i.short (sym looked ∙ e);
}

-- one piece more is held
pub added : (file : List ℕ) (h1 h2 : HeldBytes) (buf : List ℕ) (count : ℕ) → take count buf ≡ take count (drop (h1.first + length h1.bytes) file)
    → h2.bytes ≡ h1.bytes ++ take count buf → h2.first ≡ h1.first → ¬ (h2.ended ≡ true) → h2.looked ≡ h1.looked → IsHeldOf file h1 → IsHeldOf file h2
added file h1 h2 buf count piece bytes first more looked i =
    let sum : h1.first + length h1.bytes ≡ length (i.before ++ h1.bytes) = omega (arith, length-append i.before h1.bytes, i.offset) in
    let split : file ≡ (i.before ++ h1.bytes) ++ i.behind = i.whole ∙ sym (append_assoc i.before h1.bytes i.behind) in
    let behind : drop (h1.first + length h1.bytes) file ≡ i.behind =
    ap (λ n. drop n file) sum ∙ ap (drop (length (i.before ++ h1.bytes))) split ∙ drop-append_seam (i.before ++ h1.bytes) i.behind in
    let front : take count buf ≡ take count i.behind = piece ∙ ap (take count) behind in
    record {
      before = i.before;
      behind = drop count i.behind;
      whole =
          i.whole ∙ ap (λ (b : List ℕ). i.before ++ (h1.bytes ++ b)) (sym (take-append-drop count i.behind) ∙ ap (λ (b : List ℕ). b ++ drop count i.behind) (sym front))
          ∙ ap (λ (b : List ℕ). i.before ++ b) (sym (append_assoc h1.bytes (take count buf) (drop count i.behind)) ∙ ap (λ (b : List ℕ). b ++ drop count i.behind) (sym bytes));
      offset = i.offset ∙ sym first;
      ended = λ e. absurd (more e);
      short = λ e. i.short (sym looked ∙ e);
    }

-- few bytes are held with one piece more, and if there is none
pub added_small : (g h : HeldBytes) (piece : List ℕ) → length g.bytes + length piece ≤ MOST_HELD → h ≡ record g { bytes = g.bytes ++ piece } → IsSmall g → IsSmall h
added_small g h piece room e s = subst IsSmall (sym e) (record { few = omega (arith, length-append g.bytes piece, room); from = s.from })

pub end_small : (g h : HeldBytes) → h ≡ record g { ended = true } → IsSmall g → IsSmall h
end_small g h e s = subst IsSmall (sym e) (record { few = s.few; from = s.from })

-- the file has no more bytes
pub at_end : (file : List ℕ) (h1 h2 : HeldBytes) → length file ≤ h1.first + length h1.bytes → h2 ≡ record h1 { ended = true } → IsHeldOf file h1 → IsHeldOf file h2
at_end file h1 h2 end same i =
    let sum = length-append i.before (h1.bytes ++ i.behind) in
    let sum2 = length-append h1.bytes i.behind in
    let none : length i.behind ≡ 0 = omega (arith, ap length i.whole, sum, sum2, i.offset, end) in
    subst (IsHeldOf file) (sym same) (record { before = i.before; behind = i.behind; whole = i.whole; offset = i.offset; ended = λ _. nil_from_length i.behind none; short = i.short })

-- a read of a file that is there
pub piece_at : (o : Option (List ℕ)) (file : List ℕ) (at : ℕ) (buf : List ℕ) (count : ℕ) → o ≡ Some file → Reads o at buf (Ok count) → IsPieceOf file at buf count
piece_at o file at buf count is told = subst (λ (q : Option (List ℕ)). Reads q at buf (Ok count)) is told

-- the bits ahead, after a cursor has moved over some of them
pub ahead_moved : (g h : HeldBytes) (p q : Position) (n : ℕ) → IsInside g → p ≡ record { bits = bits_of g.bytes; at = g.at - 8 * g.first } → q ≡ moved p n → h ≡ record g { at = g.at + n }
    → rest q ≡ ahead h
ahead_moved g h p q n inside ep eq eh = grind arith

-- in place of what was held, a piece of the file is, from some byte on
pub taken_up : (file : List ℕ) (h1 h2 : HeldBytes) (buf : List ℕ) (first at count : ℕ) → 0 < count → IsPieceOf file first buf count
    → h2 ≡ record { bytes = take count buf; first = first; at = at; ended = false; looked = h1.looked } → IsHeldOf file h1 → IsHeldOf file h2
taken_up file h1 h2 buf first at count some piece is i = subst (IsHeldOf file) (sym is) (record {
  before = take first file;
  behind = drop count (drop first file);
  whole =
      sym (take-append-drop first file)
      ∙ ap (λ (b : List ℕ). take first file ++ b) (sym (take-append-drop count (drop first file)) ∙ ap (λ (b : List ℕ). b ++ drop count (drop first file)) (sym piece.bytes));
  offset = length-take-le first file (omega (arith, piece.within, some, length-drop first file));
  ended = λ e. absurd cc;
  short = i.short;
})

-- nothing of the file is, at its beginning
pub begun : (file : List ℕ) (h1 h2 : HeldBytes) → h2 ≡ record { bytes = []; first = 0; at = 0; ended = false; looked = h1.looked } → IsHeldOf file h1 → IsHeldOf file h2
begun file h1 h2 is i = subst (IsHeldOf file) (sym is) (record {
  before = [];
  behind = file;
  whole = refl;
  offset = refl;
  ended = λ e. absurd cc;
  short = i.short;
})
