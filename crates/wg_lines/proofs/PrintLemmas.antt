-- Texts that are printed one after the other, and what of them is out.
use Rattle.std.proofs.Common.{◌≡◌, ℕ, ◌+◌, ◌-◌, ◌<◌, ◌≤◌, List, [], ◌∷◌, ◌++◌, length, set, take, drop, refl, sym, ap, subst, ◌∙◌, arith, append_assoc, length-append, length-drop, Result, Ok, Err}
use borrow.Rule.Slice.PartMut.{mid_of, put_mid, same_len_mid}
use Rattle.std.proofs.lemmas.Grind.{take-set_at}
use Rattle.std.proofs.lemmas.List.{append-nil, length-take, length-take-le, take_at, take-take, take-append-drop, take-append-le}
use Rattle.std.proofs.Math.Seq.{take-append-add}
use Rattle.wg_outside.specs.Puts.{Puts}
use Rattle.wg_outside.proofs.PutsLemmas.{puts_more}
use Rattle.wg_lines.specs.Printing.{HasPrinted, HasPrintedLess, Prints}

-- ---- nothing goes out

pub kept : (old waited text waits : List ℕ) → waits ≡ waited ++ text → HasPrinted old old waited text waits
kept old waited text waits is = record { out = []; taken = sym (append-nil old); bytes = sym is }

-- ---- all goes out

pub all_out : (old new waited : List ℕ) → new ≡ old ++ waited → HasPrinted old new waited [] []
all_out old new waited is = record { out = waited; taken = is; bytes = refl }

-- ---- one text after the other

pub printed_more : (a b c waited mid waits t u : List ℕ) → HasPrinted a b waited t mid → HasPrinted b c mid u waits → HasPrinted a c waited (t ++ u) waits
printed_more a b c waited mid waits t u h g = record {
  out = h.out ++ g.out;
  taken = g.taken ∙ ap (λ (l : List ℕ). l ++ g.out) h.taken ∙ append_assoc a h.out g.out;
  bytes = sym (append_assoc waited t u) ∙ ap (λ (l : List ℕ). l ++ u) h.bytes ∙ append_assoc h.out mid u ∙ ap (λ (l : List ℕ). h.out ++ l) g.bytes ∙ sym (append_assoc h.out g.out waits);
}

pub less_after : (a b c waited mid t u : List ℕ) → HasPrinted a b waited t mid → HasPrintedLess b c mid u → HasPrintedLess a c waited (t ++ u)
less_after a b c waited mid t u h g = record {
  out = h.out ++ g.out;
  left = g.left;
  some = g.some;
  taken = g.taken ∙ ap (λ (l : List ℕ). l ++ g.out) h.taken ∙ append_assoc a h.out g.out;
  bytes = sym (append_assoc waited t u) ∙ ap (λ (l : List ℕ). l ++ u) h.bytes ∙ append_assoc h.out mid u ∙ ap (λ (l : List ℕ). h.out ++ l) g.bytes ∙ sym (append_assoc h.out g.out g.left);
}

-- whatever would have followed
pub less_before : (a c waited t u : List ℕ) → HasPrintedLess a c waited t → HasPrintedLess a c waited (t ++ u)
less_before a c waited t u h = record {
  out = h.out;
  left = h.left ++ u;
  some = let some = h.some in omega (arith, length-append h.left u);
  taken = h.taken;
  bytes = sym (append_assoc waited t u) ∙ ap (λ (l : List ℕ). l ++ u) h.bytes ∙ append_assoc h.out h.left u;
}

pub less_held : (a c waited t : List ℕ) → HasPrintedLess a c waited [] → HasPrintedLess a c waited t
less_held a c waited t h = less_before a c waited [] t h

-- a text is printed, and then another one is
pub prints_after : {E : Type 0} (a b c waited mid waits t u : List ℕ) (r : Result (Unit {0}) E) → HasPrinted a b waited t mid → Prints u b c mid waits r → Prints (t ++ u) a c waited waits r
prints_after a b c waited mid waits t u (Ok done) h g = printed_more a b c waited mid waits t u h g
prints_after a b c waited mid waits t u (Err e) h g = less_after a b c waited mid t u h g

-- three texts, of which the first or the second was not printed, or of which the third is printed last
pub less_first : (a b waited t u v : List ℕ) → HasPrintedLess a b waited t → HasPrintedLess a b waited (t ++ u ++ v)
less_first a b waited t u v h = less_before a b waited (t ++ u) v (less_before a b waited t u h)

pub less_second : (a b c waited mid t u v : List ℕ) → HasPrinted a b waited t mid → HasPrintedLess b c mid u → HasPrintedLess a c waited (t ++ u ++ v)
less_second a b c waited mid t u v h g = less_before a c waited (t ++ u) v (less_after a b c waited mid t u h g)

pub prints_third : {E : Type 0} (a b c d waited mid next waits t u v : List ℕ) (r : Result (Unit {0}) E) → HasPrinted a b waited t mid → HasPrinted b c mid u next → Prints v c d next waits r
    → Prints (t ++ u ++ v) a d waited waits r
prints_third a b c d waited mid next waits t u v r h g k = prints_after a c d waited next waits (t ++ u) v r (printed_more a b c waited mid next t u h g) k

-- ---- what a sink has taken

pub less_of_puts : {E : Type 0} (old new waited : List ℕ) (e : E) → Puts waited old new (Err e) → HasPrintedLess old new waited []
less_of_puts old new waited e put = record {
  out = take put.0 waited;
  left = drop put.0 waited;
  some = omega (arith, put.1, length-drop put.0 waited);
  taken = put.2;
  bytes = append-nil waited ∙ sym (take-append-drop put.0 waited);
}

pub prints_of_puts : {E : Type 0} (old new waited waits : List ℕ) (r : Result (Unit {0}) E) → waits ≡ [] → Puts waited old new r → Prints [] old new waited waits r
prints_of_puts old new waited waits (Ok done) none put = subst (HasPrinted old new waited []) (sym none) (all_out old new waited put)
prints_of_puts old new waited waits (Err e) none put = less_of_puts old new waited e put

pub puts_of_less : {E : Type 0} (old new t : List ℕ) (e : E) → HasPrintedLess old new [] t → Puts t old new (Err e)
puts_of_less old new t e h = (
  length h.out,
  (let some = h.some in omega (arith, ap length h.bytes, length-append h.out h.left)),
  h.taken ∙ ap (λ (l : List ℕ). old ++ l) (sym (ap (take (length h.out)) h.bytes ∙ take_at h.out h.left (length h.out) refl)),
)

-- all is printed, and then what waits goes out
pub puts_in_the_end : {E : Type 0} (a b c t waits : List ℕ) (r : Result (Unit {0}) E) → HasPrinted a b [] t waits → Puts waits b c r → Puts t a c r
puts_in_the_end a b c t waits r h put = subst (λ (l : List ℕ). Puts l a c r) (sym h.bytes) (puts_more h.out waits a b c r h.taken put)

-- ---- in the buffer

-- the first bytes of what was stored at a place
stored_front : (a k n : ℕ) (xs ys : List ℕ) → a ≤ length xs → n ≤ length ys → take (a + n) (put_mid a k xs ys) ≡ take a xs ++ take n ys
stored_front a k n xs ys there few =
    ap (λ (m : ℕ). take (m + n) (put_mid a k xs ys)) (sym (length-take-le a xs there))
    ∙ take-append-add (take a xs) (ys ++ drop k (drop a xs)) n
    ∙ ap (λ (l : List ℕ). take a xs ++ l) (take-append-le n ys (drop k (drop a xs)) few)

-- the start of a line, a number behind it, and the end of the line, in so many bytes
pub line_stored : (size a n m most : ℕ) (old first start digits : List ℕ) → length first ≡ size → a + most ≤ size → a + n + m < size
    → n ≤ most → a ≤ length old → length start ≡ most → take (a + most) first ≡ take a old ++ start
    → length digits ≡ length (mid_of (a + n) (size - (a + n)) first)
    → take (a + n + m + 1) (set (put_mid (a + n) (size - (a + n)) first digits) (a + n + m) 10)
    ≡ take a old ++ (take n start ++ take m digits ++ 10 ∷ [])
line_stored size a n m most old first start digits whole fits room few there enough is long =
    let second = put_mid (a + n) (size - (a + n)) first digits in
    let two : length second ≡ size = same_len_mid (a + n) (size - (a + n)) first digits long ∙ whole in
    let least : m ≤ length digits = omega (arith, long, length-take (size - (a + n)) (drop (a + n) first), length-drop (a + n) first, whole, room) in
    let front : take (a + n) first ≡ take a old ++ take n start =
    sym (take-take (a + n) (a + most) first (omega (arith, few))) ∙ ap (take (a + n)) is
    ∙ ap (λ (k : ℕ). take (k + n) (take a old ++ start)) (sym (length-take-le a old there)) ∙ take-append-add (take a old) start n in
    let end = take-set_at second (a + n + m) (a + n + m + 1) 10 (omega arith) (omega (arith, two, room)) in
    let number = stored_front (a + n) (size - (a + n)) m first digits (omega (arith, whole, room)) least in
    rw (end, number, front)
    (ap (λ (l : List ℕ). l ++ 10 ∷ []) (append_assoc (take a old) (take n start) (take m digits))
    ∙ append_assoc (take a old) (take n start ++ take m digits) (10 ∷ []))
