-- Words of the bytes that are held, and of the file.
use Rattle.std.proofs.Common.{◌≡◌, ◌⊎◌, ℕ, ◌+◌, ◌-◌, ◌/◌, ◌<◌, ◌≤◌, Bool, true, false, List, [], ◌∷◌, ◌++◌, length, drop, refl, sym, ◌∙◌, ap, subst, ⊎_elim, arith, append_assoc, length-append, length-drop}
use Rattle.std.proofs.Math.ListN.{replicate}
use Rattle.std.proofs.lemmas.List.{replicate-append-replicate, length-replicate}
use Rattle.wg_bits.specs.Bits.{bits_of, BeginsWithNoZero}
use Rattle.wg_codes.specs.Words.{unary}
use Rattle.wg_codes.specs.declared.outcome.Read.TheVariants.{Value, Cut}
use Rattle.wg_codes.proofs.UnaryWords.{unary_cut, unary_value, length-unary}
use Rattle.wg_params.specs.declared.code.Code.TheVariants.{Unary}
use Rattle.wg_codes.proofs.PrefixReads.{prefix_reads, prefix_tells}
use Rattle.wg_params.specs.Codes.{IsCode}
use Rattle.wg_params.specs.declared.code.Code.{Code}
use Rattle.wg_codes.specs.Reading.{Reads}
use Rattle.wg_codes.specs.Words.{word, top}
use Rattle.wg_codes.specs.declared.outcome.Read.{Read}
use Rattle.wg_source.specs.declared.stretch.TheConstants.{WORD}
use Rattle.wg_source.specs.Held.{HeldBytes, IsHeldOf, IsInside, IsSmall, ahead, HoldsNext}
use Rattle.wg_source.proofs.HeldLemmas.{rest_of_file, length-ahead, dropped}

-- how many reads may still be needed: one for the end, and one for each byte that a word lacks
unfoldable pub unread : Bool → ℕ
unread true = 0
unread false = 1

abbrev pub waits : HeldBytes → ℕ
waits h = unread h.ended + (WORD - length h.bytes)

pub one_unread : (b : Bool) → b ≡ false → unread b ≡ 1
unfolding unread
one_unread b e = ap unread e

pub none_unread : (b : Bool) → b ≡ true → unread b ≡ 0
unfolding unread
none_unread b e = ap unread e

pub fewer_waits : (g h : HeldBytes) → g.ended ≡ false → length g.bytes < WORD → length g.bytes ≤ length h.bytes → (length g.bytes < length h.bytes) ⊎ (h.ended ≡ true) → waits h < waits g
fewer_waits g h more few least r = grind (arith, one_unread, none_unread, unread)

-- the bytes before the one of the next bit are let go
pub passed_dropped : (file : List ℕ) (g h : HeldBytes) → IsInside g → h ≡ record g { bytes = drop (g.at / 8 - g.first) g.bytes; first = g.at / 8 } → IsHeldOf file g → IsHeldOf file h
passed_dropped file g h inside e i = grind (arith, dropped)

-- fewer bytes are held then, from the byte of the next bit on
pub dropped_small : (g h : HeldBytes) → h ≡ record g { bytes = drop (g.at / 8 - g.first) g.bytes; first = g.at / 8 } → IsSmall g → IsSmall h
dropped_small g h e s = subst IsSmall (sym e) (record { few = omega (arith, length-drop (g.at / 8 - g.first) g.bytes, s.few); from = omega arith })

-- ---- a word of a code other than unary
pub no_bits : (bytes : List ℕ) → bytes ≡ [] → bits_of bytes ≡ []
unfolding bits_of
no_bits bytes e = ap bits_of e

pub enough_ahead : (file : List ℕ) (h : HeldBytes) (i : IsHeldOf file h) → IsInside h → HoldsNext WORD h → (128 ≤ length (ahead h)) ⊎ (bits_of i.behind ≡ [])
enough_ahead file h i inside next = grind (arith, length-ahead, no_bits)

pub read_of_file : (code : Code) (file : List ℕ) (h : HeldBytes) (at : ℕ) (r : Read) → IsCode code → ¬ (code ≡ Unary) → IsInside h → HoldsNext WORD h → h.at ≡ at → IsHeldOf file h
    → Reads (word code) (top code) (ahead h) r → Reads (word code) (top code) (drop at (bits_of file)) r
read_of_file code file h at r is other inside next offset i found =
    subst (λ (z : List Bool). Reads (word code) (top code) z r) (sym (rest_of_file file h i inside) ∙ ap (λ n. drop n (bits_of file)) offset)
    (prefix_reads code (ahead h) (bits_of i.behind) r is other (enough_ahead file h i inside next) found)

-- a whole word or no word by what is held is that of the file
pub whole_of_file : (code : Code) (file : List ℕ) (h : HeldBytes) (r : Read) → ¬ (r ≡ Cut) → IsInside h → IsHeldOf file h → Reads (word code) (top code) (ahead h) r → Reads (word code) (top code) (drop h.at (bits_of file)) r
whole_of_file code file h r whole inside i found =
    subst (λ (z : List Bool). Reads (word code) (top code) z r) (sym (rest_of_file file h i inside)) (prefix_tells code (ahead h) (bits_of i.behind) r whole found)

-- ---- a unary word
unfoldable pub moved_held : (file : List ℕ) (g h : HeldBytes) (n : ℕ) → h ≡ record g { at = n } → IsHeldOf file g → IsHeldOf file h
moved_held file g h n e i = record {
  before = i.before;
  behind = i.behind;
  whole = i.whole ∙ ap (λ (b : List ℕ). i.before ++ (b ++ i.behind)) (sym (ap (λ (x : HeldBytes). x.bytes) e));
  offset = i.offset ∙ sym (ap (λ (x : HeldBytes). x.first) e);
  ended = λ (x : h.ended ≡ true). i.ended (sym (ap (λ (y : HeldBytes). y.ended) e) ∙ x);
  short = λ (x : h.looked ≡ true). i.short (sym (ap (λ (y : HeldBytes). y.looked) e) ∙ x);
}

pub more_zeros : (file : List ℕ) (g h : HeldBytes) (start z r : ℕ) → IsInside g → IsInside h → h ≡ record g { at = g.at + r } → IsHeldOf file g
    → ahead g ≡ replicate r false ++ ahead h → drop start (bits_of file) ≡ replicate z false ++ drop g.at (bits_of file)
    → drop start (bits_of file) ≡ replicate (z + r) false ++ drop h.at (bits_of file)
unfolding moved_held
more_zeros file g h start z r ig ih e i zeros before =
    let j = moved_held file g h (g.at + r) e i in
    let tail : bits_of j.behind ≡ bits_of i.behind = refl in
    before ∙ ap (λ (x : List Bool). replicate z false ++ x) (rest_of_file file g i ig ∙ ap (λ (x : List Bool). x ++ bits_of i.behind) zeros ∙ append_assoc (replicate r false) (ahead h) (bits_of i.behind)
    ∙ ap (λ (x : List Bool). replicate r false ++ (ahead h ++ x)) (sym tail) ∙ ap (λ (x : List Bool). replicate r false ++ x) (sym (rest_of_file file h j ih)))
    ∙ sym (append_assoc (replicate z false) (replicate r false) (drop h.at (bits_of file))) ∙ ap (λ (x : List Bool). x ++ drop h.at (bits_of file)) (replicate-append-replicate z r false)

one_first : (z t : List Bool) → 0 < length z → BeginsWithNoZero z → (x : List Bool) × (z ++ t ≡ true ∷ x)
one_first [] t some b = absurd (omega (arith, some))
one_first (y ∷ ys) t some b = (ys ++ t, ap (λ (c : Bool). c ∷ (ys ++ t)) b)

pub one_follows : (file : List ℕ) (h : HeldBytes) (start n most end : ℕ) → n ≤ most → IsInside h → IsHeldOf file h → 0 < length (ahead h) → BeginsWithNoZero (ahead h)
    → drop start (bits_of file) ≡ replicate n false ++ drop h.at (bits_of file) → h.at ≡ start + n → end ≡ h.at + 1
    → Reads unary most (drop start (bits_of file)) (Value n) × (end ≡ start + length (unary n))
one_follows file h start n most end few inside i some one zeros offset last =
    let f = one_first (ahead h) (bits_of i.behind) some one in
    let here : drop h.at (bits_of file) ≡ true ∷ f.0 = rest_of_file file h i inside ∙ f.1 in (
      unary_value most n (drop start (bits_of file)) (drop h.at (bits_of file)) f.0 true few zeros (subst BeginsWithNoZero (sym here) refl) here,
      omega (arith, offset, last, length-unary n),
    )

pub nothing_follows : (file : List ℕ) (h : HeldBytes) (start n most : ℕ) → n ≤ most → IsInside h → IsHeldOf file h → ahead h ≡ [] → h.ended ≡ true
    → drop start (bits_of file) ≡ replicate n false ++ drop h.at (bits_of file) → Reads unary most (drop start (bits_of file)) Cut
nothing_follows file h start n most few inside i none ended zeros =
    unary_cut most n (drop start (bits_of file)) (drop h.at (bits_of file)) few zeros
    (rest_of_file file h i inside ∙ ap (λ (x : List Bool). x ++ bits_of i.behind) none ∙ no_bits i.behind (i.ended ended))

-- if zeros are all that was held, there was one
pub some_zeros : (g h : HeldBytes) (r : ℕ) → IsInside g → HoldsNext WORD g → ¬ (h.ended ≡ true) → h.ended ≡ g.ended → ahead h ≡ [] → ahead g ≡ replicate r false ++ ahead h → 0 < r
some_zeros g h r inside next more same none zeros = ⊎_elim
    (λ (e : g.ended ≡ true). absurd (more (same ∙ e)))
    (λ (many : g.at / 8 + WORD ≤ g.first + length g.bytes). omega (arith, length-ahead g inside, many, ap length zeros, length-append (replicate r false) (ahead h), length-replicate r false, ap length none))
    next
