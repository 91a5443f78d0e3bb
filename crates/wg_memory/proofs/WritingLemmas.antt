-- Bits that are put into an array behind others, and what an offsets file is read back as.
use native.Mathlib.Numerals.{unary_clauses}
use Rattle.std.proofs.Common.{◌≡◌, ℕ, zero, suc, ◌+◌, ◌-◌, ◌*◌, ◌%◌, ◌^◌, ◌<◌, ◌≤◌, Bool, true, false, List, [], ◌∷◌}
use Rattle.std.proofs.Common.{◌++◌, length, take, drop, get_or, Option, Some, None, Ok, refl, sym, ap, subst, ◌∙◌, arith, length-append, append_assoc}
use Rattle.std.specs.Prelude.{IfSome}
use Rattle.std.proofs.Math.ListN.{replicate}
use Rattle.std.proofs.Math.Seq.{drop-append_seam}
use Rattle.std.proofs.lemmas.Bool.{le-ltb, ne_eqb}
use Rattle.std.proofs.lemmas.List.{append-nil, drop-drop, drop_more, length-take-le}
use Rattle.std.proofs.lemmas.Nat.{one_shl}
use Rattle.wg_params.specs.declared.code.Code.{Code}
use Rattle.wg_params.specs.Codes.{is_gamma_or_delta}
use Rattle.wg_params.proofs.FieldCodes.{two_codes}
use Rattle.wg_bits.specs.Bits.{bits_of, low_bits}
use Rattle.wg_bits.specs.Written.{padding}
use Rattle.wg_bits.proofs.LowBits.{length-low_bits, low_bits-zero}
use Rattle.wg_bits.proofs.Writes.{empty_writer, held_length}
use Rattle.wg_codes.specs.declared.outcome.Read.TheVariants.{Value}
use Rattle.wg_codes.specs.Words.{delta, gamma, highest, word, top}
use Rattle.wg_codes.proofs.Highest.{highest_below}
use Rattle.wg_codes.proofs.Writing.{delta_put, field_of, gamma_put, headed_in_two}
use Rattle.wg_codes.specs.Reading.{Reads}
use Rattle.wg_grammar.specs.Archive.{IsTail}
use Rattle.wg_grammar.proofs.Tails.{all_zero}
use Rattle.wg_offsets.specs.declared.places.TheConstants.{MOST_PLACE}
use Rattle.wg_offsets.specs.Stages.{WordsStand}
use Rattle.wg_offsets.specs.Words.{refusal, ReadsOffsets}
use Rattle.wg_offsets.proofs.WordsLemmas.{one_more}
use Rattle.wg_memory.specs.declared.words.Held.{Held}
use Rattle.wg_memory.specs.Writing.{held_bits, HoldsOffsets, IsPut, Puts, Climbs, filling, nothing, offsets_bits, words_from}

-- ---- bits behind bits

drop_on : (xs ys : List ℕ) (m n : ℕ) → m ≤ n → drop m xs ≡ drop m ys → drop n xs ≡ drop n ys
drop_on xs ys m n le e =
    let s : m + (n - m) ≡ n = omega arith in
    subst (λ (k : ℕ). drop k xs ≡ drop k ys) s (sym (drop-drop (n - m) m xs) ∙ ap (drop (n - m)) e ∙ drop-drop (n - m) m ys)

then_put : (a b c : List ℕ) (h i : Held) (p q : List Bool) (r : Option Held) → IsPut a b h p i → Puts b c i q r
    → Puts a c h (p ++ q) r
then_put a b c h i p q (Some j) x y = record {
  long = y.long ∙ x.long;
  within = y.within;
  few = y.few;
  onward = omega (arith, x.onward, y.onward);
  bits = y.bits ∙ ap (λ (z : List Bool). z ++ q) x.bits ∙ append_assoc (held_bits a h) p q;
  rest = y.rest ∙ drop_on b a i.bytes j.bytes y.onward x.rest;
}
then_put a b c h i p q None x y =
    let all = append_assoc (held_bits a h) p q in
    omega (
      arith,
      y,
      x.long,
      ap length x.bits,
      length-append (held_bits b i) q,
      length-append (held_bits a h ++ p) q,
      ap length all,
    )

pub puts_as : (a c : List ℕ) (h : Held) (p q : List Bool) (r : Option Held) → p ≡ q → Puts a c h p r → Puts a c h q r
puts_as a c h p q r e x = subst (λ (z : List Bool). Puts a c h z r) e x

pub puts_then : (a b c : List ℕ) (h i : Held) (p q both : List Bool) (r : Option Held) → p ++ q ≡ both
    → IsPut a b h p i → Puts b c i q r → Puts a c h both r
puts_then a b c h i p q both r e x y = puts_as a c h (p ++ q) both r e (then_put a b c h i p q r x y)

pub full_before : (a c : List ℕ) (h : Held) (p q both : List Bool) → p ++ q ≡ both → Puts a c h p None
    → Puts a c h both None
full_before a c h p q both e full =
    omega (
      arith,
      full,
      length-append (held_bits a h) p,
      length-append (held_bits a h) both,
      length-append p q,
      ap length e,
    )

-- one byte more
pub drop_one : (xs ys zs : List ℕ) (n : ℕ) → drop (n + 1) xs ≡ drop (n + 1) ys → drop n ys ≡ drop n zs
    → drop (n + 1) xs ≡ drop (n + 1) zs
drop_one xs ys zs n e f = e ∙ drop_on ys zs n (n + 1) (omega arith) f

-- before the first bit
pub before_all : (a : List ℕ) → held_bits a nothing ≡ []
before_all a = empty_writer

pub nothing_put : (a : List ℕ) → IsPut a a nothing [] nothing
nothing_put a =
    record { long = refl; within = omega arith; few = omega arith; onward = omega arith; bits = sym (append-nil (held_bits a nothing)); rest = refl }

-- ---- what is read back

later_climbs : (before p : ℕ) (ps : List ℕ) → Climbs before (p ∷ ps) → Climbs p ps
later_climbs before p ps h i lt =
    let next = h (i + 1) (omega arith) in
    let here : get_or (p ∷ ps) (i + 1) 0 ≡ get_or ps i 0 = simp unary_clauses refl in
    let behind : get_or (before ∷ p ∷ ps) (i + 1) 0 ≡ get_or (p ∷ ps) i 0 = simp unary_clauses refl in
    (omega (arith, next.0, here, behind), omega (arith, next.1, here))

top_high : (c : Code) (v : ℕ) → is_gamma_or_delta c ≡ true → v ≤ MOST_PLACE → v ≤ top c
top_high c v is le = two_codes (λ code. v ≤ top code) c is (omega arith) (omega arith)

-- ---- words

one_of : (m : ℕ) → m ≤ 49 → 1 * 2 ^ m % 18446744073709551616 ≡ 2 ^ m
one_of m le = one_shl m 64 (omega arith)

-- zeros, and the number with its highest one
pub gamma_bits : (v m : ℕ) → v ≤ MOST_PLACE → m ≡ highest (v + 1)
    → (low_bits m 0 ++ low_bits (m + 1) (v + 1) ≡ gamma v) × (v + 1 < 2 ^ (m + 1))
gamma_bits v m le e =
    let f = field_of v m (2 ^ m) (omega (arith, le)) e refl in
    let two = headed_in_two m m (v + 1 - 2 ^ m) (v + 1) f.1 (omega (arith, f.0)) in
    (ap (λ z. z ++ low_bits (m + 1) (v + 1)) (low_bits-zero m) ∙ two.0 ∙ gamma_put v m (v + 1 - 2 ^ m) e f.3, two.1)

-- the word of the index, and the number without its highest one
pub delta_bits : (v m : ℕ) → v ≤ MOST_PLACE → m ≡ highest (v + 1)
    → (1 * 2 ^ m % 18446744073709551616 ≤ v + 1) × (v + 1 - 1 * 2 ^ m % 18446744073709551616 < 2 ^ m)
    × (gamma m ++ low_bits m (v + 1 - 1 * 2 ^ m % 18446744073709551616) ≡ delta v)
delta_bits v m le e =
    let low = highest_below (v + 1) 49 (omega arith) (omega (arith, le)) (omega arith) in
    let f = field_of v m (1 * 2 ^ m % 18446744073709551616) (omega (arith, le)) e (one_of m (omega (arith, low, e))) in
    (f.0, f.1, delta_put v m (v + 1 - 1 * 2 ^ m % 18446744073709551616) e f.3)

held_long : (a : List ℕ) (h : Held) → h.bytes ≤ length a → length (held_bits a h) ≡ 8 * h.bytes + h.fill
held_long a h within = omega (arith, held_length (take h.bytes a) h.fill h.part, length-take-le h.bytes a within)

fills : (n k : ℕ) → k < 8 → padding (8 * n + k) ≡ (8 - k) % 8
unfolding padding
fills n k lt = omega arith

pub filled_up : (a c : List ℕ) (h : Held) (r : Option Held) → h.bytes ≤ length a → h.fill < 8
    → Puts a c h (low_bits ((8 - h.fill) % 8) 0) r → Puts a c h (filling (held_bits a h)) r
filled_up a c h r within few x =
    let e = sym (ap padding (held_long a h within) ∙ fills h.bytes h.fill few) in
    puts_as a c h _ _ r (low_bits-zero ((8 - h.fill) % 8) ∙ ap (λ (k : ℕ). replicate k false) e) x

pub whole_byte : (a c : List ℕ) (h : Held) (r : Option Held) → h.bytes ≤ length a → h.fill < 8
    → Puts a c h (low_bits ((8 - h.fill) % 8) 0) r → IfSome r (λ (i : Held). i.fill ≡ 0)
whole_byte a c h None within few x = tt
whole_byte a c h (Some i) within few x =
    let put = length-low_bits ((8 - h.fill) % 8) 0 in
    omega (
      arith,
      few,
      held_long a h within,
      held_long c i x.within,
      ap length x.bits,
      length-append (held_bits a h) (low_bits ((8 - h.fill) % 8) 0),
      put,
      x.few,
    )

-- ---- what is read back

fine_value : (number offset v : ℕ) → 0 < number → offset + v ≤ MOST_PLACE → refusal number offset (Value v) ≡ None
fine_value number offset v some le =
    rw (ne_eqb number 0 (λ e. absurd (omega arith)), le-ltb MOST_PLACE (offset + v) le) refl

-- a word stands where those before it end
stands : (c : Code) (v at : ℕ) (bits before more : List Bool) → is_gamma_or_delta c ≡ true → v ≤ MOST_PLACE
    → bits ≡ before ++ (word c v ++ more) → at ≡ length before → Reads (word c) (top c) (drop at bits) (Value v)
stands c v at bits before more is low here start =
    (top_high c v is low, (more, ap (λ (k : ℕ). drop k bits) start ∙ ap (drop (length before)) here ∙ drop-append_seam before (word c v ++ more)))

abbrev Stand : Code → List Bool → ℕ → List ℕ → List Bool → Type 0
Stand c bits count places text = (at : ℕ) × (offset : ℕ) × WordsStand c bits count at offset places × (at ≡ length text)

words_stand : (c : Code) (bits : List Bool) (count at offset : ℕ) (places ps : List ℕ) (before more : List Bool)
    → is_gamma_or_delta c ≡ true → 0 < count → bits ≡ before ++ (words_from c offset ps ++ more) → at ≡ length before
    → Climbs offset ps → WordsStand c bits count at offset places
    → Stand c bits (count + length ps) (places ++ ps) (before ++ words_from c offset ps)
words_stand c bits count at offset places [] before more is some here start climbs h = (
  at,
  offset,
  record { read = h.read; values = h.values; words = h.words; number = omega (arith, h.number); total = h.total; lead = append-nil places ∙ h.lead },
  start ∙ ap length (sym (append-nil before)),
)
words_stand c bits count at offset places (p ∷ ps) before more is some here start climbs h =
    let first = climbs 0 (omega arith) in
    let v : ℕ = p - offset in
    let w : List Bool = word c v in
    let rest : List Bool = words_from c p ps in
    let cut : bits ≡ before ++ (w ++ (rest ++ more)) = here ∙ ap (λ z. before ++ z) (append_assoc w rest more) in
    let next : p ≡ offset + v = omega (arith, first.0) in
    let one = one_more c bits count at offset places p (at + length w) h
    (v, stands c v at bits before (rest ++ more) is (omega (arith, first.1)) cut start, fine_value count offset v some (omega (arith, first.1, next)), next, refl) in
    let all = words_stand c bits (count + 1) (at + length w) p (places ++ p ∷ []) ps (before ++ w) more is (omega arith)
    (cut ∙ sym (append_assoc before w (rest ++ more))) (omega (arith, start, length-append before w)) (later_climbs offset p ps climbs) one in
    let many : count + 1 + length ps ≡ count + length (p ∷ ps) = omega arith in
    let text : (before ++ w) ++ rest ≡ before ++ (w ++ rest) = append_assoc before w rest in
    let listed : (places ++ p ∷ []) ++ ps ≡ places ++ p ∷ ps = append_assoc places (p ∷ []) ps in
    subst (λ (k : ℕ). Stand c bits k (places ++ p ∷ ps) (before ++ (w ++ rest))) many
    (subst (λ (l : List ℕ). Stand c bits (count + 1 + length ps) l (before ++ (w ++ rest))) listed
    (subst (λ (z : List Bool). Stand c bits (count + 1 + length ps) ((places ++ p ∷ []) ++ ps) z) text all))

few_missing : (n : ℕ) → padding n ≤ 7
unfolding padding
few_missing n = omega arith

filled_tail : (bits : List Bool) (at : ℕ) → at ≡ length bits → IsTail (bits ++ filling bits) at
filled_tail bits at start =
    all_zero (bits ++ filling bits) [] at (padding (length bits)) (omega (arith, start, length-append bits (filling bits)))
    (ap (λ (k : ℕ). drop k (bits ++ filling bits)) start ∙ drop-append_seam bits (filling bits) ∙ sym (append-nil (filling bits)))
    (omega (arith, few_missing (length bits))) refl

from_first : (c : Code) (n : ℕ) (ps : List ℕ) → is_gamma_or_delta c ≡ true → length (0 ∷ ps) ≡ n + 1 → Climbs 0 (0 ∷ ps)
    → ReadsOffsets c n (offsets_bits c (0 ∷ ps)) (Ok (0 ∷ ps))
from_first c n ps is many climbs =
    let w : List Bool = word c 0 in
    let words : List Bool = words_from c 0 (0 ∷ ps) in
    let rest : List Bool = words_from c 0 ps in
    let bits : List Bool = offsets_bits c (0 ∷ ps) in
    let cut : bits ≡ w ++ (rest ++ filling words) = append_assoc w rest (filling words) in
    let none : WordsStand c bits 0 0 0 [] = record { read = []; values = []; words = (refl, refl); number = refl; total = refl; lead = refl } in
    let one = one_more c bits 0 0 0 [] 0 (0 + length w) none
    (0, stands c 0 0 bits [] (rest ++ filling words) is (omega arith) cut refl, refl, refl, refl) in
    let all = words_stand c bits (0 + 1) (0 + length w) 0 (0 ∷ []) ps w (filling words) is (omega arith) cut (omega arith) (later_climbs 0 0 ps climbs) one in
    let h = all.2 in
    (h.read, h.values, all.0, h.words, (omega (arith, h.number, many), filled_tail words all.0 all.3, h.lead))

pub reads_back : (c : Code) (n : ℕ) (places : List ℕ) → is_gamma_or_delta c ≡ true → length places ≡ n + 1
    → get_or places 0 0 ≡ 0 → Climbs 0 places → ReadsOffsets c n (offsets_bits c places) (Ok places)
reads_back c n [] is many first climbs = absurd (omega (arith, many))
reads_back c n (p ∷ ps) is many first climbs =
    subst (λ (l : List ℕ). ReadsOffsets c n (offsets_bits c l) (Ok l)) (ap (λ (k : ℕ). k ∷ ps) (sym first))
    (from_first c n ps is many (subst (λ (k : ℕ). Climbs 0 (k ∷ ps)) first climbs))

-- ---- the whole

-- no place is below the one before
pub climbs_all : (places : List ℕ) → get_or places 0 0 ≡ 0
    → ((i : ℕ) → i + 1 < length places → (get_or places i 0 ≤ get_or places (i + 1) 0) × (get_or places (i + 1) 0 ≤ MOST_PLACE))
    → Climbs 0 places
climbs_all places first h zero lt = (omega arith, omega (arith, first))
climbs_all places first h (suc i) lt =
    let s : i + 1 ≡ suc i = omega arith in
    subst (λ (k : ℕ). (get_or places i 0 ≤ get_or places k 0) × (get_or places k 0 ≤ MOST_PLACE)) s (h i (omega (arith, lt)))

no_bits : (h : Held) (bits : List Bool) → h.fill ≡ 0 → bits ++ low_bits h.fill h.part ≡ bits
unfolding low_bits
no_bits h bits e = ap (λ (k : ℕ). bits ++ low_bits k h.part) e ∙ append-nil bits

pub holds : (c : Code) (n : ℕ) (places old new : List ℕ) (h : Held) → is_gamma_or_delta c ≡ true → length places ≡ n + 1
    → get_or places 0 0 ≡ 0 → Climbs 0 places → IsPut old new nothing (offsets_bits c places) h → h.fill ≡ 0
    → HoldsOffsets c n places old new h.bytes
holds c n places old new h is many first climbs put whole =
    let bits : bits_of (take h.bytes new) ≡ offsets_bits c places =
    sym (no_bits h (bits_of (take h.bytes new)) whole) ∙ put.bits ∙ ap (λ (z : List Bool). z ++ offsets_bits c places) (before_all old) in
    record {
      within = put.within;
      bits = bits;
      reads = subst (λ (z : List Bool). ReadsOffsets c n z (Ok places)) (sym bits) (reads_back c n places is many first climbs);
      rest = put.rest;
    }

pub no_room : (old new : List ℕ) (p : List Bool) → Puts old new nothing p None → 8 * length old < length p
no_room old new p full = omega (arith, full, length-append (held_bits old nothing) p, ap length (before_all old))

-- after the words
pub words_filled : (c : Code) (old mid : List ℕ) (places : List ℕ) (h : Held) → IsPut old mid nothing (words_from c 0 places) h
    → words_from c 0 places ++ filling (held_bits mid h) ≡ offsets_bits c places
words_filled c old mid places h put =
    let words : List Bool = words_from c 0 places in
    let same : held_bits mid h ≡ words = put.bits ∙ ap (λ (z : List Bool). z ++ words) (before_all old) in
    ap (λ (z : List Bool). words ++ filling z) same

-- one word more
pub word_more : (c : Code) (places : List ℕ) (i before : ℕ) (done : List Bool) → i < length places
    → done ++ words_from c before (drop i places) ≡ words_from c 0 places
    → (done ++ word c (get_or places i 0 - before)) ++ words_from c (get_or places i 0) (drop (i + 1) places) ≡ words_from c 0 places
word_more c places i before done lt text =
    let w : List Bool = word c (get_or places i 0 - before) in
    append_assoc done w (words_from c (get_or places i 0) (drop (i + 1) places))
    ∙ ap (λ (l : List ℕ). done ++ words_from c before l) (sym (drop_more places i 0 lt)) ∙ text
