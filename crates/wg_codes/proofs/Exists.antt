use Rattle.std.proofs.Common.{◌≡◌, ℕ, zero, suc, ◌+◌, ◌-◌, ◌*◌, ◌/◌, ◌^◌, ◌<◌, ◌≤◌, Bool, true, false, List, [], ◌∷◌, ◌++◌, length, take, drop, refl, sym, ap, ◌∙◌, subst, ⊎_elim, inl, inr, ◌⊎◌, arith}
use Rattle.std.proofs.Math.ListN.{replicate}
use Rattle.std.proofs.lemmas.Bool.{cases_lt, cases_eq, cond-true, lt-ltb}
use Rattle.std.proofs.lemmas.List.{append-nil, take-append-drop, length-take-le}
use Rattle.wg_bits.specs.Bits.{low_bits, BeginsWithNoZero}
use Rattle.wg_bits.proofs.LowBits.{low_bits-above}
use Rattle.wg_bits.proofs.Numbers.{number_of, number_of-lt, low_bits-number_of}
use Rattle.wg_params.specs.declared.code.Code.{Code}
use Rattle.wg_params.specs.declared.code.Code.TheVariants.{Unary, Gamma, Delta, Zeta, Nibble}
use Rattle.wg_codes.specs.declared.outcome.Read.{Read}
use Rattle.wg_codes.specs.declared.outcome.Read.TheVariants.{Value, Cut, NoWord}
use Rattle.wg_codes.specs.Reading.{Reads}
use Rattle.wg_codes.specs.Words.{highest, unary, gamma, delta, zeta, nibble, word, top, with_low_bits, shortened}
use Rattle.wg_params.specs.Codes.{IsCode}
use Rattle.wg_codes.specs.Laws.{OneCaseHolds, NoWordBeginsAnother, ZetaOneIsGamma}
use Rattle.wg_codes.proofs.Prefix.{Free, one_case}
use Rattle.wg_codes.proofs.UnaryWords.{unary_none, unary_cut, unary_value, free_unary}
use Rattle.wg_codes.proofs.Highest.{free_low, low_head_cut, low_head_none, low_cut, low_value, number_read, highest_bounds}
use Rattle.wg_codes.specs.Parts.{IsShortenedAt, IsCutAt}
use Rattle.std.proofs.lemmas.Nat.{le-div}
use Rattle.wg_codes.proofs.ZetaWords.{room, free_zeta, zeta_top, zeta_head_cut, zeta_head_none, zeta_cut, zeta_value, tail_short, tail_long, tail_cut_early, tail_cut_late}
use Rattle.wg_codes.proofs.NibbleLaw.{free_nibble}
use Rattle.wg_codes.proofs.NibbleWords.{open_digits, IsOpen, open_none, nibble_cut, last_digit_open, digit_cut, nibble_value, zero_digit, open_next, open_step, nothing_open}

-- the number that k bits spell
front_number : (z : List Bool) (k : ℕ) → k ≤ length z → (t : ℕ) × (t < 2 ^ k) × (z ≡ low_bits k t ++ drop k z)
front_number z k l =
    let n : length (take k z) ≡ k = length-take-le k z l in
    let e : low_bits k (number_of (take k z)) ≡ take k z = ap (λ m. low_bits m (number_of (take k z))) (sym n) ∙ low_bits-number_of (take k z) in (
      number_of (take k z),
      subst (λ m. number_of (take k z) < 2 ^ m) n (number_of-lt (take k z)),
      sym (take-append-drop k z) ∙ ap (λ x. x ++ drop k z) (sym e),
    )

-- ---- unary
zeros_of : (z : List Bool) → (n : ℕ) × (y : List Bool) × (z ≡ replicate n false ++ y) × BeginsWithNoZero y
zeros_of [] = (0, [], refl, tt)
zeros_of (true ∷ z) = (0, true ∷ z, refl, refl)
zeros_of (false ∷ z) = let h = zeros_of z in (suc h.0, h.1, ap (λ x. false ∷ x) h.2, h.3)

unary_rest : (most n : ℕ) (z y : List Bool) → n ≤ most → z ≡ replicate n false ++ y → BeginsWithNoZero y → (r : Read) × Reads unary most z r
unary_rest most n z [] l e s = (Cut, unary_cut most n z [] l e refl)
unary_rest most n z (b ∷ x) l e s = (Value n, unary_value most n z (b ∷ x) x b l e s refl)

exists_unary : (most : ℕ) (z : List Bool) → (r : Read) × Reads unary most z r
exists_unary most z =
    let h = zeros_of z in
    ⊎_elim
    (λ (m : most < h.0). let r : (r : Read) × Reads unary most z r = (NoWord, unary_none most h.0 z h.1 m h.2) in r)
    (λ (m : h.0 ≤ most). unary_rest most h.0 z h.1 m h.2 h.3)
    (cases_lt most h.0)

-- ---- a head, and the low bits
low_from : (heads : ℕ → List Bool) (k : ℕ) → k ≤ 62 → (z : List Bool) (r : Read) → Reads heads k z r → (s : Read) × Reads (with_low_bits heads) (2 ^ (k + 1) - 2) z s
low_from heads k few z Cut f = (Cut, low_head_cut heads k few z f)
low_from heads k few z NoWord f = (NoWord, low_head_none heads k few z f)
low_from heads k few z (Value m) f =
    let z1 : List Bool = f.1.0 in
    ⊎_elim
    (λ (short : length z1 < m). let s : (s : Read) × Reads (with_low_bits heads) (2 ^ (k + 1) - 2) z s = (Cut, low_cut heads k few z z1 m f.0 f.1.1 short) in s)
    (λ (long : m ≤ length z1).
    let t = front_number z1 m long in
    let n = number_read m t.0 z1 (drop m z1) (omega arith) t.1 t.2 in
    let s : (s : Read) × Reads (with_low_bits heads) (2 ^ (k + 1) - 2) z s = (Value (2 ^ m - 1 + t.0), low_value heads k few z z1 (drop m z1) m (2 ^ m - 1 + t.0) f.0 f.1.1 n) in s)
    (cases_lt (length z1) m)

exists_gamma : (k : ℕ) → k ≤ 62 → (z : List Bool) → (s : Read) × Reads gamma (2 ^ (k + 1) - 2) z s
unfolding gamma
exists_gamma k few z = let h = exists_unary k z in low_from unary k few z h.0 h.1

free_gamma : (k : ℕ) → k ≤ 62 → Free gamma (2 ^ (k + 1) - 2)
unfolding gamma
free_gamma k few = free_low unary k few (free_unary k)

free_delta : Free delta (2 ^ 63 - 2)
unfolding delta
free_delta = free_low gamma 62 (omega arith) (free_gamma 5 (omega arith))

exists_delta : (z : List Bool) → (s : Read) × Reads delta (2 ^ 63 - 2) z s
unfolding delta
exists_delta z = let h = exists_gamma 5 (omega arith) z in low_from gamma 62 (omega arith) z h.0 h.1

-- ---- zeta
zeta_rest : (k h t : ℕ) (z1 z2 : List Bool) → 1 ≤ k → h * k + k ≤ 63 → t < 2 ^ (h * k + k - 1) → z1 ≡ low_bits (h * k + k - 1) t ++ z2
    → IsCutAt k h z1 ⊎ ((v : ℕ) × (z3 : List Bool) × IsShortenedAt k h v z1 z3)
zeta_rest k h t z1 z2 some few l e = ⊎_elim
    (λ (m : t < 2 ^ (h * k)). inr (2 ^ (h * k) + t - 1, z2, tail_short k h t z1 z2 some few m e))
    (λ (m : 2 ^ (h * k) ≤ t). ⊎_elim
    (λ (none : length z2 < 1). inl (tail_cut_late k h t z1 z2 some few l m e none))
    (λ (one : 1 ≤ length z2).
    let b = front_number z2 1 one in
    inr (2 * t + b.0 - 1, drop 1 z2, tail_long k h t b.0 z1 z2 (drop 1 z2) some few l m b.1 e b.2))
    (cases_lt (length z2) 1))
    (cases_lt t (2 ^ (h * k)))

zeta_tail_of : (k h : ℕ) (z1 : List Bool) → 1 ≤ k → h * k + k ≤ 63 → IsCutAt k h z1 ⊎ ((v : ℕ) × (z3 : List Bool) × IsShortenedAt k h v z1 z3)
zeta_tail_of k h z1 some few = ⊎_elim
    (λ (short : length z1 < h * k + k - 1). inl (tail_cut_early k h z1 some few short))
    (λ (long : h * k + k - 1 ≤ length z1). let t = front_number z1 (h * k + k - 1) long in zeta_rest k h t.0 z1 (drop (h * k + k - 1) z1) some few t.1 t.2)
    (cases_lt (length z1) (h * k + k - 1))

zeta_from : (k : ℕ) → 1 ≤ k → k ≤ 31 → (z : List Bool) (r : Read) → Reads unary (63 / k - 1) z r → (s : Read) × Reads (zeta k) (zeta_top k) z s
zeta_from k some few z Cut f = (Cut, zeta_head_cut k some few z f)
zeta_from k some few z NoWord f = (NoWord, zeta_head_none k some few z f)
zeta_from k some few z (Value h) f =
    let z1 : List Bool = f.1.0 in
    let lh : h ≤ 63 / k - 1 = f.0 in
    let q : 1 ≤ 63 / k = le-div 1 63 k (omega arith) (omega arith) in
    let fits : h * k + k ≤ 63 = room k h (omega arith) in
    ⊎_elim
    (λ (c : IsCutAt k h z1). let s : (s : Read) × Reads (zeta k) (zeta_top k) z s = (Cut, zeta_cut k some few z z1 h lh f.1.1 c) in s)
    (λ (n : (v : ℕ) × (z3 : List Bool) × IsShortenedAt k h v z1 z3). let s : (s : Read) × Reads (zeta k) (zeta_top k) z s = (Value n.0, zeta_value k some few z z1 n.1 h n.0 lh f.1.1 n.2) in s)
    (zeta_tail_of k h z1 some fits)

exists_zeta : (k : ℕ) → 1 ≤ k → k ≤ 31 → (z : List Bool) → (s : Read) × Reads (zeta k) (zeta_top k) z s
exists_zeta k some few z = let h = exists_unary (63 / k - 1) z in zeta_from k some few z h.0 h.1

-- ---- nibble
abbrev NibbleAt : List Bool → Type 0
NibbleAt z = (s : Read) × Reads nibble (2 ^ 63 - 1) z s

digit_from : (d u t : ℕ) (z z1 z2 z3 : List Bool) (last : Bool) → d ≤ 20 → IsOpen d u → (last ≡ false → d ≤ 19) → t < 8
    → z ≡ open_digits d u ++ z1 → z1 ≡ last ∷ z2 → z2 ≡ low_bits 3 t ++ z3
    → ((v : ℕ) → d ≤ 19 → IsOpen (d + 1) v → z ≡ open_digits (d + 1) v ++ z3 → NibbleAt z) → NibbleAt z
digit_from d u t z z1 z2 z3 true few o more l e f g next = (Value (u * 8 + t), nibble_value d u t z z1 z2 z3 true few o l refl e f g)
digit_from d u t z z1 z2 z3 false few o more l e f g next = ⊎_elim
    (λ (none : u * 8 + t ≡ 0). let s : NibbleAt z = (NoWord, zero_digit d u t z z1 z2 z3 false l o none refl e f g) in s)
    (λ some. next (u * 8 + t) (more refl) (open_next d u t o l some) (open_step d u t z z1 z2 z3 false l refl e f g))
    (cases_eq (u * 8 + t) 0)

marker_from : (d u : ℕ) (z z1 z2 : List Bool) (last : Bool) → d ≤ 20 → IsOpen d u → (last ≡ false → d ≤ 19)
    → z ≡ open_digits d u ++ z1 → z1 ≡ last ∷ z2
    → ((v : ℕ) (z3 : List Bool) → d ≤ 19 → IsOpen (d + 1) v → z ≡ open_digits (d + 1) v ++ z3 → NibbleAt z) → NibbleAt z
marker_from d u z z1 z2 last few o more e f next = ⊎_elim
    (λ (short : length z2 < 3). let s : NibbleAt z = (Cut, digit_cut d u z z1 z2 last few o more e f short) in s)
    (λ (long : 3 ≤ length z2).
    let t = front_number z2 3 long in
    digit_from d u t.0 z z1 z2 (drop 3 z2) last few o more t.1 e f t.2 (λ v. next v (drop 3 z2)))
    (cases_lt (length z2) 3)

open_from : (d u : ℕ) (z z1 : List Bool) → d ≤ 20 → IsOpen d u → z ≡ open_digits d u ++ z1
    → ((v : ℕ) (z3 : List Bool) → d ≤ 19 → IsOpen (d + 1) v → z ≡ open_digits (d + 1) v ++ z3 → NibbleAt z) → NibbleAt z
open_from d u z [] few o e next = (Cut, nibble_cut d u z [] few o e refl)
open_from d u z (true ∷ z2) few o e next = marker_from d u z (true ∷ z2) z2 true few o (λ h. cc) e refl next
open_from d u z (false ∷ z2) few o e next = ⊎_elim
    (λ (h : d ≡ 20). let s : NibbleAt z = (NoWord, last_digit_open d u z (false ∷ z2) z2 false h refl e refl) in s)
    (λ less. marker_from d u z (false ∷ z2) z2 false few o (λ h. omega arith) e refl next)
    (cases_eq d 20)

nibble_from : (r d u : ℕ) (z z1 : List Bool) → d + r ≡ 20 → IsOpen d u → z ≡ open_digits d u ++ z1 → NibbleAt z
nibble_from zero d u z z1 s o e = open_from d u z z1 (omega arith) o e (λ v z3 l p q. absurd (omega arith))
nibble_from (suc r) d u z z1 s o e = open_from d u z z1 (omega arith) o e (λ v z3 l p q. nibble_from r (d + 1) v z z3 (omega arith) p q)

exists_nibble : (z : List Bool) → NibbleAt z
exists_nibble z = nibble_from 20 0 0 z z refl open_none (nothing_open z)

-- ---- the laws
pub exists_case : (c : Code) → IsCode c → (z : List Bool) → (r : Read) × Reads (word c) (top c) z r
exists_case Unary h z = exists_unary (2 ^ 32 - 1) z
exists_case Gamma h z = exists_gamma 62 (omega arith) z
exists_case Delta h z = exists_delta z
exists_case (Zeta k) h z = exists_zeta k h.0 h.1 z
exists_case Nibble h z = exists_nibble z

pub free_word : (c : Code) → IsCode c → Free (word c) (top c)
free_word Unary h = free_unary (2 ^ 32 - 1)
free_word Gamma h = free_gamma 62 (omega arith)
free_word Delta h = free_delta
free_word (Zeta k) h = free_zeta k h.0 h.1
free_word Nibble h = free_nibble

pub one_case_holds : OneCaseHolds
one_case_holds c h z =
    let e = exists_case c h z in
    (e.0, e.1, λ s f. one_case (word c) (top c) (free_word c h) z s e.0 f e.1)

pub no_word_begins_another : NoWordBeginsAnother
no_word_begins_another c h v w lv lw b = free_word c h v w b.0 [] lv lw (sym b.1 ∙ sym (append-nil (word c w)))

one_tail : (y : ℕ) → 2 ^ highest y ≤ y → y < 2 ^ suc (highest y) → shortened 1 (highest y) y ≡ low_bits (highest y) y
one_tail y low high =
    let times : highest y * 1 ≡ highest y = omega arith in
    cond-true _ _ _ (lt-ltb _ _ (subst (λ k. y - 2 ^ k < 2 ^ k) (sym times) (omega arith)))
    ∙ ap (λ k. low_bits k (y - 2 ^ (highest y * 1))) (omega arith)
    ∙ ap (λ k. low_bits (highest y) (y - 2 ^ k)) times
    ∙ sym (ap (low_bits (highest y)) (omega arith) ∙ low_bits-above (highest y) 1 (y - 2 ^ highest y))

pub zeta_one_is_gamma : ZetaOneIsGamma
unfolding zeta gamma
zeta_one_is_gamma = (
  refl,
  λ v l.
      let b = highest_bounds (v + 1) (omega arith) (omega arith) in
      let one : highest (v + 1) / 1 ≡ highest (v + 1) = omega arith in
      ap (λ h. unary h ++ shortened 1 h (v + 1)) one ∙ ap (λ x. unary (highest (v + 1)) ++ x) (one_tail (v + 1) b.0 b.1),
)
