use Rattle.std.proofs.Common.{◌≡◌, ℕ, ◌+◌, ◌<◌, ◌≤◌, Bool, List, [], ◌∷◌, ◌++◌, length, drop, refl, sym, ap, ◌∙◌, ⊎_elim, inl, inr, ◌⊎◌, arith, length-append, append_assoc}
use Rattle.std.proofs.lemmas.List.{append_cancel_left, append-nil, drop-drop, drop_at}
use Rattle.wg_bits.specs.Bits.{Position, rest, moved}
use Rattle.wg_codes.specs.declared.outcome.Read.{Read}
use Rattle.wg_codes.specs.declared.outcome.Read.TheVariants.{Value, Cut, NoWord}
use Rattle.wg_codes.specs.Reading.{Begins, ProperlyBegins, Reads, Passes, after}

pub cons_head : (p q : Bool) (a b : List Bool) → p ∷ a ≡ q ∷ b → p ≡ q
cons_head p q a b e = cc

pub cons_tail : (p q : Bool) (a b : List Bool) → p ∷ a ≡ q ∷ b → a ≡ b
cons_tail p q a b e = cc

-- of two lists that begin one list, one begins the other
pub compare : (a b x y : List Bool) → a ++ x ≡ b ++ y
    → ((t : List Bool) × (b ≡ a ++ t) × (x ≡ t ++ y)) ⊎ ((t : List Bool) × (0 < length t) × (a ≡ b ++ t) × (y ≡ t ++ x))
compare [] b x y e = inl (b, refl, e)
compare (p ∷ a) [] x y e = inr (p ∷ a, omega arith, refl, sym e)
compare (p ∷ a) (q ∷ b) x y e =
    let h : p ≡ q = cons_head p q (a ++ x) (b ++ y) e in
    ⊎_elim
    (λ (m : (t : List Bool) × (b ≡ a ++ t) × (x ≡ t ++ y)). inl (m.0, ap (λ z. q ∷ z) m.1 ∙ ap (λ r. r ∷ (a ++ m.0)) (sym h), m.2))
    (λ (m : (t : List Bool) × (0 < length t) × (a ≡ b ++ t) × (y ≡ t ++ x)). inr (m.0, m.1, ap (λ z. p ∷ z) m.2 ∙ ap (λ r. r ∷ (b ++ m.0)) h, m.3))
    (compare a b x y (cons_tail p q (a ++ x) (b ++ y) e))

-- No word up to most begins another, or what follows it.
abbrev pub Free : (ℕ → List Bool) → ℕ → Type 0
Free words most = (a b : ℕ) (x y : List Bool) → a ≤ most → b ≤ most → words a ++ x ≡ words b ++ y → a ≡ b

longer : (a t : List Bool) → 0 < length t → a ≡ a ++ t → ⊥
longer a t l e = let h : length a ≡ length a + length t = ap length e ∙ length-append a t in omega arith

value_not_cut : (words : ℕ → List Bool) (most : ℕ) → Free words most → (z : List Bool) (v : ℕ) → Reads words most z (Value v) → Reads words most z Cut → ⊥
value_not_cut words most free z v f c =
    let a : List Bool = f.1.0 in
    let t : List Bool = c.2.0 in
    let w : ℕ = c.0 in
    let e : words w ≡ words v ++ (a ++ t) = c.2.2 ∙ ap (λ y. y ++ t) f.1.1 ∙ append_assoc (words v) a t in
    let same : w ≡ v = free w v [] (a ++ t) c.1 f.0 (append-nil (words w) ∙ e) in
    longer (words v) (a ++ t) (omega (arith, length-append a t)) (ap words (sym same) ∙ e)

-- only one case holds, with one value
pub one_case : (words : ℕ → List Bool) (most : ℕ) → Free words most → (z : List Bool) (r s : Read) → Reads words most z r → Reads words most z s → r ≡ s
one_case words most free z (Value v) (Value w) a b = ap Value (free v w a.1.0 b.1.0 a.0 b.0 (sym a.1.1 ∙ b.1.1))
one_case words most free z (Value v) Cut a b = absurd (value_not_cut words most free z v a b)
one_case words most free z (Value v) NoWord a b = absurd ((b v a.0).0 a.1)
one_case words most free z Cut (Value w) a b = absurd (value_not_cut words most free z w b a)
one_case words most free z Cut Cut a b = refl
one_case words most free z Cut NoWord a b = absurd ((b a.0 a.1).1 a.2)
one_case words most free z NoWord (Value w) a b = absurd ((a w b.0).0 b.1)
one_case words most free z NoWord Cut a b = absurd ((a b.0 b.1).1 b.2)
one_case words most free z NoWord NoWord a b = refl

-- ---- words that are a head's word and a tail
abbrev pub Headed : (words heads tail : ℕ → List Bool) (head : ℕ → ℕ) (most most_head : ℕ) → Type 0
Headed words heads tail head most most_head = (v : ℕ) → v ≤ most → (words v ≡ heads (head v) ++ tail v) × (head v ≤ most_head)

pub no_head : (words heads tail : ℕ → List Bool) (head : ℕ → ℕ) (most most_head : ℕ) → Headed words heads tail head most most_head
    → (z : List Bool) → Reads heads most_head z NoWord → Reads words most z NoWord
no_head words heads tail head most most_head split z none v lv =
    let s = split v lv in
    let at_head = none (head v) s.1 in (
      (λ (b : Begins (words v) z). at_head.0 (tail v ++ b.0, b.1 ∙ ap (λ y. y ++ b.0) s.0 ∙ append_assoc (heads (head v)) (tail v) b.0)),
      (λ (p : ProperlyBegins z (words v)). ⊎_elim
          (λ (m : (t : List Bool) × (z ≡ heads (head v) ++ t) × (tail v ≡ t ++ p.0)). at_head.0 (m.0, m.1))
          (λ (m : (t : List Bool) × (0 < length t) × (heads (head v) ≡ z ++ t) × (p.0 ≡ t ++ tail v)). at_head.1 (m.0, m.1, m.2))
          (compare (heads (head v)) z (tail v) p.0 (sym s.0 ∙ p.2))),
    )

pub cut_head : (words heads tail : ℕ → List Bool) (head : ℕ → ℕ) (most most_head : ℕ) → Headed words heads tail head most most_head
    → (z : List Bool) (v : ℕ) → v ≤ most → ProperlyBegins z (heads (head v)) → Reads words most z Cut
cut_head words heads tail head most most_head split z v lv p =
    let s = split v lv in
    (v, lv, (p.0 ++ tail v, omega (arith, length-append p.0 (tail v)), s.0 ∙ ap (λ y. y ++ tail v) p.2 ∙ append_assoc z p.0 (tail v)))

pub cut_tail : (words heads tail : ℕ → List Bool) (head : ℕ → ℕ) (most most_head : ℕ) → Headed words heads tail head most most_head
    → (z z1 : List Bool) (v : ℕ) → v ≤ most → z ≡ heads (head v) ++ z1 → ProperlyBegins z1 (tail v) → Reads words most z Cut
cut_tail words heads tail head most most_head split z z1 v lv e p =
    let s = split v lv in
    (v, lv, (p.0, p.1, s.0 ∙ ap (λ y. heads (head v) ++ y) p.2 ∙ sym (append_assoc (heads (head v)) z1 p.0) ∙ ap (λ y. y ++ p.0) (sym e)))

pub value_tail : (words heads tail : ℕ → List Bool) (head : ℕ → ℕ) (most most_head : ℕ) → Headed words heads tail head most most_head
    → (z z1 z2 : List Bool) (v : ℕ) → v ≤ most → z ≡ heads (head v) ++ z1 → z1 ≡ tail v ++ z2 → Reads words most z (Value v)
value_tail words heads tail head most most_head split z z1 z2 v lv e f =
    let s = split v lv in
    (lv, (z2, e ∙ ap (λ y. heads (head v) ++ y) f ∙ sym (append_assoc (heads (head v)) (tail v) z2) ∙ ap (λ y. y ++ z2) (sym s.0)))

pub free_headed : (words heads tail : ℕ → List Bool) (head : ℕ → ℕ) (most most_head : ℕ) → Headed words heads tail head most most_head
    → Free heads most_head
    → ((v w : ℕ) (x y : List Bool) → v ≤ most → w ≤ most → head v ≡ head w → tail v ++ x ≡ tail w ++ y → v ≡ w)
    → Free words most
free_headed words heads tail head most most_head split free tails a b x y la lb e =
    let s = split a la in
    let t = split b lb in
    let ea : words a ++ x ≡ heads (head a) ++ (tail a ++ x) = ap (λ z. z ++ x) s.0 ∙ append_assoc (heads (head a)) (tail a) x in
    let eb : words b ++ y ≡ heads (head b) ++ (tail b ++ y) = ap (λ z. z ++ y) t.0 ∙ append_assoc (heads (head b)) (tail b) y in
    let all : heads (head a) ++ (tail a ++ x) ≡ heads (head b) ++ (tail b ++ y) = sym ea ∙ e ∙ eb in
    let h : head a ≡ head b = free (head a) (head b) (tail a ++ x) (tail b ++ y) s.1 t.1 all in
    let rests : tail a ++ x ≡ tail b ++ y = append_cancel_left (heads (head a)) (tail a ++ x) (tail b ++ y)
    (all ∙ ap (λ k. heads k ++ (tail b ++ y)) (sym h)) in
    tails a b x y la lb h rests

-- ---- what a reader of heads says to the reader of the whole
pub rest-moved : (p : Position) (k : ℕ) → rest (moved p k) ≡ drop k (rest p)
rest-moved p k = sym (drop-drop k p.at p.bits)

-- behind the word that was read stands the rest
pub rest_after : (words : ℕ → List Bool) (most : ℕ) (old new : Position) (v : ℕ) → Reads words most (rest old) (Value v) → new ≡ after words old (Value v)
    → rest old ≡ words v ++ rest new
rest_after words most old new v f e = grind (arith, drop_at, rest-moved)

-- what stands between the places
pub passes : (words : ℕ → List Bool) (most : ℕ) (p q : Position) (r : Read) → Reads words most (rest p) r → q ≡ after words p r → Passes words p q r
passes words most p q (Value v) f e = rest_after words most p q v f e
passes words most p q _ f e = ap rest (sym e)

-- back at the offset where it began
pub restored : (old q r s : Position) (w a : ℕ) → q ≡ moved old w → r ≡ q → a ≡ old.at → s ≡ (let x : Position = record { bits = r.bits; at = a } in x) → s ≡ old
restored old q r s w a e f g h = grind arith
