-- What is out after several writes, and what an early exit hands on.
use Rattle.std.proofs.Common.{◌≡◌, inl, inr, ℕ, zero, suc, ◌+◌, ◌<◌, ◌≤◌, List, [], ◌∷◌, ◌++◌, map, length, take, get_or, Bor, refl, sym, ◌∙◌, ap, subst, arith, append_assoc, length-append, Result, Ok, Err}
use Rattle.std.specs.Result.{IsErrAnd}
use Rattle.std.proofs.Math.Seq.{take-append-add}
use Rattle.std.proofs.lemmas.List.{append-nil, take-append-le}
use Rattle.std.proofs.lemmas.Result.{err_from_is_err_and}
use Rattle.wg_outside.specs.Outside.{Increased}
use Rattle.wg_outside.specs.Puts.{Puts, joined}

-- the error that the exit of a `?` hands on
pub is_that_err : {B E : Type 0} (r : Result B E) (e : E) → IsErrAnd r (λ x. x ≡ e) → r ≡ Err e
is_that_err r e is = let p = err_from_is_err_and r is in p.1 ∙ ap (λ x. Err x) p.2

-- what rose has risen, when other calls came before and after
pub rose_on : (a b c d : ℕ) → a ≤ b → Increased b c → c ≤ d → Increased a d
rose_on a b c d le (inl up) le' = inl (omega arith)
rose_on a b c d le (inr last) le' = inr (omega arith)

-- a count that is the constant 0 never rose
pub not_rose : {A : Type 0} → Increased 0 0 → A
not_rose (inl up) = absurd (omega arith)
not_rose (inr last) = absurd (omega arith)

-- two texts that go out one after the other
pub puts_more : {E : Type 0} (a b old mid new : List ℕ) (r : Result (Unit {0}) E) → mid ≡ old ++ a → Puts b mid new r → Puts (a ++ b) old new r
puts_more a b old mid new (Ok done) first then = then ∙ ap (λ (l : List ℕ). l ++ b) first ∙ append_assoc old a b
puts_more a b old mid new (Err e) first then = (
  length a + then.0,
  omega (arith, then.1, length-append a b),
  then.2 ∙ ap (λ (l : List ℕ). l ++ take then.0 b) first ∙ append_assoc old a (take then.0 b) ∙ ap (λ (l : List ℕ). old ++ l) (sym (take-append-add a b then.0)),
)

-- a text that was cut off, whatever would have followed
pub puts_front : {E : Type 0} (a b old new : List ℕ) (r : Result (Unit {0}) E) (e : E) → IsErrAnd r (λ x. x ≡ e) → Puts {E = E} a old new (Err e) → Puts (a ++ b) old new r
puts_front a b old new r e is put = let p = err_from_is_err_and r is in subst (λ q. Puts (a ++ b) old new q) (sym p.1) (put.0, omega (arith, put.1, length-append a b), put.2 ∙ ap (λ (l : List ℕ). old ++ l) (sym (take-append-le put.0 a b (omega (arith, put.1)))))

abbrev pub Pieces : Type 0
Pieces = List (Bor (List ℕ))

abbrev pub joined_now : Pieces → List ℕ
joined_now xs = joined (map (λ p. p.now) xs)

-- one piece more
pub joined_next : (xs : Pieces) (i : ℕ) (d : Bor (List ℕ)) → i < length xs → joined_now (take (suc i) xs) ≡ joined_now (take i xs) ++ (get_or xs i d).now
joined_next [] i d lt = absurd (omega arith)
joined_next (x ∷ xs) zero d lt = append-nil x.now
joined_next (x ∷ xs) (suc i) d lt = ap (λ (l : List ℕ). x.now ++ l) (joined_next xs i d (omega arith)) ∙ sym (append_assoc x.now (joined_now (take i xs)) (get_or xs i d).now)

-- all pieces: those before one, that one, and the rest
pub joined_split : (xs : Pieces) (i : ℕ) (d : Bor (List ℕ)) → i < length xs → (rest : List ℕ) × (joined_now xs ≡ joined_now (take i xs) ++ ((get_or xs i d).now ++ rest))
joined_split [] i d lt = absurd (omega arith)
joined_split (x ∷ xs) zero d lt = (joined_now xs, refl)
joined_split (x ∷ xs) (suc i) d lt =
    let more = joined_split xs i d (omega arith) in
    (more.0, ap (λ (l : List ℕ). x.now ++ l) more.1 ∙ sym (append_assoc x.now (joined_now (take i xs)) ((get_or xs i d).now ++ more.0)))
