-- A certificate that is verified, and what holds of one that was not refused.
use Rattle.std.proofs.Common.{◌≡◌, ◌∙◌, ◌<◌, ◌≤◌, ◌+◌, ℕ, zero, suc, Bool, true, false, cond, List, find, Option, Some, None, Ok, inl, inr, refl, ap, subst, arith}
use Rattle.std.proofs.lemmas.Bool.{cases_Bool, cases_lt, le-ltb, lt-ltb, ltb-false}
use Rattle.std.specs.List.{range_with_len}
use Rattle.wg_graph.specs.Digraph.{Digraph}
use Rattle.wg_rank.specs.{Rank.lower, Rank.gap, Intervals.by_page, declared.fault.CertFault.TheVariants.Falls}
use Rattle.wg_rank.specs.Claims.{Claim, FallsFirst, Rises, weights_for}
use Rattle.wg_outcomes.specs.{Answers.Steps, Judged.Judged, Judged.refused}
use Rattle.wg_outcomes.specs.declared.status.Status.TheVariants.{BadCertificate}
use Rattle.wg_outcomes.specs.Verified.{falls, first_fall, unless_falls, with_gap}

module _ (test : ℕ → Bool) where
  -- none of the numbers from here on
  none_from : (start n : ℕ) → ((v : ℕ) → start ≤ v → v < start + n → test v ≡ false) → find test (range_with_len start n) ≡ None
  none_from start zero none = refl
  none_from start (suc n) none =
      ap (λ (b : Bool). cond b (Some start) (find test (range_with_len (start + 1) n))) (none start (omega arith) (omega arith))
      ∙ none_from (start + 1) n (λ v from to. none v (omega (arith, from)) (omega (arith, to)))

  -- the first of them
  first_from : (start n x : ℕ) → start ≤ x → x < start + n → test x ≡ true → ((v : ℕ) → start ≤ v → v < x → test v ≡ false) → find test (range_with_len start n) ≡ Some x
  first_from start zero x from to is before = absurd (omega (arith, from, to))
  first_from start (suc n) x from to is before =
      elim (cases_lt start x) [
        | inl more ↦
            ap (λ (b : Bool). cond b (Some start) (find test (range_with_len (start + 1) n))) (before start (omega arith) more)
            ∙ first_from (start + 1) n x (omega (arith, more)) (omega (arith, to)) is (λ v ge lt. before v (omega (arith, ge)) lt)
        | inr here ↦
            let same : start ≡ x = omega (arith, from, here) in
            ap (λ (b : Bool). cond b (Some start) (find test (range_with_len (start + 1) n))) (ap test same ∙ is) ∙ ap Some same
      ]

  abbrev found : ℕ → Option ℕ
  found x = Some x

  -- there is none among them
  all_from : (start n : ℕ) → find test (range_with_len start n) ≡ None → (v : ℕ) → start ≤ v → v < start + n → test v ≡ false
  all_from start zero none v from to = absurd (omega (arith, from, to))
  all_from start (suc n) none v from to =
      elim (cases_Bool (test start)) [
        | inl hit ↦ absurd (let never : found start ≡ None = rw hit at none in cc)
        | inr not ↦
            elim (cases_lt start v) [
              | inl more ↦ all_from (start + 1) n (rw not at none) v (omega (arith, more)) (omega (arith, to))
              | inr here ↦ let same : start ≡ v = omega (arith, from, here) in subst (λ (x : ℕ). test x ≡ false) same not
            ]
      ]

module _ (g : Digraph) (c : Claim) (given : Option (List ℕ)) where
  abbrev w : ℕ → ℕ
  w = by_page (weights_for c given)

  pub none_falls : Rises g c.damping w (by_page c.low) → first_fall g c given ≡ None
  none_falls rises = grind (arith, le-ltb, none_from)

  -- it does not fall
  pub rises_all : first_fall g c given ≡ None → Rises g c.damping w (by_page c.low)
  rises_all none v inside =
      ltb-false (lower g c.damping w (by_page c.low) v) (by_page c.low v) (all_from (falls g c w) 0 g.nodes none v (omega arith) (omega (arith, inside)))

  one_falls : (page : ℕ) → FallsFirst g c.damping w (by_page c.low) page → first_fall g c given ≡ Some page
  one_falls page h =
      first_from (falls g c w) 0 g.nodes page (omega arith) (omega (arith, h.there)) (lt-ltb (lower g c.damping w (by_page c.low) page) (by_page c.low page) h.falls)
      (λ v from to. le-ltb (lower g c.damping w (by_page c.low) v) (by_page c.low v) (h.before v to))

  -- the validation goes on with what the bounds leave
  pub goes_on_with_gap : (left : ℕ) → Rises g c.damping w (by_page c.low) × (left ≡ gap g (by_page c.low)) → Steps {B = ℕ} (with_gap g c given) (Ok left)
  goes_on_with_gap left h next = grind (arith, none_falls)

  -- or it is refused
  pub is_refused_at : (page : ℕ) → FallsFirst g c.damping w (by_page c.low) page → (next : ℕ → Judged) → with_gap g c given next ≡ refused (BadCertificate (Falls page))
  is_refused_at page h next = ap (λ (o : Option ℕ). unless_falls o (gap g (by_page c.low)) next) (one_falls page h)
