-- The first page of a ranking.
use Rattle.std.specs.Prelude.{slice_get}
use Rattle.std.specs.Ordering.{is_lt}
use Rattle.std.specs.List.{range_with_len, Contains}
use Rattle.std.proofs.Common.{ℕ, suc, zero, ◌≡◌, ◌≢◌, ◌+◌, ◌<◌, List, [], ◌∷◌, length, get_or, true, false, Some, None, refl, ap, arith, sym, ◌∙◌, inl, inr}
use Rattle.std.proofs.lemmas.Bool.{cases_eq}
use Rattle.std.proofs.lemmas.List.{get_or_default}
use Rattle.std.proofs.lemmas.List.FromFn.{length-range_with_len, get_or-range_with_len}
use Rattle.std.proofs.lemmas.List.Sorted.{Contains-permutation, ranks_by}
use Rattle.wg_rank.specs.Intervals.{by_page}
use Rattle.wg_order.specs.Compared.{compared}
use Rattle.wg_order.specs.Order.{ComesBefore, IsRanking}
use Rattle.wg_order.proofs.OneRanking.{one_way, onward}
use Rattle.wg_order.proofs.Orders.{before_from, compared_total, pages_below, pages_count}

-- ---- how two pages compare

-- a page that does not come before another one comes after it
pub not_before : (low high : List ℕ) (u v : ℕ) → u ≢ v → is_lt (compared low high u v) ≡ false → ComesBefore low high v u
not_before low high u v ne h =
    elim (before_from (by_page low v) (by_page low u) (by_page high v) (by_page high u) v u h) [
      | inl a ↦ inl a
      | inr b ↦ elim b [
        | inl c ↦ inr (inl c)
        | inr d ↦ inr (inr (d.0, d.1, omega (arith, d.2, ne)))
      ]
    ]

pub before : (low high : List ℕ) (u v : ℕ) → u ≢ v → is_lt (compared low high u v) ≡ true → ComesBefore low high u v
before low high u v ne h =
    not_before low high v u (λ e. ne (sym e)) ((ranks_by (compared_total low high) (λ (x : ℕ). x)).one_way u v h)

-- ---- the first so far

abbrev pub IsFirst : List ℕ → List ℕ → ℕ → ℕ → Type 0
IsFirst low high n f = (u : ℕ) → u < n → u ≢ f → ComesBefore low high f u

-- the first stays if one page more does not come before it
pub stays : (low high : List ℕ) (n f : ℕ) → f < n → IsFirst low high n f → is_lt (compared low high n f) ≡ false → IsFirst low high (n + 1) f
stays low high n f l h t u w ne =
    elim (cases_eq u n) [
      | inl e ↦ rw e (not_before low high n f (omega (arith, l)) t)
      | inr m ↦ h u (omega (arith, w, m)) ne
    ]

-- and else that page is the first
pub changes : (low high : List ℕ) (n f : ℕ) → f < n → IsFirst low high n f → is_lt (compared low high n f) ≡ true → IsFirst low high (n + 1) n
changes low high n f l h t u w ne =
    let b : ComesBefore low high n f = before low high n f (omega (arith, l)) t in
    elim (cases_eq u f) [
      | inl e ↦ rw e b
      | inr m ↦ onward low high n f u b (h u (omega (arith, w, ne)) m)
    ]

-- ---- the first of a ranking

pub none_is : (low high pages : List ℕ) → length low ≡ 0 → IsRanking low high pages → None ≡ slice_get pages 0
none_is low high [] e r = refl
none_is low high (p ∷ pages) e r = absurd (omega (arith, e, pages_count (length low) (p ∷ pages) r.all))

-- a page that is not the first of a ranking has the first before it
not_first : (low high : List ℕ) (p f : ℕ) (pages : List ℕ) (k : ℕ) → IsRanking low high (p ∷ pages) → k < length (p ∷ pages) → get_or (p ∷ pages) k f ≡ f → p ≢ f
    → ComesBefore low high p f
not_first low high p f pages zero r w e ne = absurd (ne e)
not_first low high p f pages (suc k) r w e ne =
    let d : get_or (p ∷ pages) (suc k) 0 ≡ f = get_or_default (p ∷ pages) (suc k) 0 f w ∙ e in
    rw d at (r.ordered 0 (suc k) (omega arith) w)

pub first_is : (low high pages : List ℕ) (f : ℕ) → f < length low → IsFirst low high (length low) f → IsRanking low high pages → Some f ≡ slice_get pages 0
first_is low high [] f l h r = absurd (omega (arith, l, pages_count (length low) [] r.all))
first_is low high (p ∷ pages) f l h r =
    elim (cases_eq p f) [
      | inl e ↦ ap Some (sym e)
      | inr ne ↦
          let n : ℕ = length low in
          let below : p < n = pages_below n (p ∷ pages) r.all 0 0 (omega arith) in
          let there : Contains (range_with_len 0 n) f = (f, omega (arith, l, length-range_with_len 0 n), omega (arith, get_or-range_with_len 0 n f f l)) in
          let c : Contains (p ∷ pages) f = Contains-permutation (range_with_len 0 n) (p ∷ pages) f r.all there in
          absurd (one_way low high f p (h p below ne) (not_first low high p f pages c.0 r c.1 c.2 ne))
    ]
