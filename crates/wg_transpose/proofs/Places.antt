-- One item more stands in one of the lists that stand one after the other.
use Rattle.std.proofs.Common.{◌≡◌, ◌≢◌, ℕ, suc, ◌+◌, ◌<◌, ◌≤◌, List, [], ◌∷◌, length, get_or, set, sym, ap, subst, refl, ◌∙◌, arith, inl, inr, length-append, length-set, get_or-set_same, get_or-set_other}
use Rattle.std.proofs.lemmas.Bool.{cases_lt, cases_eq}
use Rattle.std.proofs.lemmas.List.{get_or_append_left, get_or_at}
use Rattle.wg_transpose.specs.SoFar.{start, AreFilled, OneMore}
use Rattle.wg_transpose.proofs.Totals.{start_le}

pub longer : {X : Type 0} (b c : ℕ → List X) (v : ℕ) (x : X) → OneMore b c v x → length (c v) ≡ length (b v) + 1
longer b c v x m = omega (arith, ap length m.here, length-append (b v) (x ∷ []))

-- lists that are equal page by page stand in the same places
pub same_prefixes : {X : Type 0} {none : X} (n : ℕ) (whole b c : ℕ → List X) (ends : List ℕ) (all : List X) → ((w : ℕ) → w < n → b w ≡ c w) → AreFilled none n whole b ends all → AreFilled none n whole c ends all
same_prefixes {X} {none} n whole b c ends all same h = record {
  pages = h.pages;
  room = h.room;
  reached = λ w lt. subst (λ (l : List X). get_or ends w 0 ≡ start whole w + length l) (same w lt) (h.reached w lt);
  members = λ w lt. subst (λ (l : List X). (i : ℕ) → i < length l → get_or all (start whole w + i) none ≡ get_or l i none) (same w lt) (h.members w lt);
}

-- ---- an item is written into list v

module _ {X : Type 0} (none : X) (n : ℕ) (whole b c : ℕ → List X) (v : ℕ) (lt : v < n) (fits : (w : ℕ) → length (c w) ≤ length (whole w)) (others : (w : ℕ) → w ≢ v → c w ≡ b w) where
  -- places in the lists of two pages are apart
  away : (w i k : ℕ) → w ≢ v → k < length (whole v) → i < length (whole w) → start whole w + i ≢ start whole v + k
  away w i k other k_fits i_fits same =
      elim (cases_lt w v) [
        | inl before ↦ omega (arith, start_le whole (suc w) v (omega arith))
        | inr after ↦ omega (arith, start_le whole (suc v) w (omega arith))
      ]

  module _ (k : ℕ) (x : X) (inside : k < length (c v)) (here : get_or (c v) k none ≡ x) (kept : (i : ℕ) → i < length (c v) → i ≢ k → (i < length (b v)) × (get_or (c v) i none ≡ get_or (b v) i none)) where
    pub place_within : (all : List X) (at : ℕ) → length all ≡ start whole n → at ≡ start whole v + k → at < length all
    place_within all at room is = omega (arith, fits v, start_le whole (suc v) n (omega arith))

    pub place_at : (ends new_ends : List ℕ) (all : List X) (at : ℕ) → at ≡ start whole v + k → AreFilled none n whole b ends all → length new_ends ≡ n → ((w : ℕ) → w < n → get_or new_ends w 0 ≡ start whole w + length (c w))
        → AreFilled none n whole c new_ends (set all at x)
    place_at ends new_ends all at is h size ended =
        let there : at < length all = place_within all at h.room is in
        record {
          pages = size;
          room = length-set all at x ∙ h.room;
          reached = ended;
          members = λ w w_lt i i_lt. elim (cases_eq w v) [
            | inl same ↦ in_list w i same i_lt there
            | inr other ↦
                let old : i < length (b w) = omega (arith, i_lt, ap length (others w other)) in
                let elsewhere : start whole w + i ≢ at = λ e. away w i k other (omega (arith, fits v)) (omega (arith, i_lt, fits w)) (e ∙ is) in
                get_or-set_other all at (start whole w + i) x none elsewhere ∙ h.members w w_lt i old ∙ ap (λ (l : List X). get_or l i none) (sym (others w other))
          ];
        }
      where
        in_list : (w i : ℕ) → w ≡ v → i < length (c w) → at < length all → get_or (set all at x) (start whole w + i) none ≡ get_or (c w) i none
        in_list w i same i_lt there =
            let lt_v : i < length (c v) = subst (λ (m : ℕ). i < length (c m)) same i_lt in
            rw same (elim (cases_eq i k) [
              | inl last ↦
                  let e : start whole v + i ≡ at = omega arith in
                  rw (e, last) (get_or-set_same all at x none there ∙ sym here)
              | inr other ↦
                  let old = kept i lt_v other in
                  get_or-set_other all at (start whole v + i) x none (λ e. omega arith) ∙ h.members v lt i old.0 ∙ sym old.1
            ])

-- ---- list v has one item more

module _ {X : Type 0} {none : X} (n : ℕ) (whole b c : ℕ → List X) (v : ℕ) (x : X) (ends : List ℕ) (all : List X) (lt : v < n) (m : OneMore b c v x) (fits : (w : ℕ) → length (c w) ≤ length (whole w)) (h : AreFilled none n whole b ends all) where
  abbrev k : ℕ
  k = length (b v)

  last : get_or (c v) k none ≡ x
  last = ap (λ (l : List X). get_or l k none) m.here ∙ get_or_at (b v) x [] none k refl

  kept : (i : ℕ) → i < length (c v) → i ≢ k → (i < length (b v)) × (get_or (c v) i none ≡ get_or (b v) i none)
  kept i i_lt other =
      let old : i < length (b v) = omega (arith, longer b c v x m) in
      (old, ap (λ (l : List X). get_or l i none) m.here ∙ get_or_append_left (b v) (x ∷ []) none i old)

  -- the next place of a list lies before the start of the next one
  pub place_fits : get_or ends v 0 < length all
  place_fits = omega (arith, h.reached v lt, h.room, longer b c v x m, fits v, start_le whole (suc v) n (omega arith))

  reached_more : (w : ℕ) → w < n → get_or (set ends v (get_or ends v 0 + 1)) w 0 ≡ start whole w + length (c w)
  reached_more w w_lt = grind (arith, get_or-set_same, get_or-set_other, longer)

  pub place_more : AreFilled none n whole c (set ends v (get_or ends v 0 + 1)) (set all (get_or ends v 0) x)
  place_more =
      place_at none n whole b c v lt fits m.others k x (omega (arith, longer b c v x m)) last kept ends (set ends v (get_or ends v 0 + 1)) all (get_or ends v 0) (h.reached v lt) h
      (length-set ends v (get_or ends v 0 + 1) ∙ h.pages) reached_more
