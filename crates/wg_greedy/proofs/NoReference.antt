-- A record without a reference has a word for each value: its numbers are below twice as many as there are pages, and
-- no code has fewer.
use Rattle.std.proofs.Common.{◌≡◌, ℕ, zero, suc, ◌+◌, ◌-◌, ◌*◌, ◌/◌, ◌^◌, ◌<◌, ◌≤◌, ltb, leb, Bool, true, not, ◌&&◌, List, [], ◌∷◌, ◌++◌, length, refl, sym, ap, subst, ◌∙◌, inl, inr, arith}
use Rattle.std.specs.Prelude.{pos, ◌-ℤ◌, filter, Option, Some, None}
use Rattle.std.specs.List.{list_all, flat_map, range_with_len}
use Rattle.std.proofs.lemmas.Int.{ints}
use Rattle.std.proofs.lemmas.Bool.{cases_lt, cases_Bool, and_from, le-leb, leb-true}
use Rattle.std.proofs.lemmas.List.Folds.{list_all-append}
use Rattle.wg_graph.specs.Numbers.{is_in}
use Rattle.wg_graph.specs.Ascending.{Ascends, Below}
use Rattle.wg_params.specs.declared.code.Code.{Code}
use Rattle.wg_params.specs.declared.code.Code.TheVariants.{Gamma, Zeta}
use Rattle.wg_params.specs.Codes.{is_gamma_or_delta, is_residual_code}
use Rattle.wg_params.specs.Parameters.{Parameters, IsWithinLimits}
use Rattle.wg_params.proofs.FieldCodes.{two_codes, four_codes}
use Rattle.wg_codes.specs.Words.{top}
use Rattle.wg_codes.specs.Fold.{folded}
use Rattle.wg_intervals.specs.declared.run.Run.{Run}
use Rattle.wg_intervals.specs.Canonical.{runs_of, is_long, numbers_of, intervals_of, residuals_of}
use Rattle.wg_intervals.proofs.Maximal.{Cut, cut_of, in_run}
use Rattle.wg_greedy.specs.Fields.{Written, all_have_words, stored_gap, count_fields, interval_fields, residual_fields}
use Rattle.wg_greedy.specs.Fields.{extras, has_some, extra_fields, reference_fields, copy_fields, list_fields, record_fields}
use Rattle.wg_greedy.proofs.Least.{all_in}

abbrev has_word : Written → Bool
has_word f = leb f.value (top f.code)

both_have : (us vs : List Written) → all_have_words us ≡ true → all_have_words vs ≡ true → all_have_words (us ++ vs) ≡ true
both_have us vs first second = list_all-append has_word us vs ∙ and_from (all_have_words us) (all_have_words vs) first second

-- ---- codes

gamma_holds : (v : ℕ) → v ≤ 2 ^ 62 → leb v (top Gamma) ≡ true
gamma_holds v le = le-leb v (2 ^ 63 - 2) (omega arith)

outdegree_holds : (code : Code) (v : ℕ) → is_gamma_or_delta code ≡ true → v ≤ 2 ^ 62 → leb v (top code) ≡ true
outdegree_holds code v is le = two_codes (λ c. leb v (top c) ≡ true) code is (gamma_holds v le) (gamma_holds v le)

none_holds : (code : Code) → leb 0 (top code) ≡ true
none_holds code = le-leb 0 (top code) (omega arith)

-- the greatest value of a zeta code
abbrev zeta_high : ℕ → Bool
zeta_high k = leb (2 ^ 38) (2 ^ (k * (63 / k)) - 2)

all_high : list_all zeta_high (range_with_len 1 31) ≡ true
all_high = refl

pub zeta_holds : (k v : ℕ) → 1 ≤ k → k ≤ 31 → v ≤ 2 ^ 38 → leb v (top (Zeta k)) ≡ true
zeta_holds k v some low le =
    let there : is_in k (range_with_len 1 31) ≡ true = in_run 1 31 k [] some (omega arith) in
    let high : 2 ^ 38 ≤ 2 ^ (k * (63 / k)) - 2 = leb-true (2 ^ 38) (2 ^ (k * (63 / k)) - 2) (all_in zeta_high (range_with_len 1 31) k all_high there) in
    le-leb v (2 ^ (k * (63 / k)) - 2) (omega (arith, high, le))

residual_holds : (zeta : ℕ) (code : Code) (v : ℕ) → 1 ≤ zeta → zeta ≤ 31 → is_residual_code zeta code ≡ true → v ≤ 2 ^ 38 → leb v (top code) ≡ true
residual_holds zeta code v some low is le =
    four_codes (λ c. leb v (top c) ≡ true) zeta code is (gamma_holds v (omega arith)) (gamma_holds v (omega arith)) (zeta_holds zeta v some low le) (le-leb v (2 ^ 63 - 1) (omega arith))

-- ---- gaps

folded_low : (y x n : ℕ) → y < n → x < n → folded (pos y -ℤ pos x) ≤ 2 * n
folded_low y x n low page = grind arith

gap_low : (page : ℕ) (before : Option ℕ) (y n : ℕ) → y < n → page < n → stored_gap page before y ≤ 2 * n
gap_low page None y n low here = folded_low y page n low here
gap_low page (Some before) y n low here = omega arith

-- ---- runs

abbrev pub Low : ℕ → List Run → Type 0
Low n [] = Unit {0}
Low n (r ∷ rs) = (0 < r.length) × (r.left + r.length ≤ n) × Low n rs

below_end : (n l k : ℕ) (zs : List ℕ) → 0 < k → Below n (range_with_len l k ++ zs) → (l + k ≤ n) × Below n zs
below_end n l zero zs some low = absurd (omega arith)
below_end n l (suc zero) zs some low = (omega (arith, low.0), low.1)
below_end n l (suc (suc k)) zs some low = let rest = below_end n (l + 1) (suc k) zs (omega arith) low.1 in (omega (arith, rest.0), rest.1)

pub cut_low : (n m : ℕ) (rs : List Run) (xs : List ℕ) → Cut m rs xs → Below n xs → Low n rs
cut_low n m [] xs cut low = tt
cut_low n m (r ∷ rs) xs cut low =
    let ends = below_end n r.left r.length cut.2 cut.1 (subst (Below n) cut.3 low) in
    (cut.1, ends.0, cut_low n (r.left + r.length + 1) rs cut.2 cut.4 ends.1)

pub cut_few : (n m : ℕ) (rs : List Run) (xs : List ℕ) → Cut m rs xs → Low n rs → length rs ≤ n - m
cut_few n m [] xs cut low = omega arith
cut_few n m (r ∷ rs) xs cut low = omega (arith, (cut_few n (r.left + r.length + 1) rs cut.2 cut.4 low.2), cut.0, cut.1, low.1)

low_where : (n : ℕ) (t : Run → Bool) (rs : List Run) → Low n rs → Low n (filter t rs)
low_where n t [] low = tt
low_where n t (r ∷ rs) low = elim (cases_Bool (t r)) [ inl h ↦ rw h (low.0, low.1, low_where n t rs low.2) | inr h ↦ rw h (low_where n t rs low.2) ]

pub few_where : (t : Run → Bool) (rs : List Run) → length (filter t rs) ≤ length rs
few_where t [] = omega arith
few_where t (r ∷ rs) = let rest = few_where t rs in elim (cases_Bool (t r)) [ inl h ↦ rw h (omega (arith, rest)) | inr h ↦ rw h (omega (arith, rest)) ]

range_below : (n l k : ℕ) (zs : List ℕ) → l + k ≤ n → Below n zs → Below n (range_with_len l k ++ zs)
range_below n l zero zs le low = low
range_below n l (suc k) zs le low = (omega arith, range_below n (l + 1) k zs (omega arith) low)

numbers_below : (n : ℕ) (rs : List Run) → Low n rs → Below n (flat_map numbers_of rs)
numbers_below n [] low = tt
numbers_below n (r ∷ rs) low = range_below n r.left r.length (flat_map numbers_of rs) low.1 (numbers_below n rs low.2)

-- ---- fields

intervals_have : (page least n : ℕ) (past : Option ℕ) (rs : List Run) → n ≤ 2 ^ 36 → page < n → Low n rs → all_have_words (interval_fields page least past rs) ≡ true
intervals_have page least n past [] few here low = refl
intervals_have page least n past (r ∷ rs) few here low =
    let gap : stored_gap page past r.left ≤ 2 * n = gap_low page past r.left n (omega (arith, low.0, low.1)) here in
    and_from _ _ (gamma_holds (stored_gap page past r.left) (omega (arith, gap, few)))
    (and_from _ _ (gamma_holds (r.length - least) (omega (arith, low.1, few))) (intervals_have page least n (Some (r.left + r.length)) rs few here low.2))

residuals_have : (p : Parameters) (page n : ℕ) (last : Option ℕ) (ys : List ℕ) → IsWithinLimits p → n ≤ 2 ^ 36 → page < n → Below n ys
    → all_have_words (residual_fields p.residuals page last ys) ≡ true
residuals_have p page n last [] within few here low = refl
residuals_have p page n last (y ∷ ys) within few here low =
    let gap : stored_gap page last y ≤ 2 * n = gap_low page last y n low.0 here in
    and_from _ _ (residual_holds p.zeta p.residuals (stored_gap page last y) within.some_zeta within.zeta within.residuals (omega (arith, gap, few)))
    (residuals_have p page n (Some y) ys within few here low.1)

count_has : (found : Bool) (least count : ℕ) → count ≤ 2 ^ 62 → all_have_words (count_fields found least count) ≡ true
count_has found least count le = elim (cases_Bool (found && ltb 0 least)) [ inl h ↦ rw h (and_from _ _ (gamma_holds count le) refl) | inr h ↦ rw h refl ]

reference_has : (p : Parameters) → all_have_words (reference_fields p 0) ≡ true
reference_has p = grind (arith, cases_Bool, and_from, le-leb)

extras_have : (p : Parameters) (page n : ℕ) (xs : List ℕ) → IsWithinLimits p → n ≤ 2 ^ 36 → page < n → Ascends 0 xs → Below n xs → all_have_words (extra_fields p page xs) ≡ true
extras_have p page n xs within few here up low =
    let cut : Cut 0 (runs_of xs) xs = cut_of 0 xs up in
    let runs : Low n (runs_of xs) = cut_low n 0 (runs_of xs) xs cut low in
    let count : length (runs_of xs) ≤ n - 0 = cut_few n 0 (runs_of xs) xs cut runs in
    let long : length (intervals_of p.interval xs) ≤ length (runs_of xs) = few_where (is_long p.interval) (runs_of xs) in
    both_have (count_fields (has_some xs) p.interval (length (intervals_of p.interval xs)) ++ interval_fields page p.interval None (intervals_of p.interval xs))
    (residual_fields p.residuals page None (residuals_of p.interval xs))
    (both_have (count_fields (has_some xs) p.interval (length (intervals_of p.interval xs))) (interval_fields page p.interval None (intervals_of p.interval xs))
    (count_has (has_some xs) p.interval (length (intervals_of p.interval xs)) (omega (arith, count, long, few)))
    (intervals_have page p.interval n None (intervals_of p.interval xs) few here (low_where n (is_long p.interval) (runs_of xs) runs)))
    (residuals_have p page n None (residuals_of p.interval xs) within few here (numbers_below n _ (low_where n (λ run. not (is_long p.interval run)) (runs_of xs) runs)))

pub nothing_copied : (list : List ℕ) → extras list [] ≡ list
nothing_copied [] = refl
nothing_copied (y ∷ ys) = ap (λ xs. y ∷ xs) (nothing_copied ys)

list_has : (p : Parameters) (page n : ℕ) (list : List ℕ) → IsWithinLimits p → n ≤ 2 ^ 36 → page < n → Ascends 0 list → Below n list → all_have_words (list_fields p page 0 [] list) ≡ true
list_has p page n [] within few here up low = refl
list_has p page n (y ∷ ys) within few here up low =
    both_have (reference_fields p 0 ++ copy_fields p 0 [] (y ∷ ys)) (extra_fields p page (extras (y ∷ ys) []))
    (both_have (reference_fields p 0) (copy_fields p 0 [] (y ∷ ys)) (reference_has p) refl)
    (subst (λ xs. all_have_words (extra_fields p page xs) ≡ true) (sym (nothing_copied (y ∷ ys))) (extras_have p page n (y ∷ ys) within few here up low))

pub short_list : (m n : ℕ) (xs : List ℕ) → Ascends m xs → Below n xs → length xs ≤ n - m
short_list m n [] up low = omega arith
short_list m n (x ∷ xs) up low = let rest : length xs ≤ n - suc x = short_list (suc x) n xs up.1 low.1 in omega (arith, rest, up.0, low.0)

pub no_reference_has : (p : Parameters) (page n : ℕ) (list : List ℕ) → IsWithinLimits p → n ≤ 2 ^ 36 → page < n → Ascends 0 list → Below n list → all_have_words (record_fields p page 0 [] list) ≡ true
unfolding record_fields
no_reference_has p page n list within few here up low = grind (arith, and_from, list_has, short_list)
