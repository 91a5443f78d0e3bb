-- The runs of a list with one number more at its end.
use Rattle.std.proofs.Common.{◌≡◌, ◌≢◌, ℕ, zero, suc, ◌<◌, ◌≤◌, eqb, cond, List, [], ◌∷◌, ◌++◌, length, get_or, set, refl, ap, ◌∙◌, arith, inl, inr, append-nil, append_assoc}
use Rattle.std.proofs.lemmas.Bool.{cases_Bool, ne_eqb, eq-eqb}
use Rattle.wg_transpose.specs.declared.run.PageRun.{PageRun}
use Rattle.wg_transpose.specs.declared.run.TheConstants.{MOST_PAGES_IN_RUNS}
use Rattle.wg_transpose.specs.Runs.{with_first, runs_in}
use Rattle.wg_transpose.specs.Held.{last_to, no_run}

-- the run of one number
abbrev pub one_of : ℕ → PageRun
one_of u = record { from = u; to = suc u }

-- a number behind the runs: it joins the last run if that ends before it
abbrev pub grown : List PageRun → ℕ → List PageRun
grown [] u = one_of u ∷ []
grown (r ∷ []) u = cond (eqb r.to u) (record { from = r.from; to = suc u } ∷ []) (r ∷ one_of u ∷ [])
grown (r ∷ s ∷ rs) u = r ∷ grown (s ∷ rs) u

first_grown : (x u : ℕ) (rs : List PageRun) → with_first x (grown rs u) ≡ grown (with_first x rs) u
first_grown x u [] = elim (cases_Bool (eqb (suc x) u)) [ inl e ↦ rw e refl | inr e ↦ rw e refl ]
first_grown x u (r ∷ []) =
    elim (cases_Bool (eqb r.to u)) [
      | inl a ↦ elim (cases_Bool (eqb (suc x) r.from)) [ inl b ↦ rw (a, b, a) refl | inr b ↦ rw (a, b, a) refl ]
      | inr a ↦ elim (cases_Bool (eqb (suc x) r.from)) [ inl b ↦ rw (a, b, a) refl | inr b ↦ rw (a, b, a) refl ]
    ]
first_grown x u (r ∷ s ∷ rs) = elim (cases_Bool (eqb (suc x) r.from)) [ inl b ↦ rw b refl | inr b ↦ rw b refl ]

pub runs_push : (xs : List ℕ) (u : ℕ) → runs_in (xs ++ u ∷ []) ≡ grown (runs_in xs) u
runs_push [] u = refl
runs_push (x ∷ xs) u = ap (with_first x) (runs_push xs u) ∙ first_grown x u (runs_in xs)

-- ---- what it does to the runs

pub grown_new : (rs : List PageRun) (u : ℕ) → last_to rs ≢ u → grown rs u ≡ rs ++ one_of u ∷ []
grown_new [] u other = refl
grown_new (r ∷ []) u other = rw (ne_eqb r.to u other) refl
grown_new (r ∷ s ∷ rs) u other = ap (λ (l : List PageRun). r ∷ l) (grown_new (s ∷ rs) u other)

pub grown_longer : (rs : List PageRun) (u k : ℕ) → length rs ≡ suc k → last_to rs ≡ u → grown rs u ≡ set rs k (record { from = (get_or rs k no_run).from; to = suc u })
grown_longer [] u k size h = absurd (omega arith)
grown_longer (r ∷ []) u zero size h = rw (eq-eqb r.to u h) refl
grown_longer (r ∷ []) u (suc k) size h = absurd (omega arith)
grown_longer (r ∷ s ∷ rs) u zero size h = absurd (omega arith)
grown_longer (r ∷ s ∷ rs) u (suc k) size h = ap (λ (l : List PageRun). r ∷ l) (grown_longer (s ∷ rs) u k (omega arith) h)

-- there is a run that ends before a page
pub some_run : (rs : List PageRun) (u : ℕ) → u < MOST_PAGES_IN_RUNS → last_to rs ≡ u → 0 < length rs
some_run [] u lt h = absurd (omega arith)
some_run (r ∷ rs) u lt h = omega arith

some_grown : (rs : List PageRun) (u : ℕ) → 0 < length (grown rs u)
some_grown [] u = omega arith
some_grown (r ∷ []) u = elim (cases_Bool (eqb r.to u)) [ inl e ↦ rw e (omega arith) | inr e ↦ rw e (omega arith) ]
some_grown (r ∷ s ∷ rs) u = omega arith

last_behind : (r : PageRun) (rs : List PageRun) → 0 < length rs → last_to (r ∷ rs) ≡ last_to rs
last_behind r [] some = absurd (omega arith)
last_behind r (s ∷ rs) some = refl

pub last_grown : (rs : List PageRun) (u : ℕ) → last_to (grown rs u) ≡ suc u
last_grown [] u = refl
last_grown (r ∷ []) u = elim (cases_Bool (eqb r.to u)) [ inl e ↦ rw e refl | inr e ↦ rw e refl ]
last_grown (r ∷ s ∷ rs) u = last_behind r (grown (s ∷ rs) u) (some_grown (s ∷ rs) u) ∙ last_grown (s ∷ rs) u

-- ---- how many there are

grown_le : (rs : List PageRun) (u : ℕ) → length rs ≤ length (grown rs u)
grown_le [] u = omega arith
grown_le (r ∷ []) u = elim (cases_Bool (eqb r.to u)) [ inl e ↦ rw e (omega arith) | inr e ↦ rw e (omega arith) ]
grown_le (r ∷ s ∷ rs) u = omega (arith, grown_le (s ∷ rs) u)

pub more_runs : (xs ys : List ℕ) → length (runs_in xs) ≤ length (runs_in (xs ++ ys))
more_runs xs [] = omega (arith, ap (λ (l : List ℕ). length (runs_in l)) (append-nil xs))
more_runs xs (y ∷ ys) =
    omega (arith, more_runs (xs ++ y ∷ []) ys, ap (λ (l : List ℕ). length (runs_in l)) (append_assoc xs (y ∷ []) ys), ap length (runs_push xs y), grown_le (runs_in xs) y)

first_le : (x : ℕ) (rs : List PageRun) → length (with_first x rs) ≤ suc (length rs)
first_le x [] = omega arith
first_le x (r ∷ rs) = elim (cases_Bool (eqb (suc x) r.from)) [ inl b ↦ rw b (omega arith) | inr b ↦ rw b (omega arith) ]

pub few_runs : (xs : List ℕ) → length (runs_in xs) ≤ length xs
few_runs [] = omega arith
few_runs (x ∷ xs) = omega (arith, first_le x (runs_in xs), few_runs xs)
