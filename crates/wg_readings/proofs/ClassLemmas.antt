-- Classes and weights of pages, by the texts that give them.
use Rattle.std.proofs.Common.{◌≡◌, inl, ℕ, ◌+◌, ◌<◌, length, ◌∙◌, nat_eq, nat_lt, Bool, true, ◌&&◌, List, [], ◌∷◌, sym, ap, subst, Result, Ok, Err, arith}
use Rattle.std.specs.List.{All}
use Rattle.std.proofs.{lemmas.Bool.lt-ltb, lemmas.List.Elements.All-head, lemmas.List.Elements.All-tail}
use Rattle.wg_graph.specs.Ascending.{Below}
use Rattle.wg_arcs.specs.{Numbers.AreRead, Numbers.numbers_of, declared.numbers_fault.NumbersError.NumbersError}
use Rattle.wg_arcs.specs.declared.numbers_fault.NumbersError.TheVariants as error
use Rattle.wg_arcs.specs.declared.numbers_fault.NumbersFault.{NumbersFault}
use Rattle.wg_rank.specs.{Sum.sum_below, Intervals.by_page, declared.limits.TheConstants.MOST_WEIGHT}
use Rattle.wg_outcomes.specs.{Answers.Answers, Answers.IsHindrance, declared.status.Status.Status}
use Rattle.wg_outcomes.specs.Judged.{Judged, status_of, unless_bad_map, unless_bad_weights, unless_zero, with_map, with_weights}
use Rattle.wg_outcomes.specs.declared.status.Status.TheVariants.{BadMap, BadWeights, Memory}
use Rattle.wg_outcomes.specs.declared.status.WeightsFault.TheVariants as weights

pub each_below : (n : ℕ) (xs : List ℕ) → All (λ v. v < n) xs → Below n xs
each_below n [] h = tt
each_below n (x ∷ xs) h = (All-head (λ v. v < n) x xs h, each_below n xs (All-tail (λ v. v < n) x xs h))

-- ---- the classes that a text gives
pub map_goes : (n limit : ℕ) (bytes classes : List ℕ) → numbers_of n limit bytes ≡ Ok classes → (next : List ℕ → Judged) → with_map n limit bytes next ≡ next classes
map_goes n limit bytes classes read next = ap (λ (r : Result (List ℕ) NumbersFault). unless_bad_map r next) read

pub by_fault : (told : Result (List ℕ) NumbersFault) (e : NumbersError) (f : NumbersFault) → e ≡ error.Fault f → AreRead told (Err e) → told ≡ Err f
by_fault told e f is read = subst (λ (k : NumbersError). AreRead told (Err k)) is read

pub map_refused : (n limit : ℕ) (bytes : List ℕ) (f : NumbersFault) → numbers_of n limit bytes ≡ Err f → (next : List ℕ → Judged) → Answers (with_map n limit bytes next) (BadMap f)
map_refused n limit bytes f read next = inl (sym (ap status_of (ap (λ (r : Result (List ℕ) NumbersFault). unless_bad_map r next) read)))

-- memory ran out
pub is_out : {s : Status} → s ≡ Memory → IsHindrance s
is_out out = subst IsHindrance (sym out) tt

-- ---- the weights
module _ (n : ℕ) (bytes : List ℕ) (next : List ℕ → Judged) where
  pub weights_zero : (ws : List ℕ) → numbers_of n (MOST_WEIGHT + 1) bytes ≡ Ok ws → (nat_lt 0 n && nat_eq (sum_below n (by_page ws)) 0) ≡ true → Answers (with_weights n bytes next) (BadWeights weights.Zero)
  weights_zero ws read none = grind arith

  pub weights_refused : (f : NumbersFault) → numbers_of n (MOST_WEIGHT + 1) bytes ≡ Err f → Answers (with_weights n bytes next) (BadWeights (weights.Numbers f))
  weights_refused f read = inl (sym (ap status_of (ap (λ (r : Result (List ℕ) NumbersFault). unless_bad_weights (unless_zero n r) next) read)))

-- if there are pages, their weights tell whether all are 0
pub some_pages : (n : ℕ) (ws : List ℕ) (b : Bool) → 0 < n → length ws ≡ n → nat_eq (sum_below (length ws) (by_page ws)) 0 ≡ b → (nat_lt 0 n && nat_eq (sum_below n (by_page ws)) 0) ≡ b
some_pages n ws b some count is = ap (λ (k : Bool). k && nat_eq (sum_below n (by_page ws)) 0) (lt-ltb 0 n some) ∙ subst (λ (k : ℕ). nat_eq (sum_below k (by_page ws)) 0 ≡ b) count is
