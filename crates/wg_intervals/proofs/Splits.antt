-- Numbers that are split run by run.
use Rattle.std.proofs.Common.{◌≡◌, ℕ, suc, ◌+◌, ◌^◌, ◌<◌, ◌≤◌, not, List, [], ◌∷◌, ◌++◌, length, drop, get_or, sym, ap, subst, ◌∙◌, arith}
use Rattle.std.specs.Prelude.{Option, option_to_list, filter, IfSome}
use Rattle.std.specs.Option.{ForSome}
use Rattle.std.specs.List.{range_with_len, flat_map}
use Rattle.std.proofs.lemmas.List.{drop_more, drop_all, append_assoc}
use Rattle.std.proofs.lemmas.List.Concat.{flat_map-append}
use Rattle.std.proofs.lemmas.List.Elements.{filter-append}
use Rattle.wg_graph.specs.Ascending.{Ascends}
use Rattle.wg_intervals.specs.declared.run.Run.{Run}
use Rattle.wg_intervals.specs.Canonical.{runs_of, runs_from, is_long, numbers_of, intervals_of, residuals_of, ends_and_lengths}
use Rattle.wg_intervals.proofs.Maximal.{range_more}

pub numbers_more : (before list new : List ℕ) (l n : ℕ) → list ≡ before ++ range_with_len l n → new ≡ list ++ (l + n) ∷ [] → new ≡ before ++ range_with_len l (n + 1)
numbers_more before list new l n is pushed = grind (arith, append_assoc, range_more)

-- what long runs, and all other runs, are stored as
abbrev pub long_part : ℕ → List Run → List ℕ
long_part least runs = ends_and_lengths (filter (is_long least) runs)

abbrev pub short_part : ℕ → List Run → List ℕ
short_part least runs = flat_map numbers_of (filter (λ r. not (is_long least r)) runs)

long_more : (least : ℕ) (a b : List Run) → long_part least a ++ long_part least b ≡ long_part least (a ++ b)
long_more least a b = sym (ap ends_and_lengths (filter-append (is_long least) a b) ∙ flat_map-append (λ (r : Run). r.left ∷ r.length ∷ []) (filter (is_long least) a) (filter (is_long least) b))

short_more : (least : ℕ) (a b : List Run) → short_part least a ++ short_part least b ≡ short_part least (a ++ b)
short_more least a b =
    sym (ap (flat_map numbers_of) (filter-append (λ r. not (is_long least r)) a b) ∙ flat_map-append numbers_of (filter (λ r. not (is_long least r)) a) (filter (λ r. not (is_long least r)) b))

-- i numbers are behind: the runs that ended are stored, the others come from the current run and the numbers to come
module _ (least : ℕ) (extras : List ℕ) where
  pub record Splitting (i : ℕ) (run : Run) (intervals residuals : List ℕ) : Type 0 where
    pub ended : List Run
    pub all : ended ++ runs_from run (drop i extras) ≡ runs_of extras
    pub up : Ascends (run.left + run.length) (drop i extras)
    pub long : intervals ≡ long_part least ended
    pub short : residuals ≡ short_part least ended

  pub begun : (run : Run) (intervals residuals : List ℕ) → (run.left ≡ 0) × (run.length ≡ 0) → intervals ≡ [] → residuals ≡ [] → Ascends 0 extras → Splitting 0 run intervals residuals
  begun run intervals residuals none no_intervals no_residuals up = grind arith

  pub first_above : (i : ℕ) (run : Run) (intervals residuals : List ℕ) → i < length extras → Splitting i run intervals residuals → run.left + run.length ≤ get_or extras i 0
  first_above i run intervals residuals lt s = grind (arith, drop_more)

  pub more : (i : ℕ) (run next : Run) (o : Option Run) (intervals residuals intervals' residuals' : List ℕ) → i < length extras → Splitting i run intervals residuals
      → ((numbers : List ℕ) → Ascends (get_or extras i 0 + 1) numbers → runs_from run (get_or extras i 0 ∷ numbers) ≡ option_to_list o ++ runs_from next numbers)
      → next.left + next.length ≡ get_or extras i 0 + 1 → intervals' ≡ intervals ++ long_part least (option_to_list o)
      → residuals' ≡ residuals ++ short_part least (option_to_list o) → Splitting (i + 1) next intervals' residuals'
  more i run next o intervals residuals intervals' residuals' lt s step end long short =
      let y : ℕ = get_or extras i 0 in
      let rest : List ℕ = drop (i + 1) extras in
      let split : drop i extras ≡ y ∷ rest = drop_more extras i 0 lt in
      let up : Ascends (run.left + run.length) (y ∷ rest) = subst (Ascends (run.left + run.length)) split s.up in
      let above : Ascends (y + 1) rest = subst (λ k. Ascends k rest) (let e : suc y ≡ y + 1 = omega arith in e) up.1 in
      let goes_on : option_to_list o ++ runs_from next rest ≡ runs_from run (drop i extras) = sym (step rest above) ∙ ap (runs_from run) (sym split) in
      record {
        ended = s.ended ++ option_to_list o;
        all = append_assoc s.ended (option_to_list o) (runs_from next rest) ∙ ap (λ rs. s.ended ++ rs) goes_on ∙ s.all;
        up = subst (λ k. Ascends k rest) (sym end) above;
        long = long ∙ ap (λ xs. xs ++ long_part least (option_to_list o)) s.long ∙ long_more least s.ended (option_to_list o);
        short = short ∙ ap (λ xs. xs ++ short_part least (option_to_list o)) s.short ∙ short_more least s.ended (option_to_list o);
      }

  all_ended : (i : ℕ) (run : Run) (o : Option Run) (intervals residuals : List ℕ) → length extras ≤ i → (s : Splitting i run intervals residuals)
      → runs_from run [] ≡ option_to_list o → s.ended ++ option_to_list o ≡ runs_of extras
  all_ended i run o intervals residuals le s last = ap (λ rs. s.ended ++ rs) (sym last ∙ ap (runs_from run) (sym (drop_all i extras le))) ∙ s.all

  pub intervals_done : (i : ℕ) (run : Run) (o : Option Run) (intervals residuals intervals' : List ℕ) → length extras ≤ i → Splitting i run intervals residuals
      → runs_from run [] ≡ option_to_list o → intervals' ≡ intervals ++ long_part least (option_to_list o) → intervals' ≡ ends_and_lengths (intervals_of least extras)
  intervals_done i run o intervals residuals intervals' le s last long =
      long ∙ ap (λ xs. xs ++ long_part least (option_to_list o)) s.long ∙ long_more least s.ended (option_to_list o) ∙ ap (long_part least) (all_ended i run o intervals residuals le s last)

  pub residuals_done : (i : ℕ) (run : Run) (o : Option Run) (intervals residuals residuals' : List ℕ) → length extras ≤ i → Splitting i run intervals residuals
      → runs_from run [] ≡ option_to_list o → residuals' ≡ residuals ++ short_part least (option_to_list o) → residuals' ≡ residuals_of least extras
  residuals_done i run o intervals residuals residuals' le s last short =
      short ∙ ap (λ xs. xs ++ short_part least (option_to_list o)) s.short ∙ short_more least s.ended (option_to_list o) ∙ ap (short_part least) (all_ended i run o intervals residuals le s last)

-- a run that ends is within the numbers that a u64 has
pub ends_low : (o : Option Run) (run : Run) → IfSome o (λ r. r ≡ run) → run.left + run.length ≤ 2 ^ 64 → ForSome o (λ r. r.left + r.length ≤ 2 ^ 64)
ends_low x1 x2 x3 x4 x5 x6 = grind arith
