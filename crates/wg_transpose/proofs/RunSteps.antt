-- The arcs of one page, one by one, and the runs to their targets.
use Rattle.std.proofs.Common.{◌≡◌, ◌≢◌, ℕ, suc, ◌+◌, ◌-◌, ◌<◌, ◌≤◌, List, [], ◌∷◌, ◌++◌, length, take, get_or, set, sym, ap, subst, ◌∙◌, arith, inl, inr, add-one, length-set, length-append, get_or-set_same, get_or-set_other}
use Rattle.std.proofs.lemmas.Bool.{cases_eq}
use Rattle.std.proofs.lemmas.List.{take_all}
use Rattle.wg_graph.specs.Digraph.{Digraph}
use Rattle.wg_graph.specs.Arcs.{has_arc}
use Rattle.wg_transpose.specs.SoFar.{predecessors_below, start, AreFilled, IsListOf, OneMore}
use Rattle.wg_transpose.proofs.Seen.{with_page, all_seen, seen_le, where_few}
use Rattle.wg_transpose.proofs.Steps.{target_below}
use Rattle.wg_transpose.specs.declared.run.PageRun.{PageRun}
use Rattle.wg_transpose.specs.declared.run.TheConstants.{MOST_PAGES_IN_RUNS}
use Rattle.wg_transpose.specs.Runs.{runs_in}
use Rattle.wg_transpose.specs.Held.{runs_below, last_to, no_run, run_mark, AreCounted, AreBegun, IsNext}
use Rattle.wg_transpose.specs.Grown.{grown, one_of, runs_push, grown_new, grown_longer, some_run, last_grown, more_runs, few_runs}
use Rattle.wg_transpose.proofs.Places.{place_within, place_at, place_fits, place_more}

-- the runs of each list of numbers
abbrev pub runs_of : (ℕ → List ℕ) → ℕ → List PageRun
runs_of lists v = runs_in (lists v)

-- ---- one arc

module _ (b c : ℕ → List ℕ) (v u : ℕ) (m : OneMore b c v u) where
  pub now_grown : runs_of c v ≡ grown (runs_of b v) u
  now_grown = ap runs_in m.here ∙ runs_push (b v) u

  pub others_stay : (w : ℕ) → w ≢ v → runs_of c w ≡ runs_of b w
  others_stay w other = ap runs_in (m.others w other)

  pub now_last : last_to (runs_of c v) ≡ u + 1
  now_last = rw add-one (ap last_to now_grown ∙ last_grown (runs_of b v) u)

  module _ (other : last_to (runs_of b v) ≢ u) where
    pub now_new : runs_of c v ≡ runs_of b v ++ one_of u ∷ []
    now_new = now_grown ∙ grown_new (runs_of b v) u other

    pub one_run_more : length (runs_of c v) ≡ length (runs_of b v) + 1
    one_run_more = omega (arith, ap length now_new, length-append (runs_of b v) (one_of u ∷ []))

  module _ (small : u < MOST_PAGES_IN_RUNS) (same : last_to (runs_of b v) ≡ u) where
    pub some_before : 0 < length (runs_of b v)
    some_before = some_run (runs_of b v) u small same

    abbrev last : ℕ
    last = length (runs_of b v) - 1

    pub now_longer : runs_of c v ≡ set (runs_of b v) last (record { from = (get_or (runs_of b v) last no_run).from; to = suc u })
    now_longer = now_grown ∙ grown_longer (runs_of b v) u last (omega (arith, some_before)) same

    pub as_many_runs : length (runs_of c v) ≡ length (runs_of b v)
    as_many_runs = ap length now_longer ∙ length-set (runs_of b v) last (record { from = (get_or (runs_of b v) last no_run).from; to = suc u })

  -- where the last runs end
  module _ (n : ℕ) (lt : v < n) (reach : List ℕ) (places : length reach ≡ n) (reached : (w : ℕ) → w < n → get_or reach w 0 ≡ last_to (runs_of b w)) where
    pub reached_now : (w : ℕ) → w < n → get_or (set reach v (u + 1)) w 0 ≡ last_to (runs_of c w)
    reached_now w w_lt = grind (arith, get_or-set_same, get_or-set_other, now_last, others_stay)

  -- ---- counting

  module _ (n : ℕ) (lt : v < n) (small : u < MOST_PAGES_IN_RUNS) (counts reach : List ℕ) (h : AreCounted n (runs_of b) counts reach) where
    pub counted_new : get_or reach v 0 ≢ u → AreCounted n (runs_of c) (set counts v (get_or counts v 0 + 1)) (set reach v (u + 1))
    counted_new new =
        let other : last_to (runs_of b v) ≢ u = λ e. new (h.reached v lt ∙ e) in
        record {
          counted = record {
            pages = length-set counts v (get_or counts v 0 + 1) ∙ h.counted.pages;
            each = λ w w_lt. elim (cases_eq w v) [
              | inl same ↦ rw same (get_or-set_same counts v (get_or counts v 0 + 1) 0 (omega (arith, h.counted.pages)) ∙ omega (arith, h.counted.each v lt, one_run_more other))
              | inr away ↦ get_or-set_other counts v w (get_or counts v 0 + 1) 0 away ∙ h.counted.each w w_lt ∙ ap length (sym (others_stay w away))
            ];
          };
          places = length-set reach v (u + 1) ∙ h.places;
          reached = reached_now n lt reach h.places h.reached;
        }

    pub counted_longer : get_or reach v 0 ≡ u → AreCounted n (runs_of c) counts (set reach v (u + 1))
    counted_longer old =
        let same : last_to (runs_of b v) ≡ u = sym (h.reached v lt) ∙ old in
        record {
          counted = record {
            pages = h.counted.pages;
            each = λ w w_lt. elim (cases_eq w v) [
              | inl here ↦ rw here (h.counted.each v lt ∙ sym (as_many_runs small same))
              | inr away ↦ h.counted.each w w_lt ∙ ap length (sym (others_stay w away))
            ];
          };
          places = length-set reach v (u + 1) ∙ h.places;
          reached = reached_now n lt reach h.places h.reached;
        }

-- ---- placing

module _ (n : ℕ) (whole b c : ℕ → List ℕ) (v u : ℕ) (next : IsNext runs_in n whole b c v u) (ends reach : List ℕ) (runs : List PageRun) (h : AreBegun runs_in run_mark no_run n whole b ends reach runs) where
  abbrev end : ℕ
  end = get_or ends v 0

  pub target_there : (v < length ends) × (v < length reach) × (u < length ends)
  target_there =
      let list = next.list in
      let page = next.page in
      (omega (arith, h.filled.pages), omega (arith, h.places), omega (arith, h.filled.pages))

  module _ (new : get_or reach v 0 ≢ u) where
    run_more : OneMore (runs_of b) (runs_of c) v (one_of u)
    run_more = record {
      here = now_new b c v u next.more (λ e. new (h.reached v next.list ∙ e));
      others = others_stay b c v u next.more;
    }

    pub new_within : end < length runs
    new_within = place_fits n (runs_of whole) (runs_of b) (runs_of c) v (one_of u) ends runs next.list run_more next.fits h.filled

    pub begun_new : AreBegun runs_in run_mark no_run n whole c (set ends v (end + 1)) (set reach v (u + 1)) (set runs end (record { from = u; to = u + 1 }))
    begun_new = record {
      filled =
          let e : suc u ≡ u + 1 = omega arith in
          subst (λ (to : ℕ). AreFilled no_run n (runs_of whole) (runs_of c) (set ends v (end + 1)) (set runs end (record { from = u; to = to }))) e
          (place_more n (runs_of whole) (runs_of b) (runs_of c) v (one_of u) ends runs next.list run_more next.fits h.filled);
      places = length-set reach v (u + 1) ∙ h.places;
      reached = reached_now b c v u next.more n next.list reach h.places h.reached;
    }

  module _ (few : length ends ≤ MOST_PAGES_IN_RUNS) (old : get_or reach v 0 ≡ u) where
    small : u < MOST_PAGES_IN_RUNS
    small = omega (arith, target_there.2, few)

    same : last_to (runs_of b v) ≡ u
    same = sym (h.reached v next.list) ∙ old

    some : 0 < length (runs_of b v)
    some = some_before b c v u next.more small same

    as_many : length (runs_of c v) ≡ length (runs_of b v)
    as_many = as_many_runs b c v u next.more small same

    abbrev l : ℕ
    l = length (runs_of b v) - 1

    is_last : end - 1 ≡ start (runs_of whole) v + l
    is_last = omega (arith, h.filled.reached v next.list, some)

    abbrev x : PageRun
    x = record { from = (get_or runs (end - 1) no_run).from; to = suc u }

    -- the last run, made longer
    abbrev longer_run : PageRun
    longer_run = record { from = (get_or (runs_of b v) l no_run).from; to = suc u }

    read : get_or runs (end - 1) no_run ≡ get_or (runs_of b v) l no_run
    read = ap (λ (m : ℕ). get_or runs m no_run) is_last ∙ h.filled.members v next.list l (omega (arith, some))

    now : runs_of c v ≡ set (runs_of b v) l longer_run
    now = now_longer b c v u next.more small same

    here_longer : get_or (runs_of c v) l no_run ≡ x
    here_longer =
        ap (λ (r : List PageRun). get_or r l no_run) now ∙ get_or-set_same (runs_of b v) l longer_run no_run (omega (arith, some)) ∙ ap (λ (r : PageRun). record { from = r.from; to = suc u }) (sym read)

    kept_longer : (i : ℕ) → i < length (runs_of c v) → i ≢ l → (i < length (runs_of b v)) × (get_or (runs_of c v) i no_run ≡ get_or (runs_of b v) i no_run)
    kept_longer i i_lt away =
        (omega (arith, as_many), ap (λ (r : List PageRun). get_or r i no_run) now ∙ get_or-set_other (runs_of b v) l i longer_run no_run away)

    inside : l < length (runs_of c v)
    inside = omega (arith, as_many, some)

    pub longer_within : end - 1 < length runs
    longer_within = place_within no_run n (runs_of whole) (runs_of b) (runs_of c) v next.list next.fits (others_stay b c v u next.more) l x inside here_longer kept_longer runs (end - 1) h.filled.room is_last

    ended_longer : (w : ℕ) → w < n → get_or ends w 0 ≡ start (runs_of whole) w + length (runs_of c w)
    ended_longer w w_lt = grind (arith, h.filled.reached, as_many, others_stay b c v u next.more)

    pub begun_longer : AreBegun runs_in run_mark no_run n whole c ends (set reach v (u + 1)) (set runs (end - 1) (record { from = (get_or runs (end - 1) no_run).from; to = u + 1 }))
    begun_longer = record {
      filled =
          let e : suc u ≡ u + 1 = omega arith in
          subst (λ (to : ℕ). AreFilled no_run n (runs_of whole) (runs_of c) ends (set runs (end - 1) (record { from = (get_or runs (end - 1) no_run).from; to = to }))) e
          (place_at no_run n (runs_of whole) (runs_of b) (runs_of c) v next.list next.fits (others_stay b c v u next.more) l x inside here_longer kept_longer ends ends runs (end - 1) is_last h.filled h.filled.pages ended_longer);
      places = length-set reach v (u + 1) ∙ h.places;
      reached = reached_now b c v u next.more n next.list reach h.places h.reached;
    }

-- ---- the arcs of page k, of which j are counted

module _ (g : Digraph) (k j : ℕ) (list : List ℕ) (is : IsListOf g k list) where
  abbrev pub runs_with : ℕ → List PageRun
  runs_with = runs_of (with_page g k (take j list))

  pub runs_few : (v : ℕ) → length (runs_with v) ≤ k + 1
  runs_few v =
      let le = subst (λ (l : List ℕ). length (runs_in (with_page g k (take j l) v)) ≤ length (runs_below g (k + 1) v)) (sym is.is) (seen_le runs_in more_runs g k j v) in
      omega (arith, le, few_runs (predecessors_below g (k + 1) v), where_few (λ u. has_arc g u v) (k + 1))

  -- behind the last arc
  pub runs_done : length list ≤ j → (v : ℕ) → runs_with v ≡ runs_below g (k + 1) v
  runs_done past v = ap runs_in (ap (λ (seen : List ℕ). with_page g k seen v) (take_all j list past ∙ is.is) ∙ sym (all_seen g k v))

-- lists that are equal page by page have the same counts and ends
pub same_counted : (n : ℕ) (b c : ℕ → List PageRun) (counts reach : List ℕ) → ((v : ℕ) → b v ≡ c v) → AreCounted n b counts reach → AreCounted n c counts reach
same_counted n b c counts reach same h = subst (λ (f : ℕ → List PageRun). AreCounted n f counts reach) (λ i v. same v i) h

-- where the next arc of page k is counted
module _ (k j : ℕ) (list : List ℕ) (lt : j < length list) where
  abbrev t : ℕ
  t = get_or list j 0

  pub target_counted : (old_counts old_reach counts reach : List ℕ) → (g : Digraph) × IsListOf g k list × AreCounted g.nodes (runs_below g k) old_counts old_reach
      → ((g : Digraph) → IsListOf g k list → AreCounted g.nodes (runs_below g k) old_counts old_reach → AreCounted g.nodes (runs_of (with_page g k (take j list))) counts reach)
      → (get_or counts t 0 ≤ k + 1) × (k < length counts)
  target_counted old_counts old_reach counts reach r inv =
      let h = inv r.0 r.1 r.2 in
      let below = target_below r.0 k j list r.1 lt in
      let page = r.1.page in
      (omega (arith, h.counted.each t below, runs_few r.0 k j list r.1 t), omega (arith, page, h.counted.pages))
