-- What stands for the pages that link to each page, while the arcs of one page are placed.
use Rattle.std.proofs.Common.{◌≡◌, ℕ, ◌+◌, ◌<◌, ◌≤◌, List, [], ◌++◌, length, take, get_or, replicate, sym, ap, subst, ◌∙◌, arith}
use Rattle.std.specs.Prelude.{sum}
use Rattle.std.proofs.lemmas.List.{get_or-replicate, take_all}
use Rattle.wg_graph.specs.Digraph.{Digraph}
use Rattle.wg_transpose.specs.Transposed.{predecessors}
use Rattle.wg_transpose.specs.SoFar.{predecessors_below, AreFilled, IsListOf}
use Rattle.wg_transpose.specs.Held.{AreBegun, AreReady, IsNext}
use Rattle.wg_transpose.specs.declared.run.TheConstants.{MOST_PAGES_IN_RUNS}
use Rattle.wg_transpose.proofs.Seen.{with_page, none_seen, all_seen}
use Rattle.wg_transpose.proofs.Steps.{page_more, page_fits, target_below}
use Rattle.wg_transpose.proofs.Whole.{none_placed}

module _ {X : Type 0} (items : List ℕ → List X) (mark : List ℕ → ℕ) (none : X) where
  same : (n : ℕ) (whole b c : ℕ → List ℕ) (ends reach : List ℕ) (all : List X) → ((v : ℕ) → b v ≡ c v)
      → AreBegun items mark none n whole b ends reach all → AreBegun items mark none n whole c ends reach all
  same n whole b c ends reach all is h = subst (λ (f : ℕ → List ℕ). AreBegun items mark none n whole f ends reach all) (λ i v. is v i) h

  -- the arcs of page k, of which j are placed
  module _ (g : Digraph) (k j : ℕ) (list : List ℕ) (is : IsListOf g k list) where
    pub next_arc : ((xs ys : List ℕ) → length (items xs) ≤ length (items (xs ++ ys))) → j < length list
        → IsNext items g.nodes (predecessors g) (with_page g k (take j list)) (with_page g k (take (j + 1) list)) (get_or list j 0) k
    next_arc more lt = record {
      list = target_below g k j list is lt;
      page = is.page;
      more = page_more g k j list is lt;
      fits = page_fits g k j list is lt items more;
    }

    pub behind_last : (ends reach : List ℕ) (all : List X) → length list ≤ j
        → AreBegun items mark none g.nodes (predecessors g) (with_page g k (take j list)) ends reach all
        → AreBegun items mark none g.nodes (predecessors g) (predecessors_below g (k + 1)) ends reach all
    behind_last ends reach all past h =
        same g.nodes (predecessors g) (with_page g k (take j list)) (predecessors_below g (k + 1)) ends reach all
        (λ v. ap (λ (seen : List ℕ). with_page g k seen v) (take_all j list past ∙ is.is) ∙ sym (all_seen g k v)) h

  pub before_first : (g : Digraph) (k : ℕ) (ends reach : List ℕ) (all : List X)
      → AreBegun items mark none g.nodes (predecessors g) (predecessors_below g k) ends reach all
      → AreBegun items mark none g.nodes (predecessors g) (with_page g k []) ends reach all
  before_first g k ends reach all h =
      same g.nodes (predecessors g) (predecessors_below g k) (with_page g k []) ends reach all (λ v. sym (none_seen g k v)) h

  -- before the first page
  pub none_begun : items [] ≡ [] → mark [] ≡ MOST_PAGES_IN_RUNS → (g : Digraph) (counts old_reach starts reach : List ℕ) (all : List X)
      → AreReady items g counts old_reach (length all) → length starts ≡ length counts
      → ((v : ℕ) → v < length counts → get_or starts v 0 ≡ sum (take v counts))
      → reach ≡ replicate (length old_reach) MOST_PAGES_IN_RUNS → length reach ≡ length old_reach
      → AreBegun items mark none g.nodes (predecessors g) (predecessors_below g 0) starts reach all
  none_begun nothing unmarked g counts old_reach starts reach all h pages begins nowhere size =
      let whole : ℕ → List X = λ v. items (predecessors g v) in
      record {
        filled =
            subst (λ (l : List X). AreFilled none g.nodes whole (λ v. l) starts all) (sym nothing)
            (none_placed g.nodes whole counts starts all h.counted pages begins h.room);
        places = size ∙ h.places;
        reached = λ v lt.
            ap (λ (l : List ℕ). get_or l v 0) nowhere
            ∙ get_or-replicate (length old_reach) v MOST_PAGES_IN_RUNS 0 (omega (arith, lt, h.places)) ∙ sym unmarked;
      }
