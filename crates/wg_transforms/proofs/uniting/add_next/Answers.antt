use Rattle.std.proofs.Common.{◌≡◌, ◌∙◌, ℕ, ◌+◌, ◌-◌, ◌<◌, ◌≤◌, max, List, [], ◌∷◌, ◌++◌, length, sym, ap, subst, arith}
use Rattle.wg_outside.proofs.PutsLemmas.{is_that_err}
use Rattle.std.proofs.lemmas.List.FromFn.{map-range_with_len_more}
use Rattle.wg_params.specs.{Parameters.Parameters, declared.limits.TheConstants.MOST_ARCS}
use Rattle.wg_graph.specs.Digraph.{Digraph, arc_count}
use Rattle.wg_encoder.specs.ArchiveInMemory.{EncodedSoFar, HasEncoded}
use Rattle.wg_greedy.specs.Laws.{IsList}
use Rattle.wg_shape.specs.Graphs.{AreAt, both, lists_of, union_graph}
use Rattle.wg_shape.proofs.GraphUnions.{both_ascends, both_below, part_le}
use Rattle.wg_transforms.specs.Uniting.{IsUniting}
use Rattle.wg_transforms.proofs.EncodingLemmas.{next_page, no_arcs}
use Rattle.wg_transforms.proofs.uniting.add_next.Goals as goal

module _ (g h : Digraph) (a b : ℕ) (e : EncodedSoFar) (way : IsUniting g a h b e) (more : e.page < e.params.nodes) (list : List ℕ) (is : list ≡ both g h e.page) where
  abbrev x : ℕ
  x = e.page

  is_list : IsList e.params list
  is_list =
      subst (IsList e.params) (sym is) (record {
        ascends = both_ascends g h way.first way.second x;
        below = both_below g h way.first way.second e.params.nodes x (omega (arith, way.nodes)) (omega (arith, way.nodes));
      })

  -- more arcs than there may be
  too_many : MOST_ARCS < e.arcs + length list → MOST_ARCS < arc_count (union_graph g h)
  too_many lt = omega (arith, lt, ap (λ (l : List ℕ). length l) is, way.encoded.arcs, part_le g h x (max g.nodes h.nodes) (omega (arith, more, way.nodes)))

  -- the list is encoded
  one_on : (a' b' : ℕ) (e' : EncodedSoFar) → e'.params ≡ e.params → e'.page ≡ e.page + 1 → HasEncoded e' (lists_of g h x ++ list ∷ []) → AreAt (x + 1) g a' h b' → IsUniting g a' h b' e'
  one_on a' b' e' params page encoded at = record {
    first = way.first;
    second = way.second;
    nodes = ap (λ (p : Parameters). p.nodes) params ∙ way.nodes;
    most = ap (λ (p : Parameters). p.arcs) params ∙ way.most;
    place = subst (λ (n : ℕ). AreAt n g a' h b') (sym page) at;
    encoded = subst (HasEncoded e') lists encoded;
  }
    where
      lists : lists_of g h x ++ list ∷ [] ≡ lists_of g h e'.page
      lists = ap (λ (l : List ℕ). lists_of g h x ++ l ∷ []) is ∙ sym (map-range_with_len_more (both g h) 0 x x (omega arith)) ∙ ap (lists_of g h) (sym page)

-- there is no room for so many numbers more
past_room : (m a b n : ℕ) → MOST_ARCS - a < n → a ≡ b → a ≤ m → m ≡ MOST_ARCS → MOST_ARCS < b + n
past_room m a b n past is within most = omega (arith, past, is, within, most)

pub returns-in_err-next_union : goal.returns-in_err-next_union
returns-in_err-next_union g c =
    let n = c.next_union.ensures in
    rw (is_that_err c.from_residual.result _ c.from_residual.ensures.1) record {
      way = tt;
      params = tt;
      page = tt;
      too_many = λ is. no_arcs _ _ is;
      first = n.first_graph;
      second = n.second_graph;
    }

pub returns-then-arcs-as_slice : goal.returns-then-arcs-as_slice
returns-then-arcs-as_slice g c =
    let way = c.requires.way in
    let n = c.next_union.ensures in
    let is = c.as_slice.ensures ∙ c.in_ok-next_union.ensures.list c.args.encoder.page way.place in
    record {
      way = tt;
      params = tt;
      page = tt;
      too_many = λ e. too_many _ _ _ _ c.args.encoder way c.requires.page c.as_slice.result.now is
          (past_room _ _ _ _ c.if-arcs-as_slice.true c.arcs.ensures.value c.arcs.ensures.within way.most);
      first = n.first_graph;
      second = n.second_graph;
    }

pub returns-in_err-encoder : goal.returns-in_err-encoder
returns-in_err-encoder g c =
    let n = c.next_union.ensures in
    rw (is_that_err c.from_residual-in_err-encoder.result _ c.from_residual-in_err-encoder.ensures.1) record {
      way = tt;
      params = tt;
      page = tt;
      too_many = λ is. no_arcs _ _ is;
      first = n.first_graph;
      second = n.second_graph;
    }

pub add-requires-clause-list : goal.add-requires-clause-list
add-requires-clause-list g c =
    let way = c.requires.way in
    is_list _ _ _ _ c.args.encoder way c.requires.page c.as_slice-2.result.now (c.as_slice-2.ensures ∙ c.in_ok-next_union.ensures.list c.args.encoder.page way.place)

pub returns : goal.returns
returns g c =
    let way = c.requires.way in
    let n = c.next_union.ensures in
    let e = c.in_ok-encoder.ensures in
    record {
      way =
          one_on _ _ _ _ c.args.encoder way c.requires.page c.as_slice-2.result.now (c.as_slice-2.ensures ∙ c.in_ok-next_union.ensures.list c.args.encoder.page way.place)
          _ _ c.in_ok-encoder.encoder e.params e.page (e.encoded _ way.encoded) (n.go c.args.encoder.page way.place);
      params = e.params;
      page = next_page _ _ e.page;
      too_many = tt;
      first = n.first_graph;
      second = n.second_graph;
    }
