-- Quotients by single pages, and of transposed graphs.
use Rattle.std.proofs.Common.{◌≡◌, ℕ, zero, suc, ◌+◌, ◌≤◌, true, List, length, refl, sym, subst, ◌∙◌, arith}
use Rattle.std.specs.List.{range_with_len}
use Rattle.std.proofs.lemmas.List.FromFn.{length-range_with_len, get_or-range_with_len}
use Rattle.wg_graph.specs.Ascending.{Below}
use Rattle.wg_graph.specs.Digraph.{Digraph, IsGraph}
use Rattle.wg_graph.specs.Arcs.{has_arc}
use Rattle.wg_transpose.specs.Transposed.{transposed}
use Rattle.wg_transpose.proofs.Reversed.{are_reversed}
use Rattle.wg_transpose.proofs.Reversed as Reversed
use Rattle.wg_shape.specs.Quotient.{Leads, quotient_of}
use Rattle.wg_shape.proofs.Quotients.{is_quotient, is_proper, one_quotient, arc_from, arc_to}

below_range : (a n m : ℕ) → a + n ≤ m → Below m (range_with_len a n)
below_range a zero m le = tt
below_range a (suc n) m le = (omega arith, below_range (a + 1) n m (omega arith))

module _ (g : Digraph) (ok : IsGraph g) where
  own : (u v : ℕ) → has_arc g u v ≡ true → Leads g (range_with_len 0 g.nodes) u v
  own u v arc = record {
    from = u;
    to = v;
    arc = arc;
    leaves = get_or-range_with_len 0 g.nodes u 0 (arc_from g ok u v arc) ∙ omega arith;
    arrives = get_or-range_with_len 0 g.nodes v 0 (arc_to g ok u v arc) ∙ omega arith;
  }

  back : (i j : ℕ) → Leads g (range_with_len 0 g.nodes) i j → has_arc g i j ≡ true
  back i j l =
      let i_is : l.from ≡ i = omega (arith, get_or-range_with_len 0 g.nodes l.from 0 (arc_from g ok l.from l.to l.arc), l.leaves) in
      let j_is : l.to ≡ j = omega (arith, get_or-range_with_len 0 g.nodes l.to 0 (arc_to g ok l.from l.to l.arc), l.arrives) in
      subst (λ k. has_arc g i k ≡ true) j_is (subst (λ k. has_arc g k l.to ≡ true) i_is l.arc)

  pub by_pages : quotient_of g (range_with_len 0 g.nodes) g.nodes ≡ g
  by_pages =
      let classes : List ℕ = range_with_len 0 g.nodes in
      one_quotient g classes g.nodes (quotient_of g classes g.nodes) g (is_quotient g ok classes g.nodes (length-range_with_len 0 g.nodes) (below_range 0 g.nodes g.nodes (omega arith)))
      (record { nodes = refl; proper = ok; arcs = λ i j. (own i j, back i j) })

  module _ (classes : List ℕ) (n : ℕ) (size : length classes ≡ g.nodes) (below : Below n classes) where
    abbrev q : Digraph
    q = quotient_of g classes n

    there : (i j : ℕ) → has_arc (transposed q) i j ≡ true → Leads (transposed g) classes i j
    there i j arc =
        let l = ((is_quotient g ok classes n size below).arcs j i).0 (sym (are_reversed q (is_proper g classes n) j i) ∙ arc) in
        record { from = l.to; to = l.from; arc = are_reversed g ok l.from l.to ∙ l.arc; leaves = l.arrives; arrives = l.leaves }

    and_back : (i j : ℕ) → Leads (transposed g) classes i j → has_arc (transposed q) i j ≡ true
    and_back i j l =
        let r : Leads g classes j i = record { from = l.to; to = l.from; arc = sym (are_reversed g ok l.to l.from) ∙ l.arc; leaves = l.arrives; arrives = l.leaves } in
        are_reversed q (is_proper g classes n) j i ∙ ((is_quotient g ok classes n size below).arcs j i).1 r

    pub of_transposed : quotient_of (transposed g) classes n ≡ transposed (quotient_of g classes n)
    of_transposed =
        one_quotient (transposed g) classes n (quotient_of (transposed g) classes n) (transposed q) (is_quotient (transposed g) (Reversed.is_proper g) classes n size below)
        (record { nodes = refl; proper = Reversed.is_proper q; arcs = λ i j. (there i j, and_back i j) })
