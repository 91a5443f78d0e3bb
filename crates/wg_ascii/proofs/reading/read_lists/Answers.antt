use Rattle.std.proofs.Common.{◌≤◌, ◌++◌, ◌∷◌, ◌∙◌, [], ℕ, List as ListOf, length, sum_by, refl, sym, ap, subst, arith}
use Rattle.std.proofs.lemmas.Bool.{eqb-true, leb-true, leb-false}
use Rattle.std.proofs.lemmas.List.{length_push}
use Rattle.std.proofs.lemmas.List.Sums.{sum_by_push}
use Rattle.wg_outside.proofs.PutsLemmas.{is_that_err}
use Rattle.wg_params.specs.declared.limits.TheConstants.{MOST_PAGES}
use Rattle.wg_num.specs.Lines.{lines_of}
use Rattle.wg_graph.specs.Ascending.{Ascends, Below}
use Rattle.wg_ascii.specs.Growing.{IsUpTo}
use Rattle.wg_ascii.proofs.PageLemmas.{is_left}
use Rattle.wg_ascii.proofs.reading.read_lists.Goals as goal
use Rattle.wg_ascii.proofs.reading.read_lists.Goals.{then-pages-test+else-is_page, else-pages-test}

pub pages-init : goal.pages-init
pages-init c =
    let r = c.requires in
    let lines = c.args.lines.now in
    record {
      nodes = refl;
      same = refl;
      count = omega (arith, ap length r.none, r.first);
      page = omega (arith, r.first);
      arcs = ap (sum_by (λ (l : ListOf ℕ). length l)) r.none ∙ sym r.arcs;
      few = omega (arith, r.arcs);
      shorter = omega arith;
      read = λ all later h.
          subst (λ (ls : ListOf (ListOf ℕ)). IsUpTo all (lines_of c.args.bytes.now ++ later) ls lines) (sym r.none) h;
    }

pub read_page-requires : goal.read_page-requires
read_page-requires c =
    let v = c.pages.invariant in
    record {
      some = is_left _ c.pages-test.ensures;
      page = leb-true _ _ (sym c.if-is_page.ensures);
      few = subst (λ (n : ℕ). n ≤ MOST_PAGES) (sym v.nodes) c.requires.few;
      arcs = v.few;
    }

pub returns-in_err-rest : goal.returns-in_err-rest
returns-in_err-rest c =
    let v = c.pages.invariant in
    rw (is_that_err c.from_residual.result _ c.from_residual.ensures.1) record {
      nodes = c.in_err-rest.ensures.nodes ∙ v.nodes;
      same = tt;
      few = tt;
      shorter = tt;
      over = tt;
      read = λ all later h. tt;
      fault = λ all later h. c.in_err-rest.ensures.fault all later c.pages.builder.lists (v.read all later h);
    }

pub push_list-requires : goal.push_list-requires
push_list-requires c =
    let v = c.pages.invariant in
    let n = c.in_ok-rest.ensures in
    record {
      page = omega (arith, v.count, leb-true _ _ (sym c.if-is_page.ensures), v.nodes, c.requires.nodes, v.same);
      ascends = subst (Ascends 0) (sym c.as_slice.ensures) n.ascends;
      below =
          subst (λ (pages : ℕ). Below pages c.as_slice.result.now) (v.nodes ∙ c.requires.nodes ∙ sym v.same)
          (subst (Below c.pages.lines.nodes) (sym c.as_slice.ensures) n.below);
      room = omega (arith, v.arcs, n.arcs, n.room, ap length c.as_slice.ensures);
    }

pub pages-smaller : goal.pages-smaller
pages-smaller c = c.in_ok-rest.ensures.shorter

pub pages-preserved : goal.pages-preserved
pages-preserved c =
    let v = c.pages.invariant in
    let n = c.in_ok-rest.ensures in
    let more = c.in_ok-push_list.ensures.ok in
    let lists = c.pages.builder.lists in
    record {
      nodes = n.nodes ∙ v.nodes;
      same = c.in_ok-push_list.ensures.nodes ∙ v.same;
      count = omega (arith, ap length more, length_push lists c.as_slice.result.now, v.count, n.line);
      page = omega (arith, leb-true _ _ (sym c.if-is_page.ensures), n.line, n.nodes);
      arcs =
          ap (sum_by (λ (l : ListOf ℕ). length l)) more
          ∙ omega (arith, sum_by_push (λ (l : ListOf ℕ). length l) lists c.as_slice.result.now, v.arcs, n.arcs, ap length c.as_slice.ensures);
      few = n.room;
      shorter = omega (arith, n.shorter, v.shorter);
      read = λ all later h.
          let s = c.read_page.new.self in
          subst (λ (ls : ListOf (ListOf ℕ)). IsUpTo all (lines_of c.in_ok-rest.rest.now ++ later) ls s)
          (sym (more ∙ ap (λ (l : ListOf ℕ). lists ++ l ∷ []) c.as_slice.ensures))
          (n.read all later lists (v.read all later h));
    }

pub returns-in_err-push_list : goal.returns-in_err-push_list
returns-in_err-push_list c =
    rw (is_that_err c.from_residual-in_err-push_list.result _ c.from_residual-in_err-push_list.ensures.1) record {
      nodes = c.in_ok-rest.ensures.nodes ∙ c.pages.invariant.nodes;
      same = tt;
      few = tt;
      shorter = tt;
      over = tt;
      read = λ all later h. tt;
      fault = λ all later h. tt;
    }

pub returns : goal.returns
returns c =
    let v = c.pages.invariant in
    record {
      nodes = v.nodes;
      same = v.same;
      few = omega (arith, v.page, v.nodes, c.requires.few);
      shorter = v.shorter;
      over = λ some. elim c.pages-test.branch [
        | then-pages-test+else-is_page w ↦ leb-false _ _ (sym w.if-is_page.ensures)
        | else-pages-test w ↦ absurd (omega (arith, eqb-true _ 0 (sym w.pages-test.ensures), some))
      ];
      read = v.read;
      fault = λ all later h. tt;
    }
