use Rattle.std.proofs.Common.{◌≡◌, ◌++◌, ◌∙◌, ℕ, List, length, sym, subst, arith, rules}
use Rattle.std.specs.Prelude.{option_to_list}
use Rattle.wg_num.specs.Lines.{lines_of}
use Rattle.wg_num.proofs.Cuts.{no_lines}
use Rattle.wg_arcs.specs.{Growing.SoFar, Listing.arcs_on}
use Rattle.wg_arcs.proofs.Order.{Arc}
use Rattle.wg_outcomes.proofs.WritingLemmas.{if_that_err}
use Rattle.wg_builds.specs.Listed.{IsFault, done_at}
use Rattle.wg_builds.proofs.ListingLemmas.{may_take, moved_on}
use Rattle.wg_builds.proofs.listing.take_lines.Goals as goal

pub returns-in_err-next-clause-fault : goal.returns-in_err-next-clause-fault
returns-in_err-next-clause-fault c = λ done all later w so.
    let i = c.lines.invariant in
    let x = i.way done w in
    let s = c.lines.lines in
    let here : SoFar s.nodes all (lines_of c.lines.rest.now ++ later) s.line (arcs_on x.0 c.lines.list) =
    subst (λ (n : ℕ). SoFar n all (lines_of c.lines.rest.now ++ later) s.line (arcs_on x.0 c.lines.list)) (sym i.nodes) (x.2 all later so) in
    if_that_err _ _ _ c.from_residual.ensures.1
    (subst (λ (n : ℕ). IsFault n all c.in_err-next.field-0.0) i.nodes (c.in_err-next.ensures.fault x.0 all later (sym x.1.encoded.page ∙ sym c.page.ensures.value) x.1.listed here))

pub begin_page-requires : goal.begin_page-requires
begin_page-requires c =
    let x = c.lines.invariant.way c.requires.way.0 c.requires.way.1 in
    let r = c.in_ok-next.ensures in
    let filled = r.listed x.0 (sym x.1.encoded.page ∙ sym c.page.ensures.value) x.1.listed in
    may_take c.lines.encoder x.0 c.fill.new.list c.in_ok-next.next c.fill.new.self x.1.encoded (x.1.nodes ∙ sym r.nodes) x.1.most filled

pub lines-preserved : goal.lines-preserved
lines-preserved c =
    let i = c.lines.invariant in
    let s = c.lines.lines in
    let t = c.fill.new.self in
    let r = c.in_ok-next.ensures in
    let e = c.in_ok-encoder.ensures in
    let next = c.in_ok-next.next in
    let list = c.fill.new.list in
    record {
      params = e.params ∙ i.params;
      nodes = r.nodes ∙ i.nodes;
      line = omega (arith, i.line, r.line);
      way = λ done w.
          let x = i.way done w in
          let at : length x.0 ≡ c.page.result = sym x.1.encoded.page ∙ sym c.page.ensures.value in
          let m = moved_on c.lines.encoder c.in_ok-encoder.encoder list c.begin_page.new.list t x.0 next (x.1.nodes ∙ sym r.nodes) x.1.most (r.listed x.0 at x.1.listed) e.params e.list (e.encoded x.0 x.1.encoded) in (
            done_at next x.0 list,
            m.0,
            λ all later so.
                let here : SoFar s.nodes all (lines_of c.lines.rest.now ++ later) s.line (arcs_on x.0 c.lines.list) =
                subst (λ (n : ℕ). SoFar n all (lines_of c.lines.rest.now ++ later) s.line (arcs_on x.0 c.lines.list)) (sym i.nodes) (x.2 all later so) in
                let ahead = lines_of c.in_ok-next.after.now ++ later in
                subst (λ (arcs : List Arc). SoFar c.args.lines.now.nodes all ahead t.line arcs) (sym m.1)
                (subst (λ (n : ℕ). SoFar n all ahead t.line (arcs_on x.0 list ++ option_to_list next)) i.nodes (r.read x.0 all later at x.1.listed here)),
          );
    }

pub returns-clause-goes_on : goal.returns-clause-goes_on
returns-clause-goes_on c = λ done w.
    let x = c.lines.invariant.way done w in
    let none : length c.lines.rest.now ≡ 0 = search rules in
    record {
      done = x.0;
      way = x.1;
      reads = λ all later so. subst (λ (ls : List (List ℕ)). SoFar c.args.lines.now.nodes all (ls ++ later) c.lines.lines.line (arcs_on x.0 c.lines.list)) (no_lines c.lines.rest.now none) (x.2 all later so);
    }
