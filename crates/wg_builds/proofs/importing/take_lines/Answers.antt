use Rattle.std.proofs.Common.{rules, ◌<◌, ◌≤◌, ◌++◌, ◌∷◌, ◌∙◌, [], List, ℕ, length, ap, sym, subst, arith}
use Rattle.wg_params.specs.Parameters.{Parameters}
use Rattle.wg_encoder.specs.ArchiveInMemory.{HasEncoded}
use Rattle.wg_outcomes.proofs.WritingLemmas.{if_that_err}
use Rattle.wg_builds.proofs.ImportingLemmas.{blank_pace}
use Rattle.wg_builds.proofs.importing.take_lines.Goals as goal

pub returns-in_err-rest-clause-fault : goal.returns-in_err-rest-clause-fault
returns-in_err-rest-clause-fault c = λ all later done h up.
    let x = c.pages.invariant.goes done h in
    if_that_err _ _ _ c.from_residual.ensures.1 (c.in_err-rest.ensures.fault all later x.0 (x.2 all later up))

pub pages-preserved : goal.pages-preserved
pages-preserved c =
    let i = c.pages.invariant in
    let r = c.in_ok-rest.ensures in
    let e = c.in_ok-encoder.ensures in
    let f = c.in_ok-encoder.encoder in
    let s = c.pages.lines in
    let left : s.line ≤ s.nodes = search rules in
    let k = i.pace in
    record {
      params = e.params ∙ i.params;
      nodes = r.nodes ∙ i.nodes;
      line = omega (arith, i.line, r.line, r.shorter);
      pace = record {
        nodes = ap (λ (p : Parameters). p.nodes) e.params ∙ k.nodes ∙ sym r.nodes;
        few = omega (arith, r.nodes, k.few);
        most = ap (λ (p : Parameters). p.arcs) e.params ∙ k.most;
        arcs = omega (arith, e.arcs, ap (λ (l : List ℕ). length l) c.as_slice.ensures, k.arcs, r.arcs);
        room = r.room;
        page = λ le. omega (arith, e.page, r.line, k.page left);
        over = λ lt. omega (arith, e.page, r.line, r.nodes, k.page left);
      };
      goes = λ done h.
          let x = i.goes done h in (
            x.0 ++ c.read_page.new.list ∷ [],
            subst (λ (l : List ℕ). HasEncoded f (x.0 ++ l ∷ [])) c.as_slice.ensures (e.encoded x.0 x.1),
            λ all later up. r.read all later x.0 (x.2 all later up),
          );
    }

pub returns-in_err-refuse_words-clause-fault : goal.returns-in_err-refuse_words-clause-fault
returns-in_err-refuse_words-clause-fault c = λ all later done h up.
    let x = c.pages.invariant.goes done h in
    if_that_err _ _ _ c.from_residual-in_err-refuse_words.ensures.1 (c.in_err-refuse_words.ensures.fault all later x.0 (x.2 all later up))

pub returns-clause-pace : goal.returns-clause-pace
returns-clause-pace c =
    let r = c.in_ok-refuse_words.ensures in
    let behind : 0 < length c.pages.rest.now → c.pages.lines.nodes < c.pages.lines.line = search rules in
    blank_pace c.pages.encoder c.pages.lines c.refuse_words.new.self (length c.pages.rest.now) c.pages.invariant.pace behind r.nodes r.arcs r.onward r.line

pub returns-clause-goes_on : goal.returns-clause-goes_on
returns-clause-goes_on c = λ done h.
    let x = c.pages.invariant.goes done h in
    record { lists = x.0; encoded = x.1; reads = λ all later up. c.in_ok-refuse_words.ensures.read all later x.0 (x.2 all later up) }
