use Rattle.std.proofs.Common.{◌≡◌, ◌+◌, ◌≤◌, ◌∙◌, List, ℕ, length, refl, sym, subst, ap, arith}
use Rattle.wg_outside.proofs.PutsLemmas.{is_that_err}
use Rattle.wg_params.specs.declared.limits.TheConstants.{MOST_ARCS, MOST_PAGES}
use Rattle.wg_num.specs.Lines.{lines_of}
use Rattle.wg_ascii.specs.Growing.{PageLinesRead, HasList, HasNoList}
use Rattle.wg_ascii.proofs.PageLemmas.{page_read, page_refused}
use Rattle.wg_ascii.proofs.page_lines.PageLines.read_page.Goals as goal

pub overflow_add-self-inside : goal.overflow_add-self-inside
overflow_add-self-inside c =
    let is = sym c.self.view_is in
    omega (arith, subst (λ (l : PageLinesRead). l.line ≤ l.nodes) is c.requires.page, subst (λ (l : PageLinesRead). l.nodes ≤ MOST_PAGES) is c.requires.few)

pub read_first-requires : goal.read_first-requires
read_first-requires c =
    let is = sym c.self.view_is in
    record {
      some = c.requires.some;
      pages = subst (λ (l : PageLinesRead). l.nodes ≤ MOST_PAGES) is c.requires.few;
      arcs = subst (λ (l : PageLinesRead). l.arcs ≤ MOST_ARCS) is c.requires.arcs;
    }

pub returns-in_err-after : goal.returns-in_err-after
returns-in_err-after c =
    let s = c.args.self.now in
    let is = c.self.view_is in
    let lines = lines_of c.args.bytes.now in
    let e = c.in_err-after.field-0.0 in
    let line = c.self.inside.line + 1 in
    rw (is_that_err c.from_residual.result _ c.from_residual.ensures.1) record {
      nodes = refl;
      line = tt;
      arcs = tt;
      room = tt;
      ascends = tt;
      below = tt;
      shorter = tt;
      read = λ all later lists h. tt;
      fault = λ all later lists h.
          page_refused all lines later lists s line e c.requires.page (ap (λ (l : PageLinesRead). l.line + 1) is)
          (subst (λ (l : PageLinesRead). HasNoList line l.nodes l.arcs lines e) is c.in_err-after.ensures.err) h;
    }

pub pass_page-requires : goal.pass_page-requires
pass_page-requires c =
    let s = c.args.self.now in
    let list = c.read_first.new.list in
    let room = subst (λ (l : PageLinesRead). l.arcs + length list ≤ MOST_ARCS) c.self.view_is c.in_ok-after.ensures.list.2.room in
    record {
      line = omega (arith, c.requires.page, c.requires.few);
      arcs = omega (arith, room, ap length c.as_slice.ensures);
    }

pub returns : goal.returns
returns c =
    let s = c.args.self.now in
    let t = c.pass_page.new.self in
    let list = c.read_first.new.list in
    let lines = lines_of c.args.bytes.now in
    let after = lines_of c.in_ok-after.after.now in
    let is = subst (λ (l : PageLinesRead). HasList l.nodes l.arcs lines after list) c.self.view_is c.in_ok-after.ensures.list in
    let nodes = ap (λ (l : PageLinesRead). l.nodes) c.pass_page.ensures in
    let line = ap (λ (l : PageLinesRead). l.line) c.pass_page.ensures in
    let arcs : t.arcs ≡ s.arcs + length list = ap (λ (l : PageLinesRead). l.arcs) c.pass_page.ensures ∙ ap (λ (l : List ℕ). s.arcs + length l) c.as_slice.ensures in
    record {
      nodes = nodes;
      line = line;
      arcs = arcs;
      room = subst (λ (n : ℕ). n ≤ MOST_ARCS) (sym arcs) is.2.room;
      ascends = is.2.ascends;
      below = is.2.below;
      shorter = c.in_ok-after.ensures.shorter;
      read = λ all later lists h. page_read all lines later after lists list s t c.requires.page is nodes line arcs h;
      fault = λ all later lists h. tt;
    }
