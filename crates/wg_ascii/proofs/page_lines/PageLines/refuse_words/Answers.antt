use Rattle.std.proofs.Common.{◌≢◌, ◌≡◌, ◌++◌, ◌+◌, [], ◌∙◌, ℕ, List, refl, sym, ap, subst, arith}
use Rattle.wg_num.specs.Lines.{lines_of}
use Rattle.wg_num.specs.Words.{words_of}
use Rattle.wg_num.proofs.Cuts.{no_lines}
use Rattle.wg_ascii.specs.Growing.{IsFirst, IsUpTo, PageLinesRead}
use Rattle.std.proofs.lemmas.Bool.{eqb-true}
use Rattle.wg_ascii.proofs.Whole.{is_some_word, is_no_word}
use Rattle.wg_ascii.proofs.PageLemmas.{blank_read, word_refused, is_left}
use Rattle.wg_ascii.proofs.page_lines.PageLines.refuse_words.Goals as goal

pub lines-init : goal.lines-init
lines-init c = record {
  nodes = refl;
  arcs = refl;
  onward = omega arith;
  line = omega arith;
  over = c.requires.over;
  read = λ all later lists h. h;
}

pub first_line-requires : goal.first_line-requires
first_line-requires c = is_left _ c.lines-test.ensures

pub returns-then-is_some : goal.returns-then-is_some
returns-then-is_some c =
    let i = c.lines.invariant in
    record {
      nodes = i.nodes;
      arcs = i.arcs;
      onward = tt;
      line = tt;
      read = λ all later lists h. tt;
      fault = λ all later lists h.
          let s = c.lines.self in
          let some : words_of c.first_line.result.0.now ≢ [] =
          is_some_word c.next_word.result _ c.next_word.ensures.words (sym c.if-is_some.ensures) in
          subst (IsFirst all) (sym c.fault.ensures)
          (word_refused all (lines_of c.lines.rest.now) later (lines_of c.first_line.result.1.now) lists
          c.first_line.result.0.now s (s.line + 1)
          (i.over (is_left _ c.lines-test.ensures)) refl c.first_line.ensures.lines some (i.read all later lists h));
    }

pub fault-requires : goal.fault-requires
fault-requires c =
    omega (arith, c.lines.invariant.line, c.requires.line, is_left _ c.lines-test.ensures)

pub pass-requires : goal.pass-requires
pass-requires c =
    omega (arith, c.lines.invariant.line, c.requires.line, is_left _ c.lines-test.ensures)

pub lines-smaller : goal.lines-smaller
lines-smaller c = c.first_line.ensures.shorter

pub lines-preserved : goal.lines-preserved
lines-preserved c =
    let s = c.lines.self in
    let t = c.pass.new.self in
    let is = c.pass.ensures in
    let nodes = ap (λ (l : PageLinesRead). l.nodes) is in
    let line = ap (λ (l : PageLinesRead). l.line) is in
    let arcs : t.arcs ≡ s.arcs = ap (λ (l : PageLinesRead). l.arcs) is in
    let i = c.lines.invariant in
    let over = i.over (is_left _ c.lines-test.ensures) in
    let none : words_of c.first_line.result.0.now ≡ [] =
    is_no_word c.next_word.result _ c.next_word.ensures.words (sym c.if-is_some.ensures) in
    record {
      nodes = nodes ∙ i.nodes;
      arcs = arcs ∙ i.arcs;
      onward = omega (arith, line, i.onward);
      line = omega (arith, line, i.line, c.first_line.ensures.shorter);
      over = λ some. omega (arith, nodes, line, over);
      read = λ all later lists h.
          blank_read all (lines_of c.lines.rest.now) later (lines_of c.first_line.result.1.now) lists
          c.first_line.result.0.now s t
          over c.first_line.ensures.lines none nodes line arcs (i.read all later lists h);
    }

pub returns : goal.returns
returns c =
    let i = c.lines.invariant in
    record {
      nodes = i.nodes;
      arcs = i.arcs;
      onward = i.onward;
      line = omega (arith, i.line);
      read = λ all later lists h.
          subst (λ (ls : List (List ℕ)). IsUpTo all (ls ++ later) lists c.lines.self)
          (no_lines c.lines.rest.now (eqb-true _ 0 (sym c.lines-test.ensures))) (i.read all later lists h);
      fault = λ all later lists h. tt;
    }
