use Rattle.std.proofs.Common.{◌≡◌, not, Some, Ok, Err, refl, sym, ap, subst, ◌∙◌, arith}
use Rattle.std.specs.FinMap as map
use Rattle.std.proofs.lemmas.Result.{err_from_is_err_and}
use Rattle.wg_outside.specs.Outside.{Files}
use Rattle.wg_outside.specs.Reads.{Loads}
use Rattle.wg_outside.proofs.FilesLemmas.{none_falls-trans}
use Rattle.wg_outside.proofs.LoadLemmas.{no_error, no_rise, risen}
use Rattle.wg_lines.specs.Reading.{HeldLines}
use Rattle.wg_lines.proofs.LineLemmas.{none_of, passed_ahead}
use Rattle.wg_lines.proofs.ReadingLemmas.{no_answer, none_lent, not_false, some_lent}
use Rattle.wg_lines.proofs.reading.LineReader.advance.Goals as goal

pub loop-self-init : goal.loop-self-init
loop-self-init g c = record {
  first = ap (λ (h : HeldLines). h.first) c.pass.ensures.value;
  short = c.pass.ensures.short;
  lines = λ t file is. passed_ahead file c.args.self.now c.pass.new.self c.pass.ensures.value;
  same = refl;
  later = record { read_faults = λ n. omega arith; write_faults = λ n. omega arith; absences = λ n. omega arith; wants = λ n. omega arith };
}

pub returns-in_err-read_piece : goal.returns-in_err-read_piece
returns-in_err-read_piece g c =
    let d = g.D.Depot in
    let v = c.loop-self.invariant in
    let n = c.in_err-read_piece.ensures in
    let name = c.args.name.now in
    let e = err_from_is_err_and c.from_residual.result c.from_residual.ensures.1 in
    rw (e.1, e.2) record {
      lines = λ t file is. v.lines t file is ∙ sym (n.lines t file (ap (λ (f : Files). map.get f name) v.same ∙ is));
      end = λ t file is ok. absurd (no_answer _ _ ok);
      some = λ ok. absurd (no_answer _ _ ok);
      none = λ ok. absurd (no_answer _ _ ok);
      first = n.first ∙ v.first;
      refused = λ t. subst (λ (f : Files). Loads (map.get f name) (Err c.in_err-read_piece.field-0.0)) v.same (n.refused t);
      same = n.same ∙ v.same;
      absent = λ e. risen _ _ _ (v.later.absences name) (n.absent e);
      failed = λ e. risen _ _ _ (v.later.read_faults name) (n.failed e);
      later = none_falls-trans _ _ _ v.later n.later;
    }

pub returns-then-branch : goal.returns-then-branch
returns-then-branch g c =
    let v = c.loop-self.invariant in
    let n = c.in_ok-read_piece.ensures in
    let now = c.read_piece.new.self in
    let name = c.args.name.now in
    record {
      lines = λ t file is. v.lines t file is ∙ sym (n.lines t file (ap (λ (f : Files). map.get f name) v.same ∙ is));
      end = λ t file is ok.
          let there : map.get (g.D.Depot.files c.loop-self.depot) name ≡ Some file = ap (λ (f : Files). map.get f name) v.same ∙ is in
          v.lines t file is ∙ sym (n.lines t file there) ∙ n.ended t file there (ap (λ b. Ok b) c.if-branch.true)
          ∙ none_of now.lines (none_lent now.lines c.lines-then-branch.result.now c.is_empty-then-branch.result c.lines-then-branch.ensures.value c.is_empty-then-branch.ensures ok);
      some = λ ok. some_lent now.lines c.lines-then-branch.result.now c.is_empty-then-branch.result c.lines-then-branch.ensures.value c.is_empty-then-branch.ensures ok;
      none = λ ok. none_lent now.lines c.lines-then-branch.result.now c.is_empty-then-branch.result c.lines-then-branch.ensures.value c.is_empty-then-branch.ensures ok;
      first = n.first ∙ v.first;
      refused = λ t. tt;
      same = n.same ∙ v.same;
      absent = λ e. no_rise _ _ (no_error _ _ e);
      failed = λ e. no_rise _ _ (no_error _ _ e);
      later = none_falls-trans _ _ _ v.later n.later;
    }

pub returns : goal.returns
returns g c =
    let v = c.loop-self.invariant in
    record {
      lines = v.lines;
      end = λ t file is ok. absurd (not_false ok);
      some = λ ok. some_lent c.loop-self.self.lines c.lines.result.now c.is_empty.result c.lines.ensures.value c.is_empty.ensures (ap (λ b. Ok (not b)) c.loop-self-test.false);
      none = λ ok. absurd (not_false ok);
      first = v.first;
      refused = λ t. tt;
      same = v.same;
      absent = λ e. no_rise _ _ (no_error _ _ e);
      failed = λ e. no_rise _ _ (no_error _ _ e);
      later = v.later;
    }
