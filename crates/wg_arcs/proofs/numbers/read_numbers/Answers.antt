use Rattle.std.proofs.Common.{sym, ◌≡◌, ℕ, ◌<◌, ◌≤◌, List, length, ap, subst, arith, Ok, Err}
use Rattle.std.proofs.lemmas.Bool.{eqb-true}
use Rattle.wg_outside.proofs.PutsLemmas.{is_that_err}
use Rattle.wg_num.proofs.Cuts.{no_lines}
use Rattle.wg_arcs.specs.declared.numbers_fault.NumbersError.TheVariants as error
use Rattle.wg_arcs.specs.declared.numbers_fault.NumbersFault.TheVariants as fault
use Rattle.wg_arcs.specs.Numbers.{numbers_of, AreRead}
use Rattle.wg_arcs.proofs.NumberLines.{listed}
use Rattle.wg_arcs.proofs.ReadNumbers.{begun, ended, refused, step, too_few}
use Rattle.wg_arcs.proofs.numbers.read_numbers.Goals as goal

pub lines-init : goal.lines-init
lines-init c = record {
  so_far = rw c.new-numbers.ensures (begun c.args.n c.args.limit c.args.bytes.now);
  few = rw c.new-numbers.ensures (omega arith);
  below = rw c.new-numbers.ensures (λ k d h. absurd (omega arith));
  short = omega arith;
}

pub lines-preserved : goal.lines-preserved
lines-preserved c =
    let i = c.lines.invariant in
    let r = c.in_ok-read_line.ensures in
    record {
      so_far =
          step c.args.n c.args.limit _ _ c.lines.numbers r.added.0 c.read_line.new.numbers
          c.first_line.result.0.now _ _
          c.first_line.ensures.lines i.so_far r.added.1 r.added.2;
      few = r.few i.few;
      below = r.below i.below;
      short = omega arith;
    }

pub returns-in_err-read_line : goal.returns-in_err-read_line
returns-in_err-read_line c =
    let all = numbers_of c.args.n c.args.limit c.args.bytes.now in
    let e = c.in_err-read_line.field-0.0 in
    let read : AreRead all (Err e) =
    refused c.args.n c.args.limit _ all c.lines.numbers c.first_line.result.0.now
    _ _ e c.first_line.ensures.lines
    c.lines.invariant.so_far c.in_err-read_line.ensures.err in
    rw (is_that_err c.from_residual.result _ c.from_residual.ensures.1) record {
      read = read;
      listed = listed c.args.n c.args.limit c.args.bytes.now (Err e) read;
      count = tt;
      below = tt;
    }

pub returns-then-found-n : goal.returns-then-found-n
returns-then-found-n c =
    let all = numbers_of c.args.n c.args.limit c.args.bytes.now in
    let found : length c.as_slice.result.now ≡ length c.lines.numbers = ap length c.as_slice.ensures in
    let read : all ≡ Err (fault.Count (length c.as_slice.result.now)) =
    rw found
    (too_few c.args.n c.args.limit _ all c.lines.numbers _
    (no_lines c.lines.rest.now (eqb-true _ 0 (sym c.lines-test.ensures)))
    (subst (λ (k : ℕ). k < c.args.n) found c.if-found-n.true) c.lines.invariant.so_far) in
    record {
      read = read;
      listed =
          listed c.args.n c.args.limit c.args.bytes.now (Err (error.Fault (fault.Count (length c.as_slice.result.now))))
          read;
      count = tt;
      below = tt;
    }

pub returns : goal.returns
returns c =
    let all = numbers_of c.args.n c.args.limit c.args.bytes.now in
    let enough : c.args.n ≤ length c.lines.numbers =
    subst (λ (l : List ℕ). c.args.n ≤ length l) c.as_slice.ensures c.if-found-n.false in
    let read : all ≡ Ok c.lines.numbers =
    ended c.args.n c.args.limit _ all c.lines.numbers _
    (no_lines c.lines.rest.now (eqb-true _ 0 (sym c.lines-test.ensures))) enough c.lines.invariant.so_far in
    record {
      read = read;
      listed = listed c.args.n c.args.limit c.args.bytes.now (Ok c.lines.numbers) read;
      count = omega arith;
      below = c.lines.invariant.below;
    }
