use Rattle.std.proofs.Common.{◌≤◌, List, ℕ, [], Result, None, OnOk, IfErr, length, refl, sym, subst, append-nil}
use Rattle.std.proofs.lemmas.Result.{on_ok_weaker}
use Rattle.wg_arcs.specs.Numbers.{AreAdded, IsRefused}
use Rattle.wg_arcs.specs.declared.numbers_fault.NumbersFault.{NumbersFault}
use Rattle.wg_arcs.proofs.LineLemmas.{entry_judged}
use Rattle.wg_arcs.proofs.numbers.read_line.Goals as goal

pub returns-in-None : goal.returns-in-None
returns-in-None c = record {
  added = ([], rw c.in-None.ensures.skipped refl, sym (append-nil c.args.numbers.now));
  few = λ le. le;
  below = λ h. h;
  err = tt;
}

pub returns-in-Some-sole_number : goal.returns-in-Some-sole_number
returns-in-Some-sole_number c =
    let w = c.in-Some.ensures in
    let n = c.add.ensures in
    let r = c.add.result in
    let old = c.args.numbers.now in
    let same =
    sym (entry_judged c.args.text.now c.in-Some.words.0.now _ w.words w.skipped
    c.args.n c.args.limit c.args.line _ _ c.in-Some-sole_number.ensures) in
    record {
      added = subst (λ (t : Result (List ℕ) NumbersFault). OnOk r (AreAdded t old c.add.new.numbers)) same n.added;
      few = on_ok_weaker r (λ (few : length c.add.new.numbers ≤ c.args.n) _. few) n.few;
      below = n.below;
      err = subst (λ (t : Result (List ℕ) NumbersFault). IfErr r (IsRefused t)) same n.err;
    }

pub returns-in-None-sole_number : goal.returns-in-None-sole_number
returns-in-None-sole_number c =
    let w = c.in-Some.ensures in
    record {
      added = tt;
      few = tt;
      below = tt;
      err =
          entry_judged c.args.text.now c.in-Some.words.0.now _ w.words w.skipped
          c.args.n c.args.limit c.args.line _ None c.in-None-sole_number.ensures;
    }
