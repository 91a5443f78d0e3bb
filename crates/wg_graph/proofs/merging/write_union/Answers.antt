use Rattle.std.proofs.Common.{rules, ◌≡◌, ◌≤◌, ◌+◌, ◌∙◌, ℕ, List, ◌++◌, leb, take, refl, ap, subst, sym, get_or, length, arith}
use Rattle.std.specs.Prelude.{min}
use Rattle.std.proofs.lemmas.List.{length-set, take_more_set, take_rest}
use Rattle.wg_graph.proofs.Merges.{Merges, merges_none, merges_on, taken_some, merges_rest_a, merges_rest_b}
use Rattle.wg_graph.proofs.merging.write_union.Goals.{then-merge-test+else-done-numbers, else-merge-test}
use Rattle.wg_graph.proofs.merging.write_union.Goals as goal
use mir.Val.{bool_byte}

pub merge-init : goal.merge-init
merge-init c = record {
  members = omega arith;
  numbers = omega arith;
  place = omega arith;
  length = refl;
  merges = merges_none c.args.members.now c.args.numbers.now c.requires.members c.requires.numbers;
}

pub merge-preserved : goal.merge-preserved
merge-preserved c =
    let a = c.args.members.now in
    let b = c.args.numbers.now in
    let l = c.merge in
    let some = taken_some (get_or a l.taken 0) (get_or b l.done 0) in
    let least : c.min.result ≡ min (get_or a l.taken 0) (get_or b l.done 0) = search rules in
    let put = take_more_set l.to l.end c.min.result (omega arith) in
    record {
      members = omega (arith, some.0);
      numbers = omega (arith, some.1.0);
      place = omega (arith, some.1.1);
      length = length-set l.to l.end c.min.result ∙ l.invariant.length;
      merges = subst (λ (out : List ℕ). Merges a b (l.taken + bool_byte (leb (get_or a l.taken 0) (get_or b l.done 0))) (l.done + bool_byte (leb (get_or b l.done 0) (get_or a l.taken 0))) out) (sym put) (merges_on a b l.taken l.done (take l.end l.to) c.min.result (omega arith) (omega arith) least l.invariant.merges);
    }

pub returns-then-taken-members-clause-union : goal.returns-then-taken-members-clause-union
returns-then-taken-members-clause-union c n low_members low_numbers =
    let a = c.args.members.now in
    let l = c.merge in
    let end : length c.args.numbers.now ≤ l.done = elim c.merge-test.branch [ then-merge-test+else-done-numbers w ↦ omega arith | else-merge-test w ↦ omega arith ] in
    c.write_rest.ensures.written ∙ ap (λ (xs : List ℕ). take l.end l.to ++ xs) (take_rest a l.taken) ∙ merges_rest_a a c.args.numbers.now l.taken l.done (take l.end l.to) n end l.invariant.merges low_members low_numbers

pub returns-clause-union : goal.returns-clause-union
returns-clause-union c n low_members low_numbers =
    let b = c.args.numbers.now in
    let l = c.merge in
    c.write_rest-2.ensures.written ∙ ap (λ (ys : List ℕ). take l.end l.to ++ ys) (take_rest b l.done) ∙ merges_rest_b c.args.members.now b l.taken l.done (take l.end l.to) n c.if-taken-members.false l.invariant.merges low_members low_numbers
