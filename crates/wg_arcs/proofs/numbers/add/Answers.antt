use Rattle.std.proofs.Common.{ℕ, List, ◌∷◌, [], length, ◌<◌, ◌≤◌, refl, sym, ap, subst, arith, lt-ltb}
use Rattle.std.specs.List.{All}
use Rattle.std.proofs.lemmas.Bool.{le-leb, lt-leb, le-ltb}
use Rattle.std.proofs.lemmas.List.{length_push}
use Rattle.std.proofs.lemmas.List.Elements.{All-push}
use Rattle.wg_arcs.proofs.numbers.add.Goals as goal

pub returns-then-number-limit : goal.returns-then-number-limit
returns-then-number-limit c = record {
  added = tt;
  few = tt;
  below = tt;
  err = rw (le-leb c.args.limit c.args.number c.if-number-limit.true) refl;
}

pub returns-then-as_slice-n : goal.returns-then-as_slice-n
returns-then-as_slice-n c =
    let full = subst (λ (l : List ℕ). c.args.n ≤ length l) c.as_slice.ensures c.if-as_slice-n.true in
    record {
      added = tt;
      few = tt;
      below = tt;
      err = rw (lt-leb c.args.limit c.args.number c.if-number-limit.false, le-ltb _ c.args.n full) refl;
    }

pub returns : goal.returns
returns c =
    let n = c.args.n in
    let old = c.args.numbers.now in
    let v = c.args.number in
    let more = c.in_ok-push.ensures.ok in
    let room = subst (λ (l : List ℕ). length l < n) c.as_slice.ensures c.if-as_slice-n.false in
    record {
      added = (v ∷ [], rw (lt-leb c.args.limit v c.if-number-limit.false, lt-ltb _ n room) refl, more);
      few = omega (arith, ap length more, length_push);
      below = λ h.
          subst (λ (l : List ℕ). All (λ x. x < c.args.limit) l) (sym more)
          (All-push (λ x. x < c.args.limit) old v h c.if-number-limit.false);
      err = tt;
    }
