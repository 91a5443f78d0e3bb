use Rattle.std.proofs.Common.{◌≡◌, ◌∙◌, ◌<◌, ◌-◌, ◌/◌, ℕ, Bool, List, refl, sym, ap, subst, arith, true≢false}
use Rattle.std.proofs.lemmas.Result.{err_from_is_err_and}
use Rattle.wg_outside.specs.Outside.{Files, Counts, NonDecreasing}
use Rattle.wg_outside.proofs.FilesLemmas.{none_falls-refl}
use Rattle.wg_source.specs.Held.{HeldBytes, IsHeldOf}
use Rattle.wg_source.specs.Stepping.{Moves}
use Rattle.wg_source.proofs.CauseLemmas.{too_long}
use Rattle.wg_source.proofs.FillLemmas.{moved_held}
use Rattle.wg_source.proofs.HeldLemmas.{begun, piece_at, taken_up}
use Rattle.wg_source.proofs.stretch.Stretch.go_to.Goals as goal

-- what is held stays as it is
not_moved : (told : Bool) (name : List ℕ) (f1 f2 : Files) (c1 c2 : List ℕ → Counts) (h1 h2 : HeldBytes) → h2 ≡ h1 → f2 ≡ f1 → NonDecreasing c1 c2 → Moves told name f1 f2 c1 c2 h1 h2
not_moved told name f1 f2 c1 c2 h1 h2 still same later = record {
  same = same;
  later = later;
  looked = λ e. ap (λ (h : HeldBytes). h.looked) still ∙ e;
  in_step = λ t file is i. subst (IsHeldOf file) (sym still) i;
}

pub returns-then-at-eq0-clause-moves : goal.returns-then-at-eq0-clause-moves
returns-then-at-eq0-clause-moves g c =
    let still = c.if-go_within.ensures.still refl in
    record {
      same = refl;
      later = none_falls-refl _;
      looked = λ e. ap (λ (h : HeldBytes). h.looked) (c.hold.ensures) ∙ ap (λ (h : HeldBytes). h.looked) still ∙ e;
      in_step = λ t file is i. begun file c.go_within.new.self c.hold.new.self c.hold.ensures (subst (IsHeldOf file) (sym still) i);
    }

pub returns : goal.returns
returns g c =
    let still = c.if-go_within.ensures.still refl in
    record {
      moves = record {
        same = c.in_ok-count.ensures.same;
        later = c.in_ok-count.ensures.later;
        looked = λ e. ap (λ (h : HeldBytes). h.looked) (c.hold-2.ensures) ∙ ap (λ (h : HeldBytes). h.looked) still ∙ e;
        in_step = λ t file is i.
            let some : 0 < c.in_ok-count.count = omega arith in
            taken_up file c.go_within.new.self c.hold-2.new.self c.read.new.buf ((c.args.at - 1) / 8) c.args.at c.in_ok-count.count some
            (piece_at _ file ((c.args.at - 1) / 8) _ c.in_ok-count.count is (c.in_ok-count.ensures.bytes t)) c.hold-2.ensures (subst (IsHeldOf file) (sym still) i);
      };
      cause = tt;
      there = λ t. ap (λ (h : HeldBytes). h.at) c.hold-2.ensures;
      past = λ t file is e. absurd (true≢false e);
    }

pub returns-then-go_within : goal.returns-then-go_within
returns-then-go_within g c =
    let there = c.if-go_within.ensures.there refl in
    record {
      moves = record {
        same = refl;
        later = none_falls-refl _;
        looked = λ e. ap (λ (h : HeldBytes). h.looked) there ∙ e;
        in_step = λ t file is i. moved_held file _ _ _ there i;
      };
      cause = tt;
      there = λ t. ap (λ (h : HeldBytes). h.at) there;
      past = λ t file is e. absurd (true≢false e);
    }

pub returns-in_err-count-clause-moves : goal.returns-in_err-count-clause-moves
returns-in_err-count-clause-moves g c =
    not_moved _ _ _ _ _ _ _ _ (c.if-go_within.ensures.still refl) c.in_err-count.ensures.same c.in_err-count.ensures.later

pub returns-in_err-count-clause-past : goal.returns-in_err-count-clause-past
returns-in_err-count-clause-past g c = λ t file is. rw (err_from_is_err_and c.from_residual.result c.from_residual.ensures.1).1 tt

pub returns-then-count-eq0 : goal.returns-then-count-eq0
returns-then-count-eq0 g c = record {
  moves = not_moved _ _ _ _ _ _ _ _ (c.if-go_within.ensures.still refl) c.in_ok-count.ensures.same c.in_ok-count.ensures.later;
  cause = tt;
  there = λ t. absurd (true≢false (sym t));
  past = λ t file is e.
      let p = piece_at _ file ((c.args.at - 1) / 8) _ c.in_ok-count.count is (c.in_ok-count.ensures.bytes t) in
      omega (arith, p.end c.if-count-eq0.true);
}

pub returns-then-first-count-gt-MOST_BYTES : goal.returns-then-first-count-gt-MOST_BYTES
returns-then-first-count-gt-MOST_BYTES g c = record {
  moves = not_moved _ _ _ _ _ _ _ _ (c.if-go_within.ensures.still refl) c.in_ok-count.ensures.same c.in_ok-count.ensures.later;
  cause = too_long _ _ _ _ _ _ ((c.args.at - 1) / 8) _ c.in_ok-count.count c.in_ok-count.ensures.bytes c.if-count-eq0.false c.if-first-count-gt-MOST_BYTES.true;
  there = tt;
  past = λ t file is. tt;
}
