use Rattle.std.proofs.Common.{◌∙◌, ℕ, refl, sym, ap, subst, arith, true≢false}
use Rattle.std.proofs.lemmas.List.{length-take}
use Rattle.wg_outside.specs.Reads.{IsPieceOf}
use Rattle.wg_source.specs.Held.{HeldBytes}
use Rattle.wg_source.proofs.CauseLemmas.{too_long}
use Rattle.wg_source.proofs.HeldLemmas.{added, added_small, at_end, end_small, piece_at}
use Rattle.wg_source.proofs.stretch.Stretch.read_piece.Goals as goal

pub returns-then-count-eq0-clause-steps : goal.returns-then-count-eq0-clause-steps
returns-then-count-eq0-clause-steps g c = record {
  same = c.in_ok-count.ensures.same;
  later = c.in_ok-count.ensures.later;
  onward = omega (arith, ap (λ (h : HeldBytes). h.at) c.end.ensures);
  looked = λ e. ap (λ (h : HeldBytes). h.looked) c.end.ensures ∙ e;
  in_step = λ t file is i.
      let p = piece_at _ file c.last-end.result _ c.in_ok-count.count is (c.in_ok-count.ensures.bytes t) in
      at_end file c.args.self.now c.end.new.self (omega (arith, p.end c.if-count-eq0.true, c.last-end.ensures.offset)) c.end.ensures i;
  small = λ s. end_small _ _ c.end.ensures s;
}

pub returns-clause-steps : goal.returns-clause-steps
returns-clause-steps g c = record {
  same = c.in_ok-count.ensures.same;
  later = c.in_ok-count.ensures.later;
  onward = omega (arith, ap (λ (h : HeldBytes). h.at) c.extend.ensures);
  looked = λ e. ap (λ (h : HeldBytes). h.looked) c.extend.ensures ∙ e;
  in_step = λ t file is i.
      let p = piece_at _ file c.last-end.result _ c.in_ok-count.count is (c.in_ok-count.ensures.bytes t) in
      let piece = subst (λ (n : ℕ). IsPieceOf file n c.read.new.buf c.in_ok-count.count) c.last-end.ensures.offset p in
      added file c.args.self.now c.extend.new.self c.read.new.buf c.in_ok-count.count piece.bytes (ap (λ (h : HeldBytes). h.bytes) c.extend.ensures) (ap (λ (h : HeldBytes). h.first) c.extend.ensures)
      (λ e. true≢false (sym e ∙ ap (λ (h : HeldBytes). h.ended) c.extend.ensures ∙ c.requires.more)) (ap (λ (h : HeldBytes). h.looked) c.extend.ensures) i;
  small = λ s. added_small _ _ _ (omega (arith, c.requires.room, length-take c.in_ok-count.count c.read.new.buf, c.in_ok-count.ensures.count)) c.extend.ensures s;
}

pub returns-in_err-count-clause-steps : goal.returns-in_err-count-clause-steps
returns-in_err-count-clause-steps g c = record {
  same = c.in_err-count.ensures.same;
  later = c.in_err-count.ensures.later;
  onward = omega arith;
  looked = λ e. e;
  in_step = λ t file is i. i;
  small = λ s. s;
}

pub returns-then-end-count-gt-MOST_BYTES : goal.returns-then-end-count-gt-MOST_BYTES
returns-then-end-count-gt-MOST_BYTES g c = record {
  steps = record {
    same = c.in_ok-count.ensures.same;
    later = c.in_ok-count.ensures.later;
    onward = omega arith;
    looked = λ e. e;
    in_step = λ t file is i. i;
    small = λ s. s;
  };
  cause = too_long _ _ _ _ _ _ c.last-end.result _ c.in_ok-count.count c.in_ok-count.ensures.bytes c.if-count-eq0.false c.if-end-count-gt-MOST_BYTES.true;
  more = tt;
  least = omega arith;
  first = refl;
  at = refl;
}
