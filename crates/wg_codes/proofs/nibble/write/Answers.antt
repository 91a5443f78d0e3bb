use Rattle.std.proofs.Common.{◌++◌, [], arith, refl, sym, ap, ◌∙◌}
use Rattle.std.proofs.lemmas.List.{append-nil}
use Rattle.wg_bits.proofs.Sending.{sent, sends_kept, sends_as, sends_then, sends_exit}
use Rattle.wg_codes.proofs.NibblePuts.{nothing_opened, opened_put, nibble_put, sends_some_digits}
use Rattle.wg_codes.proofs.nibble.write.Goals as goal

pub loop-more-init : goal.loop-more-init
loop-more-init g c = record {
  small = let s = c.highest_one-more.ensures.small in omega arith;
  within = let p = c.highest_one-more.ensures.index in omega arith;
  ready = c.requires.ready;
  sent = sends_kept _ _ _ c.args.writer.now.bits _ _ _
      (sym (ap (λ z. c.args.writer.now.bits ++ z) (nothing_opened c.args.v _ (let p = c.highest_one-more.ensures.index in omega arith)) ∙ append-nil c.args.writer.now.bits));
}

pub loop-more-preserved : goal.loop-more-preserved
loop-more-preserved g c = record {
  small = omega arith;
  within = let w = c.loop-more.invariant.within in omega arith;
  ready = c.in_ok-put.ensures.failed;
  sent = sends_as _ _ _ _ _ _ _ _ _ (opened_put c.args.v c.loop-more.more _ _ c.loop-more-test.true c.loop-more.invariant.within refl refl)
      (sends_then _ _ _ _ _ _ _ _ _ _ _ _ c.loop-more.invariant.sent (sent _ _ _ _ _ _ _ _ c.in_ok-put.ensures.sends));
}

pub returns-in_err-put-clause-sends : goal.returns-in_err-put-clause-sends
returns-in_err-put-clause-sends g c =
    sends_exit _ _ _ _ _ _ [] _ _ _ c.from_residual.ensures.1
    (sends_some_digits _ _ _ _ _ _ _ _ [] c.args.v c.loop-more.more _ _ c.requires.value c.loop-more-test.true c.loop-more.invariant.within refl
    c.loop-more.invariant.sent c.in_err-put.ensures.sends)

pub returns-clause-sends : goal.returns-clause-sends
returns-clause-sends g c =
    sends_as _ _ _ _ _ _ _ _ _ (nibble_put c.args.v c.loop-more.more _ c.requires.value c.loop-more-test.false refl)
    (sends_then _ _ _ _ _ _ _ _ _ _ _ _ c.loop-more.invariant.sent c.put-2.ensures.sends)
