use Rattle.std.proofs.Common.{refl}
use Rattle.std.proofs.lemmas.Result.{on_ok_weaker, on_err_weaker}
use Rattle.wg_bits.proofs.Writes.{sent_held, sent_less}
use Rattle.wg_bits.proofs.buffer.Buffer.send.Goals as goal

pub returns : goal.returns
returns g c = record {
  empty = refl;
  sends = record {
    ok = λ t. on_ok_weaker _ (λ h. sent_held _ _ _ _ _ c.are_bytes.ensures c.self.view_is h) (c.append_all-sent.ensures.ok t);
    err = λ t. on_err_weaker _ (λ h. sent_less _ _ _ _ _ h.0 c.are_bytes.ensures c.self.view_is h.1 h.2) (c.append_all-sent.ensures.err t);
    refusals = c.append_all-sent.ensures.refusals;
  };
}
