use Rattle.std.proofs.Common.{◌∙◌, sym, ap, map}
use Rattle.std.proofs.lemmas.List.{append-nil}
use Rattle.wg_bits.proofs.Sending.{sends_kept, sends_as}
use Rattle.wg_greedy.specs.Fields.{bits_of_fields, all_have_words}
use Rattle.wg_encoder.specs.InMemory.{as_written}
use Rattle.wg_encoder.proofs.Puts.{has_word, held_on, held_cut}
use Rattle.wg_encoder.proofs.held.HeldRecord.write.Goals as goal

pub loop-field-init : goal.loop-field-init
loop-field-init g c = record { ready = c.requires.ready; sent = sends_kept _ _ _ _ _ _ tt (sym (append-nil _)) }

pub write-requires-clause-value : goal.write-requires-clause-value
write-requires-clause-value g c =
    has_word c.as_slice-field-items.result.now c.loop-field.field-index _ c.loop-field-test.true
    (ap (λ hs. all_have_words (map as_written hs)) c.as_slice-field-items.ensures.value ∙ ap all_have_words c.self.view_is ∙ c.requires.words)

pub returns-in-Err-clause-sends : goal.returns-in-Err-clause-sends
returns-in-Err-clause-sends g c =
    sends_as _ _ _ _ _ _ _ _ _ (ap (λ hs. bits_of_fields (map as_written hs)) c.as_slice-field-items.ensures.value ∙ ap bits_of_fields c.self.view_is)
    (held_cut _ _ _ _ _ _ _ _ c.as_slice-field-items.result.now c.loop-field.field-index _ c.loop-field-test.true c.loop-field.invariant.sent _ c.in-Err.ensures.sends)

pub loop-field-preserved : goal.loop-field-preserved
loop-field-preserved g c = record {
  ready = c.in-Ok.ensures.failed;
  sent = held_on _ _ _ _ _ _ _ _ c.as_slice-field-items.result.now c.loop-field.field-index _ c.loop-field-test.true c.loop-field.invariant.sent c.in-Ok.ensures.sends;
}
