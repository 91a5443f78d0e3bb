use Rattle.std.proofs.Common.{ℕ, List, sym, subst}
use Rattle.wg_offsets.specs.Places.{AgreeInLengths}
use Rattle.wg_memory.proofs.checking.check_beside.Goals as goal

pub returns-in-None-clause-paired : goal.returns-in-None-clause-paired
returns-in-None-clause-paired c = λ graph a reads is. record {
  accepted = a;
  reads = reads;
  stored = c.in-Ok.stored;
  words = rw (c.offsets.ensures.value, c.nodes-2.ensures.value) at c.in-Ok.ensures.places;
  agree = subst (λ (places : List ℕ). AgreeInLengths places c.in-Ok.stored) (sym is) c.in-None.ensures.none;
}

pub returns-in-Err-Word-clause-fault : goal.returns-in-Err-Word-clause-fault
returns-in-Err-Word-clause-fault c = λ a is. rw (c.in-Err-Word.field-0-is, c.offsets.ensures.value, c.nodes-2.ensures.value) at c.in-Err-Word.ensures.refused
