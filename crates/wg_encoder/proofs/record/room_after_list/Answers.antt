use Rattle.wg_encoder.proofs.record.room_after_list.Goals as goal

pub room_after_common-requires-clause-common : goal.room_after_common-requires-clause-common
room_after_common-requires-clause-common c = c.requires.common c.in-Some.common c.in-Some.is
