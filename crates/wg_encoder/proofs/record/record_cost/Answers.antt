use Rattle.std.proofs.Common.{arith}
use Rattle.wg_grammar.specs.declared.fault.Field.TheVariants as field
use Rattle.wg_greedy.specs.Fields.{record_fields}
use Rattle.wg_encoder.proofs.Whole.{record_left}
use Rattle.wg_encoder.proofs.Fewer.{none_left_fewer, left_fewer, left_within}
use Rattle.wg_encoder.proofs.record.record_cost.Goals as goal

pub returns-then-left-eq0 : goal.returns-then-left-eq0
returns-then-left-eq0 c =
    let fields = record_fields c.args.params.now c.args.page c.args.reference c.args.referenced.now c.args.list.now in
    let left = record_left c.args.params.now c.args.page c.args.reference c.args.referenced.now c.args.list.now c.args.most c.room_after-room.result c.room_after_list-left.result _ c.outdegrees.ensures.value (c.room_after-room.ensures field.Outdegree) c.room_after_list-left.ensures in
    none_left_fewer c.args.most c.room_after_list-left.result fields left c.if-left-eq0.true

pub overflow_sub-result : goal.overflow_sub-result
overflow_sub-result c =
    let fields = record_fields c.args.params.now c.args.page c.args.reference c.args.referenced.now c.args.list.now in
    let left = record_left c.args.params.now c.args.page c.args.reference c.args.referenced.now c.args.list.now c.args.most c.room_after-room.result c.room_after_list-left.result _ c.outdegrees.ensures.value (c.room_after-room.ensures field.Outdegree) c.room_after_list-left.ensures in
    left_within c.args.most c.room_after_list-left.result fields left

pub returns : goal.returns
returns c =
    let fields = record_fields c.args.params.now c.args.page c.args.reference c.args.referenced.now c.args.list.now in
    let left = record_left c.args.params.now c.args.page c.args.reference c.args.referenced.now c.args.list.now c.args.most c.room_after-room.result c.room_after_list-left.result _ c.outdegrees.ensures.value (c.room_after-room.ensures field.Outdegree) c.room_after_list-left.ensures in
    left_fewer c.args.most c.room_after_list-left.result fields left (omega (arith, c.if-left-eq0.false))
