use Rattle.std.proofs.Common.{inl, inr, refl}
use Rattle.wg_readings.proofs.ClassLemmas.{by_fault, each_below, is_out, map_goes, map_refused}
use Rattle.wg_readings.proofs.classes.classes_of_text.Goals as goal

pub returns-in-Ok : goal.returns-in-Ok
returns-in-Ok c =
    let e = c.in-Ok.ensures in
    record { steps = map_goes c.args.nodes c.args.limit c.args.bytes.now _ e.read; only = tt; each = e.count; below = each_below c.args.limit c.in-Ok.classes e.below }

pub returns-in-Err-Fault : goal.returns-in-Err-Fault
returns-in-Err-Fault c = record {
  steps = map_refused c.args.nodes c.args.limit c.args.bytes.now _ (by_fault _ _ c.in-Err-Fault.fault c.in-Err-Fault.field-0-is c.in-Err-Fault.ensures.read);
  only = inr (c.in-Err-Fault.fault, refl, refl);
  each = tt;
  below = tt;
}

pub returns-in-Err-Memory : goal.returns-in-Err-Memory
returns-in-Err-Memory c = record { steps = λ next. inr (is_out c.of.ensures.status); only = inl c.of.ensures.status; each = tt; below = tt }
