use Rattle.wg_rank.proofs.Runs.{summed_from}
use Rattle.wg_rank.proofs.run_pulling.PageRunAlong.flow.Goals as goal

pub flow_along-requires : goal.flow_along-requires
flow_along-requires c =
    let r = c.requires.written in
    record {
      few = c.requires.few;
      summed = (r.0, r.1, r.2, r.3, record { apart = r.5.0; within = r.5.1; numbers = r.4 }, summed_from _ _ _ _ r.6);
    }

pub returns : goal.returns
returns c = record {
  low = λ g v low high numbers proper h.
      c.flow_along.ensures.low g v low high (record { apart = proper.0; within = proper.1; numbers = numbers }) (summed_from _ _ _ _ h);
  high = λ g v low high numbers proper h.
      c.flow_along.ensures.high g v low high (record { apart = proper.0; within = proper.1; numbers = numbers }) (summed_from _ _ _ _ h);
}
