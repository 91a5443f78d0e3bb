use Rattle.std.proofs.Common.{refl, arith}
use Rattle.wg_stream.proofs.SweepLemmas.{kept_none}
use Rattle.wg_stream.proofs.sweep.SweepLists.begin.Goals as goal

pub invariant_of-self : goal.invariant_of-self
invariant_of-self c =
    let h = c.self.invariant in
    record {
      short = h.short;
      reading = h.reading;
      graph_is = h.graph_is;
      proper = h.proper;
      few = omega arith;
      begins = refl;
      count = h.count;
      room = h.room;
      rooms = h.rooms;
      last = λ some. absurd (omega (arith, some));
      turns = h.turns;
      before = kept_none h.reading.records _ _ _ (omega arith);
    }
