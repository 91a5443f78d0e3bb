use Rattle.wg_random.proofs.records.Records.archive.Goals as goal

pub invariant_of-result : goal.invariant_of-result
invariant_of-result c = let h = c.self.invariant.1 in (c.self.invariant.0, (h.0, h.1))
