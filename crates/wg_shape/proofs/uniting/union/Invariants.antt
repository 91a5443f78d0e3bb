use Rattle.wg_shape.specs.Graphs.{UnionSoFar}
use Rattle.wg_shape.proofs.uniting.union.Given as goal

-- the lists of the pages behind are there
abbrev pub invariant-loop-page : goal.invariant-loop-page
invariant-loop-page l = UnionSoFar l.first l.second l.page l.builder
