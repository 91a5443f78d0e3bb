use Rattle.std.proofs.Common.{◌≡◌, ◌++◌, IsTrue}
use Rattle.wg_arcs.proofs.Texts.{first_lines}
use Rattle.wg_arcs.proofs.writing.write.Given as goal

-- the pages so far are out
abbrev pub invariant-loop-page : goal.invariant-loop-page
invariant-loop-page g l = let s = g.S.Sink in record {
  out : IsTrue s.told → s.taken l.sink ≡ s.taken l.fn.sink ++ first_lines l.graph l.page;
  later : s.later l.fn.sink l.sink;
}
