use Rattle.std.proofs.Common.{◌≡◌, length, drop, ◌+◌, ◌-◌, ◌≤◌}
use Rattle.wg_encoder.specs.Sharing.{shares}
use Rattle.wg_encoder.proofs.sharing.shares.Given as goal

abbrev pub invariant-merge : goal.invariant-merge
invariant-merge l = record {
  within : l.i ≤ length l.list;
  near : l.j ≤ length l.referenced;
  left : shares l.list l.referenced ≡ shares (drop l.i l.list) (drop l.j l.referenced);
}

abbrev pub decreases-merge : goal.decreases-merge
decreases-merge l = (length l.list - l.i) + (length l.referenced - l.j)
