use Rattle.std.proofs.Common.{◌≡◌, ◌-◌, ◌≤◌}
use Rattle.wg_transforms.specs.Encoding.{IsEncoding}
use Rattle.wg_transforms.proofs.ranging.add_ranges.Given as goal

-- the lists of the ranges so far are encoded
abbrev pub invariant-all : goal.invariant-all
invariant-all g l = record {
  same : g.R.Ranged.graph l.ranges ≡ g.R.Ranged.graph l.fn.ranges;
  params : l.encoder.params ≡ l.fn.encoder.params;
  page : l.encoder.page ≡ g.R.Ranged.to l.ranges;
  so_far : IsEncoding (g.R.Ranged.graph l.fn.ranges) l.encoder;
}

abbrev pub decreases-all : goal.decreases-all
decreases-all g l = (g.R.Ranged.graph l.ranges).nodes - g.R.Ranged.to l.ranges

-- and those of the pages of this range before the next one
abbrev pub invariant-pages : goal.invariant-pages
invariant-pages g l = record {
  params : l.encoder.params ≡ l.fn.encoder.params;
  from : g.R.Ranged.from l.ranges ≤ l.encoder.page;
  to : l.encoder.page ≤ g.R.Ranged.to l.ranges;
  so_far : IsEncoding (g.R.Ranged.graph l.ranges) l.encoder;
}

abbrev pub decreases-pages : goal.decreases-pages
decreases-pages g l = g.R.Ranged.to l.ranges - l.encoder.page
