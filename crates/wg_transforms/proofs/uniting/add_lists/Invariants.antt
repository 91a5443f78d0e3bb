use Rattle.std.proofs.Common.{◌≡◌, ◌-◌}
use Rattle.wg_transforms.specs.Uniting.{IsUniting}
use Rattle.wg_transforms.proofs.uniting.add_lists.Given as goal

-- the lists of the pages before the next one are encoded
abbrev pub invariant-pages : goal.invariant-pages
invariant-pages g l = let A = g.A.Lists in let B = g.B.Lists in record {
  first : A.graph l.first ≡ A.graph l.fn.first;
  second : B.graph l.second ≡ B.graph l.fn.second;
  params : l.encoder.params ≡ l.fn.encoder.params;
  way : IsUniting (A.graph l.fn.first) (A.place l.first) (B.graph l.fn.second) (B.place l.second) l.encoder;
}

abbrev pub decreases-pages : goal.decreases-pages
decreases-pages g l = l.nodes - l.encoder.page
