use Rattle.std.proofs.Common.{◌≡◌, ℕ, List}
use Rattle.wg_grammar.specs.Archive.{lists_of}
use Rattle.wg_encoder.specs.ArchiveInMemory.{HasEncoded}
use Rattle.wg_readings.proofs.UnderWay.{IsUnderWay}
use Rattle.wg_transforms.proofs.recode.recoded.Given as goal

-- the lists of the records so far are encoded
abbrev pub invariant-loop-page : goal.invariant-loop-page
invariant-loop-page g l = let d = g.D.Depot in record {
  so_far : (lists : List (List ℕ)) × HasEncoded l.encoder lists
      × IsUnderWay d.told l.fn.input l.fn.params (d.files l.fn.depot) (d.files l.depot) (d.counts l.fn.depot) (d.counts l.depot) l._page l.reader (λ whole. lists_of whole ≡ lists);
  params : l.encoder.params ≡ l.fn.made;
  page : l.encoder.page ≡ l._page;
  arcs : l.encoder.arcs ≡ l.reader.pages.arcs;
}
