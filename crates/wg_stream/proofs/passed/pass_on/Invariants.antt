use Rattle.std.proofs.Common.{◌≡◌, ◌+◌, List, length}
use Rattle.wg_grammar.specs.Record.{Whole}
use Rattle.wg_grammar.specs.Archive.{lists_of, places_of}
use Rattle.wg_offsets.specs.Places.{last_place}
use Rattle.wg_stream.specs.Prefix.{AreBehind}
use Rattle.wg_stream.specs.Sweeping.{greatest_outdegree}
use Rattle.wg_stream.proofs.passed.pass_on.Given as goal

-- the offsets are those of the records that were read, of which this is the greatest outdegree
abbrev pub invariant-loop-page : goal.invariant-loop-page
invariant-loop-page l = record {
  same_params : l.pages.params ≡ l.fn.pages.params;
  same_page : l.pages.page ≡ l._page;
  same_bits : l.source.bits ≡ l.fn.source.bits;
  counted : length l.offsets ≡ l._page + 1;
  last : last_place l.offsets ≡ l.source.at;
  read : (behind : List Whole) × AreBehind (l.fn.source.bits) l.pages l.source.at behind × (l.offsets ≡ places_of behind) × (l.greatest ≡ greatest_outdegree (lists_of behind));
}
