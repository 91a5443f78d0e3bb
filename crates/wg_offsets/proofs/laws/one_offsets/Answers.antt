use Rattle.wg_offsets.proofs.OneFile.{offsets_one, offsets_some}
use Rattle.wg_offsets.proofs.PlacesLemmas.{places_within}
use Rattle.wg_offsets.proofs.laws.one_offsets.Goals as goal

pub returns : goal.returns
returns c = record {
  one = λ code n bits w x coded. offsets_one code coded n bits w x;
  some = λ code n bits coded. offsets_some code coded n bits;
  places = places_within;
}
