use Rattle.std.proofs.Common.{[], refl}
use Rattle.wg_words.proofs.LayoutLemmas.{layout_in_within}
use Rattle.wg_words.proofs.layout.default_layout.Goals as goal

pub returns-clause-given : goal.returns-clause-given
returns-clause-given c = rw c.defaults.ensures refl

pub returns-clause-within : goal.returns-clause-within
returns-clause-within c = rw c.defaults.ensures (layout_in_within [] _ refl)
