-- From the head of a record to its members.
use Rattle.std.proofs.Common.{◌≡◌, ℕ, ◌-◌, ◌<◌, Bool, List, length, refl}
use Rattle.wg_params.specs.Parameters.{Parameters}
use Rattle.wg_grammar.specs.Context.{Known}
use Rattle.wg_grammar.specs.SoFar.{nothing_yet}
use Rattle.wg_decoder.specs.Answer.{context_at}
use Rattle.wg_decoder.specs.Stages.Copying.{Copies}
use Rattle.wg_decoder.specs.Stages.Head.{of_head}
use Rattle.wg_decoder.specs.Stages.Intervals.{InsideStand}
use Rattle.wg_decoder.specs.Stages.Leading.{LeadsTo}
use Rattle.wg_decoder.proofs.WholeLemmas.{Reached, to_copies, to_intervals}

-- the head of the record ends at the bit at
module _ (p : Parameters) (page d r : ℕ) (bits : List Bool) (some : 0 < d) (before start : ℕ) (behind : List Known) (at : ℕ)
    (head : LeadsTo p (context_at page before behind) bits nothing_yet start (of_head p d r) at) where
  -- what is copied has been read, and the numbers inside intervals
  pub inside_reached : (kept : List ℕ) (mid n : ℕ) (inside : List ℕ) (end : ℕ) → n ≡ d - length kept → Copies p page behind d r bits at kept mid → InsideStand p page n bits mid inside end
      → Reached p (context_at page before behind) bits start d r kept inside end
  inside_reached kept mid n inside end n_is copies holds =
      to_intervals p (context_at page before behind) page bits bits start d r kept mid n inside end refl refl some n_is
      (to_copies p page before behind bits bits start d at r kept mid refl head copies) holds
