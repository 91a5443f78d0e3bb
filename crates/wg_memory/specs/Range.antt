-- The lists of a range of pages.
use Rattle.std.specs.Prelude.{◌≡◌, ℕ, ◌+◌, ◌<◌, Bool, List, [], length, get_or, Ok}
use Rattle.wg_params.specs.Parameters.{Parameters}
use Rattle.wg_decoder.specs.Chains.{SpotReads}
use Rattle.wg_decoder.specs.Handed.{page_of}

-- the pages from the first one on have these lists and depths, by their chains of references
pub record AreKnown (p : Parameters) (bits : List Bool) (places : List ℕ) (first : ℕ) (lists : List (List ℕ))
    (depths : List ℕ) : Type 0 where
  pub many : length depths ≡ length lists
  pub reads : (i : ℕ) → i < length lists
      → SpotReads p bits places (first + i) (Ok (page_of (get_or lists i []) (get_or depths i 0)))
