-- The records of all pages.
use Rattle.std.specs.Prelude.{◌≡◌, ℕ, zero, suc, Bool, List, [], length, get_or}
use Rattle.wg_params.specs.Parameters.{Parameters}
use Rattle.wg_grammar.specs.Context.{Known, no_page}
use Rattle.wg_grammar.specs.Record.{Whole}
use Rattle.wg_grammar.specs.Archive.{Pages}

-- the records that stand from the first bit on, one for each page
pub record AllRecords (p : Parameters) (bits : List Bool) : Type 0 where
  pub records : List Whole
  pub behind : List Whole
  pub end : ℕ
  pub pages : Pages p bits [] 0 records behind end
  pub all : length behind ≡ p.nodes

abbrev pub no_record : Whole
no_record = record { known = no_page; end = 0 }

-- the list and the depth of page x
abbrev pub known_at : List Whole → ℕ → Known
known_at records x = (get_or records x no_record).known

-- the bit where its record begins
abbrev pub offset_at : List Whole → ℕ → ℕ
offset_at records zero = 0
offset_at records (suc x) = (get_or records x no_record).end
