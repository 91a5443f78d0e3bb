-- Where a record stands: what is known of the pages before it.
use Rattle.std.specs.Prelude.{ℕ, zero, suc, List, [], get_or}

-- a page that was read: its successors, and how many references lead on from it, one after the other
pub record Known : Type 0 where
  pub list : List ℕ
  pub depth : ℕ

-- a page, the sum of the outdegrees before it, and the pages before it that a reference may name, the nearest first
pub record Context : Type 0 where
  pub page : ℕ
  pub arcs_before : ℕ
  pub behind : List Known

abbrev pub no_page : Known
no_page = record { list = []; depth = 0 }

-- the list that a reference names; a reference of 0 names none
abbrev pub referenced : List Known → ℕ → List ℕ
referenced behind zero = []
referenced behind (suc r) = (get_or behind r no_page).list

-- 0 without a reference, else one more than the depth of the page that it names
abbrev pub depth_of : List Known → ℕ → ℕ
depth_of behind zero = 0
depth_of behind (suc r) = suc (get_or behind r no_page).depth
