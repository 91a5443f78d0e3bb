-- A union that grows: ascending numbers that come one after the other are joined to an ascending list of members.
use Rattle.std.specs.Prelude.{◌≡◌, ℕ, ◌≤◌, List, drop}
use Rattle.wg_graph.specs.Ascending.{Ascends, Below}
use Rattle.wg_graph.specs.Numbers.{is_in, is_in_either, numbers_where}

-- the numbers so far are below m; out has these, and the members below m, so many of them
pub record Joined (members numbers : List ℕ) (taken : ℕ) (out : List ℕ) (m : ℕ) : Type 0 where
  pub joined : out ≡ numbers_where (is_in_either members numbers) 0 m
  pub below : Below m numbers
  pub ahead : Ascends m (drop taken members)
  pub behind : (y : ℕ) → m ≤ y → is_in y members ≡ is_in y (drop taken members)
