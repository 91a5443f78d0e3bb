-- What a record is read against.
use Rattle.std.proofs.Common.{◌≡◌, ℕ, List}
use Rattle.wg_iterators.specs.declared.below.Below.{Below}
use Rattle.wg_iterators.specs.declared.below.Below.TheVariants.{Nothing, Page, Lent}
use Rattle.wg_iterators.specs.declared.fields.Fronts.{Fronts}
use Rattle.wg_iterators.specs.Coming.{Coming}
use Rattle.wg_graph.specs.Unions.{union_of}
use Rattle.wg_iterators.specs.Fronts.{copied_of}
use Rattle.wg_decoder.specs.Proper.Disjoint.{AreApart}
use Rattle.wg_iterators.specs.Fields.{AreFronts}
use Rattle.wg_iterators.specs.Below.{list_on, list_below}

pub apart_on : (below : Below) (f : Fronts) (list : List ℕ) → AreFronts f (list_below below) list
    → AreApart (copied_of f.mask (list_on below)) f.intervals f.residuals.list
apart_on Nothing f list h = h.apart
apart_on (Page b) f list h = h.apart
apart_on (Lent xs) f list h = h.apart

pub union_on : (below : Below) (f : Fronts) (list : List ℕ) → AreFronts f (list_below below) list
    → union_of (copied_of f.mask (list_on below)) (union_of f.intervals f.residuals.list) ≡ list
union_on Nothing f list h = h.union
union_on (Page b) f list h = h.union
union_on (Lent xs) f list h = h.union

pub coming_is : (a b : Coming) → a.outdegree ≡ b.outdegree → a.depth ≡ b.depth → a.list ≡ b.list → a ≡ b
coming_is a b d e l = λ i. record { outdegree = d i; depth = e i; list = l i }
