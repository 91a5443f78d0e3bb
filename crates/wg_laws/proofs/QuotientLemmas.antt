-- What a quotient comes to, read again.
use Rattle.std.proofs.Common.{◌≡◌, ℕ, ◌≤◌, List, Result, Ok, sym, ap, ◌∙◌, arith}
use Rattle.wg_params.specs.declared.limits.TheConstants.{MOST_ARCS}
use Rattle.wg_graph.specs.{Ascending.Below, Digraph.Digraph, Digraph.arc_count}
use Rattle.wg_arcs.specs.{Numbers.numbers_of, Text.text_of_graph, declared.numbers_fault.NumbersFault.NumbersFault}
use Rattle.wg_shape.specs.Quotient.{quotient_of}
use Rattle.wg_shape.proofs.{Fewer.fewer, Quotients.is_quotient}
use Rattle.wg_outcomes.specs.Judged.{Judged, accepted, built, map_then, status_of, unless_bad_map, with_map}
use Rattle.wg_greedy.specs.Archive.{Archive}
use Rattle.wg_outcomes.specs.{Readings.Readings, declared.status.Input.TheVariants.Map, Commands.builds}
use Rattle.wg_readings.proofs.ClassLemmas.{each_below}
use Rattle.wg_laws.specs.Quotients.{QuotientsAreAccepted}
use Rattle.wg_laws.proofs.{BuiltLemmas.file_behind, ConversionLemmas.read_again, HeldLemmas.graph_behind}
use Rattle.wg_laws.proofs.WeightsLemmas.{numbers_fit}

abbrev told : List ℕ → Result (List ℕ) NumbersFault
told xs = Ok xs

-- from what was built back to the classes
classes_behind : (a : Archive) (out : List ℕ) (w : Result (List ℕ) NumbersFault) (next : List ℕ → Judged) → unless_bad_map w next ≡ built a out
    → (list : List ℕ) × (w ≡ told list) × (next list ≡ built a out)
classes_behind a out w next h = grind arith

pub quotients_accepted : (r : Readings) → QuotientsAreAccepted r
quotients_accepted r input map output count layout held a out few within is =
    let last : Digraph → Judged = λ g. map_then g.nodes count (held Map) (λ list. builds layout (quotient_of g list count)) in
    let behind = graph_behind r held last (ap status_of is) in
    let g : Digraph = behind.graph in
    let next : List ℕ → Judged = λ list. builds layout (quotient_of g list count) in
    let file = file_behind a out Map (held Map) (λ bytes. with_map g.nodes count bytes next) (sym (behind.goes_on last) ∙ is) in
    let found = classes_behind a out (numbers_of g.nodes count file.0) next file.2 in
    let list : List ℕ = found.0 in
    let fit = numbers_fit g.nodes count file.0 list found.1 in
    let below : Below count list = each_below count list fit.1 in
    let fewer_arcs = fewer g behind.proper list count fit.0 below in
    let few_arcs : arc_count (quotient_of g list count) ≤ MOST_ARCS = omega (arith, fewer_arcs, behind.few_arcs) in
    let quotient = is_quotient g behind.proper list count fit.0 below in
    let again = read_again r layout (quotient_of g list count) a out within quotient.proper few few_arcs found.2 in
    record {
      graph = g;
      text = file.0;
      classes = list;
      quotient = quotient_of g list count;
      stored = behind.stored;
      text_is = file.1;
      classes_are = found.1;
      quotient_is = quotient;
      written = again.written;
      arcs = again.goes_on (λ q. accepted (text_of_graph q));
      check = again.check output;
    }
