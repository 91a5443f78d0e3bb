use Rattle.std.proofs.Common.{rules, ◌≡◌, ◌≤◌, ℕ, List, length, refl, sym, ap, subst, ◌∙◌, arith}
use Rattle.std.specs.Prelude.{min, All}
use Rattle.wg_params.specs.Parameters.{Parameters}
use Rattle.wg_bits.specs.Bits.{bits_of}
use Rattle.wg_grammar.specs.Archive.{Accepted}
use Rattle.wg_grammar.proofs.ProperGraphs.{graph_proper}
use Rattle.wg_stream.specs.Sweeping.{Sweeping}
use Rattle.wg_stream.proofs.AcceptedRecords.{read_of}
use Rattle.wg_stream.proofs.SweepLemmas.{graph_there, kept_none, none_longer}
use Rattle.wg_stream.proofs.sweep.Sweep.with_room.Goals as goal

pub invariant_of-result : goal.invariant_of-result
invariant_of-result c =
    let a : Accepted = record { graph = c.requires.finds.1.0; places = c.requires.finds.0 } in
    let reads = c.requires.finds.1.1 in
    let g = read_of c.args.params (bits_of c.args.bytes.now) a reads in
    let many : length c.in_ok-kept.kept.items ≡ min c.args.params.window c.args.params.nodes = c.in_ok-kept.ensures.count ∙ search rules in
    let one : c.of.result.graph.0 ≡ a.graph = graph_there c.args.params c.of.result.params c.args.bytes.now c.of.result.bytes.now a.graph c.of.ensures.params c.of.ensures.bytes (record { limits = c.nodes.ensures.limits; places = a.places; reads = reads }) c.of.result.graph in
    let whole : Sweeping c.args.params c.args.bytes.now a.graph 0 0 c.in_ok-kept.kept.items 0 c.in_ok-list.list = record {
      short = c.requires.short;
      reading = g.reading;
      graph_is = g.graph;
      proper = graph_proper c.args.params (bits_of c.args.bytes.now) a reads;
      few = omega arith;
      begins = refl;
      count = many;
      room = subst (λ (k : ℕ). All (λ s. length s ≤ k) a.graph) (sym c.requires.finds.1.2 ∙ sym c.in_ok-list.ensures.room) (none_longer a.graph);
      rooms = subst (λ (k : ℕ). All (λ r. r.room ≡ k) c.in_ok-kept.kept.items) (sym c.in_ok-list.ensures.room) c.in_ok-kept.ensures.rooms;
      last = λ some. absurd (omega (arith, some));
      turns = λ some. some;
      before = kept_none g.reading.records _ _ _ (omega arith);
    } in
    subst (λ (p : Parameters). Sweeping p c.of.result.bytes.now c.of.result.graph.0 0 0 c.in_ok-kept.kept.items 0 c.in_ok-list.list) (sym c.of.ensures.params)
    (subst (λ (b : List ℕ). Sweeping c.args.params b c.of.result.graph.0 0 0 c.in_ok-kept.kept.items 0 c.in_ok-list.list) (sym c.of.ensures.bytes)
    (subst (λ (l : List (List ℕ)). Sweeping c.args.params c.args.bytes.now l 0 0 c.in_ok-kept.kept.items 0 c.in_ok-list.list) (sym one) whole))

pub returns-clause-graph : goal.returns-clause-graph
returns-clause-graph c a reads =
    let one : c.of.result.graph.0 ≡ a.graph = graph_there c.args.params c.of.result.params c.args.bytes.now c.of.result.bytes.now a.graph c.of.ensures.params c.of.ensures.bytes (record { limits = c.nodes.ensures.limits; places = a.places; reads = reads }) c.of.result.graph in
    λ i. record { nodes = ap (λ (p : Parameters). p.nodes) c.of.ensures.params i; lists = one i }
