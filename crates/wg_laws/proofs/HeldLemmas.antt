-- The graph that the files of an archive stand for, from a validation that went on with it.
use Rattle.std.proofs.Common.{◌≡◌, ◌≤◌, ℕ, List, Option, Some, None, Result, Ok, refl, sym, ◌∙◌, ap, subst, arith}
use Rattle.wg_bits.specs.Bits.{bits_of}
use Rattle.wg_params.specs.{declared.key.Key.Key, Parameters.Parameters, Parameters.IsWithinLimits}
use Rattle.wg_params.specs.declared.key.Key.TheVariants as key
use Rattle.wg_params.specs.declared.limits.TheConstants.{MOST_ARCS, MOST_INTERVAL, MOST_PAGES, MOST_WINDOW}
use Rattle.wg_num.specs.Lines.{lines_of}
use Rattle.wg_properties.specs.Judged.{and_then, judged as judged_values, judged_chain, judged_class, judged_endianness, judged_flags, judged_number, judged_version, judged_zeta, properties_of, unless_continued}
use Rattle.wg_properties.specs.{Pairs.first_continued, Pairs.pairs_of, Pairs.value_of, Words.name_of}
use Rattle.wg_properties.specs.declared.fault.PropFault.{PropFault}
use Rattle.wg_properties.proofs.Limits.{never_bad}
use Rattle.wg_graph.specs.Digraph.{Digraph, IsGraph, arc_count}
use Rattle.wg_grammar.specs.{Archive.Accepted, Archive.ReadsGraph, Laws.accepted_graph}
use Rattle.wg_grammar.specs.declared.fault.ArchiveFault.{ArchiveFault}
use Rattle.wg_grammar.proofs.ProperGraphs.{arcs_promised, graph_proper}
use Rattle.wg_outcomes.specs.Judged.{Judged, status_of, unless_bad_graph, unless_bad_properties, with_digraph, with_file, with_parameters, with_records}
use Rattle.wg_outcomes.specs.{Ranked.HoldGraph, Readings.Readings, declared.status.Input.Input}
use Rattle.wg_outcomes.specs.declared.status.Input.TheVariants as input
use Rattle.wg_outcomes.specs.declared.status.Status.TheVariants.{Done}
use Rattle.wg_readings.proofs.LimitsLemmas.{within_limits}

-- ---- parameters that were read are within their limits

-- what went on was Ok
ok_behind : {A B : Type 0} (r : Result A PropFault) (f : A → Result B PropFault) (b : B) → and_then r f ≡ Ok b → (a : A) × (r ≡ Ok a) × (f a ≡ Ok b)
ok_behind r f b h = grind arith

abbrev given : Parameters → Result Parameters PropFault
given p = Ok p

values_within : (v : Key → Option (List ℕ)) (p : Parameters) → judged_values v ≡ Ok p → IsWithinLimits p
unfolding judged_values
values_within v p e =
    let class = ok_behind (judged_class (v key.GraphClass)) _ p e in
    let version = ok_behind (judged_version (v key.Version)) _ p class.2 in
    let endian = ok_behind (judged_endianness (v key.Endianness)) _ p version.2 in
    let nodes = ok_behind (judged_number key.Nodes MOST_PAGES (v key.Nodes)) _ p endian.2 in
    let arcs = ok_behind (judged_number key.Arcs MOST_ARCS (v key.Arcs)) _ p nodes.2 in
    let window = ok_behind (judged_number key.WindowSize MOST_WINDOW (v key.WindowSize)) _ p arcs.2 in
    let chain = ok_behind (judged_chain (v key.MaxRefCount)) _ p window.2 in
    let interval = ok_behind (judged_number key.MinIntervalLength MOST_INTERVAL (v key.MinIntervalLength)) _ p chain.2 in
    let zeta = ok_behind (judged_zeta (v key.ZetaK)) _ p interval.2 in
    let codes = ok_behind (judged_flags zeta.0 (v key.CompressionFlags)) _ p zeta.2 in
    same_within _ p codes.2 (within_limits _ (never_bad v nodes.0 arcs.0 window.0 chain.0 interval.0 zeta.0 codes.0 nodes.1 arcs.1 window.1 chain.1 interval.1 zeta.1 codes.1))
  where
    same_within : (q p : Parameters) → given q ≡ given p → IsWithinLimits q → IsWithinLimits p
    same_within q p is within = subst IsWithinLimits (let same : q ≡ p = cc in same) within

pub read_within : (text : List ℕ) (p : Parameters) → properties_of text ≡ Ok p → IsWithinLimits p
unfolding properties_of
read_within text p e = at (first_continued (lines_of text)) e
  where
    at : (o : Option ℕ) → unless_continued o (judged_values (λ k. value_of (name_of k) (pairs_of (lines_of text)))) ≡ Ok p → IsWithinLimits p
    at None is = values_within (λ k. value_of (name_of k) (pairs_of (lines_of text))) p is
    at (Some line) is = absurd cc

-- ---- from a job that was done back to the graph

pub file_read : (i : Input) (o : Option (List ℕ)) (next : List ℕ → Judged) → status_of (with_file i o next) ≡ Done → (bytes : List ℕ) × (o ≡ Some bytes) × ((n : List ℕ → Judged) → with_file i o n ≡ n bytes)
file_read i o next h = grind arith

pub text_read : (w : Result Parameters PropFault) (next : Parameters → Judged) → status_of (unless_bad_properties w next) ≡ Done → (p : Parameters) × (w ≡ Ok p) × ((n : Parameters → Judged) → unless_bad_properties w n ≡ n p)
text_read w next h = grind arith

pub graph_read : (w : Result Accepted ArchiveFault) (next : Accepted → Judged) → status_of (unless_bad_graph w next) ≡ Done → (a : Accepted) × (w ≡ Ok a) × ((n : Accepted → Judged) → unless_bad_graph w n ≡ n a)
graph_read w next h = grind arith

-- the graph behind the files, which is a proper one within the limits, and with which each validation goes on
pub record GraphBehind (r : Readings) (held : Input → Option (List ℕ)) : Type 0 where
  pub graph : Digraph
  pub stored : HoldGraph r held graph
  pub proper : IsGraph graph
  pub few_pages : graph.nodes ≤ MOST_PAGES
  pub few_arcs : arc_count graph ≤ MOST_ARCS
  pub goes_on : (next : Digraph → Judged) → with_records held (λ p bytes. with_digraph r p bytes next) ≡ next graph

pub graph_behind : (r : Readings) (held : Input → Option (List ℕ)) (last : Digraph → Judged) → status_of (with_records held (λ p bytes. with_digraph r p bytes last)) ≡ Done → GraphBehind r held
graph_behind r held last done =
    let on_graph : (Digraph → Judged) → Parameters → Judged = λ n p. with_file input.Graph (held input.Graph) (λ b. with_digraph r p b n) in
    let text = file_read input.Properties (held input.Properties) (λ t. with_parameters t (on_graph last)) done in
    let params = text_read (properties_of text.0) (on_graph last) (ap status_of (sym (text.2 (λ t. with_parameters t (on_graph last)))) ∙ done) in
    let to_params : (n : Digraph → Judged) → with_records held (λ p b. with_digraph r p b n) ≡ on_graph n params.0 = λ n. text.2 (λ t. with_parameters t (on_graph n)) ∙ params.2 (on_graph n) in
    let bytes = file_read input.Graph (held input.Graph) (λ b. with_digraph r params.0 b last) (ap status_of (sym (to_params last)) ∙ done) in
    let to_bytes : (n : Digraph → Judged) → with_records held (λ p b. with_digraph r p b n) ≡ with_digraph r params.0 bytes.0 n = λ n. to_params n ∙ bytes.2 (λ b. with_digraph r params.0 b n) in
    let found = graph_read (r.graph.value params.0 bytes.0) (λ a. last (accepted_graph params.0 a)) (ap status_of (sym (to_bytes last)) ∙ done) in
    let within = read_within text.0 params.0 params.1 in
    let reads = subst (λ (w : Result Accepted ArchiveFault). ReadsGraph params.0 (bits_of bytes.0) w) found.1 (r.graph.reads params.0 within bytes.0) in
    record {
      graph = accepted_graph params.0 found.0;
      stored = record {
        text = text.0;
        parameters = params.0;
        bytes = bytes.0;
        read = found.0;
        text_is = text.1;
        parameters_are = params.1;
        bytes_are = bytes.1;
        read_is = found.1;
        graph_is = refl;
      };
      proper = graph_proper params.0 (bits_of bytes.0) found.0 reads;
      few_pages = within.nodes;
      few_arcs = subst (λ (n : ℕ). n ≤ MOST_ARCS) (sym (arcs_promised params.0 (bits_of bytes.0) found.0 reads)) within.arcs;
      goes_on = λ n. to_bytes n ∙ found.2 (λ a. n (accepted_graph params.0 a));
    }
