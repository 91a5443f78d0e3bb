-- What a recoding or a transposing comes to, read again.
use Rattle.std.proofs.Common.{◌≡◌, ℕ, ◌≤◌, List, refl, sym, ap, subst, ◌∙◌}
use Rattle.wg_params.specs.declared.limits.TheConstants.{MOST_ARCS, MOST_PAGES}
use Rattle.wg_params.specs.Parameters.{Parameters, IsWithinLimits, params_of}
use Rattle.wg_graph.specs.Digraph.{Digraph, IsGraph, arc_count}
use Rattle.wg_greedy.proofs.{Accepted.greedy_accepted, ProperRecord.canonical_proper}
use Rattle.wg_arcs.specs.Text.{text_of_graph}
use Rattle.wg_transpose.specs.Transposed.{transposed}
use Rattle.wg_transpose.proofs.{Reversed.are_reversed, Reversed.gives_back, Reversed.is_proper, Totals.as_many}
use Rattle.wg_words.specs.declared.jobs.Job.TheVariants.{Check}
use Rattle.wg_params.specs.declared.layout.Layout.{Layout}
use Rattle.wg_words.proofs.LayoutLemmas.{layout_for_any}
use Rattle.wg_laws.specs.Built.{holding, ConversionsAreAccepted}
use Rattle.wg_outcomes.specs.{Commands.builds, Commands.greedy_line, Commands.judged, Ranked.HoldGraph}
use Rattle.wg_outcomes.specs.Judged.{Judged, accepted, built, status_of, with_digraph, with_records}
use Rattle.wg_greedy.specs.Archive.{Archive}
use Rattle.wg_outcomes.specs.{Readings.Readings, Written.greedy_archive, Written.params_for}
use Rattle.wg_laws.proofs.BuiltLemmas.{built_accepted, holds_graph, lists_go_on, same_built}
use Rattle.wg_laws.proofs.HeldLemmas.{graph_behind}

-- the archive of a graph is accepted with its line, and each validation goes on with that graph
pub record IsReadAgain (r : Readings) (g : Digraph) (a : Archive) (out : List ℕ) : Type 0 where
  pub written : HoldGraph r (holding a) g
  pub check : (base : List ℕ) → judged r (Check base) (holding a) ≡ accepted out
  pub goes_on : (next : Digraph → Judged) → with_records (holding a) (λ q bytes. with_digraph r q bytes next) ≡ next g

pub read_again : (r : Readings) (l : Layout) (g : Digraph) (a : Archive) (out : List ℕ) → IsWithinLimits (params_of l 0 0) → IsGraph g → g.nodes ≤ MOST_PAGES → arc_count g ≤ MOST_ARCS
    → builds l g ≡ built a out → IsReadAgain r g a out
read_again r l g a out within proper few few_arcs is =
    let p : Parameters = params_for l g in
    let same = same_built (greedy_archive p g) a (greedy_line p g) out is in
    let limits : IsWithinLimits p = layout_for_any l g.nodes (arc_count g) 0 0 within few few_arcs in
    let is_accepted = greedy_accepted canonical_proper p g limits proper refl refl in
    record {
      written = subst (λ (b : Archive). HoldGraph r (holding b) g) same.0 (holds_graph r p g limits refl is_accepted);
      check = λ base. ap (λ (b : Archive). judged r (Check base) (holding b)) (sym same.0) ∙ (built_accepted r p g base limits proper refl refl).check ∙ ap accepted same.1;
      goes_on = λ next. ap (λ (b : Archive). with_records (holding b) (λ q bytes. with_digraph r q bytes next)) (sym same.0)
          ∙ lists_go_on r p g limits refl is_accepted next;
    }

pub conversions_accepted : (r : Readings) → ConversionsAreAccepted r
conversions_accepted r = record {
  recode = λ input output layout held a out within is.
      let behind = graph_behind r held (builds layout) (ap status_of is) in
      let again = read_again r layout behind.graph a out within behind.proper behind.few_pages behind.few_arcs (sym (behind.goes_on (builds layout)) ∙ is) in
      let text : Digraph → Judged = λ g. accepted (text_of_graph g) in
      record { graph = behind.graph; stored = behind.stored; written = again.written; check = again.check output; arcs = again.goes_on text ∙ sym (behind.goes_on text) };
  transpose = λ input output layout held a out within is.
      let turned : Layout → Digraph → Judged = λ l g. builds l (transposed g) in
      let behind = graph_behind r held (turned layout) (ap status_of is) in
      let few_arcs = subst (λ (n : ℕ). n ≤ MOST_ARCS) (sym (as_many behind.graph behind.proper)) behind.few_arcs in
      let again = read_again r layout (transposed behind.graph) a out within (is_proper behind.graph) behind.few_pages few_arcs (sym (behind.goes_on (turned layout)) ∙ is) in
      record {
        graph = behind.graph;
        turned = transposed behind.graph;
        stored = behind.stored;
        nodes = refl;
        proper = is_proper behind.graph;
        reversed = are_reversed behind.graph behind.proper;
        written = again.written;
        arcs = again.goes_on (λ g. accepted (text_of_graph g));
        check = again.check output;
        back = λ third l. again.goes_on (turned l) ∙ ap (λ (g : Digraph). builds l g) (gives_back behind.graph behind.proper) ∙ sym (behind.goes_on (builds l));
      };
}
