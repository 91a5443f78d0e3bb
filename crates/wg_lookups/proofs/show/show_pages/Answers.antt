use Rattle.std.proofs.Common.{◌≡◌, ◌∙◌, ℕ, List, Ok, ap, refl, subst}
use Rattle.wg_bits.specs.Bits.{bits_of}
use Rattle.wg_params.specs.Parameters.{Parameters}
use Rattle.wg_grammar.specs.Archive.{Accepted, ReadsGraph}
use Rattle.wg_random.specs.Checked.{CheckedRecords}
use Rattle.wg_outside.specs.Puts.{Puts}
use Rattle.wg_outcomes.specs.{Commands.successors_lines, declared.status.Input.TheVariants.Graph}
use Rattle.wg_readings.proofs.JobSteps.{does_exit}
use Rattle.wg_lookups.proofs.ShowJobs.{no_bytes, no_offsets, no_page, no_params, no_records, shows}
use Rattle.wg_lookups.proofs.ShownLemmas.{archive_reads, none_opened, opened_as, same_held, same_parameters}
use Rattle.wg_lookups.proofs.show.show_pages.Goals as goal

pub returns-in_err-params : goal.returns-in_err-params
returns-in_err-params g c = record {
  does = does_exit _ _ _ _ _ _ _ _ g.met.O.Sink.stays c.from_residual.ensures.1 (no_params c.args.base.now c.args.pages.now _ _ _ _ _ refl c.in_err-params.ensures);
  opens = λ t p bytes h. none_opened p (bits_of bytes) c.args.pages.now c.args.steps.now c.from_residual.result _ c.from_residual.ensures.1;
}

pub returns-in_err-bytes : goal.returns-in_err-bytes
returns-in_err-bytes g c =
    record {
      does = does_exit _ _ _ _ _ _ _ _ g.met.O.Sink.stays c.from_residual-in_err-bytes.ensures.1
          (no_bytes c.args.base.now c.args.pages.now _ _ _ c.in_ok-params.params _ _ c.in_ok-params.ensures _ _ refl c.in_err-bytes.ensures);
      opens = λ t p bytes h. none_opened p (bits_of bytes) c.args.pages.now c.args.steps.now c.from_residual-in_err-bytes.result _ c.from_residual-in_err-bytes.ensures.1;
    }

pub returns-in_err-found : goal.returns-in_err-found
returns-in_err-found g c =
    let r = c.in_err-found.ensures in
    record {
      does = does_exit _ _ _ _ _ _ _ _ g.met.O.Sink.stays c.from_residual-in_err-found.ensures.1
          (no_records c.args.base.now c.args.pages.now _ _ _ c.in_ok-params.params _ _ c.in_ok-params.ensures _ _ c.in_ok-bytes.bytes c.in_ok-bytes.ensures _ c.as_slice-graph.ensures
          _ _ _ refl r.only r.refused);
      opens = λ t p bytes h. none_opened p (bits_of bytes) c.args.pages.now c.args.steps.now c.from_residual-in_err-found.result _ c.from_residual-in_err-found.ensures.1;
    }

pub returns-in_err-judge_offsets : goal.returns-in_err-judge_offsets
returns-in_err-judge_offsets g c =
    let r = c.in_ok-found.ensures in
    record {
      does = does_exit _ _ _ _ _ _ _ _ g.met.O.Sink.stays c.from_residual-in_err-judge_offsets.ensures.1
          (no_offsets c.args.base.now c.args.pages.now _ _ _ c.in_ok-params.params _ _ c.in_ok-params.ensures _ _ c.in_ok-bytes.bytes c.in_ok-bytes.ensures _ c.as_slice-graph.ensures
          r.limits (record { graph = r.finds.0; places = c.in_ok-found.found.offsets }) r.finds.1 _ _ refl c.in_err-judge_offsets.ensures);
      opens = λ t p bytes h. none_opened p (bits_of bytes) c.args.pages.now c.args.steps.now c.from_residual-in_err-judge_offsets.result _ c.from_residual-in_err-judge_offsets.ensures.1;
    }

pub returns-in_err-find_pages : goal.returns-in_err-find_pages
returns-in_err-find_pages g c =
    let r = c.in_ok-found.ensures in
    let e = c.in_err-find_pages.ensures in
    record {
      does = does_exit _ _ _ _ _ _ _ _ g.met.O.Sink.stays c.from_residual-in_err-find_pages.ensures.1
          (no_page c.args.base.now c.args.pages.now _ _ _ c.in_ok-params.params _ _ c.in_ok-params.ensures _ _ c.in_ok-bytes.bytes c.in_ok-bytes.ensures _ c.as_slice-graph.ensures
          r.limits (record { graph = r.finds.0; places = c.in_ok-found.found.offsets }) r.finds.1 _ _ c.in_ok-judge_offsets.ensures
          _ c.as_slice.ensures _ _ _ refl e.only e.steps);
      opens = λ t p bytes h. none_opened p (bits_of bytes) c.args.pages.now c.args.steps.now c.from_residual-in_err-find_pages.result _ c.from_residual-in_err-find_pages.ensures.1;
    }

pub returns : goal.returns
returns g c =
    let p : Parameters = c.in_ok-params.params in
    let read = c.in_ok-found.ensures in
    let a : Accepted = record { graph = read.finds.0; places = c.in_ok-found.found.offsets } in
    let stands : ReadsGraph c.archive.result.params c.archive.result.bits (Ok a) = archive_reads c.archive.result c.of_pass-records.result p (bits_of c.as_slice-graph.result.now) a c.archive.ensures c.of_pass-records.ensures.params c.of_pass-records.ensures.bits read.finds.1 in
    record {
      does = record {
        later = c.print_pages.ensures.later;
        does = shows c.args.base.now c.args.pages.now _ _ _ p _ _ c.in_ok-params.ensures _ _ c.in_ok-bytes.bytes c.in_ok-bytes.ensures _ c.as_slice-graph.ensures
            read.limits a read.finds.1 _ _ c.in_ok-judge_offsets.ensures
            _ c.as_slice.ensures c.in_ok-find_pages.ensures.steps _ _ c.print_pages.result
            (λ o. subst (λ (ps : List ℕ). Puts (successors_lines a.graph ps) (g.O.Sink.taken c.args.out.now) (g.O.Sink.taken c.print_pages.new.out) c.print_pages.result) c.as_slice-2.ensures (c.print_pages.ensures.puts o a stands))
            c.print_pages.ensures.only c.print_pages.ensures.failed;
      };
      opens = λ t q graph h.
          let same_params : p ≡ q = same_parameters _ p q (c.in_ok-params.ensures.given t) h.properties in
          let same_bytes : c.in_ok-bytes.bytes ≡ graph = same_held c.args.base.now Graph _ _ _ graph c.in_ok-params.ensures.same (c.in_ok-bytes.ensures.held t) h.graph in
          opened_as _ _ _ _ _ _ _ _ c.print_pages.result (ap (λ (v : CheckedRecords). v.params) c.archive.ensures ∙ c.of_pass-records.ensures.params ∙ same_params)
          (ap (λ (v : CheckedRecords). v.bits) c.archive.ensures ∙ c.of_pass-records.ensures.bits ∙ ap bits_of (c.as_slice-graph.ensures ∙ same_bytes)) c.as_slice-2.ensures c.print_pages.ensures.opens;
    }
