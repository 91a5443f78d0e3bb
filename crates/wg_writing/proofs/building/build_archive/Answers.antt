use Rattle.std.proofs.Common.{◌≡◌, inl, inr, Bool, List, refl, sym, ap, subst, ◌∙◌, ℕ, Result, Ok, Err}
use Rattle.std.specs.{Bool.IsTrue, Result.IfErr}
use Rattle.wg_outside.specs.{Outside.Increased, Puts.Puts, declared.output.Output.TheVariants.Out}
use Rattle.wg_outside.proofs.PutsLemmas.{is_that_err}
use Rattle.wg_params.specs.{Parameters.Parameters, declared.layout.Layout.Layout}
use Rattle.wg_graph.specs.Digraph.{Digraph}
use Rattle.wg_greedy.specs.Archive.{Archive}
use Rattle.wg_encoder.specs.ArchiveInMemory.{Summarized}
use Rattle.wg_outcomes.specs.{Answers.HasOutput, Answers.IsUnput, Answers.status_in, Names.archive_named}
use Rattle.wg_outcomes.specs.{Commands.greedy_line, Commands.ok_line, Performs.BuildsArchive, Performs.Outside}
use Rattle.wg_outcomes.specs.Written.{AreWhole, ArchiveFiles, FilesAfter, archive_in, greedy_archive, params_for}
use Rattle.wg_outcomes.specs.declared.ending.Ending.{Ending}
use Rattle.wg_outcomes.specs.declared.status.Status.TheVariants.{Memory, WriteFault}
use Rattle.wg_outcomes.proofs.{PerformsLemmas.output_put, PerformsLemmas.put_last, Statuses.unput_cause}
use Rattle.wg_outcomes.proofs.BuildLemmas.{put_stands, put_stopped, stopped_cause, stopped_output}
use Rattle.wg_writing.specs.Writing.{WritesFiles, archive_of, whole}
use Rattle.wg_writing.proofs.building.build_archive.Goals as goal

are_whole : (a : Archive) (x : ArchiveFiles) → x ≡ whole a → AreWhole a x
are_whole a x is = (ap (λ (f : ArchiveFiles). f.properties) is, ap (λ (f : ArchiveFiles). f.graph) is, ap (λ (f : ArchiveFiles). f.offsets) is)

module _ (l : Layout) (g : Digraph) (base : List ℕ) (td to : Bool) (before after : Outside) (p : Parameters) (params : p ≡ params_for l g) (a : Summarized) (is : a ≡ archive_of p g) where
  files_are : a.files ≡ greedy_archive (params_for l g) g
  files_are = ap (λ (x : Summarized). x.files) is ∙ ap (λ (q : Parameters). greedy_archive q g) params

  -- the files were not written whole
  builds_stopped : (e : Ending) → after.taken ≡ before.taken
      → WritesFiles a.files base (archive_in base before.files) (whole a.files) td before.files after.files before.counts after.counts (Err e) → BuildsArchive l g base td to before after (Err e)
  builds_stopped e silent w = record {
    only = w.only;
    causes = λ inputs. stopped_cause inputs (archive_named base) refl _ _ _ _ e.status w.only w.causes;
    output = λ o q.
        subst (λ (new : List ℕ). HasOutput (greedy_line (params_for l g) g) before.taken new e.status) (sym silent)
        (stopped_output (greedy_line (params_for l g) g) before.taken e.status w.only (w.causes Out));
    silent = inr (inr silent);
    unprinted = λ want. inl silent;
    printed_last = λ t want. inl silent;
    files = λ t. (w.others t, subst (λ (x : Archive). FilesAfter x (archive_in base before.files) (archive_in base after.files) e.status) files_are (w.err t));
    later = w.later;
  }

  -- they were, and then the line is printed
  builds_done : (bits : ℕ) → bits ≡ a.summary.bits → (r : Result (Unit {0}) Ending)
      → WritesFiles a.files base (archive_in base before.files) (whole a.files) td before.files after.files before.counts after.counts (Ok tt)
      → (IsTrue to → Puts (ok_line p bits) before.taken after.taken r) → IfErr r (λ e. IsUnput e.status)
      → (status_in r ≡ WriteFault Out → Increased before.out.faults after.out.faults) → (status_in r ≡ Memory → Increased before.out.wants after.out.wants)
      → BuildsArchive l g base td to before after r
  builds_done bits count r w puts only cause wanted = record {
    only = put_stopped r only;
    causes = λ inputs. unput_cause inputs (archive_named base) before.counts after.counts before.out.faults after.out.faults r only cause;
    output = λ o q. output_put (greedy_line (params_for l g) g) (ok_line p bits) before.taken after.taken r line (puts o) only;
    silent = put_last r before.taken after.taken only;
    unprinted = λ want. inr (wanted want);
    printed_last = λ t want. inr (all t);
    files = λ t. (w.others t, put_stands (greedy_archive (params_for l g) g) (archive_in base before.files) (archive_in base after.files) r only (all t));
    later = w.later;
  }
    where
      line : ok_line p bits ≡ greedy_line (params_for l g) g
      line = ap (ok_line p) (count ∙ ap (λ (x : Summarized). x.summary.bits) is) ∙ ap (λ (q : Parameters). greedy_line q g) params

      all : IsTrue td → AreWhole (greedy_archive (params_for l g) g) (archive_in base after.files)
      all t = subst (λ (x : Archive). AreWhole x (archive_in base after.files)) files_are (are_whole a.files (archive_in base after.files) (w.ok t))

pub returns-in_err-write_archive : goal.returns-in_err-write_archive
returns-in_err-write_archive g c = record {
  builds = λ l d params is.
      rw (is_that_err c.from_residual.result _ c.from_residual.ensures.1)
      (builds_stopped l d c.args.base.now _ _ _ _ c.args.params.now params c.args.archive.now is c.in_err-write_archive.field-0.0 refl c.in_err-write_archive.ensures);
  later = g.met.O.Sink.stays _;
}

pub returns : goal.returns
returns g c =
    let o = c.print_ok.ensures in
    record {
      builds = λ l d params is.
          builds_done l d c.args.base.now _ _ _ _ c.args.params.now params c.args.archive.now is c.bits.result c.bits.ensures c.print_ok.result c.in_ok-write_archive.ensures
          o.puts o.refusals.only o.refusals.failed o.refusals.memory;
      later = o.later;
    }
