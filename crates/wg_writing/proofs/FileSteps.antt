-- What stands of an archive's files after each step of its writing.
use Rattle.std.proofs.Common.{◌≡◌, inl, inr, ℕ, ◌<◌, Bool, List, [], length, take, refl, sym, ap, subst, ◌∙◌, Option, Some, Result, Ok, Err}
use Rattle.std.specs.{Bool.IsTrue, Result.IfErr, Result.IsErrAnd, Result.OnOk}
use Rattle.std.specs.FinMap as map
use Rattle.std.proofs.Math.Seq.{take-length}
use Rattle.wg_outside.specs.{Outside.Files, Outside.Counts, declared.output.Output.Output}
use Rattle.wg_outside.specs.Suffixes.{properties_name, graph_name, offsets_name}
use Rattle.wg_outside.proofs.{FilesLemmas.none_falls-refl, FilesLemmas.none_falls-trans, PutsLemmas.is_that_err}
use Rattle.wg_outside.proofs.SuffixLemmas.{graph_offsets}
use Rattle.wg_outside.specs.declared.output.Output.TheVariants as output
use Rattle.wg_encoder.proofs.FileNames.{properties_graph, properties_offsets}
use Rattle.wg_greedy.specs.{Archive.Archive, Held.HoldsFront, Held.HoldsLess}
use Rattle.wg_outcomes.specs.{Answers.status_in, Names.archive_named, Causes.IncreasedAt, declared.ending.Ending.Ending}
use Rattle.wg_outcomes.specs.Written.{ArchiveFiles, FaultsRose, FilesAfter, IsStopped, IsStoppedAt, StayBeside, Touches, archive_in, emptied, unnamed}
use Rattle.wg_outcomes.specs.declared.status.Status.TheVariants.{Done, Memory, WriteFault}
use Rattle.wg_outcomes.proofs.{Statuses.by_stop, Statuses.rose_late, WritingLemmas.rose_there, WritingLemmas.stopped_at}
use Rattle.wg_outcomes.proofs.BuildLemmas.{others_twice}
use Rattle.wg_writing.specs.{Writing.WritesFiles, Writing.names_of, Writing.whole, declared.writing.FileNames.FileNames}

-- what a step answers
abbrev Outcome : Type 0
Outcome = Result (Unit {0}) Ending

abbrev some : List ℕ → Option (List ℕ)
some m = Some m

-- one of the files, and the same files with another in its place
abbrev part : Output → ArchiveFiles → Option (List ℕ)
part output.Properties x = x.properties
part output.Graph x = x.graph
part output.Offsets x = x.offsets
part output.Certificate x = x.properties
part output.Out x = x.properties

abbrev with_part : Output → Option (List ℕ) → ArchiveFiles → ArchiveFiles
with_part output.Properties v x = record x { properties = v }
with_part output.Graph v x = record x { graph = v }
with_part output.Offsets v x = record x { offsets = v }
with_part output.Certificate v x = x
with_part output.Out v x = x

module _ (base : List ℕ) where
  archive_is : (f : Files) (p g o : Option (List ℕ)) → map.get f (properties_name base) ≡ p → map.get f (graph_name base) ≡ g → map.get f (offsets_name base) ≡ o
      → archive_in base f ≡ record { properties = p; graph = g; offsets = o }
  archive_is f p g o at_p at_g at_o = λ i. record { properties = at_p i; graph = at_g i; offsets = at_o i }

  -- a file of the archive has changed, and no other
  changed : (o : Output) (m : List ℕ) (v : Option (List ℕ)) (f h : Files) → archive_named base o ≡ Some m → StayBeside m f h → map.get h m ≡ v → archive_in base h ≡ with_part o v (archive_in base f)
  changed output.Properties m v f h named stay is =
      let m_is : properties_name base ≡ m = cc named in
      archive_is h v (map.get f (graph_name base)) (map.get f (offsets_name base)) (ap (map.get h) m_is ∙ is)
      (stay (graph_name base) (λ same. properties_graph base (m_is ∙ sym same))) (stay (offsets_name base) (λ same. properties_offsets base (m_is ∙ sym same)))
  changed output.Graph m v f h named stay is =
      let m_is : graph_name base ≡ m = cc named in
      archive_is h (map.get f (properties_name base)) v (map.get f (offsets_name base)) (stay (properties_name base) (λ same. properties_graph base (same ∙ sym m_is)))
      (ap (map.get h) m_is ∙ is) (stay (offsets_name base) (λ same. graph_offsets base (m_is ∙ sym same)))
  changed output.Offsets m v f h named stay is =
      let m_is : offsets_name base ≡ m = cc named in
      archive_is h (map.get f (properties_name base)) (map.get f (graph_name base)) v (stay (properties_name base) (λ same. properties_offsets base (same ∙ sym m_is)))
      (stay (graph_name base) (λ same. graph_offsets base (same ∙ sym m_is))) (ap (map.get h) m_is ∙ is)
  changed _ m v f h named stay is = absurd (cc named)

  -- what a file of the archive holds
  held : (o : Output) (m : List ℕ) (f : Files) → archive_named base o ≡ Some m → map.get f m ≡ part o (archive_in base f)
  held output.Properties m f named = let m_is : properties_name base ≡ m = cc named in ap (map.get f) (sym m_is)
  held output.Graph m f named = let m_is : graph_name base ≡ m = cc named in ap (map.get f) (sym m_is)
  held output.Offsets m f named = let m_is : offsets_name base ≡ m = cc named in ap (map.get f) (sym m_is)
  held _ m f named = absurd (cc named)

  module _ (a : Archive) (first : ArchiveFiles) (told : Bool) where
    -- what may stand where this file stopped the writing
    abbrev MayStand : Output → ArchiveFiles → Type 0
    MayStand o x = FilesAfter a first x (WriteFault o) × FilesAfter a first x Memory

    module _ (o : Output) (m : List ℕ) (named : archive_named base o ≡ Some m) (now : ArchiveFiles) (f h : Files) (b c : List ℕ → Counts) (is_now : IsTrue told → archive_in base f ≡ now) where
      abbrev Reaches : ArchiveFiles → Outcome → Type 0
      Reaches x r = WritesFiles a base first x told f h b c r

      abbrev Touched : Outcome → Type 0
      Touched r = Touches o m told f h b c r

      called : (reached : ArchiveFiles) (r : Outcome) → Touched r → (IsTrue told → OnOk r (archive_in base h ≡ reached))
          → (IsTrue told → IfErr r (λ e. MayStand o (archive_in base h))) → Reaches reached r
      called reached r t done stopped = record {
        ok = done;
        err = λ told. where_stopped r t.only (stopped told);
        others = λ told q other. t.others told q (λ same. other o (named ∙ ap Some (sym same)));
        only = why r t.only;
        causes = rose r t.only t.cause;
        later = t.later;
      }
        where
          where_stopped : (r : Outcome) → IfErr r (λ e. IsStoppedAt o e.status) → IfErr r (λ e. MayStand o (archive_in base h)) → IfErr r (λ e. FilesAfter a first (archive_in base h) e.status)
          where_stopped (Ok done) only may = tt
          where_stopped (Err e) only may = by_stop (FilesAfter a first (archive_in base h)) o e.status only may.0 may.1

          why : (r : Outcome) → IfErr r (λ e. IsStoppedAt o e.status) → IfErr r (λ e. IsStopped e.status)
          why (Ok done) only = tt
          why (Err e) only = stopped_at o e.status only

          rose : (r : Outcome) → IfErr r (λ e. IsStoppedAt o e.status) → (status_in r ≡ WriteFault o → IncreasedAt (λ k. k.write_faults) (Some m) b c) → FaultsRose base b c (status_in r)
          rose (Ok done) only cause x is = absurd (let no : Done ≡ WriteFault x = is in cc)
          rose (Err e) only cause x is = rose_there (archive_named base) o m named b c e.status only cause x is

      -- a file is created
      pub creates : (r : Outcome) → MayStand o now → (IsTrue told → OnOk r (map.get h m ≡ Some [])) → IfErr r (λ e. h ≡ f) → Touched r
          → Reaches (with_part o (Some []) now) r
      creates (Ok done) may ok err t =
          called (with_part o (Some []) now) (Ok done) t (λ told. changed o m (Some []) f h named (t.others told) (ok told) ∙ ap (with_part o (Some [])) (is_now told)) (λ told. tt)
      creates (Err e) may ok err t =
          called (with_part o (Some []) now) (Err e) t (λ told. tt)
          (λ told. subst (MayStand o) (sym (ap (archive_in base) err ∙ is_now told)) may)

      -- or filled, which is empty
      pub fills : (bytes piece : List ℕ) → piece ≡ bytes → (r : Outcome) → part o now ≡ Some [] → ((k : ℕ) → k < length bytes → MayStand o (with_part o (Some (take k bytes)) now))
          → (IsTrue told → map.get f m ≡ Some [] → OnOk r (map.get h m ≡ Some piece)) → (IsTrue told → map.get f m ≡ Some [] → IfErr r (λ e. HoldsLess (map.get h m) piece)) → Touched r
          → Reaches (with_part o (Some bytes) now) r
      fills bytes piece same r empty may ok err t =
          by_result r (λ told is. subst (λ (l : List ℕ). OnOk r (map.get h m ≡ Some l)) same (ok told is))
          (λ told is. subst (λ (l : List ℕ). IfErr r (λ e. HoldsLess (map.get h m) l)) same (err told is)) t
        where
          there : IsTrue told → map.get f m ≡ Some []
          there told = held o m f named ∙ ap (part o) (is_now told) ∙ empty

          by_result : (r : Outcome) → (IsTrue told → map.get f m ≡ Some [] → OnOk r (map.get h m ≡ Some bytes)) → (IsTrue told → map.get f m ≡ Some [] → IfErr r (λ e. HoldsLess (map.get h m) bytes))
              → Touched r → Reaches (with_part o (Some bytes) now) r
          by_result (Ok done) ok err t =
              called (with_part o (Some bytes) now) (Ok done) t (λ told. changed o m (Some bytes) f h named (t.others told) (ok told (there told))
              ∙ ap (with_part o (Some bytes)) (is_now told)) (λ told. tt)
          by_result (Err e) ok err t =
              called (with_part o (Some bytes) now) (Err e) t (λ told. tt)
              (λ told.
              let less = err told (there told) in
              subst (MayStand o) (sym (changed o m (Some (take less.0 bytes)) f h named (t.others told) less.2 ∙ ap (with_part o (Some (take less.0 bytes))) (is_now told))) (may less.0 less.1))

  -- ---- the steps one after the other

  module _ (a : Archive) (first : ArchiveFiles) (told : Bool) where
    -- a step that was done, and others after it
    pub and_then : (x y : ArchiveFiles) (f g h : Files) (b c d : List ℕ → Counts) (r : Outcome) → WritesFiles a base first x told f g b c (Ok tt) → WritesFiles a base first y told g h c d r
        → WritesFiles a base first y told f h b d r
    and_then x y f g h b c d r one two = record {
      ok = two.ok;
      err = two.err;
      others = λ t. others_twice (archive_named base) f g h (one.others t) (two.others t);
      only = two.only;
      causes = λ o is. rose_late (λ k. k.write_faults) (archive_named base o) b c d one.later.write_faults (two.causes o is);
      later = none_falls-trans b c d one.later two.later;
    }

    -- the exit of a `?`
    pub writes_exit : (x y : ArchiveFiles) (f h : Files) (b c : List ℕ → Counts) (r : Outcome) (e : Ending) → IsErrAnd r (λ z. z ≡ e) → WritesFiles a base first x told f h b c (Err e)
        → WritesFiles a base first y told f h b c r
    writes_exit x y f h b c r e is w =
        subst (λ (z : Outcome). WritesFiles a base first y told f h b c z) (sym (is_that_err r e is))
        (record { ok = λ t. tt; err = w.err; others = w.others; only = w.only; causes = w.causes; later = w.later })

  -- memory ran out before a file was touched
  pub none_written : (a : Archive) (told : Bool) (y : ArchiveFiles) (f : Files) (b : List ℕ → Counts) (e : Ending) → e.status ≡ Memory → WritesFiles a base (archive_in base f) y told f f b b (Err e)
  none_written a told y f b e want = record {
    ok = λ t. tt;
    err = λ t. subst (FilesAfter a (archive_in base f) (archive_in base f)) (sym want) (inl (inl refl));
    others = λ t q other. refl;
    only = inr want;
    causes = λ o is. absurd (let no : Memory ≡ WriteFault o = sym want ∙ is in cc);
    later = none_falls-refl b;
  }

-- ---- the six steps
module _ (base : List ℕ) (a : Archive) (n : FileNames) (is : n ≡ names_of base) (first : ArchiveFiles) (told : Bool) (f h : Files) (b c : List ℕ → Counts) (r : Outcome) where
  abbrev Stand : ArchiveFiles → Type 0
  Stand now = IsTrue told → archive_in base f ≡ now

  abbrev Reach : ArchiveFiles → Type 0
  Reach x = WritesFiles a base first x told f h b c r

  abbrev Created : List ℕ → Type 0
  Created m = IsTrue told → OnOk r (map.get h m ≡ Some [])

  abbrev Kept : Type 0
  Kept = IfErr r (λ e. h ≡ f)

  abbrev Filled : List ℕ → List ℕ → Type 0
  Filled m bytes = IsTrue told → map.get f m ≡ Some [] → OnOk r (map.get h m ≡ Some bytes)

  abbrev Short : List ℕ → List ℕ → Type 0
  Short m bytes = IsTrue told → map.get f m ≡ Some [] → IfErr r (λ e. HoldsLess (map.get h m) bytes)

  abbrev Changes : Output → List ℕ → Type 0
  Changes o m = Touches o m told f h b c r

  pub properties_created : Stand first → Created n.properties → Kept → Changes output.Properties n.properties → Reach (record first { properties = Some [] })
  properties_created now ok err t =
      creates base a first told output.Properties n.properties (ap (λ (x : FileNames). some x.properties) (sym is)) first f h b c now r (inl refl, inl (inl refl)) ok err t

  pub graph_created : Stand (record first { properties = Some [] }) → Created n.graph → Kept → Changes output.Graph n.graph → Reach (record first { properties = Some []; graph = Some [] })
  graph_created now ok err t =
      creates base a first told output.Graph n.graph (ap (λ (x : FileNames). some x.graph) (sym is)) (record first { properties = Some [] }) f h b c now r
      ((refl, inl (refl, refl)), inr (inl (refl, inl (refl, refl)))) ok err t

  pub offsets_created : Stand (record first { properties = Some []; graph = Some [] }) → Created n.offsets → Kept → Changes output.Offsets n.offsets → Reach emptied
  offsets_created now ok err t =
      creates base a first told output.Offsets n.offsets (ap (λ (x : FileNames). some x.offsets) (sym is)) (record first { properties = Some []; graph = Some [] }) f h b c now r
      ((refl, inl (refl, refl)), inr (inr (inl (refl, inl (refl, refl))))) ok err t

  pub graph_filled : (piece : List ℕ) → piece ≡ a.graph → Stand emptied → Filled n.graph piece → Short n.graph piece → Changes output.Graph n.graph → Reach (record emptied { graph = Some a.graph })
  graph_filled piece same now ok err t =
      fills base a first told output.Graph n.graph (ap (λ (x : FileNames). some x.graph) (sym is)) emptied f h b c now a.graph piece same r refl
      (λ k less. ((refl, inr ((k, less, refl), (0, refl))), inr (inl (refl, inr ((k, less, refl), (0, refl)))))) ok err t

  pub offsets_filled : (piece : List ℕ) → piece ≡ a.offsets → Stand (record emptied { graph = Some a.graph }) → Filled n.offsets piece → Short n.offsets piece
      → Changes output.Offsets n.offsets → Reach (unnamed a)
  offsets_filled piece same now ok err t =
      fills base a first told output.Offsets n.offsets (ap (λ (x : FileNames). some x.offsets) (sym is)) (record emptied { graph = Some a.graph }) f h b c now a.offsets piece same r refl
      (λ k less. ((refl, inr (all, (k, less, refl))), inr (inr (inl (refl, inr (all, (k, less, refl))))))) ok err t
    where
      all : HoldsFront (Some a.graph) a.graph
      all = (length a.graph, ap Some (sym (take-length a.graph)))

  pub properties_filled : (piece : List ℕ) → piece ≡ a.properties → Stand (unnamed a) → Filled n.properties piece → Short n.properties piece → Changes output.Properties n.properties → Reach (whole a)
  properties_filled piece same now ok err t =
      fills base a first told output.Properties n.properties (ap (λ (x : FileNames). some x.properties) (sym is)) (unnamed a) f h b c now a.properties piece same r refl
      (λ k less. (inr (refl, refl, (k, less, refl)), inl (inr (refl, refl, (k, less, refl))))) ok err t
