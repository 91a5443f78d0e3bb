-- Readings of the files of a chain follow one another, and a cause stays one.
use Rattle.std.proofs.Common.{◌≡◌, ℕ, Bool, List, refl, sym, ◌∙◌, ap, subst}
use Rattle.wg_outside.specs.Outside.{Files, Counts}
use Rattle.wg_bits.specs.Bits.{bits_of}
use Rattle.wg_offsets.specs.Sampling.{Sampled, IsSampleOf}
use Rattle.wg_grammar.specs.declared.error.ReadError.{ReadError}
use Rattle.wg_grammar.specs.declared.fault.OffsetWord.{OffsetWord}
use Rattle.wg_grammar.specs.declared.error.ReadError.TheVariants as words
use Rattle.wg_outside.specs.declared.whole.LoadError.{LoadError}
use Rattle.wg_source.specs.Held.{HeldBytes}
use Rattle.wg_source.specs.Stepping.{Moves}
use Rattle.wg_source.specs.StepLaws.{no_step, two_steps, step_moves, two_moves, there_after, cause_after}
use Rattle.wg_lookups.specs.Sampling.{HasWordCause}
use Rattle.wg_lookups.specs.declared.found_file.FoundFile.{FoundFile}
use Rattle.wg_lookups.specs.declared.sampled.SampledFile.{SampledFile}
use Rattle.wg_lookups.specs.declared.chain_files.Unread.{Unread}
use Rattle.wg_lookups.specs.declared.chain_files.Unread.TheVariants as unread
use Rattle.wg_lookups.specs.ChainFiles.{HasBits, HasChainCause, HasPlaces, ReadsBoth, ReadsOn}

-- a file that is let be while another is read
pub unmoved : (told : Bool) (m n : List ℕ) (f1 f2 : Files) (c1 c2 : List ℕ → Counts) (h1 h2 g : HeldBytes)
    → Moves told m f1 f2 c1 c2 h1 h2 → Moves told n f1 f2 c1 c2 g g
unmoved told m n f1 f2 c1 c2 h1 h2 g a =
    record { same = a.same; later = a.later; looked = λ e. e; in_step = λ t file is i. i }

pub reads_none : (told : Bool) (f : Files) (c : List ℕ → Counts) (g : FoundFile) (s : SampledFile)
    → ReadsOn told f f c c g g s s
reads_none told f c g s = record { name = refl; offsets = refl; steps = no_step told g.name f c g.held }

module _ (told : Bool) (f1 f2 f3 : Files) (c1 c2 c3 : List ℕ → Counts) (g1 g2 g3 : FoundFile)
    (s1 s2 s3 : SampledFile) where
  pub reads_twice : ReadsOn told f1 f2 c1 c2 g1 g2 s1 s2 → ReadsOn told f2 f3 c2 c3 g2 g3 s2 s3
      → ReadsOn told f1 f3 c1 c3 g1 g3 s1 s3
  reads_twice a b = record {
    name = b.name ∙ a.name;
    offsets = b.offsets ∙ a.offsets;
    steps = two_steps told g1.name g2.name f1 f2 f3 c1 c2 c3 g1.held g2.held g3.held a.name a.steps b.steps;
  }

  pub reads_both_twice : ReadsBoth told f1 f2 c1 c2 g1 g2 s1 s2 → ReadsBoth told f2 f3 c2 c3 g2 g3 s2 s3
      → ReadsBoth told f1 f3 c1 c3 g1 g3 s1 s3
  reads_both_twice a b = record {
    name = b.name ∙ a.name;
    stored = b.stored ∙ a.stored;
    samples = b.samples ∙ a.samples;
    graph = two_moves told g1.name g2.name f1 f2 f3 c1 c2 c3 g1.held g2.held g3.held a.name a.graph b.graph;
    offsets = two_moves told s1.file.name s2.file.name f1 f2 f3 c1 c2 c3 s1.file.held s2.file.held s3.file.held a.stored
        a.offsets b.offsets;
  }

module _ (told : Bool) (f1 f2 : Files) (c1 c2 : List ℕ → Counts) (g1 g2 : FoundFile) (s1 s2 : SampledFile) where
  pub reads_graph : g2.name ≡ g1.name → s2 ≡ s1 → Moves told g1.name f1 f2 c1 c2 g1.held g2.held
      → ReadsBoth told f1 f2 c1 c2 g1 g2 s1 s2
  reads_graph name same a = record {
    name = name;
    stored = ap (λ (s : SampledFile). s.file.name) same;
    samples = ap (λ (s : SampledFile). s.samples) same;
    graph = a;
    offsets = subst (λ (s : SampledFile). Moves told s1.file.name f1 f2 c1 c2 s1.file.held s.file.held) (sym same)
        (unmoved told g1.name s1.file.name f1 f2 c1 c2 g1.held g2.held s1.file.held a);
  }

  pub both_by_reading : ReadsOn told f1 f2 c1 c2 g1 g2 s1 s2 → ReadsBoth told f1 f2 c1 c2 g1 g2 s1 s2
  both_by_reading a =
      reads_graph a.name a.offsets (step_moves told g1.name f1 f2 c1 c2 g1.held g2.held a.steps)

  -- what the files are known to hold
  pub bits_after : (bits : List Bool) → ReadsBoth told f1 f2 c1 c2 g1 g2 s1 s2 → HasBits told f1 g1 bits
      → HasBits told f2 g2 bits
  bits_after bits a r =
      let is = there_after told g1.name g2.name f1 f2 c1 c2 g1.held g2.held r.1.0 a.name a.graph r.1.1 in
      (r.0, (r.1.0, is, a.graph.in_step r.0 r.1.0 r.1.1 r.1.2, r.1.3))

  pub places_after : (places : List ℕ) → ReadsBoth told f1 f2 c1 c2 g1 g2 s1 s2 → HasPlaces told f1 s1 places
      → HasPlaces told f2 s2 places
  places_after places a r =
      let o = r.1.open_on in
      let is = there_after told s1.file.name s2.file.name f1 f2 c1 c2 s1.file.held s2.file.held o.file a.stored
      a.offsets o.is in (
        r.0,
        record {
          open_on = record { file = o.file; is = is; short = o.short; held = a.offsets.in_step r.0 o.file o.is o.held };
          is = subst (λ (x : Sampled). IsSampleOf (bits_of o.file) x places) (sym a.samples) r.1.is;
        },
      )

  word_cause : (c3 : List ℕ → Counts) (e : ReadError OffsetWord LoadError) → ReadsBoth told f1 f2 c1 c2 g1 g2 s1 s2
      → HasWordCause told f2 c2 c3 s2 e → HasWordCause told f1 c1 c3 s1 e
  word_cause c3 (words.Refused e) a x =
      cause_after told s1.file.name s2.file.name f1 f2 c1 c2 c3 s1.file.held s2.file.held e a.stored a.offsets x
  word_cause c3 words.Memory a x = x
  word_cause c3 (words.Fault w) a x = λ t places on. x t places (places_after places a (t, on)).1

  pub chain_cause_after : (c3 : List ℕ → Counts) (e : Unread) → ReadsBoth told f1 f2 c1 c2 g1 g2 s1 s2
      → HasChainCause told f2 c2 c3 g2 s2 e → HasChainCause told f1 c1 c3 g1 s1 e
  chain_cause_after c3 (unread.Graph e) a x =
      cause_after told g1.name g2.name f1 f2 c1 c2 c3 g1.held g2.held e a.name a.graph x
  chain_cause_after c3 (unread.Offsets e) a x = word_cause c3 e a x
