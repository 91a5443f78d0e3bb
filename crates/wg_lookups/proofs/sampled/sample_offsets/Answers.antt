use Rattle.std.proofs.Common.{◌≡◌, ◌∙◌, ◌++◌, ℕ, List, Some, Ok, refl, sym, ap, subst}
use Rattle.std.specs.FinMap as map
use Rattle.wg_bits.specs.Bits.{bits_of}
use Rattle.wg_outside.specs.{Outside.Files, declared.suffixes.TheConstants.OFFSETS}
use Rattle.wg_outside.proofs.{FilesLemmas.none_falls-trans, PutsLemmas.is_that_err}
use Rattle.wg_outcomes.specs.{Judged.with_offsets, Names.file_of}
use Rattle.wg_outcomes.specs.declared.status.Input.TheVariants as input
use Rattle.wg_readings.specs.Finding.{IsOpenOn}
use Rattle.wg_readings.proofs.{LoadLemmas.read_unloaded, PairingLemmas.places_go, PairingLemmas.stopped_since}
use Rattle.wg_readings.proofs.ReadingsLemmas.{by_params}
use Rattle.wg_lookups.proofs.sampled.sample_offsets.Goals as goal

same_name : (a b : List ℕ) → Some a ≡ Some b → b ≡ a
same_name a b e = cc

pub returns-in_err-file : goal.returns-in_err-file
returns-in_err-file g c =
    let p = c.args.params.now in
    let k = read_unloaded _ input.Offsets p.arcs (λ r. with_offsets r p) _ _ _ _ _ _ c.in_err-file.ensures.ends in
    rw (is_that_err c.from_residual.result _ c.from_residual.ensures.1)
    (record { reads = record { ends = k.reads.ends; same = k.reads.same; later = k.reads.later }; name = tt; pages = tt; sampled = λ t. tt })

pub returns-in_err-samples : goal.returns-in_err-samples
returns-in_err-samples g c =
    let p = c.args.params.now in
    let name = c.args.base.now ++ OFFSETS.now in
    let f = c.in_ok-file.ensures in
    let e = c.in_err-samples.ensures in
    let s = stopped_since _ (g.D.Depot.files c.args.depot.now) _ _ _ _ p c.in_ok-file.file.name name _ f.same f.later (same_name _ _ f.name)
    (e.stopped (λ t. subst (λ (x : Files). IsOpenOn (map.get x c.in_ok-file.file.name) c.in_ok-file.file.held) (sym f.same) (f.found t))) in
    rw (is_that_err c.from_residual-in_err-samples.result _ c.from_residual-in_err-samples.ensures.1)
    (record {
      reads = record {
        ends = record { only = s.only; causes = s.causes (file_of c.args.base.now) refl; refused = λ t r. s.refused t e.limits r };
        same = e.steps.same ∙ f.same;
        later = none_falls-trans _ _ _ f.later e.steps.later;
      };
      name = tt;
      pages = tt;
      sampled = λ t. tt;
    })

pub returns : goal.returns
returns g c =
    let p = c.args.params.now in
    let files = g.D.Depot.files c.args.depot.now in
    let file = c.in_ok-file.file in
    let f = c.in_ok-file.ensures in
    let s = c.in_ok-samples.ensures in
    record {
      reads = record { ends = tt; same = s.steps.same ∙ f.same; later = none_falls-trans _ _ _ f.later s.steps.later };
      name = f.name ∙ ap Some (sym s.name);
      pages = s.pages;
      sampled = λ t.
          let o = f.found t in
          let there = ap (λ (x : Files). map.get x file.name) f.same ∙ o.is in
          let by = s.samples t o.file there o.held in
          record {
            places = by.1;
            on = record {
              open_on = record {
                file = o.file;
                is = ap (map.get files) s.name ∙ o.is;
                short = o.short;
                held = s.steps.in_step t o.file there o.held;
              };
              is = by.2;
            };
            goes = λ r next.
                places_go r p s.limits (map.get files (c.args.base.now ++ OFFSETS.now)) o.file (ap (map.get files) (sym (same_name _ _ f.name)) ∙ o.is) o.short by.1
                (by_params p (bits_of o.file) _ _ (Ok by.1) by.0 s.pages by.2.reads) next;
          };
    }
