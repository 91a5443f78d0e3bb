use Rattle.std.proofs.Common.{◌∙◌, ℕ, ◌+◌, [], ◌∷◌, ◌++◌, refl, sym, ap, subst}
use Rattle.wg_offsets.specs.Comparing.{AreCompared, Compared}
use Rattle.wg_outside.proofs.FilesLemmas.{none_falls-refl}
use Rattle.wg_readings.proofs.PairingLemmas.{came, comes, goes_at, next_paired, none_come, stays_stopped, still_named, stopped_since, was_at}
use Rattle.wg_readings.proofs.pairing.pair_next.Goals as goal

pub returns-in-Ok-next_word : goal.returns-in-Ok-next_word
returns-in-Ok-next_word g c =
    let a = c.args.pairing.now in
    let b = c.next_word.new.pairing in
    let w = c.in-Ok-next_word.ensures in
    let l = c.push.ensures in
    let going = w.kept.2 ∙ c.in-Ok.is in
    record {
      name = w.kept.0;
      same = w.steps.same;
      later = w.steps.later;
      come = λ files same counts later name named n at come follows.
          let h = was_at _ _ _ _ _ _ n at a c.in-Ok.is come in
          let k = next_paired c.args.params.now a b c.push.new.self c.in-Ok-next_word.there h.0 w.kept.1 w.words.0 w.words.1 w.value.1 w.steps.looked l.page l.there w.value.0 in
          goes_at _ _ _ _ _ _ _ _ (record b { lengths = c.push.new.self }) going (k.0, k.1 ∙ ap (λ (j : ℕ). j + 1) h.1, l.here, h.3);
      reads = λ t files same name named file is places come.
          let h = came file a places c.in-Ok.is come in
          let is' = still_named _ _ a.name name file same named is in
          let compared : AreCompared b.lengths places h.0 = subst (λ (x : Compared). AreCompared x places h.0) (sym w.kept.1) h.1.compared in
          comes file _ (places ++ c.args.here ∷ []) (h.0 ++ b.words.offset ∷ []) going
          (record {
            held = w.steps.in_step t file is' h.1.held;
            read = w.reads t file is' h.1.held h.0 h.1.read;
            compared = subst (λ (k : ℕ). AreCompared c.push.new.self (places ++ c.args.here ∷ []) (h.0 ++ k ∷ [])) w.value.0 (l.compared places h.0 compared);
          });
    }

pub returns-in-Err-next_word : goal.returns-in-Err-next_word
returns-in-Err-next_word g c =
    let a = c.args.pairing.now in
    let w = c.in-Err-next_word.ensures in
    record {
      name = w.kept.0;
      same = w.steps.same;
      later = w.steps.later;
      come = λ files same counts later name named n at come follows.
          let h = was_at _ _ _ _ _ _ n at a c.in-Ok.is come in
          stopped_since _ files _ counts _ _ c.args.params.now a.name name _ same later named
          (w.stopped h.0.looked (λ t. let k = h.3 t in (k.0, still_named _ _ a.name name k.0 same named k.1))
          (λ t file is. let k = follows t file (still_named _ _ name a.name file (sym same) (sym named) is) in let x = came file a k.0 c.in-Ok.is k.1 in (x.1.held, (x.0, x.1.read))));
      reads = λ t files same name named file is places come. tt;
    }

pub returns-in-Err : goal.returns-in-Err
returns-in-Err g c =
    let a = c.args.pairing.now in
    record {
      name = refl;
      same = refl;
      later = none_falls-refl _;
      come = λ files same counts later name named n at come follows. stays_stopped _ _ _ _ _ _ n at _ _ a c.in-Err._stopped c.in-Err.is come;
      reads = λ t files same name named file is places come. none_come file a _ c.in-Err._stopped c.in-Err.is;
    }
