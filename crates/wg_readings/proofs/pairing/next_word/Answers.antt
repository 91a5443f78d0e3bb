use Rattle.std.proofs.Common.{◌∙◌, rules, refl, ap}
use Rattle.std.specs.FinMap as map
use Rattle.wg_bits.specs.Bits.{bits_of}
use Rattle.wg_readings.proofs.PairingLemmas.{read_at, steps_as, word_stopped_on}
use Rattle.wg_readings.proofs.pairing.next_word.Goals as goal

pub returns-in-Ok : goal.returns-in-Ok
returns-in-Ok g c =
    let a = c.new-source.ensures in
    let named = ap (map.get (g.D.Depot.files c.args.depot.now)) c.as_str.ensures in
    record {
      kept = (refl, refl, refl);
      words = (c.in-Ok.ensures.code, c.in-Ok.ensures.pages, c.in-Ok.ensures.onward);
      value = (c.in-Ok.ensures.value, c.in-Ok.ensures.count);
      first = c.in-Ok.ensures.first;
      steps =
          steps_as _ g.D.Depot.files g.D.Depot.counts _ _ _ c.args.depot.now _ _ _ c.args.pairing.now.held _
          (a.name ∙ c.as_str.ensures) (ap (λ b. b.now) a.depot) (search rules) (ap (λ b. b.now) a.held) c.in-Ok.ensures.later.3;
      reads = λ t file is i places r.
          read_at (bits_of file) c.next.new.self c.next.new.source.held.now.at _ _ (search rules)
          (c.in-Ok.ensures.reads (bits_of file) places (rw (a.depot, a.held, a.name) (t, (file, named ∙ is, i, refl))) (rw a.held r));
      stopped = λ looked found reads. tt;
    }

pub returns-in-Err : goal.returns-in-Err
returns-in-Err g c =
    let a = c.new-source.ensures in
    let named = ap (map.get (g.D.Depot.files c.args.depot.now)) c.as_str.ensures in
    record {
      kept = (refl, refl, refl);
      words = (c.in-Err.ensures.code, c.in-Err.ensures.pages, c.in-Err.ensures.onward);
      value = tt;
      first = tt;
      steps =
          steps_as _ g.D.Depot.files g.D.Depot.counts _ _ _ c.args.depot.now _ _ _ c.args.pairing.now.held _
          (a.name ∙ c.as_str.ensures) (ap (λ b. b.now) a.depot) (search rules) (ap (λ b. b.now) a.held) c.in-Err.ensures.later.3;
      reads = λ t file is i places r. tt;
      stopped = λ looked found reads.
          rw c.word_ending.ensures
          (word_stopped_on _ c.args.pairing.now.name _ _ _ c.args.pairing.now.held c.args.params.now c.in-Err.error (search rules) looked found
          (λ t file is.
          let k = reads t file is in (
            k.0,
            rw (c.requires.code, c.requires.pages) at (c.in-Err.ensures.fault (bits_of file) k.1.0 (rw (a.depot, a.held, a.name) (t, (file, named ∙ is, k.0, refl))) (rw a.held k.1.1)),
          )));
    }
