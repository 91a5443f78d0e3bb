use Rattle.std.proofs.Common.{◌∙◌, ℕ, [], ◌∷◌, sym, ap, subst}
use Rattle.wg_bits.specs.Bits.{bits_of}
use Rattle.wg_offsets.specs.Stages.{AreRead, WordsRead}
use Rattle.wg_outside.proofs.FilesLemmas.{none_falls-trans}
use Rattle.wg_source.specs.Held.{HeldBytes}
use Rattle.wg_readings.proofs.PairingLemmas.{comes, first_paired, goes_at, looked_read, still_named, stopped_since, unread_held}
use Rattle.wg_readings.proofs.pairing.begin_pairing.Goals as goal

pub returns-in-Err : goal.returns-in-Err
returns-in-Err g c =
    let e = c.in-Err.ensures in
    record {
      name = e.kept.0;
      same = e.steps.same;
      later = e.steps.later;
      come = e.stopped (λ t file is. unread_held c.args.params.now c.args.pairing.now file c.requires);
      reads = λ t file is. tt;
    }

pub returns-in-Err-next_word : goal.returns-in-Err-next_word
returns-in-Err-next_word g c =
    let a = c.args.pairing.now in
    let p = c.args.params.now in
    let l = c.in-Ok.ensures in
    let n = c.in-Err-next_word.ensures in
    record {
      name = n.kept.0 ∙ l.kept.0;
      same = n.steps.same ∙ l.steps.same;
      later = none_falls-trans _ _ _ l.steps.later n.steps.later;
      come = stopped_since _ _ _ _ _ _ p c.look.new.pairing.name a.name _ l.steps.same l.steps.later l.kept.0
          (n.stopped (ap (λ (h : HeldBytes). h.looked) l.looked)
          (λ t. let f = l.there t in (f.0, still_named _ _ c.look.new.pairing.name a.name f.0 l.steps.same l.kept.0 f.1))
          (λ t file is.
          let is' = still_named _ _ a.name c.look.new.pairing.name file (sym l.steps.same) (sym l.kept.0) is in
          (l.steps.in_step t file is' (unread_held p a file c.requires), ([], looked_read p a c.look.new.pairing (bits_of file) c.requires l.kept.1 l.looked))));
      reads = λ t file is. tt;
    }

pub returns-in-Ok-next_word : goal.returns-in-Ok-next_word
returns-in-Ok-next_word g c =
    let a = c.args.pairing.now in
    let m = c.look.new.pairing in
    let p = c.args.params.now in
    let l = c.in-Ok.ensures in
    let n = c.in-Ok-next_word.ensures in
    let w = l.kept.1 ∙ c.requires.words in
    let going = n.kept.2 ∙ l.kept.3 ∙ c.requires.going in
    let k = first_paired p a m c.next_word.new.pairing c.requires l.kept.1 l.kept.2 l.looked n.kept.1 n.words.0 n.words.1 n.value.1 n.first n.steps.looked in
    record {
      name = n.kept.0 ∙ l.kept.0;
      same = n.steps.same ∙ l.steps.same;
      later = none_falls-trans _ _ _ l.steps.later n.steps.later;
      come = goes_at _ _ _ _ _ _ _ _ c.next_word.new.pairing going (k.0, k.1, k.2, l.there);
      reads = λ t file is.
          let zero = n.first (ap (λ (x : WordsRead). x.count) w) (ap (λ (x : WordsRead). x.offset) w) in
          let is' = still_named _ _ m.name a.name file l.steps.same l.kept.0 is in
          let held = l.steps.in_step t file is (unread_held p a file c.requires) in
          comes file _ (0 ∷ []) (0 ∷ []) going
          (record {
            held = n.steps.in_step t file is' held;
            read = subst (λ (k : ℕ). AreRead (bits_of file) c.next_word.new.pairing.words c.next_word.new.pairing.held.at (k ∷ [])) zero (n.reads t file is' held [] (looked_read p a m (bits_of file) c.requires l.kept.1 l.looked));
            compared = rw (n.kept.1 ∙ l.kept.2) c.requires.compared;
          });
    }
