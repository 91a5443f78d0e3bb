-- An offsets file that is read in pieces, in a validation.
use Rattle.std.proofs.Common.{◌≡◌, inl, inr, ℕ, ◌+◌, ◌<◌, ◌≤◌, Bool, true, List, [], length, refl, sym, ◌∙◌, ap, subst, Option, Some, None, Result, Ok, Err, arith}
use Rattle.std.specs.{Bool.IsTrue, Result.OnOk, Result.IfErr, Result.MatchResult}
use Rattle.std.proofs.lemmas.Result.{IfErr-weaker, MatchResult-weaker}
use Rattle.std.specs.FinMap as map
use Rattle.wg_outside.specs.{declared.limits.TheConstants.MOST_BYTES, declared.whole.LoadError.LoadError}
use Rattle.wg_outside.specs.Outside.{Files, Counts, NonDecreasing}
use Rattle.wg_offsets.specs.{Comparing.AreCompared, Comparing.Compared, Stages.AreRead, Stages.WordsRead}
use Rattle.wg_outside.specs.declared.whole.LoadError.TheVariants as load
use Rattle.wg_bits.specs.Bits.{bits_of}
use Rattle.wg_params.specs.Parameters.{Parameters, IsWithinLimits}
use Rattle.wg_grammar.specs.declared.fault.ArchiveFault.TheVariants as archive
use Rattle.wg_grammar.specs.{Archive.Accepted, Archive.places_of, Record.Whole, declared.fault.OffsetWord.OffsetWord}
use Rattle.wg_offsets.specs.{Places.last_place, Words.ReadsOffsets}
use Rattle.wg_grammar.specs.{Errors.OfFault, Errors.OfRefusal, declared.error.ReadError.ReadError}
use Rattle.wg_grammar.specs.declared.error.ReadError.TheVariants as words
use Rattle.wg_source.specs.Held.{HeldBytes, IsHeldOf}
use Rattle.wg_source.specs.Stepping.{Steps as StepsOn, HasCause as HasReadCause}
use Rattle.wg_outcomes.specs.{Answers.Answers, Answers.Steps, Causes.IncreasedAt, Promised.IsBadFile, Readings.Readings}
use Rattle.wg_outcomes.specs.Judged.{Judged, status_of, with_lengths, with_offsets, offsets_then}
use Rattle.wg_readings.specs.Pairing.{ComesWith, EndsPairing, HasCome, IsAt, IsPaired, IsPairedWith, IsStopped, IsUnread, files_then, status_at, word_ending}
use Rattle.wg_readings.specs.{Finding.IsOpenOn, declared.pairing.Pairing.Pairing}
use Rattle.wg_outcomes.specs.{declared.ending.Ending.Ending, declared.status.Input.Input}
use Rattle.wg_readings.specs.Passes.{IsGraphFile, accepted_of}
use Rattle.wg_outcomes.specs.declared.status.Input.TheVariants.{Graph, Offsets}
use Rattle.wg_outcomes.specs.declared.status.Status.TheVariants.{BadArchive, Memory}
use Rattle.wg_outcomes.proofs.{FileLemmas.file_goes, FileLemmas.held_goes, Statuses.bad_own, Statuses.own_caused}
use Rattle.wg_readings.proofs.{PassLemmas.graph_goes, UnderWay.cause_later, FindingLemmas.nothing_held}
use Rattle.wg_readings.proofs.LoadLemmas.{end_caused}
use Rattle.wg_readings.proofs.ReadingsLemmas.{goes_on_from, offsets_refused, steps_alike}

-- ---- what an error leads to
module _ (r : Readings) (p : Parameters) where
  word_steps : IsWithinLimits p → (w : OffsetWord) (file : List ℕ) → length file ≤ MOST_BYTES → ReadsOffsets p.offsets p.nodes (bits_of file) (Err w) → (next : List ℕ → Judged)
      → Answers (offsets_then r p (Some file) next) (BadArchive (archive.Offsets w))
  word_steps limits w file short reads next =
      inl (sym (ap status_of (file_goes Offsets file short (λ more. with_offsets r p more next) ∙ offsets_refused r p limits file w reads next)))

  -- a file that was read to its end
  pub places_go : IsWithinLimits p → (held : Option (List ℕ)) (file : List ℕ) → held ≡ Some file → length file ≤ MOST_BYTES → (places : List ℕ) → ReadsOffsets p.offsets p.nodes (bits_of file) (Ok places)
      → (next : List ℕ → Judged) → offsets_then r p held next ≡ next places
  places_go limits held file is short places reads next =
      held_goes Offsets held file is short (λ more. with_offsets r p more next) ∙ goes_on_from r p limits file places reads next

module _ (told : Bool) (name : List ℕ) (files : Files) (old new : List ℕ → Counts) (h : HeldBytes) (p : Parameters) where
  pub load_stopped : (e : LoadError) → HasReadCause told name files old new h e → (IsTrue told → map.get files name ≡ None → e ≡ load.Absent)
      → (IsTrue told → (file : List ℕ) → map.get files name ≡ Some file → IsHeldOf file h) → IsStopped told files old new p name (record { status = status_at Offsets e; promised = 0 })
  load_stopped e cause none some = grind arith

  -- a file that was found is there, and no longer than the limit
  pub word_stopped : (e : ReadError OffsetWord LoadError) → OfRefusal e (HasReadCause told name files old new h) → (IsTrue told → IsOpenOn (map.get files name) h)
      → (IsTrue told → (file : List ℕ) → map.get files name ≡ Some file → IsHeldOf file h → OfFault e (λ w. ReadsOffsets p.offsets p.nodes (bits_of file) (Err w)))
      → IsStopped told files old new p name (word_ending p.arcs e)
  word_stopped (words.Refused e) cause open_on reads =
      load_stopped e cause (λ t none. let o = open_on t in absurd (let no : None ≡ Some o.file = sym none ∙ o.is in cc))
      (λ t file is. let o = open_on t in let one : o.file ≡ file = cc (o.is, is) in subst (λ (f : List ℕ). IsHeldOf f h) one o.held)
  word_stopped (words.Fault w) cause open_on reads = record {
    only = inr (inr (archive.Offsets w, refl, refl, refl));
    causes = λ names named. own_caused _ _ _ _ _ _ (BadArchive (archive.Offsets w)) tt;
    refused = λ t limits r next.
        let o = open_on t in
        subst (λ (x : Option (List ℕ)). Answers (offsets_then r p x next) (BadArchive (archive.Offsets w))) (sym o.is) (word_steps r p limits w o.file o.short (reads t o.file o.is o.held) next);
  }
  word_stopped words.Memory cause open_on reads = grind arith

  -- how a job ends at a word, of a file that was looked for
  pub word_stopped_on : (e : ReadError OffsetWord LoadError) → OfRefusal e (HasReadCause told name files old new h) → h.looked ≡ true
      → (IsTrue told → (file : List ℕ) × (map.get files name ≡ Some file))
      → (IsTrue told → (file : List ℕ) → map.get files name ≡ Some file → IsHeldOf file h × OfFault e (λ w. ReadsOffsets p.offsets p.nodes (bits_of file) (Err w)))
      → IsStopped told files old new p name (word_ending p.arcs e)
  word_stopped_on e cause looked found reads =
      word_stopped e cause (λ t. let f = found t in let k = (reads t f.0 f.1).0 in record { file = f.0; is = f.1; short = k.short looked; held = k }) (λ t file is held. (reads t file is).1)

pub read_at : (bits : List Bool) (w : WordsRead) (a b : ℕ) (places : List ℕ) → a ≡ b → AreRead bits w a places → AreRead bits w b places
read_at bits w a b places same h = rw same at h

-- an earlier moment
pub stopped_since : (told : Bool) (files files' : Files) (c0 c1 c2 : List ℕ → Counts) (p : Parameters) (m n : List ℕ) (e : Ending) → files' ≡ files → NonDecreasing c0 c1 → m ≡ n
    → IsStopped told files' c1 c2 p m e → IsStopped told files c0 c2 p n e
stopped_since told files files' c0 c1 c2 p m n e same later named s =
    subst (λ (k : List ℕ). IsStopped told files c0 c2 p k e) named
    (subst (λ (f : Files). IsStopped told f c0 c2 p m e) same
    (record { only = s.only; causes = λ names is. cause_later names c0 c1 c2 e.status later (s.causes names is); refused = s.refused }))

rose_until : (count : Counts → ℕ) (name : Option (List ℕ)) (a b c : List ℕ → Counts) → ((n : List ℕ) → count (b n) ≤ count (c n)) → IncreasedAt count name a b → IncreasedAt count name a c
rose_until count name a b c h h2 = grind arith

-- a later moment
stopped_until : (told : Bool) (files : Files) (c0 c1 c2 : List ℕ → Counts) (p : Parameters) (n : List ℕ) (e : Ending) → NonDecreasing c1 c2
    → IsStopped told files c0 c1 p n e → IsStopped told files c0 c2 p n e
stopped_until told files c0 c1 c2 p n e later s = record {
  only = s.only;
  causes = λ names is.
      let h = s.causes names is in
      record {
        read_fault = λ i at. rose_until (λ k. k.read_faults) (names i) c0 c1 c2 later.read_faults (h.read_fault i at);
        missing = λ i at. rose_until (λ k. k.absences) (names i) c0 c1 c2 later.absences (h.missing i at);
        write_fault = λ o other at. h.write_fault o other at;
        out_fault = h.out_fault;
      };
  refused = s.refused;
}

-- ---- how far a pairing has come
pub come_until : (told : Bool) (files : Files) (c0 c1 c2 : List ℕ → Counts) (p : Parameters) (name : List ℕ) (n at : ℕ) (b : Pairing) → NonDecreasing c1 c2
    → HasCome told files c0 c1 p name n at b → HasCome told files c0 c2 p name n at b
come_until told files c0 c1 c2 p name n at b later h =
    MatchResult-weaker b.so_far h (λ done k. k) (λ e s. stopped_until told files c0 c1 c2 p name e later s)

-- no error came
pub comes : (file : List ℕ) (b : Pairing) (here there : List ℕ) → b.so_far ≡ Ok tt → IsPairedWith file b here there → ComesWith file b here
comes file b here there going h = subst (λ (r : Result (Unit {0}) Ending). OnOk r ((l : List ℕ) × IsPairedWith file b here l)) (sym going) (there, h)

pub still_named : (files files' : Files) (m n : List ℕ) (file : List ℕ) → files' ≡ files → m ≡ n → map.get files n ≡ Some file → map.get files' m ≡ Some file
still_named files files' m n file same named is = ap (λ (k : List ℕ). map.get files' k) named ∙ ap (λ (f : Files). map.get f n) same ∙ is

-- ---- the first word
pub unread_held : (p : Parameters) (b : Pairing) (file : List ℕ) → IsUnread p b → IsHeldOf file b.held
unread_held p b file u = nothing_held file b.held u.held

pub looked_read : (p : Parameters) (a b : Pairing) (bits : List Bool) → IsUnread p a → b.words ≡ a.words → b.held ≡ record a.held { looked = true } → AreRead bits b.words b.held.at []
looked_read p a b bits u same is = grind arith

-- ---- a source that was made of a depot and what is held of a file
pub steps_as : {D : Type 0} (told : Bool) (files : D → Files) (counts : D → List ℕ → Counts) (m n : List ℕ) (x a y b : D) (s h k : HeldBytes) → m ≡ n → x ≡ a → y ≡ b → s ≡ h → StepsOn told m (files x) (files y) (counts x) (counts y) s k
    → StepsOn told n (files a) (files b) (counts a) (counts b) h k
steps_as told files counts m n x a y b s h k named depot after held steps = grind arith

-- no error came up to the end of so many records
pub goes_at : (told : Bool) (files : Files) (c0 c1 : List ℕ → Counts) (p : Parameters) (name : List ℕ) (n at : ℕ) (b : Pairing) → b.so_far ≡ Ok tt → IsAt told files p name n at b → HasCome told files c0 c1 p name n at b
goes_at told files c0 c1 p name n at b going is = subst (λ (r : Result (Unit {0}) Ending). MatchResult r (λ done. IsAt told files p name n at b) (IsStopped told files c0 c1 p name)) (sym going) is

pub was_at : (told : Bool) (files : Files) (c0 c1 : List ℕ → Counts) (p : Parameters) (name : List ℕ) (n at : ℕ) (b : Pairing) → b.so_far ≡ Ok tt → HasCome told files c0 c1 p name n at b → IsAt told files p name n at b
was_at told files c0 c1 p name n at b going h = subst (λ (r : Result (Unit {0}) Ending). MatchResult r (λ done. IsAt told files p name n at b) (IsStopped told files c0 c1 p name)) going h

pub came : (file : List ℕ) (b : Pairing) (here : List ℕ) → b.so_far ≡ Ok tt → ComesWith file b here → (there : List ℕ) × IsPairedWith file b here there
came file b here going h = subst (λ (r : Result (Unit {0}) Ending). OnOk r ((l : List ℕ) × IsPairedWith file b here l)) going h

on_ok : {A B : Type 0} (r : Result (Unit {0}) Ending) (Q : Ending → Type 0) → MatchResult r (λ done. B) Q → (B → A) → OnOk r A
on_ok r Q h h2 = grind arith

-- what the next step asks, if no error came
module _ (told : Bool) (files : Files) (c0 c1 : List ℕ → Counts) (p : Parameters) (name : List ℕ) (n at : ℕ) (b : Pairing) (h : HasCome told files c0 c1 p name n at b) where
  pub come_paired : OnOk b.so_far (IsPaired p b)
  come_paired = on_ok b.so_far _ h (λ k. k.0)

  pub come_before : (m nodes : ℕ) → n < m → m ≡ nodes → OnOk b.so_far (b.lengths.page < nodes)
  come_before m nodes lt is = on_ok b.so_far _ h (λ k. omega (arith, k.1, lt, is))

  pub come_last : (m nodes : ℕ) → m ≤ n → n ≤ m → m ≡ nodes → OnOk b.so_far (b.lengths.page ≡ nodes)
  come_last m nodes le ge is = on_ok b.so_far _ h (λ k. omega (arith, k.1, le, ge, is))

  pub come_here : (next here : ℕ) → at ≤ next → here ≡ next → OnOk b.so_far (b.lengths.here ≤ here)
  come_here next here le is = on_ok b.so_far _ h (λ k. omega (arith, k.2, le, is))

pub page_before : (page n m nodes : ℕ) → page ≡ n → n < m → m ≡ nodes → page < nodes
page_before page n m nodes at lt is = omega (arith, at, lt, is)

pub page_last : (page n m nodes : ℕ) → page ≡ n → m ≤ n → n ≤ m → m ≡ nodes → page ≡ nodes
page_last page n m nodes at le ge is = omega (arith, at, le, ge, is)

-- after the first word
pub first_paired : (p : Parameters) (a m b : Pairing) → IsUnread p a → m.words ≡ a.words → m.lengths ≡ a.lengths → m.held ≡ record a.held { looked = true } → b.lengths ≡ m.lengths → b.words.code ≡ m.words.code
    → b.words.pages ≡ m.words.pages → b.words.count ≡ m.words.count + 1 → (m.words.count ≡ 0 → m.words.offset ≡ 0 → b.words.offset ≡ 0) → (m.held.looked ≡ true → b.held.looked ≡ true)
    → IsPaired p b × (b.lengths.page ≡ 0) × (b.lengths.here ≡ 0)
first_paired p a m b u words lengths held kept code pages count first looked = grind arith

-- after one word more
pub next_paired : (p : Parameters) (a b : Pairing) (l : Compared) (there : ℕ) → IsPaired p a → b.lengths ≡ a.lengths → b.words.code ≡ a.words.code → b.words.pages ≡ a.words.pages → b.words.count ≡ a.words.count + 1
    → (a.held.looked ≡ true → b.held.looked ≡ true) → l.page ≡ b.lengths.page + 1 → l.there ≡ there → there ≡ b.words.offset → IsPaired p (record b { lengths = l }) × (l.page ≡ a.lengths.page + 1)
next_paired p a b l there h kept code pages count looked page is value = grind arith

-- after an error nothing more is read
pub stays_stopped : (told : Bool) (files : Files) (c0 c1 : List ℕ → Counts) (p : Parameters) (name : List ℕ) (n at k here : ℕ) (b : Pairing) (e : Ending) → b.so_far ≡ Err e → HasCome told files c0 c1 p name n at b
    → HasCome told files c0 c1 p name k here b
stays_stopped told files c0 c1 p name n at k here b e stopped h = grind arith

pub none_come : (file : List ℕ) (b : Pairing) (places : List ℕ) (e : Ending) → b.so_far ≡ Err e → ComesWith file b places
none_come file b places e stopped = subst (λ (r : Result (Unit {0}) Ending). OnOk r ((there : List ℕ) × IsPairedWith file b places there)) (sym stopped) tt

-- a pairing that stopped before
pub ends_stopped : (told : Bool) (files : Files) (c0 c1 : List ℕ → Counts) (p : Parameters) (name : List ℕ) (b : Pairing) (e : Ending) → IsStopped told files c0 c1 p name e
    → EndsPairing told files c0 c1 p name b (Err e)
ends_stopped told files c0 c1 p name b e s = record {
  only = s.only;
  causes = s.causes;
  steps = λ t limits places follows r next. s.refused t limits r (λ stored. with_lengths places stored next);
}

-- all words were read, and then the lengths are compared
pub ends_compared : (told : Bool) (files : Files) (c0 c1 : List ℕ → Counts) (p : Parameters) (name : List ℕ) (x : Result (Unit {0}) Ending) (a b : Pairing) → (IsTrue told → (file : List ℕ) × (map.get files name ≡ Some file))
    → a.so_far ≡ Ok tt → a.held.looked ≡ true → b.lengths ≡ a.lengths
    → (IsTrue told → (file : List ℕ) → map.get files name ≡ Some file → (stored : List ℕ) → IsHeldOf file a.held → AreRead (bits_of file) a.words a.held.at stored → ReadsOffsets p.offsets p.nodes (bits_of file) (Ok stored))
    → IfErr x (IsBadFile Offsets p.arcs) → ((here there : List ℕ) → AreCompared b.lengths here there → Steps (with_lengths here there) x) → EndsPairing told files c0 c1 p name a x
ends_compared told files c0 c1 p name x a b found going looked same reads only steps = record {
  only = IfErr-weaker x _ _ (λ e bad. inr bad) only;
  causes = λ names named. end_caused _ _ _ _ _ _ x (IfErr-weaker x _ _ (bad_own Offsets p.arcs) only);
  steps = λ t limits places with_file r.
      let f = found t in
      let k = rw going at with_file f.0 f.1 in
      steps_alike _ (with_lengths places k.0)
      (λ next. places_go r p limits (map.get files name) f.0 f.1 (k.1.held.short looked) k.0 (reads t f.0 f.1 k.0 k.1.held k.1.read) (λ stored. with_lengths places stored next)) x
      (steps places k.0 (subst (λ (c : Compared). AreCompared c places k.0) (sym same) k.1.compared));
}

pub come_at : (told : Bool) (files : Files) (c0 c1 : List ℕ → Counts) (p : Parameters) (m name : List ℕ) (n at here : ℕ) (b : Pairing) → m ≡ name → at ≡ here → HasCome told files c0 c1 p m n at b
    → HasCome told files c0 c1 p name n here b
come_at told files c0 c1 p m name n at here b named same h = grind arith

-- ---- both files
module _ (r : Readings) (p : Parameters) (limits : IsWithinLimits p) (held : Input → Option (List ℕ)) (x : Accepted) (g : IsGraphFile (held Graph) p x) (whole : List Whole) (same : x ≡ accepted_of whole) where
  both_go : (next : ℕ → Judged) → files_then r p held next ≡ offsets_then r p (held Offsets) (λ stored. with_lengths (places_of whole) stored (λ done. next (last_place (places_of whole))))
  both_go next =
      graph_goes r p limits (held Graph) x g (λ a. offsets_then r p (held Offsets) (λ stored. with_lengths a.places stored (λ done. next (last_place a.places))))
      ∙ ap (λ (a : Accepted). offsets_then r p (held Offsets) (λ stored. with_lengths a.places stored (λ done. next (last_place a.places)))) same

  pub both_stop : (e : Ending) → Steps {B = Unit {0}} (λ next. offsets_then r p (held Offsets) (λ stored. with_lengths (places_of whole) stored next)) (Err e) → Steps {B = ℕ} (files_then r p held) (Err e)
  both_stop e steps next = subst (λ (j : Judged). Answers j e.status) (sym (both_go next)) (steps (λ done. next (last_place (places_of whole))))

  pub both_done : (n : ℕ) → last_place (places_of whole) ≡ n → Steps {B = Unit {0}} (λ next. offsets_then r p (held Offsets) (λ stored. with_lengths (places_of whole) stored next)) (Ok tt) → Steps {B = ℕ} (files_then r p held) (Ok n)
  both_done n last steps next = both_go next ∙ steps (λ done. next (last_place (places_of whole))) ∙ ap next last
