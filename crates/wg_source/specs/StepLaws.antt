-- Steps follow one another, and a cause stays one.
use Rattle.std.proofs.Common.{◌≡◌, ℕ, ◌<◌, ◌≤◌, ◌^◌, ◌-◌, Bool, List, Some, refl, sym, ◌∙◌, ap, subst, ⊎_elim, inl, inr, arith}
use Rattle.std.specs.FinMap as map
use Rattle.wg_outside.specs.Outside.{Files, Counts, Increased}
use Rattle.wg_outside.specs.declared.whole.LoadError.{LoadError}
use Rattle.wg_outside.proofs.FilesLemmas.{none_falls-trans}
use Rattle.wg_source.specs.Held.{HeldBytes, IsHeldOf, IsSmall}
use Rattle.wg_source.specs.Stepping.{Steps, Moves, HasCause}

pub no_step : (told : Bool) (name : List ℕ) (f : Files) (c : List ℕ → Counts) (h : HeldBytes) → Steps told name f f c c h h
no_step told name f c h = record {
  same = refl;
  later = record {
    read_faults = λ n. omega arith;
    write_faults = λ n. omega arith;
    absences = λ n. omega arith;
    wants = λ n. omega arith;
  };
  onward = omega arith;
  looked = λ e. e;
  in_step = λ t file is i. i;
  small = λ s. s;
}

-- a step is a move
pub step_moves : (told : Bool) (name : List ℕ) (f1 f2 : Files) (c1 c2 : List ℕ → Counts) (h1 h2 : HeldBytes)
    → Steps told name f1 f2 c1 c2 h1 h2 → Moves told name f1 f2 c1 c2 h1 h2
step_moves told name f1 f2 c1 c2 h1 h2 a =
    record { same = a.same; later = a.later; looked = a.looked; in_step = a.in_step }

-- the file that is there stays there
pub there_after : (told : Bool) (name1 name2 : List ℕ) (f1 f2 : Files) (c1 c2 : List ℕ → Counts) (h1 h2 : HeldBytes)
    (file : List ℕ)
    → name2 ≡ name1 → Moves told name1 f1 f2 c1 c2 h1 h2 → map.get f1 name1 ≡ Some file → map.get f2 name2 ≡ Some file
there_after told name1 name2 f1 f2 c1 c2 h1 h2 file same a is = ap (λ (n : List ℕ). map.get f2 n) same
    ∙ ap (λ (g : Files). map.get g name1) a.same ∙ is

pub still_there : (told : Bool) (name1 name2 : List ℕ) (f1 f2 : Files) (c1 c2 : List ℕ → Counts) (h1 h2 : HeldBytes)
    (file : List ℕ)
    → name2 ≡ name1 → Steps told name1 f1 f2 c1 c2 h1 h2 → map.get f1 name1 ≡ Some file → map.get f2 name2 ≡ Some file
still_there told name1 name2 f1 f2 c1 c2 h1 h2 file same a is =
    there_after told name1 name2 f1 f2 c1 c2 h1 h2 file same (step_moves told name1 f1 f2 c1 c2 h1 h2 a) is

pub two_moves : (told : Bool) (name1 name2 : List ℕ) (f1 f2 f3 : Files) (c1 c2 c3 : List ℕ → Counts) (h1 h2 h3 : HeldBytes)
    → name2 ≡ name1 → Moves told name1 f1 f2 c1 c2 h1 h2 → Moves told name2 f2 f3 c2 c3 h2 h3
    → Moves told name1 f1 f3 c1 c3 h1 h3
two_moves told name1 name2 f1 f2 f3 c1 c2 c3 h1 h2 h3 same a b = record {
  same = b.same ∙ a.same;
  later = none_falls-trans _ _ _ a.later b.later;
  looked = λ e. b.looked (a.looked e);
  in_step = λ t file is i. b.in_step t file (there_after told name1 name2 f1 f2 c1 c2 h1 h2 file same a is)
      (a.in_step t file is i);
}

pub two_steps : (told : Bool) (name1 name2 : List ℕ) (f1 f2 f3 : Files) (c1 c2 c3 : List ℕ → Counts) (h1 h2 h3 : HeldBytes)
    → name2 ≡ name1 → Steps told name1 f1 f2 c1 c2 h1 h2 → Steps told name2 f2 f3 c2 c3 h2 h3
    → Steps told name1 f1 f3 c1 c3 h1 h3
two_steps told name1 name2 f1 f2 f3 c1 c2 c3 h1 h2 h3 same a b = record {
  same = b.same ∙ a.same;
  later = none_falls-trans _ _ _ a.later b.later;
  onward = omega (arith, a.onward, b.onward);
  looked = λ e. b.looked (a.looked e);
  in_step = λ t file is i. b.in_step t file (still_there told name1 name2 f1 f2 c1 c2 h1 h2 file same a is)
      (a.in_step t file is i);
  small = λ s. b.small (a.small s);
}

increased_later : (a b c : ℕ) → a ≤ b → Increased b c → Increased a c
increased_later a b c l r = ⊎_elim (λ (x : b < c). inl (omega (arith, x, l))) (λ (x : 2 ^ 64 - 1 ≤ c). inr x) r

pub cause_after : (told : Bool) (name1 name2 : List ℕ) (f1 f2 : Files) (c1 c2 c3 : List ℕ → Counts) (h1 h2 : HeldBytes)
    (e : LoadError)
    → name2 ≡ name1 → Moves told name1 f1 f2 c1 c2 h1 h2 → HasCause told name2 f2 c2 c3 h2 e
    → HasCause told name1 f1 c1 c3 h1 e
cause_after told name1 name2 f1 f2 c1 c2 c3 h1 h2 e same a b =
    let here = subst (λ (n : List ℕ). HasCause told n f2 c2 c3 h2 e) same b in
    record {
      absent = λ x. increased_later _ _ _ (a.later.absences name1) (here.absent x);
      failed = λ x. increased_later _ _ _ (a.later.read_faults name1) (here.failed x);
      memory = λ x. increased_later _ _ _ (a.later.wants name1) (here.memory x);
      there = λ t file is. here.there t file (there_after told name1 name1 f1 f2 c1 c2 h1 h2 file refl a is);
      long = λ t file is i x. here.long t file (there_after told name1 name1 f1 f2 c1 c2 h1 h2 file refl a is)
          (a.in_step t file is i) x;
    }

pub later_cause : (told : Bool) (name1 name2 : List ℕ) (f1 f2 : Files) (c1 c2 c3 : List ℕ → Counts) (h1 h2 : HeldBytes)
    (e : LoadError)
    → name2 ≡ name1 → Steps told name1 f1 f2 c1 c2 h1 h2 → HasCause told name2 f2 c2 c3 h2 e
    → HasCause told name1 f1 c1 c3 h1 e
later_cause told name1 name2 f1 f2 c1 c2 c3 h1 h2 e same a b =
    cause_after told name1 name2 f1 f2 c1 c2 c3 h1 h2 e same (step_moves told name1 f1 f2 c1 c2 h1 h2 a) b

-- as few bytes are held after a move
moved_small : (g h : HeldBytes) (n : ℕ) → g.at ≤ n → h ≡ record g { at = n } → IsSmall g → IsSmall h
moved_small g h n on e s = subst IsSmall (sym e) (record { few = s.few; from = omega (arith, s.from, on) })

-- a step may go on to a later offset, if the same bytes are held
pub then_moved : (told : Bool) (name : List ℕ) (f1 f2 : Files) (c1 c2 : List ℕ → Counts) (h1 h2 h3 : HeldBytes) (n : ℕ)
    → h2.at ≤ n → Steps told name f1 f2 c1 c2 h1 h2 → h3 ≡ record h2 { at = n } → Steps told name f1 f2 c1 c2 h1 h3
then_moved told name f1 f2 c1 c2 h1 h2 h3 n on a e = record {
  same = a.same;
  later = a.later;
  onward = omega (arith, a.onward, on, ap (λ (h : HeldBytes). h.at) e);
  looked = λ x. ap (λ (h : HeldBytes). h.looked) e ∙ a.looked x;
  in_step = λ t file is i.
      let j = a.in_step t file is i in
      subst (IsHeldOf file) (sym e)
      (record {
        before = j.before;
        behind = j.behind;
        whole = j.whole;
        offset = j.offset;
        ended = j.ended;
        short = j.short;
      });
  small = λ s. moved_small h2 h3 n on e (a.small s);
}
