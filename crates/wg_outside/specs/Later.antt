-- What comes of a file as a sink by writing on.
use Rattle.std.proofs.Common.{◌≡◌, ◌∙◌, ℕ, ◌≤◌, Bool, IsTrue, List, [], ◌++◌, refl, sym, ap, subst, arith}
use Rattle.wg_outside.specs.FileLaws.{appended-append}
use Rattle.wg_outside.specs.Outside.{Files, Counts, NonDecreasing, appended}

-- Text was added at the end of the file of this name and nothing else was done, if the depot tells; no count falls.
pub record IsWrittenOn (told : Bool) (name : List ℕ) (old new : Files) (before after : List ℕ → Counts) : Type 0 where
  pub added : IsTrue told → (text : List ℕ) × (new ≡ appended old name text)
  pub counts : NonDecreasing before after

pub as_it_was : (told : Bool) (name : List ℕ) (files : Files) (counts : List ℕ → Counts)
    → IsWrittenOn told name files files counts counts
as_it_was told name files counts = record {
  added = λ t. ([], refl);
  counts = record {
    read_faults = λ n. omega arith;
    write_faults = λ n. omega arith;
    absences = λ n. omega arith;
    wants = λ n. omega arith;
  };
}

pub written_twice : (told : Bool) (n m : List ℕ) (f g h : Files) (a b c : List ℕ → Counts) → m ≡ n
    → IsWrittenOn told n f g a b → IsWrittenOn told m g h b c → IsWrittenOn told n f h a c
written_twice told n m f g h a b c same l k = record {
  added = λ t.
      let x = l.added t in
      let y = k.added t in (
        x.0 ++ y.0,
        y.1 ∙ ap (λ (q : List ℕ). appended g q y.0) same ∙ ap (λ (d : Files). appended d n y.0) x.1
            ∙ appended-append f n x.0 y.0,
      );
  counts = record {
    read_faults = λ n. omega (arith, l.counts.read_faults n, k.counts.read_faults n);
    write_faults = λ n. omega (arith, l.counts.write_faults n, k.counts.write_faults n);
    absences = λ n. omega (arith, l.counts.absences n, k.counts.absences n);
    wants = λ n. omega (arith, l.counts.wants n, k.counts.wants n);
  };
}

-- the counts of a name that is the same
pub of_its_name : (n m : List ℕ) (a b : List ℕ → Counts) → m ≡ n → NonDecreasing a b
    → ((a n).write_faults ≤ (b m).write_faults) × ((a n).wants ≤ (b m).wants)
of_its_name n m a b same l =
    subst (λ (q : List ℕ). ((a n).write_faults ≤ (b q).write_faults) × ((a n).wants ≤ (b q).wants)) (sym same)
    (l.write_faults n, l.wants n)
