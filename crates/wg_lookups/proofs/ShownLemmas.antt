-- The lines of pages with their successors, part by part.
use Rattle.std.proofs.Common.{◌≡◌, ◌∙◌, get_or, ℕ, List, [], ◌++◌, map, codes, decimal, Bool, Option, Some, Result, Ok, Err, OnOk, arith, refl, sym, ap, append-nil, length-append, subst}
use Rattle.wg_params.specs.Parameters.{Parameters}
use Rattle.wg_grammar.specs.Archive.{Accepted, ReadsGraph}
use Rattle.wg_random.specs.Checked.{CheckedRecords}
use Rattle.wg_outside.specs.{Puts.joined, Outside.Files}
use Rattle.wg_lines.specs.Printing.{HasPrinted, HasPrintedLess, Prints}
use Rattle.std.specs.{Bool.IsTrue, Result.IsErrAnd}
use Rattle.wg_outside.proofs.PutsLemmas.{is_that_err}
use Rattle.wg_outside.specs.declared.sink.Sink as sink
use Rattle.wg_outcomes.specs.{Answers.PrintRefusals, Commands.spaced, Commands.successors_line}
use Rattle.wg_outcomes.specs.{Names.file_of, Names.held_by, declared.status.Input.Input, declared.ending.Ending.Ending}
use Rattle.wg_readings.specs.Loading.{IsPropertiesFile}
use Rattle.wg_lookups.specs.Showing.{OpensChains, PrintsLine}
use Rattle.wg_outcomes.specs.declared.status.Status.TheVariants.{Memory}

-- a text that was left out, at an early exit
pub prints_exit : {E : Type 0} (r : Result (Unit {0}) E) (e : E) (t a b waited waits : List ℕ) → IsErrAnd r (λ x. x ≡ e) → HasPrintedLess a b waited t → Prints t a b waited waits r
prints_exit r e t a b waited waits is less = subst (Prints t a b waited waits) (sym (is_that_err r e is)) less

-- the successors that are printed are all of them
pub lines_printed : (a b waited waits given all : List ℕ) → given ≡ all → HasPrinted a b waited (joined (map spaced given)) waits → HasPrinted a b waited (joined (map spaced all)) waits
lines_printed a b waited waits given all is h = subst (λ (l : List ℕ). HasPrinted a b waited (joined (map spaced l)) waits) is h

-- no successor is left
pub all_printed : (a b waited waits given coming all : List ℕ) → all ≡ given ++ coming → coming ≡ [] → HasPrinted a b waited (joined (map spaced given)) waits → HasPrinted a b waited (joined (map spaced all)) waits
all_printed a b waited waits given coming all is none h =
    lines_printed a b waited waits given all (sym (is ∙ ap (λ (l : List ℕ). given ++ l) none ∙ append-nil given)) h

-- ---- a page that is not opened

-- an archive stands for the graph of the records that it is made of
pub archive_reads : (archive records : CheckedRecords) (p : Parameters) (bits : List Bool) (a : Accepted) → archive ≡ records → records.params ≡ p → records.bits ≡ bits → ReadsGraph p bits (Ok a) → ReadsGraph archive.params archive.bits (Ok a)
archive_reads archive records p bits a same params is read =
    subst (λ (h : CheckedRecords). ReadsGraph h.params h.bits (Ok a)) (sym same)
    (subst (λ (q : Parameters). ReadsGraph q records.bits (Ok a)) (sym params) (subst (λ (b : List Bool). ReadsGraph p b (Ok a)) (sym is) read))

-- no line is empty, and so if nothing was printed of it something is left out
pub none_of_line : (old waited : List ℕ) (page : ℕ) (list : List ℕ) → HasPrintedLess old old waited (successors_line page list)
none_of_line old waited page list =
    let start : List ℕ = decimal page ++ joined (map spaced list) in
    record {
      out = [];
      left = waited ++ successors_line page list;
      some = omega (arith, length-append start (codes "\n"), length-append waited (successors_line page list));
      taken = sym (append-nil old);
      bytes = refl;
    }

-- memory ran out before anything of the line was printed
pub line_unbegun : {S : Type 0} (s : sink.Ghosts S) (archive : CheckedRecords) (page : ℕ) (sink : S) (waited waits : List ℕ) (e : Ending) → s.later sink sink → e.status ≡ Memory → PrintsLine s archive page sink sink waited waits (Err e)
line_unbegun s archive page sink waited waits e stays is = grind (arith, none_of_line)

-- the line of a page was printed by its list
pub line_by_list : {S : Type 0} (s : sink.Ghosts S) (archive : CheckedRecords) (page : ℕ) (before after : S) (waited waits list : List ℕ) (r : Result (Unit {0}) Ending)
    → ((a : Accepted) → ReadsGraph archive.params archive.bits (Ok a) → list ≡ get_or a.graph page [])
    → (IsTrue s.told → Prints (successors_line page list) (s.taken before) (s.taken after) waited waits r) → s.later before after → PrintRefusals s before after r
    → PrintsLine s archive page before after waited waits r
line_by_list s archive page before after waited waits list r is prints later refusals = grind arith

-- ---- the records that are opened

pub if_always : {A E P : Type 0} (r : Result A E) → P → OnOk r P
if_always r h = grind arith

-- a job that has ended before it opened any
pub none_opened : (p : Parameters) (bits : List Bool) (pages : List ℕ) (n : ℕ) (r : Result (Unit {0}) Ending) (e : Ending) → IsErrAnd r (λ x. x ≡ e) → OpensChains p bits pages n n r
none_opened p bits pages n r e is = rw (is_that_err r e is) record { each = λ w. tt; most = λ w. omega arith }

-- the records that are opened, by other names of the parameters, the bits and the pages
pub opened_as : (p q : Parameters) (bits file : List Bool) (pages asked : List ℕ) (from to : ℕ) (r : Result (Unit {0}) Ending) → p ≡ q → bits ≡ file → pages ≡ asked → OpensChains p bits pages from to r → OpensChains q file asked from to r
opened_as p q bits file pages asked from to r params same all h = grind arith

-- a properties file gives one set of parameters
pub same_parameters : (held : Option (List ℕ)) (p q : Parameters) → IsPropertiesFile held p → IsPropertiesFile held q → p ≡ q
same_parameters held p q a b = let text : Some a.text ≡ Some b.text = sym a.is ∙ b.is in let one = a.gives in let other = b.gives in cc

-- a file is the same after a step that changes none
pub same_held : (base : List ℕ) (i : Input) (files files' : Files) (bytes file : List ℕ) → files' ≡ files → held_by (file_of base) files' i ≡ Some bytes → held_by (file_of base) files i ≡ Some file → bytes ≡ file
same_held base i files files' bytes file same a b = grind arith
