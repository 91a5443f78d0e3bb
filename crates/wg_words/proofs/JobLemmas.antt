-- A job is within its limits.
use Rattle.std.proofs.Common.{◌≡◌, ℕ, ◌≤◌, Bool, false, List, Option, Some, None, Result, Err, IfOk, sym, ◌∙◌, option_and_then, option_map, cond, arith, subst, codes}
use Rattle.std.specs.Str.{bytes_eq}
use Rattle.std.proofs.{lemmas.Bool.false_from_ne_true, lemmas.Slice.Eq.bytes_eq-Decides}
use Rattle.std.proofs.lemmas.Option.{none-some, same_Some, option_and_then_some}
use Rattle.clap.specs.Words.{Row, Text, first_of}
use Rattle.wg_params.specs.Parameters.{IsWithinLimits, params_of}
use Rattle.wg_params.specs.declared.limits.TheConstants.{MOST_PAGES, MOST_DAMPING, MOST_ROUNDS, MOST_GENERATED}
use Rattle.wg_words.specs.{Asked.IsAsked, declared.conversion.Conversion.Conversion, declared.jobs.Job.Job}
use Rattle.wg_words.specs.Files.{is_file_of, overwrites, IsNoFileOf, KeepsInputs, ShareNoFile}
use Rattle.wg_words.specs.Values.{name_in, number_up_to, numbers_in, optional_name_in, unlimited_in}
use Rattle.wg_words.specs.Jobs.{show_on, spot_on, rank_from, rank_with, rank_on, verifying, verify_on, build_from, build_on, import_from, import_on, conversion_from, conversion_of, conversion_in, quotient_by, quotient_on, quotient_in, recoding, union_with, union_of, union_in, transposing, bulk_in, job_on, job_on_base, job_from, job_of, writing, IsWithin}
use Rattle.wg_words.specs.declared.defaults.TheConstants.{DEFAULT_DAMPING, DEFAULT_ROUNDS, DEFAULT_TOP}
use Rattle.wg_words.specs.declared.jobs.Job.TheVariants.{Check, Arcs, Ascii, Offsets, Show, Spot, Rank, Bulk}
use Rattle.wg_words.specs.declared.jobs.Origin.TheVariants.{Build, Import, Quotient, Union}
use Rattle.wg_words.specs.{declared.jobs.JobError.JobError, declared.jobs.JobError.TheVariants.Usage}
use Rattle.wg_words.proofs.FileLemmas.{no_file, keeps_inputs, no_file_shared_unless}
use Rattle.wg_words.proofs.LayoutLemmas.{layout_in_within}
use Rattle.wg_words.proofs.ValueLemmas.{up_to_within, number_within, some_unless}

-- a word that is not another one
pub differs : (word other : Text) → (word ≡ other → ⊥) → bytes_eq word other ≡ false
differs word other not_same = false_from_ne_true (bytes_eq word other) (λ same. not_same ((bytes_eq-Decides word other).0 same))

show_on_within : (rows : List Row) (base : Text) (job : Job) → show_on rows base ≡ Some job → IsWithin job
show_on_within rows base job = made (numbers_in rows (codes "page"))
  where
    made : (o : Option (List ℕ)) → option_map (Show base) o ≡ Some job → IsWithin job
    made None is = absurd (none-some job is)
    made (Some pages) is = subst IsWithin (same_Some (Show base pages) job is) tt

spot_on_within : (rows : List Row) (base : Text) (job : Job) → spot_on rows base ≡ Some job → IsWithin job
spot_on_within rows base job = made (unlimited_in rows (codes "page"))
  where
    made : (o : Option ℕ) → option_map (Spot base) o ≡ Some job → IsWithin job
    made None is = absurd (none-some job is)
    made (Some page) is = subst IsWithin (same_Some (Spot base page) job is) tt

rank_from_within : (rows : List Row) (base : Text) (weights certificate : Option Text) (job : Job) → KeepsInputs base weights certificate → rank_from rows base weights certificate ≡ Some job → IsWithin job
rank_from_within rows base weights certificate job apart is =
    option_and_then_some _ _ job is (λ rounds is_rounds then_rounds.
    option_and_then_some _ _ job then_rounds (λ damping is_damping then_damping.
    option_and_then_some _ _ job then_damping (λ top is_top job_is.
    subst IsWithin (same_Some (Rank (record { base = base; rounds = rounds; damping = damping; top = top; weights = weights; certificate = certificate })) job job_is) (
      number_within DEFAULT_ROUNDS MOST_ROUNDS (first_of (codes "rounds") rows) rounds (omega arith) is_rounds,
      number_within DEFAULT_DAMPING MOST_DAMPING (first_of (codes "damping") rows) damping (omega arith) is_damping,
      number_within DEFAULT_TOP MOST_PAGES (first_of (codes "top") rows) top (omega arith) is_top,
      apart,
    ))))

rank_on_within : (rows : List Row) (base : Text) (job : Job) → rank_on rows base ≡ Some job → IsWithin job
rank_on_within rows base job is =
    let certificates = optional_name_in rows (codes "certificate") in
    let then_certificates : Option Text → Option Job = λ weights. option_and_then (rank_with rows base weights) certificates in
    option_and_then_some then_certificates (optional_name_in rows (codes "weights")) job is (λ weights _ then_certificate.
    option_and_then_some (rank_with rows base weights) certificates job then_certificate (λ certificate _ unless_input.
    some_unless IsWithin (overwrites base weights certificate) (rank_from rows base weights certificate) job
    (λ other. rank_from_within rows base weights certificate job (keeps_inputs base weights certificate other)) unless_input))

verify_on_within : (rows : List Row) (base : Text) (job : Job) → verify_on rows base ≡ Some job → IsWithin job
verify_on_within rows base job is =
    let given = optional_name_in rows (codes "weights") in
    option_and_then_some (λ (certificate : Text). option_map (verifying base certificate) given) (name_in rows (codes "certificate")) job is (λ certificate _ then_weights. made certificate given then_weights)
  where
    made : (certificate : Text) (o : Option (Option Text)) → option_map (verifying base certificate) o ≡ Some job → IsWithin job
    made certificate None none = absurd (none-some job none)
    made certificate (Some weights) some = subst IsWithin (same_Some (verifying base certificate weights) job some) tt

build_from_within : (rows : List Row) (base arcs : Text) (job : Job) → IsNoFileOf base arcs → build_from rows base arcs ≡ Some job → IsWithin job
build_from_within rows base arcs job apart is =
    option_and_then_some _ _ job is (λ nodes is_nodes then_layout.
    option_and_then_some _ _ job then_layout (λ layout is_layout job_is.
    let few : nodes ≤ MOST_PAGES = option_and_then_some (number_up_to MOST_PAGES) (first_of (codes "nodes") rows) nodes is_nodes (λ text _ found. up_to_within MOST_PAGES text nodes found) in
    subst IsWithin (same_Some (writing base layout (Build arcs nodes)) job job_is) (layout_in_within rows layout is_layout, (few, apart))))

build_on_within : (rows : List Row) (base : Text) (job : Job) → build_on rows base ≡ Some job → IsWithin job
build_on_within rows base job is =
    option_and_then_some _ _ job is (λ arcs _ unless_file.
    some_unless IsWithin (is_file_of base arcs) (build_from rows base arcs) job (λ other. build_from_within rows base arcs job (no_file base arcs other)) unless_file)

import_from_within : (rows : List Row) (base text : Text) (job : Job) → IsNoFileOf base text → import_from rows base text ≡ Some job → IsWithin job
import_from_within rows base text job apart is =
    option_and_then_some _ _ job is (λ layout is_layout job_is.
    subst IsWithin (same_Some (writing base layout (Import text)) job job_is) (layout_in_within rows layout is_layout, apart))

import_on_within : (rows : List Row) (base : Text) (job : Job) → import_on rows base ≡ Some job → IsWithin job
import_on_within rows base job is =
    option_and_then_some _ _ job is (λ text _ unless_file.
    some_unless IsWithin (is_file_of base text) (import_from rows base text) job (λ other. import_from_within rows base text job (no_file base text other)) unless_file)

-- what is known of a conversion
abbrev IsProper : Conversion → Type 0
IsProper c = IsWithinLimits (params_of c.layout 0 0) × ShareNoFile c.input c.output

conversion_from_within : (rows : List Row) (input output : Text) (c : Conversion) → ShareNoFile input output → conversion_from rows input output ≡ Some c → IsProper c
conversion_from_within rows input output c apart is =
    option_and_then_some _ _ c is (λ layout is_layout c_is.
    subst IsProper (same_Some (record { input = input; output = output; layout = layout }) c c_is) (layout_in_within rows layout is_layout, apart))

conversion_of_within : (rows : List Row) (input : Text) (c : Conversion) → conversion_of rows input ≡ Some c → IsProper c
conversion_of_within rows input c is =
    option_and_then_some _ _ c is (λ output _ unless_same.
    some_unless IsProper (bytes_eq input output) (conversion_from rows input output) c (λ other. conversion_from_within rows input output c (no_file_shared_unless input output other)) unless_same)

conversion_in_within : (rows : List Row) (c : Conversion) → conversion_in rows ≡ Some c → IsProper c
conversion_in_within rows c is =
    option_and_then_some (conversion_of rows) (name_in rows (codes "in")) c is (λ input _ then_output. conversion_of_within rows input c then_output)

quotient_by_within : (rows : List Row) (c : Conversion) (map : Text) (job : Job) → IsProper c → IsNoFileOf c.output map → quotient_by rows c map ≡ Some job → IsWithin job
quotient_by_within rows c map job proper apart is =
    option_and_then_some _ _ job is (λ classes is_classes job_is.
    let few : classes ≤ MOST_PAGES = option_and_then_some (number_up_to MOST_PAGES) (first_of (codes "classes") rows) classes is_classes (λ text _ found. up_to_within MOST_PAGES text classes found) in
    subst IsWithin (same_Some (writing c.output c.layout (Quotient c.input map classes)) job job_is) (proper.0, (few, proper.1, apart)))

quotient_on_within : (rows : List Row) (c : Conversion) (job : Job) → IsProper c → quotient_on rows c ≡ Some job → IsWithin job
quotient_on_within rows c job proper is =
    option_and_then_some _ _ job is (λ map _ unless_file.
    some_unless IsWithin (is_file_of c.output map) (quotient_by rows c map) job (λ other. quotient_by_within rows c map job proper (no_file c.output map other)) unless_file)

quotient_in_within : (rows : List Row) (job : Job) → quotient_in rows ≡ Some job → IsWithin job
quotient_in_within rows job is =
    option_and_then_some (quotient_on rows) (conversion_in rows) job is (λ c is_conversion then_map. quotient_on_within rows c job (conversion_in_within rows c is_conversion) then_map)

-- the job of a conversion is within its limits, as the conversion is
mapped_within : (make : Conversion → Job) → ((c : Conversion) → IsProper c → IsWithin (make c)) → (o : Option Conversion) → ((c : Conversion) → o ≡ Some c → IsProper c) → (job : Job) → option_map make o ≡ Some job → IsWithin job
mapped_within make h o h2 job h3 = grind arith

union_with_within : (c : Conversion) (second : Text) (job : Job) → IsProper c → union_with c second ≡ Some job → IsWithin job
union_with_within c second job within =
    some_unless IsWithin (bytes_eq second c.output) (Some (writing c.output c.layout (Union c.input second))) job
    (λ other is. subst IsWithin (same_Some (writing c.output c.layout (Union c.input second)) job is) (within.0, (within.1, no_file_shared_unless second c.output other)))

union_in_within : (rows : List Row) (job : Job) → union_in rows ≡ Some job → IsWithin job
union_in_within rows job is =
    option_and_then_some (union_of rows) (conversion_in rows) job is (λ c is_conversion then_second.
    option_and_then_some (union_with c) (name_in rows (codes "second")) job then_second (λ second _ unless_same.
    union_with_within c second job (conversion_in_within rows c is_conversion) unless_same))

-- one of two answers
chosen_within : (b : Bool) (first other : Option Job) (job : Job) → (first ≡ Some job → IsWithin job) → (other ≡ Some job → IsWithin job) → cond b first other ≡ Some job → IsWithin job
chosen_within b first other job h h2 h3 = grind arith

bulk_in_within : (rows : List Row) (job : Job) → bulk_in rows ≡ Some job → IsWithin job
bulk_in_within rows job is =
    option_and_then_some _ _ job is (λ seed _ then_pages.
    option_and_then_some _ _ job then_pages (λ pages is_pages job_is.
    let few : pages ≤ MOST_GENERATED = option_and_then_some (number_up_to MOST_GENERATED) (first_of (codes "pages") rows) pages is_pages (λ text _ found. up_to_within MOST_GENERATED text pages found) in
    subst IsWithin (same_Some (Bulk seed pages) job job_is) few))

job_on_within : (command : Text) (rows : List Row) (base : Text) (job : Job) → job_on command rows base ≡ Some job → IsWithin job
job_on_within command rows base job =
    chosen_within (bytes_eq command (codes "check")) _ _ job (λ is. subst IsWithin (same_Some (Check base) job is) tt)
    (chosen_within (bytes_eq command (codes "arcs")) _ _ job (λ is. subst IsWithin (same_Some (Arcs base) job is) tt)
    (chosen_within (bytes_eq command (codes "ascii")) _ _ job (λ is. subst IsWithin (same_Some (Ascii base) job is) tt)
    (chosen_within (bytes_eq command (codes "offsets")) _ _ job (λ is. subst IsWithin (same_Some (Offsets base) job is) tt)
    (chosen_within (bytes_eq command (codes "show")) _ _ job (show_on_within rows base job)
    (chosen_within (bytes_eq command (codes "spot")) _ _ job (spot_on_within rows base job)
    (chosen_within (bytes_eq command (codes "rank")) _ _ job (rank_on_within rows base job)
    (chosen_within (bytes_eq command (codes "verify")) _ _ job (verify_on_within rows base job)
    (chosen_within (bytes_eq command (codes "build")) _ _ job (build_on_within rows base job)
    (chosen_within (bytes_eq command (codes "import")) _ _ job (import_on_within rows base job) (λ is. absurd (none-some job is)))))))))))

job_on_base_within : (command : Text) (rows : List Row) (job : Job) → job_on_base command rows ≡ Some job → IsWithin job
job_on_base_within command rows job is = grind (arith, option_and_then_some, job_on_within)

job_from_within : (command : Text) (rows : List Row) (job : Job) → job_from (command, rows) ≡ Some job → IsWithin job
job_from_within command rows job =
    chosen_within (bytes_eq command (codes "quotient")) _ _ job (quotient_in_within rows job)
    (chosen_within (bytes_eq command (codes "recode")) _ _ job (mapped_within recoding (λ c within. within) (conversion_in rows) (conversion_in_within rows) job)
    (chosen_within (bytes_eq command (codes "union")) _ _ job (union_in_within rows job)
    (chosen_within (bytes_eq command (codes "transpose")) _ _ job (mapped_within transposing (λ c within. within) (conversion_in rows) (conversion_in_within rows) job)
    (chosen_within (bytes_eq command (codes "bulk")) _ _ job (bulk_in_within rows job)
    (job_on_base_within command rows job)))))

pub job_within : (words : List Text) (job : Job) → job_of words ≡ Some job → IsWithin job
job_within words job is = grind (arith, option_and_then_some, job_from_within)

-- a job that is answered is that of the words, and within its limits
pub asked_job : (words : List Text) (wanted : Option Job) (answer : Result Job JobError) → wanted ≡ job_of words → IsAsked wanted answer → IfOk answer (λ job. job_of words ≡ Some job)
asked_job words wanted answer h h2 = grind arith

pub asked_within : (words : List Text) (wanted : Option Job) (answer : Result Job JobError) → wanted ≡ job_of words → IsAsked wanted answer → IfOk answer (λ job. IsWithin job)
asked_within words wanted answer h h2 = grind (arith, job_within)

-- if the answer is that there is none, there is none
pub asked_none : (words : List Text) (wanted : Option Job) (answer : Result Job JobError) → wanted ≡ job_of words → IsAsked wanted answer → answer ≡ Err Usage → job_of words ≡ None
asked_none words wanted answer is asked usage = sym is ∙ subst (IsAsked wanted) usage asked

-- what a caller knows of a generated graph
pub bulk_within : (words : List Text) (seed pages : ℕ) → job_of words ≡ Some (Bulk seed pages) → pages ≤ MOST_GENERATED
bulk_within words seed pages is = job_within words (Bulk seed pages) is
