-- Fields that are still to come, before and behind one step.
use Rattle.std.proofs.Common.{◌≡◌, ℕ, zero, suc, ◌+◌, ◌-◌, ◌<◌, ◌≤◌, Bool, true, false, not, ltb, eqb, cond, List, [], ◌∷◌, ◌++◌, length, map, refl, sym, ap, subst, ◌∙◌, inl, inr, arith}
use Rattle.std.specs.Prelude.{Some, filter}
use Rattle.std.specs.List.{flat_map, range_with_len}
use Rattle.std.proofs.lemmas.Bool.{cases_Bool, ne_eqb, not_from_true, not_from_false, cond-true, cond-false, lt-ltb, le-ltb}
use Rattle.std.proofs.lemmas.List.{append-nil}
use Rattle.wg_params.specs.Parameters.{Parameters}
use Rattle.wg_params.specs.declared.code.Code.TheVariants.{Gamma}
use Rattle.wg_blocks.specs.Canonical.{mask_of, mask_runs, without_last, canonical_blocks, blocks_from}
use Rattle.wg_intervals.specs.declared.run.Run.{Run}
use Rattle.wg_intervals.specs.Canonical.{is_long, numbers_of, runs_of, runs_from}
use Rattle.wg_intervals.proofs.Maximal.{no_runs, first_run}
use Rattle.wg_grammar.specs.declared.fault.Field.TheVariants as field
use Rattle.wg_encoder.specs.declared.blocks.BlockTally.{BlockTally}
use Rattle.wg_encoder.specs.declared.extras.ExtraTally.{ExtraTally}
use Rattle.wg_encoder.specs.declared.intervals.IntervalTally.{IntervalTally}
use Rattle.wg_encoder.specs.declared.residuals.ResidualTally.{ResidualTally}
use Rattle.wg_greedy.specs.Fields.{Written, written, stored_blocks, has_some, copy_fields, count_fields}
use Rattle.wg_encoder.specs.Cost.{room_after}
use Rattle.wg_encoder.specs.Dues.{stored_after, dues_of_blocks, block_dues, interval_dues, residual_dues, dues_of_runs, extra_dues}
use Rattle.wg_encoder.proofs.Tallied.{stored_next}
use Rattle.wg_encoder.proofs.Rooms.{one_written, same_behind, same_before}

-- ---- blocks

later_stored : (n : ℕ) (bs : List ℕ) → stored_after (n + 1) bs ≡ map (λ b. b - 1) bs
later_stored n bs = cond-false (eqb (n + 1) 0) (stored_blocks bs) (map (λ b. b - 1) bs) (ne_eqb (n + 1) 0 (λ e. omega arith))

first_stored : (n b : ℕ) (bs : List ℕ) → stored_after n (b ∷ bs) ≡ stored_next n b ∷ map (λ b. b - 1) bs
first_stored n b bs = elim (cases_Bool (eqb n 0)) [ inl h ↦ rw h refl | inr h ↦ rw h refl ]

none_stored : (n : ℕ) → stored_after n [] ≡ []
none_stored n = elim (cases_Bool (eqb n 0)) [ inl h ↦ rw h refl | inr h ↦ rw h refl ]

dues_written : (t : BlockTally) (bs : List ℕ) → t.is_written ≡ true → dues_of_blocks t bs ≡ written field.BlockCount t.counts (t.count + length bs) ∷ map (written field.Block t.code) (stored_after t.count bs)
dues_written t bs is = cond-true t.is_written (written field.BlockCount t.counts (t.count + length bs) ∷ map (written field.Block t.code) (stored_after t.count bs)) [] is

pub block_written : (t : BlockTally) (room left block stored : ℕ) (blocks : List ℕ) → t.is_written ≡ true → stored ≡ stored_next t.count block → left ≡ room_after room (written field.Block t.code stored ∷ [])
    → room_after left (dues_of_blocks (record t { count = t.count + 1 }) blocks) ≡ room_after room (dues_of_blocks t (block ∷ blocks))
block_written t room left block stored blocks is how paid =
    let later : List Written = map (written field.Block t.code) (map (λ b. b - 1) blocks) in
    let count : ℕ → Written = written field.BlockCount t.counts in
    ap (room_after left) (dues_written (record t { count = t.count + 1 }) blocks is ∙ (λ i. count (t.count + 1 + length blocks) ∷ map (written field.Block t.code) (later_stored t.count blocks i)))
    ∙ same_behind left room (count (t.count + 1 + length blocks) ∷ []) later (written field.Block t.code stored ∷ later) (one_written room left (written field.Block t.code stored) later paid)
    ∙ sym (ap (room_after room) (dues_written t (block ∷ blocks) is
    ∙ (λ i. count (let e : t.count + suc (length blocks) ≡ t.count + 1 + length blocks = omega arith in e i) ∷ map (written field.Block t.code) ((first_stored t.count block blocks ∙ ap (λ s. s ∷ map (λ b. b - 1) blocks) (sym how)) i))))

pub blocks_end : (t : BlockTally) → t.is_written ≡ true → written field.BlockCount t.counts t.count ∷ [] ≡ block_dues t []
blocks_end t is = sym (dues_written t [] is ∙ (λ i. written field.BlockCount t.counts (let e : t.count + 0 ≡ t.count = omega arith in e i) ∷ map (written field.Block t.code) (none_stored t.count i)))

pub blocks_begin : (p : Parameters) (t : BlockTally) (reference : ℕ) (referenced list : List ℕ) → t.is_written ≡ ltb 0 reference → t.counts ≡ p.block_counts → t.code ≡ p.blocks → t.count ≡ 0
    → blocks_from t.run (mask_of list referenced) ≡ without_last (mask_runs true (mask_of list referenced)) → block_dues t (mask_of list referenced) ≡ copy_fields p reference referenced list
unfolding canonical_blocks
blocks_begin p t reference referenced list is counts code none first =
    let all : t.count + length (blocks_from t.run (mask_of list referenced)) ≡ length (without_last (mask_runs true (mask_of list referenced))) = omega (arith, none, ap length first) in
    (λ i. cond (is i) (written field.BlockCount (counts i) (all i) ∷ map (written field.Block (code i)) (stored_after (none i) (first i))) [])

pub blocks_start : (p : Parameters) (t : BlockTally) (reference : ℕ) (referenced list : List ℕ) → t.is_written ≡ ltb 0 reference → t.counts ≡ p.block_counts → t.code ≡ p.blocks → t.count ≡ 0
    → dues_of_blocks t (canonical_blocks list referenced) ≡ copy_fields p reference referenced list
blocks_start p t reference referenced list is counts code none =
    let blocks : List ℕ = canonical_blocks list referenced in
    let all : t.count + length blocks ≡ length blocks = omega (arith, none) in
    (λ i. cond (is i) (written field.BlockCount (counts i) (all i) ∷ map (written field.Block (code i)) (stored_after (none i) blocks)) [])

-- ---- what is not copied

pub range_next : (l n i : ℕ) → i < n → range_with_len (l + i) (n - i) ≡ (l + i) ∷ range_with_len (l + (i + 1)) (n - (i + 1))
range_next l n i lt =
    (λ j. range_with_len (l + i) (let e : n - i ≡ suc (n - (i + 1)) = omega arith in e j)) ∙ (λ j. (l + i) ∷ range_with_len (let e : l + i + 1 ≡ l + (i + 1) = omega arith in e j) (n - (i + 1)))

-- a run that is written as an interval
pub long_written : (t : ExtraTally) (new : IntervalTally) (room left : ℕ) (found : Bool) (run : Run) (runs : List Run) → is_long t.intervals.least run ≡ true → new ≡ record t.intervals { count = t.intervals.count + 1; past = Some (run.left + run.length) }
    → ((later : List Run) → room_after left (interval_dues new later) ≡ room_after room (interval_dues t.intervals (run ∷ later)))
    → room_after left (dues_of_runs (record t { intervals = new }) found runs) ≡ room_after room (dues_of_runs t found (run ∷ runs))
long_written t new room left found run runs long is paid =
    let least : ℕ = t.intervals.least in
    let later : List Run = filter (is_long least) runs in
    let counts : ℕ → List Written = count_fields found least in
    let others : List Run → List Written = λ rs. residual_dues t.residuals (flat_map numbers_of rs) in
    let first : filter (is_long least) (run ∷ runs) ≡ run ∷ later = cond-true (is_long least run) (run ∷ later) later long in
    let short : filter (λ r. not (is_long least r)) (run ∷ runs) ≡ filter (λ r. not (is_long least r)) runs =
    cond-false (not (is_long least run)) (run ∷ filter (λ r. not (is_long least r)) runs) (filter (λ r. not (is_long least r)) runs) (not_from_true _ long) in
    let next : IntervalTally = record t.intervals { count = t.intervals.count + 1; past = Some (run.left + run.length) } in
    let same : room_after left (interval_dues next later) ≡ room_after room (interval_dues t.intervals (run ∷ later)) = subst (λ (x : IntervalTally). room_after left (interval_dues x later) ≡ room_after room (interval_dues t.intervals (run ∷ later))) is (paid later) in
    ap (λ (x : IntervalTally). room_after left (dues_of_runs (record t { intervals = x }) found runs)) is
    ∙ same_before left room (counts (t.intervals.count + 1 + length later) ++ interval_dues next later) (counts (t.intervals.count + 1 + length later) ++ interval_dues t.intervals (run ∷ later)) (others (filter (λ r. not (is_long least r)) runs))
    (same_behind left room (counts (t.intervals.count + 1 + length later)) (interval_dues next later) (interval_dues t.intervals (run ∷ later)) same)
    ∙ sym (λ i. room_after room ((counts (let e : t.intervals.count + length (filter (is_long least) (run ∷ runs)) ≡ t.intervals.count + 1 + length later = omega (arith, ap length first) in e i) ++ interval_dues t.intervals (first i)) ++ others (short i)))

-- a run that is written as residuals
pub short_written : (t : ExtraTally) (new : ResidualTally) (room left : ℕ) (found : Bool) (run : Run) (runs : List Run) → is_long t.intervals.least run ≡ false
    → ((numbers : List ℕ) → room_after left (residual_dues new numbers) ≡ room_after room (residual_dues t.residuals (numbers_of run ++ numbers)))
    → room_after left (dues_of_runs (record t { residuals = new }) found runs) ≡ room_after room (dues_of_runs t found (run ∷ runs))
short_written t new room left found run runs short paid =
    let least : ℕ = t.intervals.least in
    let later : List Run = filter (λ r. not (is_long least r)) runs in
    let front : List Run → List Written = λ rs. count_fields found least (t.intervals.count + length rs) ++ interval_dues t.intervals rs in
    let first : filter (λ r. not (is_long least r)) (run ∷ runs) ≡ run ∷ later = cond-true (not (is_long least run)) (run ∷ later) later (not_from_false _ short) in
    let none : filter (is_long least) (run ∷ runs) ≡ filter (is_long least) runs = cond-false (is_long least run) (run ∷ filter (is_long least) runs) (filter (is_long least) runs) short in
    same_behind left room (front (filter (is_long least) runs)) (residual_dues new (flat_map numbers_of later)) (residual_dues t.residuals (numbers_of run ++ flat_map numbers_of later)) (paid (flat_map numbers_of later))
    ∙ sym (λ i. room_after room (front (none i) ++ residual_dues t.residuals (flat_map numbers_of (first i))))

-- no number is left to come

pub last_none : (t : ExtraTally) → t.run.length ≡ 0 → [] ≡ extra_dues t []
last_none t none =
    let numbers : numbers_of t.run ++ [] ≡ [] = ap (λ n. range_with_len t.run.left n ++ []) none in
    let runs : runs_from t.run [] ≡ [] = ap runs_of numbers ∙ no_runs in
    sym (λ i. dues_of_runs t (has_some (numbers i)) (runs i))

pub last_run : (t : ExtraTally) → 0 < t.run.length → dues_of_runs t true (t.run ∷ []) ≡ extra_dues t []
last_run t some =
    let runs : runs_from t.run [] ≡ t.run ∷ [] = first_run t.run.left t.run.length [] some tt ∙ ap (λ rs. t.run ∷ rs) no_runs in
    sym (λ i. dues_of_runs t (has_numbers t.run.left t.run.length some i) (runs i))
  where
    has_numbers : (l n : ℕ) → 0 < n → has_some (range_with_len l n ++ []) ≡ true
    has_numbers l zero some = absurd (omega arith)
    has_numbers l (suc n) some = refl

only_count : (t : ExtraTally) → dues_of_runs t true [] ≡ count_fields true t.intervals.least t.intervals.count
only_count t =
    append-nil (count_fields true t.intervals.least (t.intervals.count + 0) ++ []) ∙ append-nil (count_fields true t.intervals.least (t.intervals.count + 0)) ∙ ap (count_fields true t.intervals.least) (let e : t.intervals.count + 0 ≡ t.intervals.count = omega arith in e)

pub count_last : (t : ExtraTally) → 0 < t.intervals.least → written field.IntervalCount Gamma t.intervals.count ∷ [] ≡ dues_of_runs t true []
count_last t some = sym (only_count t ∙ cond-true (ltb 0 t.intervals.least) (written field.IntervalCount Gamma t.intervals.count ∷ []) [] (lt-ltb 0 t.intervals.least some))

pub no_count_last : (t : ExtraTally) → t.intervals.least ≤ 0 → [] ≡ dues_of_runs t true []
no_count_last t none = sym (only_count t ∙ cond-false (ltb 0 t.intervals.least) (written field.IntervalCount Gamma t.intervals.count ∷ []) [] (le-ltb 0 t.intervals.least none))
