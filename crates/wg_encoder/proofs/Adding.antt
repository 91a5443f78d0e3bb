-- The parts of a record, added field by field.
use Rattle.std.proofs.Common.{◌≡◌, ℕ, zero, suc, ◌+◌, ◌-◌, ◌*◌, ◌^◌, ◌<◌, ◌≤◌, List, [], ◌∷◌, ◌++◌, length, map, drop, get_or, refl, sym, ap, subst, ◌∙◌, arith, append_assoc}
use Rattle.std.specs.Prelude.{Option, Some}
use Rattle.std.proofs.lemmas.List.{append-nil, drop_more}
use Rattle.wg_graph.specs.Numbers.{is_in}
use Rattle.wg_graph.specs.Ascending.{Ascends}
use Rattle.wg_params.specs.declared.code.Code.{Code}
use Rattle.wg_params.specs.declared.code.Code.TheVariants.{Gamma}
use Rattle.wg_intervals.specs.declared.run.Run.{Run}
use Rattle.wg_intervals.specs.Canonical.{ends_and_lengths}
use Rattle.wg_grammar.specs.declared.fault.Field.TheVariants as field
use Rattle.wg_greedy.specs.Fields.{Written, written, stored_blocks, stored_gap, interval_fields, extras}
use Rattle.wg_encoder.specs.InMemory.{AreLowRuns}

-- one field more
grow : (fields new whole rest : List Written) (w : Written) → new ≡ fields ++ w ∷ [] → fields ++ w ∷ rest ≡ whole → new ++ rest ≡ whole
grow fields new whole rest w added is = ap (λ fs. fs ++ rest) added ∙ append_assoc fields (w ∷ []) rest ∙ is

-- ---- what is not copied

-- i numbers of the list are behind
pub record Leaving (list referenced asked : List ℕ) (i : ℕ) (others : List ℕ) : Type 0 where
  pub all : others ++ extras (drop i list) referenced ≡ extras list referenced
  pub least : ℕ
  pub up : Ascends least (drop i list)
  pub same : (y : ℕ) → least ≤ y → is_in y asked ≡ is_in y referenced

-- ---- blocks

-- how blocks are stored if i are behind
abbrev pub stored_from : ℕ → List ℕ → List ℕ
stored_from zero bs = stored_blocks bs
stored_from (suc i) bs = map (λ n. n - 1) bs

abbrev pub lengths_from : Code → ℕ → List ℕ → List Written
lengths_from code i bs = map (written field.Block code) (stored_from i bs)

-- ---- intervals

two_on : (ends : List ℕ) (i : ℕ) → 2 * i + 1 < length ends → drop (2 * i) ends ≡ get_or ends (2 * i) 0 ∷ get_or ends (2 * i + 1) 0 ∷ drop (2 * (i + 1)) ends
two_on ends i lt =
    let next : 2 * i + 1 + 1 ≡ 2 * (i + 1) = omega arith in
    drop_more ends (2 * i) 0 (omega arith) ∙ ap (λ xs. get_or ends (2 * i) 0 ∷ xs) (drop_more ends (2 * i + 1) 0 lt ∙ ap (λ k. get_or ends (2 * i + 1) 0 ∷ drop k ends) next)

pub low_here : (ends : List ℕ) (i : ℕ) → 2 * i + 1 < length ends → AreLowRuns (drop (2 * i) ends)
    → (0 < get_or ends (2 * i + 1) 0) × (get_or ends (2 * i) 0 + get_or ends (2 * i + 1) 0 ≤ 2 ^ 62) × AreLowRuns (drop (2 * (i + 1)) ends)
low_here ends i lt low = subst AreLowRuns (two_on ends i lt) low

-- the runs whose ends and lengths are left, after what comes before
pub record Reaching (page least : ℕ) (whole : List Written) (ends : List ℕ) (past : Option ℕ) (fields : List Written) : Type 0 where
  pub runs : List Run
  pub stored : ends ≡ ends_and_lengths runs
  pub all : fields ++ interval_fields page least past runs ≡ whole

run_added : (page least : ℕ) (whole fields first second : List Written) (past : Option ℕ) (l n gap long : ℕ) (ends : List ℕ) (runs : List Run) → l ∷ n ∷ ends ≡ ends_and_lengths runs → fields ++ interval_fields page least past runs ≡ whole
    → gap ≡ stored_gap page past l → long ≡ n - least → first ≡ fields ++ written field.Left Gamma gap ∷ [] → second ≡ first ++ written field.Length Gamma long ∷ [] → Reaching page least whole ends (Some (l + n)) second
run_added page least whole fields first second past l n gap long ends [] e is how much added then = absurd (omega (arith, ap length e))
run_added page least whole fields first second past l n gap long ends (run ∷ runs) e is how much added then =
    let left : l ≡ run.left = ap (λ xs. get_or xs 0 0) e in
    let count : n ≡ run.length = ap (λ xs. get_or xs 1 0) e in
    let rest : List Written = interval_fields page least (Some (l + n)) runs in
    let here : fields ++ written field.Left Gamma gap ∷ written field.Length Gamma long ∷ rest ≡ whole =
    (λ i. fields ++ written field.Left Gamma (how i) ∷ written field.Length Gamma (much i) ∷ rest)
    ∙ (λ i. fields ++ written field.Left Gamma (stored_gap page past (left i)) ∷ written field.Length Gamma (count i - least) ∷ interval_fields page least (Some (left i + count i)) runs) ∙ is in
    record {
      runs = runs;
      stored = ap (drop 2) e;
      all = grow first second whole rest (written field.Length Gamma long) then (grow fields first whole (written field.Length Gamma long ∷ rest) (written field.Left Gamma gap) added here);
    }

pub intervals_more : (page least : ℕ) (whole fields first second : List Written) (past : Option ℕ) (ends : List ℕ) (i gap long : ℕ) → 2 * i + 1 < length ends → Reaching page least whole (drop (2 * i) ends) past fields
    → gap ≡ stored_gap page past (get_or ends (2 * i) 0) → long ≡ get_or ends (2 * i + 1) 0 - least → first ≡ fields ++ written field.Left Gamma gap ∷ [] → second ≡ first ++ written field.Length Gamma long ∷ []
    → Reaching page least whole (drop (2 * (i + 1)) ends) (Some (get_or ends (2 * i) 0 + get_or ends (2 * i + 1) 0)) second
intervals_more page least whole fields first second past ends i gap long lt r how much added then =
    run_added page least whole fields first second past (get_or ends (2 * i) 0) (get_or ends (2 * i + 1) 0) gap long (drop (2 * (i + 1)) ends) r.runs (sym (two_on ends i lt) ∙ r.stored) r.all how much added then

none_left : (page least : ℕ) (past : Option ℕ) (ends : List ℕ) (runs : List Run) → length ends < 2 → ends ≡ ends_and_lengths runs → interval_fields page least past runs ≡ []
none_left page least past ends [] few e = refl
none_left page least past ends (run ∷ runs) few e = absurd (let long : length ends ≡ suc (suc (length (ends_and_lengths runs))) = ap length e in omega arith)

pub intervals_done : (page least : ℕ) (whole fields : List Written) (past : Option ℕ) (ends : List ℕ) → length ends < 2 → Reaching page least whole ends past fields → fields ≡ whole
intervals_done page least whole fields past ends few r = sym (append-nil fields) ∙ ap (λ z. fields ++ z) (sym (none_left page least past ends r.runs few r.stored)) ∙ r.all
