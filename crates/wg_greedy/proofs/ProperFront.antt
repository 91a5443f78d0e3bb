-- The outdegree, the reference and the blocks of a canonical record are those that are needed, and are allowed.
use Rattle.std.proofs.Common.{◌≡◌, ℕ, suc, ◌+◌, ◌-◌, ◌<◌, ◌≤◌, min, Bool, true, false, ltb, nat_lt, if◌then◌else◌}
use Rattle.std.proofs.Common.{List, [], ◌∷◌, ◌++◌, length, map, sum, refl, sym, ap, subst, inl, inr, arith, append_assoc}
use Rattle.std.specs.Prelude.{Option, Some, None}
use Rattle.std.proofs.lemmas.Bool.{cases_Bool, lt-ltb, le-ltb, ne_eqb}
use Rattle.std.proofs.lemmas.List.{append-nil, length_push}
use Rattle.wg_graph.proofs.Copies.{sum_cons, sum_push}
use Rattle.wg_params.specs.Parameters.{Parameters}
use Rattle.wg_blocks.proofs.Alternate.{AllSome, LaterSome}
use Rattle.wg_grammar.specs.declared.fault.Field.TheVariants as field
use Rattle.wg_grammar.specs.declared.need.Need.TheVariants as need
use Rattle.wg_grammar.specs.Context.{Context, referenced, depth_of}
use Rattle.wg_grammar.specs.SoFar.{SoFar, nothing_yet, value_or_0, source, copied, own_block, after}
use Rattle.wg_grammar.specs.Next.{next}
use Rattle.wg_grammar.specs.Refusal.{refusal, passes}
use Rattle.wg_greedy.specs.Fields.{written, stored_blocks, block_fields, reference_fields}
use Rattle.wg_greedy.proofs.ProperFields.{Admits}
use Rattle.wg_greedy.proofs.ProperStages.{IsPastCopies}

-- what has been read before the successors that are not copied
abbrev pub reading : ℕ → Option ℕ → Option ℕ → List ℕ → Bool → SoFar
reading d reference count blocks checked = record nothing_yet { outdegree = Some d; reference = reference; block_count = count; blocks = blocks; checked = checked }

-- ---- the outdegree

module _ (p : Parameters) (c : Context) where
  pub outdegree_next : next p c nothing_yet ≡ need.Read field.Outdegree p.outdegrees
  unfolding next
  outdegree_next = refl

  pub outdegree_fine : (d : ℕ) → d ≤ p.nodes → c.arcs_before + d ≤ p.arcs → refusal p c nothing_yet field.Outdegree d ≡ None
  unfolding refusal
  outdegree_fine d fits total = rw (le-ltb p.nodes d fits, le-ltb p.arcs (c.arcs_before + d) total) refl

  pub outdegree_read : (d : ℕ) → after p c nothing_yet field.Outdegree d ≡ reading d None None [] false
  unfolding after
  outdegree_read d = refl

-- ---- the reference

-- what has been read of the reference
abbrev pub named : Parameters → ℕ → Option ℕ
named p r = if nat_lt 0 p.window then Some r else None

reference_next : (p : Parameters) (c : Context) (d : ℕ) → 0 < d → ltb 0 p.window ≡ true → next p c (reading d None None [] false) ≡ need.Read field.Reference p.references
unfolding next
reference_next p c d some window = rw (ne_eqb d 0 (λ e. omega arith), window) refl

reference_fine : (p : Parameters) (c : Context) (s : SoFar) (r : ℕ) → r ≤ min p.window c.page → passes p.chain (depth_of c.behind r) ≡ false → refusal p c s field.Reference r ≡ None
unfolding refusal
reference_fine p c s r near chain = rw (le-ltb (min p.window c.page) r near, chain) refl

reference_read : (p : Parameters) (c : Context) (d r : ℕ) → reading d (Some r) None [] false ≡ after p c (reading d None None [] false) field.Reference r
unfolding after
reference_read p c d r = refl

pub reference_admitted : (p : Parameters) (c : Context) (d r : ℕ) → 0 < d → r ≤ min p.window c.page → passes p.chain (depth_of c.behind r) ≡ false
    → Admits p c (reading d None None [] false) (reference_fields p r) (reading d (named p r) None [] false)
reference_admitted p c d r some near chain = grind (arith, cases_Bool, reading, reference_next, reference_fine, reference_read)

-- ---- the blocks

-- if a reference has been read
abbrev pub referring : ℕ → ℕ → ℕ → List ℕ → Bool → SoFar
referring d r n blocks checked = reading d (Some r) (Some n) blocks checked

module _ (p : Parameters) (c : Context) where
  count_next : (d r : ℕ) → 0 < d → 0 < r → 0 < p.window → next p c (reading d (Some r) None [] false) ≡ need.Read field.BlockCount p.block_counts
  unfolding next
  count_next d r some refers window = rw (ne_eqb d 0 (λ e. omega arith), lt-ltb 0 p.window window, lt-ltb 0 r refers) refl

  count_fine : (s : SoFar) (n : ℕ) → n ≤ length (source c s) + 1 → refusal p c s field.BlockCount n ≡ None
  unfolding refusal
  count_fine s n few = rw (le-ltb (length (source c s) + 1) n few) refl

  count_read : (d r n : ℕ) → after p c (reading d (Some r) None [] false) field.BlockCount n ≡ referring d r n [] false
  unfolding after
  count_read d r n = refl

  block_next : (d r n : ℕ) (done : List ℕ) → 0 < d → 0 < r → 0 < p.window → length done < n → next p c (referring d r n done false) ≡ need.Read field.Block p.blocks
  unfolding next
  block_next d r n done some refers window more = rw (ne_eqb d 0 (λ e. omega arith), lt-ltb 0 p.window window, lt-ltb 0 r refers, lt-ltb (length done) n more) refl

  block_fine : (s : SoFar) (v b : ℕ) → own_block s v ≡ b → sum s.blocks + b ≤ length (source c s) → refusal p c s field.Block v ≡ None
  unfolding refusal
  block_fine s v b own fits = rw (own, le-ltb (length (source c s)) (sum s.blocks + b) fits) refl

  block_read : (d r n : ℕ) (done : List ℕ) (v b : ℕ) → own_block (referring d r n done false) v ≡ b → after p c (referring d r n done false) field.Block v ≡ referring d r n (done ++ b ∷ []) false
  unfolding after
  block_read d r n done v b own = ap (λ k. referring d r n (done ++ k ∷ []) false) own

later_block : (d r n : ℕ) (done : List ℕ) (b : ℕ) → 0 < length done → 1 ≤ b → own_block (referring d r n done false) (b - 1) ≡ b
later_block d r n done b later some = rw (ne_eqb (length done) 0 (λ e. omega arith)) (omega arith)

module _ (p : Parameters) (c : Context) where
  later_admitted : (d r n : ℕ) (done blocks : List ℕ) → 0 < d → 0 < r → 0 < p.window → 0 < length done → length done + length blocks ≡ n
      → sum done + sum blocks ≤ length (referenced c.behind r) → AllSome blocks
      → Admits p c (referring d r n done false) (map (written field.Block p.blocks) (map (λ k. k - 1) blocks)) (referring d r n (done ++ blocks) false)
  later_admitted d r n done [] some refers window later all fits large = ap (λ bs. referring d r n bs false) (append-nil done)
  later_admitted d r n done (b ∷ blocks) some refers window later all fits large =
      let s : SoFar = referring d r n done false in
      let own : own_block s (b - 1) ≡ b = later_block d r n done b later large.0 in
      let more : List ℕ = done ++ b ∷ [] in
      let total : length more ≡ length done + 1 = length_push done b in
      let rest : Admits p c (referring d r n more false) (map (written field.Block p.blocks) (map (λ k. k - 1) blocks)) (referring d r n (more ++ blocks) false) =
      later_admitted d r n more blocks some refers window (omega (arith, total)) (omega (arith, total, all)) (omega (arith, sum_push done b, sum_cons b blocks, fits)) large.1 in
      let whole : more ++ blocks ≡ done ++ b ∷ blocks = append_assoc done (b ∷ []) blocks in (
        block_next p c d r n done some refers window (omega (arith, all)),
        block_fine p c s (b - 1) b own (omega (arith, sum_cons b blocks, fits)),
        subst (λ (z : SoFar). Admits p c z (map (written field.Block p.blocks) (map (λ k. k - 1) blocks)) (referring d r n (done ++ b ∷ blocks) false)) (sym (block_read p c d r n done (b - 1) b own))
            (subst (λ bs. Admits p c (referring d r n more false) (map (written field.Block p.blocks) (map (λ k. k - 1) blocks)) (referring d r n bs false)) whole rest),
      )

  all_admitted : (d r : ℕ) (blocks : List ℕ) → 0 < d → 0 < r → 0 < p.window → sum blocks ≤ length (referenced c.behind r) → LaterSome blocks
      → Admits p c (referring d r (length blocks) [] false) (map (written field.Block p.blocks) (stored_blocks blocks)) (referring d r (length blocks) blocks false)
  all_admitted d r [] some refers window fits large = refl
  all_admitted d r (b ∷ blocks) some refers window fits large =
      let n : ℕ = suc (length blocks) in
      let total : sum (b ∷ []) ≡ b = omega (arith, sum_cons b []) in (
        block_next p c d r n [] some refers window (omega arith),
        block_fine p c (referring d r n [] false) b b refl (omega (arith, sum_cons b blocks, fits)),
        subst (λ (z : SoFar). Admits p c z (map (written field.Block p.blocks) (map (λ k. k - 1) blocks)) (referring d r n (b ∷ blocks) false)) (sym (block_read p c d r n [] b b refl))
            (later_admitted d r n (b ∷ []) blocks some refers window (omega arith) (omega arith) (omega (arith, total, sum_cons b blocks, fits)) large),
      )

  pub blocks_admitted : (d r : ℕ) (blocks : List ℕ) → 0 < d → 0 < r → 0 < p.window → length blocks ≤ 1 + length (referenced c.behind r) → sum blocks ≤ length (referenced c.behind r) → LaterSome blocks
      → Admits p c (reading d (Some r) None [] false) (block_fields p blocks) (referring d r (length blocks) blocks false)
  blocks_admitted d r blocks some refers window few fits large = (
    count_next p c d r some refers window,
    count_fine p c (reading d (Some r) None [] false) (length blocks) (omega (arith, few)),
    subst (λ (z : SoFar). Admits p c z (map (written field.Block p.blocks) (stored_blocks blocks)) (referring d r (length blocks) blocks false))
        (sym (count_read p c d r (length blocks))) (all_admitted d r blocks some refers window fits large),
  )

  -- ---- the check of what is copied

  pub check_next : (d r : ℕ) (blocks : List ℕ) → 0 < d → 0 < r → 0 < p.window → next p c (referring d r (length blocks) blocks false) ≡ need.Check
  unfolding next
  check_next d r blocks some refers window = rw (ne_eqb d 0 (λ e. omega arith), lt-ltb 0 p.window window, lt-ltb 0 r refers, le-ltb (length blocks) (length blocks) (omega arith)) refl

  pub check_fine : (d r n : ℕ) (blocks : List ℕ) → length (copied c (referring d r n blocks false)) ≤ d → refusal p c (referring d r n blocks false) field.Copied 0 ≡ None
  unfolding refusal
  check_fine d r n blocks fits = rw (le-ltb d (length (copied c (referring d r n blocks false))) fits) refl

  pub check_read : (d r n : ℕ) (blocks : List ℕ) → after p c (referring d r n blocks false) field.Copied 0 ≡ referring d r n blocks true
  unfolding after
  check_read d r n blocks = refl

  -- ---- what comes next is not copied

  pub past_blocks : (d r : ℕ) (blocks : List ℕ) → 0 < d → 0 < p.window → IsPastCopies p c (referring d r (length blocks) blocks true)
  past_blocks d r blocks some window = grind arith

pub named_none : (p : Parameters) → value_or_0 (named p 0) ≡ 0
named_none p = elim (cases_Bool (ltb 0 p.window)) [ inl h ↦ rw h refl | inr h ↦ rw h refl ]

pub past_no_reference : (p : Parameters) (c : Context) (d : ℕ) → 0 < d → IsPastCopies p c (reading d (named p 0) None [] false)
past_no_reference p c d some = grind arith
