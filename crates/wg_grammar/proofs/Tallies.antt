-- The numbers that a progress keeps check a value, and change with it, as the record does.
use Rattle.std.proofs.Common.{◌≡◌, ℕ, zero, suc, ◌+◌, ◌<◌, ◌≤◌, min, Bool, true, false, cond, ltb, List, [], ◌∷◌, ◌++◌, length, Option, Some, None, refl, sym, ap, subst, ◌∙◌, arith, is_none}
use Rattle.std.proofs.lemmas.Bool.{ltb-true, ltb-false, lt-ltb, le-ltb, le-leb, and_parts}
use Rattle.std.proofs.lemmas.List.{length_push, get_or_push, nil_from_length}
use Rattle.wg_params.specs.Parameters.{Parameters}
use Rattle.wg_params.specs.declared.code.Code.{Code}
use Rattle.wg_graph.specs.Copied.{is_copied, copied_members}
use Rattle.wg_graph.proofs.Copies.{copied_count, sum_push, at_positions_all}
use Rattle.wg_grammar.specs.declared.fault.Field.{Field}
use Rattle.wg_grammar.specs.declared.fault.Field.TheVariants as field
use Rattle.wg_grammar.specs.declared.fault.Kind.TheVariants as kind
use Rattle.wg_grammar.specs.declared.need.Need.TheVariants as need
use Rattle.wg_grammar.specs.declared.progress.Referenced.{Referenced}
use Rattle.wg_grammar.specs.Context.{Context, referenced, depth_of}
use Rattle.wg_grammar.specs.SoFar.{SoFar, value_or_0, last_of, source, own_block, own_left, own_residual, after}
use Rattle.wg_grammar.specs.Next.{next, need_of}
use Rattle.wg_grammar.specs.Refusal.{passes, refusal, refusal_of}
use Rattle.wg_grammar.specs.declared.progress.Tally.{Tally}
use Rattle.wg_grammar.specs.Tally.{tally, Follows}
use Rattle.wg_grammar.specs.Judging.{named, Gives}
use Rattle.wg_grammar.specs.Steps.{given_length, given_depth, after_of, Due}
use Rattle.wg_grammar.proofs.Along.{not_first}
use Rattle.wg_grammar.proofs.Chain.{field_of, tests, tested}

pub need_follows : (q : Tally) (p : Parameters) (c : Context) (s : SoFar) → Follows q p c s → need_of q ≡ next p c s
unfolding next
need_follows q p c s f = ap need_of f

-- ---- what is so if a field is next

is_none_is : {A : Type 0} (o : Option A) → is_none o ≡ true → o ≡ None
is_none_is None e = refl
is_none_is (Some x) e = absurd cc

pub due_of : (t : Tally) (f : Field) → tests t f → Due t f
unfolding tests
due_of t field.Outdegree e = is_none_is t.outdegree e
due_of t field.Reference e = is_none_is t.reference (and_parts _ _ e.0).1
due_of t field.BlockCount e = ltb-true _ _ (and_parts _ _ e).0
due_of t field.Block e = ltb-true _ _ e
due_of t field.Copied e = tt
due_of t field.IntervalCount e = tt
due_of t field.Left e = ltb-true _ _ e.0
due_of t field.Length e = ltb-true _ _ e.0
due_of t field.Residual e = ltb-true _ _ e.0
due_of t field.Record e = tt

pub due : (t : Tally) (f : Field) (code : Code) → need_of t ≡ need.Read f code → Due t f
unfolding tests
due t f code e = due_of t f (subst (tests t) (ap field_of e) (tested t.params _ _ _ _ _ _ _ _ _ _))

-- ---- refusals

depth_named : (p : Parameters) (c : Context) (v : ℕ) → v ≤ min p.window c.page → given_depth (named p c v) ≡ depth_of c.behind v
depth_named p c zero le = refl
depth_named p c (suc v) le = rw (le-leb (suc v) (min p.window c.page) le) refl

length_named : (p : Parameters) (c : Context) (v : ℕ) → v ≤ min p.window c.page → given_length (named p c v) ≡ length (referenced c.behind v)
length_named p c zero le = refl
length_named p c (suc v) le = rw (le-leb (suc v) (min p.window c.page) le) refl

reference_refusal : (b : Bool) (r : Option ℕ) (x y : ℕ) → (b ≡ false → x ≡ y) → cond b (Some kind.Range) (cond (passes r x) (Some kind.Chain) None) ≡ cond b (Some kind.Range) (cond (passes r y) (Some kind.Chain) None)
reference_refusal true r x y e = refl
reference_refusal false r x y e = ap (λ (d : ℕ). cond (passes r d) (Some kind.Chain) None) (e refl)

pub chain_refused : (most : ℕ) (chain : Option ℕ) (depth v limit : ℕ) → v ≤ most → chain ≡ Some limit → limit < depth →
    cond (ltb most v) (Some kind.Range) (cond (passes chain depth) (Some kind.Chain) None) ≡ Some kind.Chain
chain_refused most chain depth v limit near has deep = rw (le-ltb _ _ near, has, lt-ltb _ _ deep) refl

pub refusal_by_numbers : (p : Parameters) (c : Context) (s : SoFar) (given : Option Referenced) (f : Field) (v : ℕ) → Gives given p c f v → refusal_of (tally p c s) (given_depth given) f v ≡ refusal p c s f v
unfolding refusal
refusal_by_numbers p c s given field.Outdegree v g = refl
refusal_by_numbers p c s given field.Reference v g =
    reference_refusal (ltb (min p.window c.page) v) p.chain _ _ (λ low. rw (g refl) (depth_named p c v (ltb-false _ _ low)))
refusal_by_numbers p c s given field.BlockCount v g = refl
refusal_by_numbers p c s given field.Block v g = refl
refusal_by_numbers p c s given field.Copied v g = refl
refusal_by_numbers p c s given field.IntervalCount v g = refl
refusal_by_numbers p c s given field.Left v g = refl
refusal_by_numbers p c s given field.Length v g = refl
refusal_by_numbers p c s given field.Residual v g = refl
refusal_by_numbers p c s given field.Record v g = refl

-- ---- what has been read after a value

pub last_push : (xs : List ℕ) (y : ℕ) → last_of (xs ++ y ∷ []) ≡ y
last_push xs y = get_or_push xs y 0 _ (omega (arith, length_push xs y))

pub after_by_numbers : (p : Parameters) (c : Context) (s : SoFar) (given : Option Referenced) (f : Field) (v : ℕ) → Gives given p c f v → (f ≡ field.Reference → s.blocks ≡ []) →
    refusal p c s f v ≡ None → tally p c (after p c s f v) ≡ after_of (tally p c s) given f v
unfolding refusal after after_of copied_members
after_by_numbers p c s given field.Outdegree v g early fine = refl
after_by_numbers p c s given field.Reference v g early fine =
    let low = ltb-false _ _ (not_first _ _ _ fine).0 in
    let same : given_length given ≡ length (referenced c.behind v) = rw (g refl) (length_named p c v low) in
    let none = early refl in
    let all : length (copied_members s.blocks (referenced c.behind v)) ≡ given_length given = rw none (ap length (at_positions_all (is_copied []) 0 (referenced c.behind v) (λ q h. refl)) ∙ sym same) in
    rw (all, same) refl
after_by_numbers p c s given field.BlockCount v g early fine = refl
after_by_numbers p c s given field.Block v g early fine =
    let fits = ltb-false _ _ (not_first _ _ _ fine).0 in
    rw (length_push s.blocks (own_block s v), sum_push s.blocks (own_block s v), copied_count s.blocks (source c s) (own_block s v) fits) refl
after_by_numbers p c s given field.Copied v g early fine = refl
after_by_numbers p c s given field.IntervalCount v g early fine = refl
after_by_numbers p c s given field.Left v g early fine = rw (last_push s.lefts (value_or_0 (own_left c s v)), length_push s.lefts (value_or_0 (own_left c s v))) refl
after_by_numbers p c s given field.Length v g early fine = rw (last_push s.lengths (v + p.interval), length_push s.lengths (v + p.interval), sum_push s.lengths (v + p.interval)) refl
after_by_numbers p c s given field.Residual v g early fine = rw (last_push s.residuals (value_or_0 (own_residual c s v)), length_push s.residuals (value_or_0 (own_residual c s v))) refl
after_by_numbers p c s given field.Record v g early fine = refl

-- ---- one call

-- the numbers check a value as the record does
pub refusal_follows : (q : Tally) (p : Parameters) (c : Context) (s : SoFar) (given : Option Referenced) (f : Field) (v : ℕ) →
    Follows q p c s → Gives given p c f v → refusal p c s f v ≡ refusal_of q (given_depth given) f v
refusal_follows q p c s given f v follows gives = sym (ap (λ (t : Tally). refusal_of t (given_depth given) f v) follows ∙ refusal_by_numbers p c s given f v gives)

-- a value that is taken
pub accepted : (q q' : Tally) (p : Parameters) (c : Context) (s : SoFar) (given : Option Referenced) (f : Field) (v : ℕ) →
    Follows q p c s → Gives given p c f v → (f ≡ field.Reference → q.blocks ≡ 0) → refusal_of q (given_depth given) f v ≡ None → q' ≡ after_of q given f v →
    (refusal p c s f v ≡ None) × Follows q' p c (after p c s f v)
accepted q q' p c s given f v follows gives early fine new =
    let allowed : refusal p c s f v ≡ None = refusal_follows q p c s given f v follows gives ∙ fine in
    let none : f ≡ field.Reference → s.blocks ≡ [] = λ h. nil_from_length s.blocks (sym (ap (λ (t : Tally). t.blocks) follows) ∙ early h) in
    (allowed, new ∙ ap (λ (t : Tally). after_of t given f v) follows ∙ sym (after_by_numbers p c s given f v gives none allowed))

pub same_field : (f g : Field) (code other : Code) → need.Read f code ≡ need.Read g other → f ≡ g
same_field f g code other e = cc
