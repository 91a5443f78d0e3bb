-- A record of which all is read has never more successors than its outdegree.
use Rattle.std.proofs.Common.{◌≡◌, ℕ, ◌+◌, ◌<◌, ◌≤◌, Bool, true, false, not, ◌&&◌, ◌||◌, eqb, ltb, leb, List, [], ◌∷◌, length, Option, Some, None, is_none, refl, sym, ap, subst, ◌∙◌, arith, inl, inr}
use Rattle.std.specs.Prelude.{sum}
use Rattle.std.proofs.lemmas.Bool.{cases_Bool, cases_eq, ne_eqb, ltb-true, ltb-false, lt-ltb, and_parts, not-true}
use Rattle.std.proofs.lemmas.List.{length_push}
use Rattle.wg_graph.specs.Numbers.{numbers_where, is_in}
use Rattle.wg_graph.specs.Copied.{copied_members, is_copied}
use Rattle.wg_graph.proofs.Sets.{where_none}
use Rattle.wg_graph.proofs.Counts.{many, many_or, many_in, many_range}
use Rattle.wg_graph.proofs.Copies.{sum_cons, sum_push, length-at_positions}
use Rattle.wg_params.specs.Parameters.{Parameters}
use Rattle.wg_grammar.specs.declared.fault.Field.{Field}
use Rattle.wg_grammar.specs.declared.fault.Field.TheVariants as field
use Rattle.wg_grammar.specs.declared.fault.Kind.TheVariants as kind
use Rattle.wg_grammar.specs.declared.need.Need.{Need}
use Rattle.wg_grammar.specs.declared.need.Need.TheVariants as need
use Rattle.wg_grammar.specs.Context.{Context, referenced}
use Rattle.wg_grammar.specs.SoFar.{SoFar, after, nothing_yet, value_or_0, source, copied, extra, missing, own_residual}
use Rattle.wg_grammar.specs.Next.{next}
use Rattle.wg_grammar.specs.Refusal.{refusal}
use Rattle.wg_grammar.specs.Members.{is_covered, list_of}
use Rattle.wg_grammar.specs.Record.{Stands, Fields}
use Rattle.wg_grammar.specs.Tally.{tally}
use Rattle.wg_grammar.proofs.Along.{not_first, kept_once, kept_along}
use Rattle.wg_grammar.proofs.Chain.{field_of, Early, tests, tested}

-- ---- no more members than the parts have numbers

many_covered : (ls ns : List ℕ) (n k : ℕ) → many (is_covered ls ns) n k ≤ sum ns
many_covered [] ns n k = let none : numbers_where (is_covered [] ns) n k ≡ [] = where_none (is_covered [] ns) n k (λ y low high. refl) in rw none (omega arith)
many_covered (l ∷ ls) [] n k = let none : numbers_where (is_covered (l ∷ ls) []) n k ≡ [] = where_none (is_covered (l ∷ ls) []) n k (λ y low high. refl) in rw none (omega arith)
many_covered (l ∷ ls) (c ∷ ns) n k = omega (arith, many_or (λ y. leb l y && ltb y (l + c)) (is_covered ls ns) n k, many_range l c n k, many_covered ls ns n k, sum_cons c ns)

pub list_bound : (p : Parameters) (c : Context) (s : SoFar) → length (list_of p c s) ≤ length (copied c s) + sum s.lengths + length s.residuals
unfolding list_of
list_bound p c s =
    omega (
      arith,
      many_or (λ y. is_in y (copied c s) || is_covered s.lefts s.lengths y) (λ y. is_in y s.residuals) 0 p.nodes,
      many_or (λ y. is_in y (copied c s)) (is_covered s.lefts s.lengths) 0 p.nodes,
      many_in (copied c s) 0 p.nodes,
      many_covered s.lefts s.lengths 0 p.nodes,
      many_in s.residuals 0 p.nodes,
    )

-- ---- what is so of a record at each field

-- the first tests of the choice of a field
abbrev no_outdegree : SoFar → Bool
no_outdegree s = is_none s.outdegree

abbrev no_reference : Parameters → SoFar → Bool
no_reference p s = ltb 0 p.window && is_none s.reference

abbrev no_block_count : SoFar → Bool
no_block_count s = ltb 0 (value_or_0 s.reference) && is_none s.block_count

abbrev more_blocks : SoFar → Bool
more_blocks s = ltb (length s.blocks) (value_or_0 s.block_count)

abbrev no_check : SoFar → Bool
no_check s = ltb 0 (value_or_0 s.reference) && not s.checked

abbrev AllEarly : Parameters → SoFar → Type 0
AllEarly p s = Early (no_outdegree s) (no_reference p s) (no_block_count s) (more_blocks s)

-- nothing past the blocks has been read
record NothingPast (s : SoFar) : Type 0 where
  unchecked : s.checked ≡ false
  lengths : sum s.lengths ≡ 0
  residuals : length s.residuals ≡ 0

-- what is not copied is missing or has been read; and what comes early is not read late
pub record Orderly (p : Parameters) (c : Context) (s : SoFar) : Type 0 where
  outdegree : no_outdegree s ≡ true → NothingPast s
  reference : no_reference p s ≡ true → NothingPast s
  block_count : no_block_count s ≡ true → NothingPast s
  blocks : more_blocks s ≡ true → NothingPast s
  check : no_check s ≡ true → sum s.lengths + length s.residuals ≡ 0
  pub fits : sum s.lengths + length s.residuals ≤ extra c s
  pub allowed : s.checked ≡ true → length (copied c s) ≤ value_or_0 s.outdegree
  pub empty : value_or_0 s.outdegree ≡ 0 → value_or_0 s.reference ≡ 0

true_false : {X : Type 0} → (b : Bool) → b ≡ true → b ≡ false → X
true_false b e f = absurd (let g : true ≡ false = sym e ∙ f in cc)

from_nothing : (p : Parameters) (c : Context) (s : SoFar) → NothingPast s → (value_or_0 s.outdegree ≡ 0 → value_or_0 s.reference ≡ 0) → Orderly p c s
from_nothing p c s n empty = record {
  outdegree = λ e. n;
  reference = λ e. n;
  block_count = λ e. n;
  blocks = λ e. n;
  check = λ e. omega (arith, n.lengths, n.residuals);
  fits = omega (arith, n.lengths, n.residuals);
  allowed = λ e. true_false s.checked e n.unchecked;
  empty = empty;
}

from_late : (p : Parameters) (c : Context) (s : SoFar) → AllEarly p s → no_check s ≡ false → sum s.lengths + length s.residuals ≤ extra c s → (s.checked ≡ true → length (copied c s) ≤ value_or_0 s.outdegree) → (value_or_0 s.outdegree ≡ 0 → value_or_0 s.reference ≡ 0) → Orderly p c s
from_late p c s early checked fits allowed empty = record {
  outdegree = λ e. true_false (no_outdegree s) e early.outdegree;
  reference = λ e. true_false (no_reference p s) e early.reference;
  block_count = λ e. true_false (no_block_count s) e early.block_count;
  blocks = λ e. true_false (more_blocks s) e early.blocks;
  check = λ e. true_false (no_check s) e checked;
  fits = fits;
  allowed = allowed;
  empty = empty;
}

pub orderly_first : (p : Parameters) (c : Context) → Orderly p c nothing_yet
orderly_first p c = from_nothing p c nothing_yet (record { unchecked = refl; lengths = refl; residuals = refl }) (λ e. refl)

-- the tests that chose what is next
pub next_tested : (p : Parameters) (c : Context) (s : SoFar) → tests (tally p c s) (field_of (next p c s))
unfolding next tests
next_tested p c s = tested p _ _ _ _ _ _ _ _ _ _

-- the check comes once
pub unchecked : (p : Parameters) (c : Context) (s : SoFar) → next p c s ≡ need.Check → s.checked ≡ false
unfolding tests
unchecked p c s is =
    let t : tests (tally p c s) field.Copied = subst (tests (tally p c s)) (ap field_of is) (next_tested p c s) in
    not-true _ (and_parts _ _ t.0).1

none_is_0 : (o : Option ℕ) → is_none o ≡ true → value_or_0 o ≡ 0
none_is_0 None e = refl
none_is_0 (Some x) e = absurd cc

-- neither of two reasons
first_of : (a b : Bool) → (a || b) ≡ false → a ≡ false
first_of true b e = absurd cc
first_of false b e = refl

orderly_after : (p : Parameters) (c : Context) (s : SoFar) (f : Field) (v : ℕ) → tests (tally p c s) f → refusal p c s f v ≡ None → Orderly p c s → Orderly p c (after p c s f v)
unfolding tests after refusal
orderly_after p c s field.Outdegree v t fine h = let n = h.outdegree t in from_nothing p c _ (record { unchecked = n.unchecked; lengths = n.lengths; residuals = n.residuals }) (λ e. h.empty (none_is_0 s.outdegree t))
orderly_after p c s field.Reference v t fine h = let n = h.reference t.0 in from_nothing p c _ (record { unchecked = n.unchecked; lengths = n.lengths; residuals = n.residuals }) (λ e. absurd (true_false (eqb (value_or_0 s.outdegree) 0) (rw e refl) t.1))
orderly_after p c s field.BlockCount v t fine h = let n = h.block_count t in from_nothing p c _ (record { unchecked = n.unchecked; lengths = n.lengths; residuals = n.residuals }) h.empty
orderly_after p c s field.Block v t fine h = let n = h.blocks t in from_nothing p c _ (record { unchecked = n.unchecked; lengths = n.lengths; residuals = n.residuals }) h.empty
orderly_after p c s field.Copied v t fine h =
    let allowed : length (copied c s) ≤ value_or_0 s.outdegree = ltb-false _ _ (not_first _ kind.Copied None fine).0 in
    from_late p c _ t.1 (let e : (ltb 0 (value_or_0 s.reference) && false) ≡ false = elim (cases_Bool (ltb 0 (value_or_0 s.reference))) [ inl y ↦ rw y refl | inr y ↦ rw y refl ] in e) h.fits (λ e. allowed) h.empty
orderly_after p c s field.IntervalCount v t fine h = from_late p c _ t.2 t.1 h.fits h.allowed h.empty
orderly_after p c s field.Left v t fine h = from_late p c _ t.2 t.1 h.fits h.allowed h.empty
orderly_after p c s field.Length v t fine h =
    let room : v + p.interval ≤ missing c s = ltb-false _ _ (first_of _ _ (not_first _ kind.Range None fine).0) in
    from_late p c _ t.2 t.1 (omega (arith, room, h.fits, sum_push s.lengths (v + p.interval))) h.allowed h.empty
orderly_after p c s field.Residual v t fine h =
    let room : 0 < missing c s = ltb-true _ _ t.0 in
    from_late p c _ t.2 t.1 (omega (arith, room, h.fits, length_push s.residuals (value_or_0 (own_residual c s v)))) h.allowed h.empty
orderly_after p c s field.Record v t fine h = h

orderly_next : (p : Parameters) (c : Context) (s : SoFar) (f : Field) (v : ℕ) → field_of (next p c s) ≡ f → refusal p c s f v ≡ None → Orderly p c s → Orderly p c (after p c s f v)
orderly_next p c s f v is = orderly_after p c s f v (subst (tests (tally p c s)) is (next_tested p c s))

pub orderly_stands : (m : Need) (p : Parameters) (c : Context) (bits : List Bool) (s : SoFar) (at v mid : ℕ) (t : SoFar) → next p c s ≡ m → Stands m p c bits s at v mid t → Orderly p c s → Orderly p c t
orderly_stands m p c bits = kept_once p c bits (Orderly p c) (orderly_next p c) m

pub orderly_fields : (p : Parameters) (c : Context) (bits : List Bool) (s : SoFar) (at : ℕ) (vs : List ℕ) (t : SoFar) (end : ℕ) → Fields p c bits s at vs t end → Orderly p c s → Orderly p c t
orderly_fields p c bits = kept_along p c bits (Orderly p c) (orderly_next p c)

copied_none : (c : Context) (s : SoFar) → value_or_0 s.reference ≡ 0 → length (copied c s) ≡ 0
unfolding copied_members
copied_none c s e =
    let none : source c s ≡ [] = ap (referenced c.behind) e in
    omega (arith, length-at_positions (is_copied s.blocks) 0 (source c s), ap length none)

-- if nothing more is needed
checked_at_end : (p : Parameters) (c : Context) (s : SoFar) → next p c s ≡ need.End → (value_or_0 s.outdegree ≡ 0 → ⊥) → no_check s ≡ false
unfolding tests
checked_at_end p c s is some =
    let t : tests (tally p c s) field.Record = subst (tests (tally p c s)) (ap field_of is) (next_tested p c s) in
    (t (ne_eqb (value_or_0 s.outdegree) 0 some)).0

copied_fits : (p : Parameters) (c : Context) (s : SoFar) → next p c s ≡ need.End → Orderly p c s → length (copied c s) ≤ value_or_0 s.outdegree
copied_fits p c s is h =
    elim (cases_eq (value_or_0 s.reference) 0) [
      | inl none ↦ omega (arith, copied_none c s none)
      | inr some ↦ elim (cases_Bool s.checked) [
        | inl yet ↦ h.allowed yet
        | inr not_yet ↦
            let refers : ltb 0 (value_or_0 s.reference) ≡ true = lt-ltb _ _ (omega arith) in
            let missed : no_check s ≡ true = rw (refers, not_yet) refl in
            true_false (no_check s) missed (checked_at_end p c s is (λ zero. some (h.empty zero)))
      ]
    ]

pub never_more : (p : Parameters) (c : Context) (s : SoFar) → next p c s ≡ need.End → Orderly p c s → length (list_of p c s) ≤ value_or_0 s.outdegree
never_more p c s is h = omega (arith, list_bound p c s, copied_fits p c s is h, h.fits)
