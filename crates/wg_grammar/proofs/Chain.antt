-- What is so if a field is next, by the tests that choose it.
use Rattle.std.proofs.Common.{◌&&◌, not, ltb, eqb, is_none, ◌≡◌, Bool, true, false, cond, refl}
use Rattle.wg_params.specs.Codes.{IsCode}
use Rattle.wg_params.specs.Parameters.{Parameters, IsWithinLimits}
use Rattle.wg_params.specs.declared.code.Code.TheVariants.{Gamma}
use Rattle.wg_grammar.specs.declared.fault.Field.{Field}
use Rattle.wg_grammar.specs.declared.fault.Field.TheVariants as field
use Rattle.wg_grammar.specs.declared.need.Need.{Need}
use Rattle.wg_grammar.specs.declared.need.Need.TheVariants as need
use Rattle.wg_grammar.specs.Context.{Context}
use Rattle.wg_grammar.specs.SoFar.{SoFar, value_or_0}
use Rattle.wg_grammar.specs.Next.{next}
use Rattle.wg_grammar.specs.declared.progress.Tally.{Tally}
use Rattle.wg_grammar.specs.Tally.{extra_of, missing_of}
use Rattle.wg_grammar.proofs.FieldCodes.{gamma_or_delta, unary_gamma_or_delta, residual_code}

-- the field that is needed; Copied for the check, and Record if nothing is
abbrev pub field_of : Need → Field
field_of (need.Read f code) = f
field_of need.Check = field.Copied
field_of need.End = field.Record

-- what is needed by the tests of the ten choices
abbrev pub chosen : Parameters → Bool → Bool → Bool → Bool → Bool → Bool → Bool → Bool → Bool → Bool → Need
chosen p b1 b2 b3 b4 b5 b6 b7 b8 b9 b10 =
    cond b1 (need.Read field.Outdegree p.outdegrees) (cond b2 need.End (cond b3 (need.Read field.Reference p.references) (cond b4 (need.Read field.BlockCount p.block_counts)
    (cond b5 (need.Read field.Block p.blocks) (cond b6 need.Check (cond b7 (need.Read field.IntervalCount Gamma) (cond b8 (need.Read field.Length Gamma) (cond b9 (need.Read field.Left Gamma)
    (cond b10 (need.Read field.Residual p.residuals) need.End)))))))))

-- all that comes before the intervals has been read
pub record Early (b1 b3 b4 b5 : Bool) : Type 0 where
  pub outdegree : b1 ≡ false
  pub reference : b3 ≡ false
  pub block_count : b4 ≡ false
  pub blocks : b5 ≡ false

-- the tests that chose a field
abbrev pub Tested : Field → Bool → Bool → Bool → Bool → Bool → Bool → Bool → Bool → Bool → Bool → Type 0
Tested field.Outdegree b1 b2 b3 b4 b5 b6 b7 b8 b9 b10 = b1 ≡ true
Tested field.Reference b1 b2 b3 b4 b5 b6 b7 b8 b9 b10 = (b3 ≡ true) × (b2 ≡ false)
Tested field.BlockCount b1 b2 b3 b4 b5 b6 b7 b8 b9 b10 = b4 ≡ true
Tested field.Block b1 b2 b3 b4 b5 b6 b7 b8 b9 b10 = b5 ≡ true
Tested field.Copied b1 b2 b3 b4 b5 b6 b7 b8 b9 b10 = (b6 ≡ true) × Early b1 b3 b4 b5
Tested field.IntervalCount b1 b2 b3 b4 b5 b6 b7 b8 b9 b10 = (b7 ≡ true) × (b6 ≡ false) × Early b1 b3 b4 b5
Tested field.Length b1 b2 b3 b4 b5 b6 b7 b8 b9 b10 = (b8 ≡ true) × (b6 ≡ false) × Early b1 b3 b4 b5
Tested field.Left b1 b2 b3 b4 b5 b6 b7 b8 b9 b10 = (b9 ≡ true) × (b6 ≡ false) × Early b1 b3 b4 b5
Tested field.Residual b1 b2 b3 b4 b5 b6 b7 b8 b9 b10 = (b10 ≡ true) × (b6 ≡ false) × Early b1 b3 b4 b5
Tested field.Record b1 b2 b3 b4 b5 b6 b7 b8 b9 b10 = b2 ≡ false → (b6 ≡ false) × Early b1 b3 b4 b5

none_early : Early false false false false
none_early = record { outdegree = refl; reference = refl; block_count = refl; blocks = refl }

pub tested : (p : Parameters) (b1 b2 b3 b4 b5 b6 b7 b8 b9 b10 : Bool) → Tested (field_of (chosen p b1 b2 b3 b4 b5 b6 b7 b8 b9 b10)) b1 b2 b3 b4 b5 b6 b7 b8 b9 b10
tested p true b2 b3 b4 b5 b6 b7 b8 b9 b10 = refl
tested p false true b3 b4 b5 b6 b7 b8 b9 b10 = λ e. absurd cc
tested p false false true b4 b5 b6 b7 b8 b9 b10 = (refl, refl)
tested p false false false true b5 b6 b7 b8 b9 b10 = refl
tested p false false false false true b6 b7 b8 b9 b10 = refl
tested p false false false false false true b7 b8 b9 b10 = (refl, none_early)
tested p false false false false false false true b8 b9 b10 = (refl, refl, none_early)
tested p false false false false false false false true b9 b10 = (refl, refl, none_early)
tested p false false false false false false false false true b10 = (refl, refl, none_early)
tested p false false false false false false false false false true = (refl, refl, none_early)
tested p false false false false false false false false false false = λ e. (refl, none_early)

-- the tests that chose a field, by the numbers of what has been read
unfoldable pub tests : Tally → Field → Type 0
tests t f =
    Tested f (is_none t.outdegree) (eqb (value_or_0 t.outdegree) 0) (ltb 0 t.params.window && is_none t.reference) (ltb 0 (value_or_0 t.reference) && is_none t.block_count)
    (ltb t.blocks (value_or_0 t.block_count)) (ltb 0 (value_or_0 t.reference) && not t.checked) (ltb 0 (extra_of t) && ltb 0 t.params.interval && is_none t.interval_count) (ltb t.lengths t.lefts)
    (ltb t.lefts (value_or_0 t.interval_count)) (ltb 0 (missing_of t))

-- ---- the code of a field is one

abbrev pub HasCode : Need → Type 0
HasCode (need.Read f code) = IsCode code
HasCode need.Check = Unit {0}
HasCode need.End = Unit {0}

coded : (p : Parameters) → IsWithinLimits p → (b1 b2 b3 b4 b5 b6 b7 b8 b9 b10 : Bool) → HasCode (chosen p b1 b2 b3 b4 b5 b6 b7 b8 b9 b10)
coded p h true b2 b3 b4 b5 b6 b7 b8 b9 b10 = gamma_or_delta p.outdegrees h.outdegrees
coded p h false true b3 b4 b5 b6 b7 b8 b9 b10 = tt
coded p h false false true b4 b5 b6 b7 b8 b9 b10 = unary_gamma_or_delta p.references h.references
coded p h false false false true b5 b6 b7 b8 b9 b10 = unary_gamma_or_delta p.block_counts h.block_counts
coded p h false false false false true b6 b7 b8 b9 b10 = gamma_or_delta p.blocks h.blocks
coded p h false false false false false true b7 b8 b9 b10 = tt
coded p h false false false false false false true b8 b9 b10 = tt
coded p h false false false false false false false true b9 b10 = tt
coded p h false false false false false false false false true b10 = tt
coded p h false false false false false false false false false true = residual_code p.zeta p.residuals h.some_zeta h.zeta h.residuals
coded p h false false false false false false false false false false = tt

pub next_coded : (p : Parameters) (c : Context) (s : SoFar) → IsWithinLimits p → HasCode (next p c s)
unfolding next
next_coded p c s h = coded p h _ _ _ _ _ _ _ _ _ _
