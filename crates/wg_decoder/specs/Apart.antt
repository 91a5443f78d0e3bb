-- The head of a record, and records on their own, when no page before is known but the one that they refer to.
use Rattle.std.specs.Prelude.{◌≡◌, ◌⊎◌, ℕ, Bool, List, replicate, Some}
use Rattle.wg_params.specs.Parameters.{Parameters}
use Rattle.wg_grammar.specs.declared.fault.Fault.{Fault}
use Rattle.wg_grammar.specs.declared.fault.Field.TheVariants as field
use Rattle.wg_grammar.specs.declared.need.Need.TheVariants as need
use Rattle.wg_grammar.specs.Context.{Known, Context}
use Rattle.wg_grammar.specs.SoFar.{SoFar, nothing_yet, after}
use Rattle.wg_grammar.specs.Next.{next}
use Rattle.wg_grammar.specs.Record.{Stands, Refused}
use Rattle.wg_decoder.specs.Answer.{context_at}

-- with this outdegree alone
abbrev pub of_outdegree : ℕ → SoFar
of_outdegree d = record nothing_yet { outdegree = Some d }

-- a page with so many arcs before it, if each reference names this page
abbrev pub page_on : Parameters → ℕ → ℕ → Known → Context
page_on p page arcs_before k = context_at page arcs_before (replicate p.window k)

-- No arcs come before the page, and each reference names this one.
abbrev pub page_over : Parameters → ℕ → Known → Context
page_over p page k = page_on p page 0 k

-- after the outdegree d comes the reference
abbrev pub RefersNext : Parameters → Context → ℕ → Type 0
RefersNext p c d = next p c (of_outdegree d) ≡ need.Read field.Reference p.references

-- the outdegree d stands from the bit start to the bit end
abbrev pub OutdegreeStands : Parameters → Context → List Bool → ℕ → ℕ → ℕ → Type 0
OutdegreeStands p c bits start d end =
    Stands (need.Read field.Outdegree p.outdegrees) p c bits nothing_yet start d end (of_outdegree d)

-- The reference r stands from the bit at to the bit end, after the outdegree d. If none comes, it is 0.
abbrev pub ReferenceStands : Parameters → Context → List Bool → ℕ → ℕ → ℕ → ℕ → Type 0
ReferenceStands p c bits d at r end =
    (RefersNext p c d × Stands (need.Read field.Reference p.references) p c bits (of_outdegree d) at r end
    (after p c (of_outdegree d) field.Reference r))
    ⊎ ((RefersNext p c d → ⊥) × (r ≡ 0) × (end ≡ at))

-- the head of a record stands from the bit start to the bit end: its outdegree d, and its reference r
abbrev pub HeadStands : Parameters → Context → List Bool → ℕ → ℕ → ℕ → ℕ → Type 0
HeadStands p c bits start d r end = (mid : ℕ) × OutdegreeStands p c bits start d mid
    × ReferenceStands p c bits d mid r end

-- the reference at the bit at is refused as the fault says
abbrev pub ReferenceFails : Parameters → Context → List Bool → ℕ → ℕ → ℕ → Fault → Type 0
ReferenceFails p c bits start d at e = RefersNext p c d
    × Refused (need.Read field.Reference p.references) p c bits start (of_outdegree d) at e

-- the outdegree or the reference is refused as the fault says
abbrev pub HeadFails : Parameters → Context → List Bool → ℕ → Fault → Type 0
HeadFails p c bits start e =
    (Refused (need.Read field.Outdegree p.outdegrees) p c bits start nothing_yet start e
    ⊎ ((d : ℕ) × (mid : ℕ) × OutdegreeStands p c bits start d mid × ReferenceFails p c bits start d mid e))
    × (e.page ≡ c.page)
