-- The head of a record, and the members that follow it.
use Rattle.std.specs.Prelude.{◌≡◌, ℕ, Bool, List, Result, Err}
use Rattle.wg_params.specs.Parameters.{Parameters}
use Rattle.wg_grammar.specs.declared.fault.Fault.{Fault}
use Rattle.wg_grammar.specs.declared.need.Need.TheVariants as need
use Rattle.wg_grammar.specs.Context.{Known, Context, referenced, depth_of}
use Rattle.wg_grammar.specs.SoFar.{SoFar, nothing_yet, value_or_0}
use Rattle.wg_grammar.specs.Next.{next}
use Rattle.wg_grammar.specs.Members.{list_of}
use Rattle.wg_grammar.specs.Record.{Whole, ReadsRecord}
use Rattle.wg_decoder.specs.Answer.{context_at}
use Rattle.wg_decoder.specs.Apart.{HeadStands}
use Rattle.wg_decoder.specs.Stages.Head.{of_head}
use Rattle.wg_decoder.specs.Stages.Leading.{LeadsTo}

-- a record of which all is read, with these fields in its head and this list
pub record AllRead (p : Parameters) (c : Context) (bits : List Bool) (start d r : ℕ) (list : List ℕ) (end : ℕ)
    : Type 0 where
  pub so_far : SoFar
  pub done : next p c so_far ≡ need.End
  pub read : LeadsTo p c bits nothing_yet start so_far end
  pub outdegree : value_or_0 so_far.outdegree ≡ d
  pub refers : value_or_0 so_far.reference ≡ r
  pub is : list_of p c so_far ≡ list

-- if this head ends at the bit at, and the reference names this list, the record has this list and ends at the bit
-- end
abbrev pub AreMembers : Parameters → ℕ → ℕ → ℕ → List ℕ → List Bool → ℕ → List ℕ → ℕ → Type 0
AreMembers p page d r named bits at list end =
    (arcs_before start : ℕ) (behind : List Known) → referenced behind r ≡ named
    → LeadsTo p (context_at page arcs_before behind) bits nothing_yet start (of_head p d r) at
    → AllRead p (context_at page arcs_before behind) bits start d r list end

-- if this head ends at the bit at, and the reference names this list, the record is refused as the fault says
abbrev pub AreNoMembers : Parameters → ℕ → ℕ → ℕ → List ℕ → List Bool → ℕ → Fault → Type 0
AreNoMembers p page d r named bits at e =
    (arcs_before start : ℕ) (behind : List Known) → referenced behind r ≡ named
    → LeadsTo p (context_at page arcs_before behind) bits nothing_yet start (of_head p d r) at
    → ReadsRecord p (context_at page arcs_before behind) bits start (Err e)

-- If the head of a record stands from the bit start to the bit at, and its reference names this list and leads to
-- this depth, the record is this one.
abbrev pub IsRest : Parameters → ℕ → ℕ → ℕ → ℕ → List ℕ → ℕ → List Bool → ℕ → Result Whole Fault → Type 0
IsRest p page start d r named depth bits at w =
    (arcs_before : ℕ) (behind : List Known) → referenced behind r ≡ named → depth_of behind r ≡ depth
    → HeadStands p (context_at page arcs_before behind) bits start d r at
    → ReadsRecord p (context_at page arcs_before behind) bits start w
