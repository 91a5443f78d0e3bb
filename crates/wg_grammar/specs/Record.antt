-- A record in bits, or its first fault.
use Rattle.std.specs.Prelude.{◌≡◌, ℕ, ◌+◌, ◌<◌, Bool, List, [], ◌∷◌, length, drop, Some, None, Result, Ok, Err}
use Rattle.wg_codes.specs.Reading.{Reads}
use Rattle.wg_codes.specs.Words.{word, top}
use Rattle.wg_codes.specs.declared.outcome.Read.{Read}
use Rattle.wg_codes.specs.declared.outcome.Read.TheVariants as reads
use Rattle.wg_params.specs.Parameters.{Parameters}
use Rattle.wg_grammar.specs.declared.fault.Field.TheVariants as field
use Rattle.wg_grammar.specs.declared.fault.Kind.TheVariants as kind
use Rattle.wg_grammar.specs.declared.fault.Fault.{Fault}
use Rattle.wg_grammar.specs.declared.need.Need.{Need}
use Rattle.wg_grammar.specs.declared.need.Need.TheVariants as need
use Rattle.wg_grammar.specs.Context.{Known, Context, depth_of}
use Rattle.wg_grammar.specs.SoFar.{SoFar, nothing_yet, value_or_0, after}
use Rattle.wg_grammar.specs.Next.{next}
use Rattle.wg_grammar.specs.Refusal.{refusal, judged}
use Rattle.wg_grammar.specs.Members.{list_of}

-- If this is needed, the value v stands at the bit at, up to end, and is allowed. The check has the value 0 and no
-- bits.
abbrev pub Stands : Need → Parameters → Context → List Bool → SoFar → ℕ → ℕ → ℕ → SoFar → Type 0
Stands (need.Read f code) p c bits s at v end t =
    Reads (word code) (top code) (drop at bits) (reads.Value v) × (end ≡ at + length (word code v))
    × (refusal p c s f v ≡ None) × (t ≡ after p c s f v)
Stands need.Check p c bits s at v end t = (v ≡ 0) × (end ≡ at) × (refusal p c s field.Copied v ≡ None)
    × (t ≡ after p c s field.Copied v)
Stands need.End p c bits s at v end t = ⊥

-- The stored values vs stand one after the other from the bit at, where s has been read; they end at end, where t has
-- been read.
abbrev pub Fields : Parameters → Context → List Bool → SoFar → ℕ → List ℕ → SoFar → ℕ → Type 0
Fields p c bits s at [] t end = (t ≡ s) × (end ≡ at)
Fields p c bits s at (v ∷ vs) t end = (u : SoFar) × (mid : ℕ) × Stands (next p c s) p c bits s at v mid u
    × Fields p c bits u mid vs t end

-- What is needed at the bit at is refused as the fault says. A record of which all is read is refused if it has too
-- few successors.
abbrev pub Refused : Need → Parameters → Context → List Bool → ℕ → SoFar → ℕ → Fault → Type 0
Refused (need.Read f code) p c bits start s at e =
    (r : Read) × Reads (word code) (top code) (drop at bits) r × (judged p c s f r ≡ Some e.kind) × (e.field ≡ f)
    × (e.at ≡ at)
Refused need.Check p c bits start s at e = (refusal p c s field.Copied 0 ≡ Some e.kind) × (e.field ≡ field.Copied)
    × (e.at ≡ at)
Refused need.End p c bits start s at e =
    (length (list_of p c s) < value_or_0 s.outdegree) × (e.kind ≡ kind.Twice) × (e.field ≡ field.Record)
    × (e.at ≡ start)

-- a record that was read, and the bit after it
pub record Whole : Type 0 where
  pub known : Known
  pub end : ℕ

-- what a record that begins at the bit start is, if s has been read up to the bit at and nothing more is allowed
abbrev pub Stops : Parameters → Context → List Bool → ℕ → SoFar → ℕ → Result Whole Fault → Type 0
Stops p c bits start s at (Ok w) =
    (next p c s ≡ need.End) × (length (list_of p c s) ≡ value_or_0 s.outdegree) × (w.known.list ≡ list_of p c s)
    × (w.known.depth ≡ depth_of c.behind (value_or_0 s.reference)) × (w.end ≡ at)
Stops p c bits start s at (Err e) = Refused (next p c s) p c bits start s at e × (e.page ≡ c.page)

-- From the bit start a proper record of this list and depth stands, or this is its first fault.
abbrev pub ReadsRecord : Parameters → Context → List Bool → ℕ → Result Whole Fault → Type 0
ReadsRecord p c bits start w =
    (vs : List ℕ) × (s : SoFar) × (at : ℕ) × Fields p c bits nothing_yet start vs s at × Stops p c bits start s at w
