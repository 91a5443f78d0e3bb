-- The stages in which a record is read: its fields from one point to another.
use Rattle.std.specs.Prelude.{◌≡◌, ◌⊎◌, ℕ, ◌+◌, ◌≤◌, Bool, List, length, drop, Option, Some}
use Rattle.wg_codes.specs.Reading.{Reads}
use Rattle.wg_codes.specs.Words.{word, top}
use Rattle.wg_codes.specs.declared.outcome.Read.{Read}
use Rattle.wg_params.specs.declared.code.Code.{Code}
use Rattle.wg_params.specs.Parameters.{Parameters}
use Rattle.wg_grammar.specs.declared.fault.Fault.{Fault}
use Rattle.wg_grammar.specs.declared.fault.Field.{Field}
use Rattle.wg_grammar.specs.declared.fault.Kind.TheVariants as kinds
use Rattle.wg_grammar.specs.Context.{Context}
use Rattle.wg_grammar.specs.SoFar.{SoFar}
use Rattle.wg_grammar.specs.Next.{next}
use Rattle.wg_grammar.specs.Refusal.{judged}
use Rattle.wg_grammar.specs.Record.{Fields, Refused}

-- some values lead from s at the bit at to t at the bit end
abbrev pub LeadsTo : Parameters → Context → List Bool → SoFar → ℕ → SoFar → ℕ → Type 0
LeadsTo p c bits s at t end = (vs : List ℕ) × Fields p c bits s at vs t end

-- some values lead from s at the bit at to where the next field is refused as the fault says
abbrev pub FailsFrom : Parameters → Context → List Bool → SoFar → ℕ → Fault → Type 0
FailsFrom p c bits s at e =
    (t : SoFar) × (mid : ℕ) × LeadsTo p c bits s at t mid
    × ((start : ℕ) → Refused (next p c t) p c bits start t mid e) × (e.page ≡ c.page)

-- the word of v stands at the bit at, up to end
pub record IsWordAt (code : Code) (bits : List Bool) (at v end : ℕ) : Type 0 where
  pub found : Reads (word code) (top code) (drop at bits) (Read.Value v)
  pub stops : end ≡ at + length (word code v)

-- no word of the field stands at the bit at, as the fault says
pub record IsNoWordAt (f : Field) (code : Code) (bits : List Bool) (at page : ℕ) (e : Fault) : Type 0 where
  pub read : Read
  pub found : Reads (word code) (top code) (drop at bits) read
  pub why : (p : Parameters) (c : Context) (s : SoFar) → judged p c s f read ≡ Some e.kind
  pub field : e.field ≡ f
  pub offset : e.at ≡ at
  pub of_page : e.page ≡ page

-- a word stands at the bit at, up to end, which means the number y
pub record IsNumberAt (code : Code) (own : ℕ → Option ℕ) (bits : List Bool) (at y end : ℕ) : Type 0 where
  pub value : ℕ
  pub word : IsWordAt code bits at value end
  pub means : own value ≡ Some y

-- a word of the field stands at the bit at, which means no page; the fault says so
pub record IsNoPageAt (f : Field) (code : Code) (own : ℕ → Option ℕ) (nodes : ℕ) (bits : List Bool) (at page : ℕ)
    (e : Fault) : Type 0 where
  pub value : ℕ
  pub end : ℕ
  pub word : IsWordAt code bits at value end
  pub past : (y : ℕ) → own value ≡ Some y → nodes ≤ y
  pub kind : e.kind ≡ kinds.Range
  pub field : e.field ≡ f
  pub offset : e.at ≡ at
  pub of_page : e.page ≡ page

-- no word of the field stands there, or one that means no page
abbrev pub IsNoNumberAt : Field → Code → (ℕ → Option ℕ) → ℕ → List Bool → ℕ → ℕ → Fault → Type 0
IsNoNumberAt f code own nodes bits at page e =
    IsNoWordAt f code bits at page e ⊎ IsNoPageAt f code own nodes bits at page e
