-- What is so of a record at each field.
use Rattle.std.proofs.Common.{◌≡◌, ◌⊎◌, ℕ, Bool, true, false, cond, inl, inr, List, [], ◌∷◌, Option, Some, None, refl, sym, ap, subst}
use Rattle.wg_params.specs.Parameters.{Parameters}
use Rattle.wg_grammar.specs.declared.fault.Field.{Field}
use Rattle.wg_grammar.specs.declared.fault.Field.TheVariants as field
use Rattle.wg_grammar.specs.declared.fault.Kind.{Kind}
use Rattle.wg_grammar.specs.declared.need.Need.{Need}
use Rattle.wg_grammar.specs.declared.need.Need.TheVariants as need
use Rattle.wg_grammar.specs.Context.{Context}
use Rattle.wg_grammar.specs.SoFar.{SoFar, after}
use Rattle.wg_grammar.specs.Next.{next}
use Rattle.wg_grammar.specs.Refusal.{refusal}
use Rattle.wg_grammar.specs.Record.{Stands, Fields}
use Rattle.wg_grammar.proofs.Chain.{field_of}

-- of two reasons to refuse neither came
pub not_first : (b : Bool) (k : Kind) (o : Option Kind) → cond b (Some k) o ≡ None → (b ≡ false) × (o ≡ None)
not_first true k o e = absurd cc
not_first false k o e = (refl, e)

-- the reference changes when it is read, and then alone
pub read_or_kept : (p : Parameters) (c : Context) (s : SoFar) (f : Field) (v : ℕ) → ((after p c s f v).reference ≡ s.reference) ⊎ (f ≡ field.Reference)
unfolding after
read_or_kept p c s field.Outdegree v = inl refl
read_or_kept p c s field.Reference v = inr refl
read_or_kept p c s field.BlockCount v = inl refl
read_or_kept p c s field.Block v = inl refl
read_or_kept p c s field.Copied v = inl refl
read_or_kept p c s field.IntervalCount v = inl refl
read_or_kept p c s field.Left v = inl refl
read_or_kept p c s field.Length v = inl refl
read_or_kept p c s field.Residual v = inl refl
read_or_kept p c s field.Record v = inl refl

pub read_reference : (p : Parameters) (c : Context) (s : SoFar) (f : Field) (v : ℕ) → f ≡ field.Reference → (after p c s f v).reference ≡ Some v
unfolding after
read_reference p c s f v e = rw e refl

-- what each field keeps, all of them keep
module _ (p : Parameters) (c : Context) (bits : List Bool) (P : SoFar → Type 0) (step : (s : SoFar) (f : Field) (v : ℕ) → field_of (next p c s) ≡ f → refusal p c s f v ≡ None → P s → P (after p c s f v)) where
  pub kept_once : (m : Need) (s : SoFar) (at v mid : ℕ) (t : SoFar) → next p c s ≡ m → Stands m p c bits s at v mid t → P s → P t
  kept_once (need.Read f code) s at v mid t is x h = subst P (sym x.3) (step s f v (ap field_of is) x.2 h)
  kept_once need.Check s at v mid t is x h = subst P (sym x.3) (step s field.Copied v (ap field_of is) x.2 h)
  kept_once need.End s at v mid t is x h = absurd x

  pub kept_along : (s : SoFar) (at : ℕ) (vs : List ℕ) (t : SoFar) (end : ℕ) → Fields p c bits s at vs t end → P s → P t
  kept_along s at [] t end x h = subst P (sym x.0) h
  kept_along s at (v ∷ vs) t end x h = kept_along x.0 x.1 vs t end x.3 (kept_once (next p c s) s at v x.1 x.0 refl x.2 h)
