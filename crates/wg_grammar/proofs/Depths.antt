-- If chains of references have a limit, no record is deeper.
use Rattle.std.proofs.Common.{◌≡◌, ℕ, ◌≤◌, Bool, false, inl, inr, List, [], ◌∷◌, Option, Some, None, Ok, sym, subst, arith}
use Rattle.std.proofs.lemmas.Bool.{ltb-false}
use Rattle.std.proofs.lemmas.List.Elements.{All-nil, All-cons}
use Rattle.std.specs.Prelude.{All}
use Rattle.wg_params.specs.Parameters.{Parameters}
use Rattle.wg_grammar.specs.declared.fault.Field.{Field}
use Rattle.wg_grammar.specs.declared.fault.Field.TheVariants as field
use Rattle.wg_grammar.specs.Context.{Context, depth_of}
use Rattle.wg_grammar.specs.SoFar.{SoFar, after, nothing_yet, value_or_0}
use Rattle.wg_grammar.specs.Refusal.{passes, refusal}
use Rattle.wg_grammar.specs.Record.{Whole, Fields, ReadsRecord}
use Rattle.wg_grammar.specs.Archive.{context_of, Pages}
use Rattle.wg_grammar.proofs.Along.{not_first, read_or_kept, read_reference, kept_along}

shallow : (p : Parameters) (c : Context) (s : SoFar) (v : ℕ) → refusal p c s field.Reference v ≡ None → passes p.chain (depth_of c.behind v) ≡ false
unfolding refusal
shallow p c s v fine = (not_first _ _ None (not_first _ _ _ fine).1).0

module _ (p : Parameters) (limit : ℕ) (has : p.chain ≡ Some limit) (c : Context) where
  -- what has been read leads on over so few references
  abbrev Fits : SoFar → Type 0
  Fits s = depth_of c.behind (value_or_0 s.reference) ≤ limit

  after_fits : (s : SoFar) (f : Field) (v : ℕ) → refusal p c s f v ≡ None → Fits s → Fits (after p c s f v)
  after_fits s f v fine h =
      elim (read_or_kept p c s f v) [
        | inl kept ↦ subst (λ (o : Option ℕ). depth_of c.behind (value_or_0 o) ≤ limit) (sym kept) h
        | inr e ↦
            let low : passes p.chain (depth_of c.behind v) ≡ false = shallow p c s v (subst (λ (g : Field). refusal p c s g v ≡ None) e fine) in
            subst (λ (o : Option ℕ). depth_of c.behind (value_or_0 o) ≤ limit) (sym (read_reference p c s f v e)) (ltb-false limit (depth_of c.behind v) (subst (λ (o : Option ℕ). passes o (depth_of c.behind v) ≡ false) has low))
      ]

  fields_fit : (bits : List Bool) (s : SoFar) (at : ℕ) (vs : List ℕ) (t : SoFar) (end : ℕ) → Fits s → Fields p c bits s at vs t end → Fits t
  fields_fit bits s at vs t end fits h = kept_along p c bits Fits (λ u f v is fine x. after_fits u f v fine x) s at vs t end h fits

pub record_limited : (p : Parameters) (c : Context) (bits : List Bool) (start limit : ℕ) (w : Whole) → p.chain ≡ Some limit → ReadsRecord p c bits start (Ok w) → w.known.depth ≤ limit
record_limited p c bits start limit w has h =
    let fits : depth_of c.behind (value_or_0 h.1.reference) ≤ limit = fields_fit p limit has c bits nothing_yet start h.0 h.1 h.2 (omega arith) h.3 in
    omega (arith, fits, h.4.3)

abbrev IsLimited : ℕ → Whole → Type 0
IsLimited limit w = w.known.depth ≤ limit

pub pages_limited : (p : Parameters) (bits : List Bool) (first : List Whole) (at : ℕ) (ws last : List Whole) (end limit : ℕ) → p.chain ≡ Some limit → Pages p bits first at ws last end → All (IsLimited limit) ws
pages_limited p bits first at [] last end limit has h = All-nil (IsLimited limit)
pages_limited p bits first at (w ∷ ws) last end limit has h =
    All-cons (IsLimited limit) w ws (record_limited p (context_of p first) bits at limit w has h.1) (pages_limited p bits (w ∷ first) w.end ws last end limit has h.2)
