-- A record's fields, one after the other, to its end.
use Rattle.std.proofs.Common.{◌≡◌, ℕ, ◌+◌, ◌-◌, Bool, true, false, not, cond, ◌&&◌, eqb, ltb, inl, inr, List, [], ◌∷◌, ◌++◌, length, drop, Option, Some, None, is_none, refl, sym, ap, subst, ◌∙◌}
use Rattle.std.specs.Prelude.{sum}
use Rattle.std.proofs.lemmas.Bool.{cases_Bool}
use Rattle.std.proofs.lemmas.List.{drop-drop, drop_at}
use Rattle.wg_params.specs.declared.code.Code.{Code}
use Rattle.wg_params.specs.declared.code.Code.TheVariants.{Gamma}
use Rattle.wg_params.specs.Parameters.{Parameters}
use Rattle.wg_codes.specs.Words.{word}
use Rattle.wg_grammar.specs.declared.fault.Field.{Field}
use Rattle.wg_grammar.specs.declared.fault.Field.TheVariants as field
use Rattle.wg_grammar.specs.declared.fault.Kind.TheVariants as kind
use Rattle.wg_grammar.specs.declared.need.Need.{Need}
use Rattle.wg_grammar.specs.declared.need.Need.TheVariants as need
use Rattle.wg_grammar.specs.Context.{Context, referenced}
use Rattle.wg_grammar.specs.SoFar.{SoFar, after, value_or_0}
use Rattle.wg_grammar.specs.Next.{next}
use Rattle.wg_grammar.specs.Refusal.{refusal, is_page}
use Rattle.wg_grammar.specs.Record.{Stands, Fields}
use Rattle.wg_graph.specs.Copied.{copied_members}
use Rattle.wg_codes.specs.Standing.{IsWord}
use Rattle.wg_decoder.specs.Stages.Leading.{LeadsTo}

-- a field stands at the bit at, and the record goes on from there
pub record Step (p : Parameters) (c : Context) (bits : List Bool) (s : SoFar) (at : ℕ) (f : Field) (code : Code) (t : SoFar) (end : ℕ) : Type 0 where
  pub v : ℕ
  pub mid : ℕ
  pub stands : IsWord code v (drop at bits) (drop mid bits)
  pub whole : Stands (need.Read f code) p c bits s at v mid (after p c s f v)
  pub fine : refusal p c s f v ≡ None
  pub on : LeadsTo p c bits (after p c s f v) mid t end

behind_at : (bits w y : List Bool) (at mid : ℕ) → mid ≡ at + length w → drop at bits ≡ w ++ y → drop mid bits ≡ y
behind_at bits w y at mid is found =
    ap (λ (k : ℕ). drop k bits) is ∙ sym (drop-drop (length w) at bits) ∙ ap (λ (l : List Bool). drop (length w) l) found ∙ drop_at w y (length w) refl

pub step_of : (p : Parameters) (c : Context) (bits : List Bool) (s : SoFar) (at : ℕ) (f : Field) (code : Code) (t : SoFar) (end : ℕ) → next p c s ≡ need.Read f code → next p c t ≡ need.End → LeadsTo p c bits s at t end → Step p c bits s at f code t end
step_of p c bits s at f code t end due ends ([], h) = absurd (let e : need.Read f code ≡ need.End = sym due ∙ ap (next p c) (sym h.0) ∙ ends in cc)
step_of p c bits s at f code t end due ends (v ∷ vs, h) =
    let x : Stands (need.Read f code) p c bits s at v h.1 h.0 = subst (λ (m : Need). Stands m p c bits s at v h.1 h.0) due h.2 in
    record {
      v = v;
      mid = h.1;
      stands = (x.0.0, x.0.1.1 ∙ ap (λ (l : List Bool). word code v ++ l) (sym (behind_at bits (word code v) x.0.1.0 at h.1 x.1 x.0.1.1)));
      whole = (x.0, x.1, x.2, refl);
      fine = x.2;
      on = (vs, subst (λ (u : SoFar). Fields p c bits u h.1 vs t end) x.3 h.3);
    }

-- the check of what is copied
pub check_of : (p : Parameters) (c : Context) (bits : List Bool) (s : SoFar) (at : ℕ) (t : SoFar) (end : ℕ) → next p c s ≡ need.Check → next p c t ≡ need.End → LeadsTo p c bits s at t end
    → (refusal p c s field.Copied 0 ≡ None) × LeadsTo p c bits (after p c s field.Copied 0) at t end
check_of p c bits s at t end due ends ([], h) = absurd (let e : need.Check ≡ need.End = sym due ∙ ap (next p c) (sym h.0) ∙ ends in cc)
check_of p c bits s at t end due ends (v ∷ vs, h) =
    let x : Stands need.Check p c bits s at v h.1 h.0 = subst (λ (m : Need). Stands m p c bits s at v h.1 h.0) due h.2 in
    (ap (refusal p c s field.Copied) (sym x.0) ∙ x.2, (vs, subst (λ (k : ℕ). Fields p c bits (after p c s field.Copied 0) k vs t end) x.1 (subst (λ (u : SoFar). Fields p c bits u h.1 vs t end) (x.3 ∙ ap (after p c s field.Copied) x.0) h.3)))

-- the end
pub stop_of : (p : Parameters) (c : Context) (bits : List Bool) (s : SoFar) (at : ℕ) (t : SoFar) (end : ℕ) → next p c s ≡ need.End → LeadsTo p c bits s at t end → t ≡ s
stop_of p c bits s at t end due ([], h) = h.0
stop_of p c bits s at t end due (v ∷ vs, h) = absurd (subst (λ (m : Need). Stands m p c bits s at v h.1 h.0) due h.2)

pub end_of : (p : Parameters) (c : Context) (bits : List Bool) (s : SoFar) (at : ℕ) (t : SoFar) (end : ℕ) → next p c s ≡ need.End → LeadsTo p c bits s at t end → end ≡ at
end_of p c bits s at t end due ([], h) = h.1
end_of p c bits s at t end due (v ∷ vs, h) = absurd (subst (λ (m : Need). Stands m p c bits s at v h.1 h.0) due h.2)

-- ---- the states of a record

abbrev pub state : ℕ → Option ℕ → Option ℕ → List ℕ → Bool → Option ℕ → List ℕ → List ℕ → List ℕ → SoFar
state d r n bs k i ls ns xs = record { outdegree = Some d; reference = r; block_count = n; blocks = bs; checked = k; interval_count = i; lefts = ls; lengths = ns; residuals = xs }

-- the copied members
abbrev pub copy : Context → Option ℕ → List ℕ → List ℕ
copy c r bs = copied_members bs (referenced c.behind (value_or_0 r))

-- the outdegree and the reference have been read, and there are successors
pub record HasHead (p : Parameters) (d : ℕ) (r : Option ℕ) : Type 0 where
  pub some : eqb d 0 ≡ false
  pub reference : (ltb 0 p.window && is_none r) ≡ false

-- the blocks too, and they have been checked
pub record Settled (p : Parameters) (d : ℕ) (r n : Option ℕ) (bs : List ℕ) (k : Bool) : Type 0 where
  pub some : eqb d 0 ≡ false
  pub reference : (ltb 0 p.window && is_none r) ≡ false
  pub count : (ltb 0 (value_or_0 r) && is_none n) ≡ false
  pub blocks : ltb (length bs) (value_or_0 n) ≡ false
  pub checked : (ltb 0 (value_or_0 r) && not k) ≡ false

pub next_block_count : (p : Parameters) (c : Context) (d : ℕ) (r : Option ℕ) → HasHead p d r → ltb 0 (value_or_0 r) ≡ true → next p c (state d r None [] false None [] [] []) ≡ need.Read field.BlockCount p.block_counts
unfolding next
next_block_count p c d r h refers = rw (h.some, h.reference, refers) refl

pub next_block : (p : Parameters) (c : Context) (d : ℕ) (r : Option ℕ) (n : ℕ) (bs : List ℕ) → HasHead p d r → ltb 0 (value_or_0 r) ≡ true → ltb (length bs) n ≡ true → next p c (state d r (Some n) bs false None [] [] []) ≡ need.Read field.Block p.blocks
unfolding next
next_block p c d r n bs h refers more = rw (h.some, h.reference, refers, more) refl

pub next_check : (p : Parameters) (c : Context) (d : ℕ) (r : Option ℕ) (n : ℕ) (bs : List ℕ) → HasHead p d r → ltb 0 (value_or_0 r) ≡ true → ltb (length bs) n ≡ false → next p c (state d r (Some n) bs false None [] [] []) ≡ need.Check
unfolding next
next_check p c d r n bs h refers more = rw (h.some, h.reference, refers, more) refl

pub next_interval_count : (p : Parameters) (c : Context) (d : ℕ) (r n : Option ℕ) (bs : List ℕ) (k : Bool) → Settled p d r n bs k → (ltb 0 (d - length (copy c r bs)) && ltb 0 p.interval) ≡ true
    → next p c (state d r n bs k None [] [] []) ≡ need.Read field.IntervalCount Gamma
unfolding next
next_interval_count p c d r n bs k h there = rw (h.some, h.reference, h.count, h.blocks, h.checked, there) refl

abbrev pub NoCount : Parameters → Context → ℕ → Option ℕ → List ℕ → Option ℕ → Type 0
NoCount p c d r bs i = (ltb 0 (d - length (copy c r bs)) && ltb 0 p.interval && is_none i) ≡ false

pub next_length : (p : Parameters) (c : Context) (d : ℕ) (r n : Option ℕ) (bs : List ℕ) (k : Bool) (i : Option ℕ) (ls ns xs : List ℕ) → Settled p d r n bs k → NoCount p c d r bs i → ltb (length ns) (length ls) ≡ true
    → next p c (state d r n bs k i ls ns xs) ≡ need.Read field.Length Gamma
unfolding next
next_length p c d r n bs k i ls ns xs h no_count more = rw (h.some, h.reference, h.count, h.blocks, h.checked, no_count, more) refl

pub next_left : (p : Parameters) (c : Context) (d : ℕ) (r n : Option ℕ) (bs : List ℕ) (k : Bool) (i : Option ℕ) (ls ns xs : List ℕ) → Settled p d r n bs k → NoCount p c d r bs i → ltb (length ns) (length ls) ≡ false → ltb (length ls) (value_or_0 i) ≡ true
    → next p c (state d r n bs k i ls ns xs) ≡ need.Read field.Left Gamma
unfolding next
next_left p c d r n bs k i ls ns xs h no_count no_length more = rw (h.some, h.reference, h.count, h.blocks, h.checked, no_count, no_length, more) refl

-- the intervals have been read
pub record Filled (p : Parameters) (c : Context) (d : ℕ) (r n : Option ℕ) (bs : List ℕ) (k : Bool) (i : Option ℕ) (ls ns : List ℕ) : Type 0 where
  pub settled : Settled p d r n bs k
  pub no_count : NoCount p c d r bs i
  pub no_length : ltb (length ns) (length ls) ≡ false
  pub no_left : ltb (length ls) (value_or_0 i) ≡ false

pub next_residual : (p : Parameters) (c : Context) (d : ℕ) (r n : Option ℕ) (bs : List ℕ) (k : Bool) (i : Option ℕ) (ls ns xs : List ℕ) → Filled p c d r n bs k i ls ns → (more : Bool)
    → ltb 0 (d - length (copy c r bs) - (sum ns + length xs)) ≡ more → next p c (state d r n bs k i ls ns xs) ≡ cond more (need.Read field.Residual p.residuals) need.End
unfolding next
next_residual p c d r n bs k i ls ns xs h more is = let g = h.settled in rw (g.some, g.reference, g.count, g.blocks, g.checked, h.no_count, h.no_length, h.no_left, is) refl

-- a number that is a page
pub page_of : (p : Parameters) (o : Option ℕ) → cond (is_page p o) None (Some kind.Range) ≡ None → (y : ℕ) × (o ≡ Some y) × (ltb y p.nodes ≡ true)
page_of p None fine = absurd cc
page_of p (Some y) fine = elim (cases_Bool (ltb y p.nodes)) [
  | inl so ↦ (y, refl, so)
  | inr e ↦ absurd (let f : cond false None (Some kind.Range) ≡ None = ap (λ (b : Bool). cond b None (Some kind.Range)) (sym e) ∙ fine in cc)
]
