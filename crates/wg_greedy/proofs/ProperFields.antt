-- Fields that are needed and allowed, one after the other, stand where their words stand.
use Rattle.std.proofs.Common.{◌≡◌, ℕ, ◌+◌, ◌≤◌, leb, Bool, true, List, [], ◌∷◌, ◌++◌, length, length-append, drop, map, refl, sym, ap, subst, ◌∙◌, arith, append_assoc}
use Rattle.std.specs.Prelude.{None}
use Rattle.std.proofs.lemmas.Bool.{and_parts, leb-true}
use Rattle.wg_params.specs.Parameters.{Parameters}
use Rattle.wg_params.specs.declared.code.Code.{Code}
use Rattle.wg_codes.specs.Words.{word, top}
use Rattle.wg_codes.specs.declared.outcome.Read.TheVariants as reads
use Rattle.wg_codes.proofs.CodeLaws.{word_reads}
use Rattle.wg_grammar.specs.declared.fault.Field.{Field}
use Rattle.wg_grammar.specs.declared.fault.Field.TheVariants as field
use Rattle.wg_grammar.specs.declared.need.Need.TheVariants as need
use Rattle.wg_grammar.specs.Context.{Context}
use Rattle.wg_grammar.specs.SoFar.{SoFar, after}
use Rattle.wg_grammar.specs.Next.{next}
use Rattle.wg_grammar.specs.Refusal.{refusal}
use Rattle.wg_grammar.specs.Record.{Fields}
use Rattle.wg_greedy.specs.Fields.{Written, bits_of_fields, all_have_words}

-- ---- values that stand

pub fields_append : (p : Parameters) (c : Context) (bits : List Bool) (s u t : SoFar) (at mid end : ℕ) (vs ws : List ℕ) → Fields p c bits s at vs u mid
    → Fields p c bits u mid ws t end → Fields p c bits s at (vs ++ ws) t end
fields_append p c bits s u t at mid end [] ws first second = subst (λ k. Fields p c bits s k ws t end) first.1 (subst (λ (z : SoFar). Fields p c bits z mid ws t end) first.0 second)
fields_append p c bits s u t at mid end (v ∷ vs) ws first second = (first.0, first.1, first.2, fields_append p c bits first.0 u t first.1 mid end vs ws first.3 second)

drop_here : (before z : List Bool) → drop (length before) (before ++ z) ≡ z
drop_here [] z = refl
drop_here (b ∷ before) z = drop_here before z

pub one_field : (p : Parameters) (c : Context) (s : SoFar) (f : Field) (code : Code) (v : ℕ) (before rest : List Bool) → next p c s ≡ need.Read f code → v ≤ top code
    → refusal p c s f v ≡ None → Fields p c (before ++ (word code v ++ rest)) s (length before) (v ∷ []) (after p c s f v) (length before + length (word code v))
one_field p c s f code v before rest is has fine = grind (arith, word_reads, drop_here)

-- the check of what is copied has no bits
pub one_check : (p : Parameters) (c : Context) (bits : List Bool) (s : SoFar) (at : ℕ) → next p c s ≡ need.Check → refusal p c s field.Copied 0 ≡ None
    → Fields p c bits s at (0 ∷ []) (after p c s field.Copied 0) at
one_check p c bits s at is fine = grind arith

-- ---- fields that are needed and allowed

-- each is the next that is needed and is allowed, one after the other, from s to t
abbrev pub Admits : Parameters → Context → SoFar → List Written → SoFar → Type 0
Admits p c s [] t = t ≡ s
Admits p c s (f ∷ fs) t = (next p c s ≡ need.Read f.field f.code) × (refusal p c s f.field f.value ≡ None) × Admits p c (after p c s f.field f.value) fs t

pub admits_append : (p : Parameters) (c : Context) (s u t : SoFar) (fs gs : List Written) → Admits p c s fs u → Admits p c u gs t → Admits p c s (fs ++ gs) t
admits_append p c s u t [] gs first second = subst (λ (z : SoFar). Admits p c z gs t) first second
admits_append p c s u t (f ∷ fs) gs first second = (first.0, first.1, admits_append p c (after p c s f.field f.value) u t fs gs first.2 second)

-- the values that are stored
abbrev pub values_of : List Written → List ℕ
values_of fs = map (λ f. f.value) fs

-- ---- bits

pub bits_append : (fs gs : List Written) → bits_of_fields (fs ++ gs) ≡ bits_of_fields fs ++ bits_of_fields gs
bits_append [] gs = refl
bits_append (f ∷ fs) gs = ap (λ z. word f.code f.value ++ z) (bits_append fs gs) ∙ sym (append_assoc (word f.code f.value) (bits_of_fields fs) (bits_of_fields gs))

-- what stands before and behind
pub bits_moved : (before first second rest : List Bool) → before ++ ((first ++ second) ++ rest) ≡ (before ++ first) ++ (second ++ rest)
bits_moved before first second rest = ap (λ z. before ++ z) (append_assoc first second rest) ∙ sym (append_assoc before first (second ++ rest))

pub end_moved : (before first second : List Bool) → length (before ++ first) + length second ≡ length before + length (first ++ second)
end_moved before first second = omega (arith, length-append before first, length-append first second)

pub admitted_stand : (p : Parameters) (c : Context) (s t : SoFar) (fs : List Written) (before rest : List Bool) → all_have_words fs ≡ true → Admits p c s fs t
    → Fields p c (before ++ (bits_of_fields fs ++ rest)) s (length before) (values_of fs) t (length before + length (bits_of_fields fs))
admitted_stand p c s t [] before rest have admits = (admits, omega arith)
admitted_stand p c s t (f ∷ fs) before rest have admits =
    let w : List Bool = word f.code f.value in
    let more : List Bool = bits_of_fields fs in
    let u : SoFar = after p c s f.field f.value in
    let parts = and_parts (leb f.value (top f.code)) (all_have_words fs) have in
    let bits : before ++ ((w ++ more) ++ rest) ≡ before ++ (w ++ (more ++ rest)) = ap (λ z. before ++ z) (append_assoc w more rest) in
    let first : Fields p c (before ++ (w ++ (more ++ rest))) s (length before) (f.value ∷ []) u (length before + length w) =
    one_field p c s f.field f.code f.value before (more ++ rest) admits.0 (leb-true f.value (top f.code) parts.0) admits.1 in
    let later : Fields p c ((before ++ w) ++ (more ++ rest)) u (length (before ++ w)) (values_of fs) t (length (before ++ w) + length more) =
    admitted_stand p c u t fs (before ++ w) rest parts.1 admits.2 in
    let same : Fields p c (before ++ (w ++ (more ++ rest))) u (length before + length w) (values_of fs) t (length (before ++ w) + length more) =
    subst (λ k. Fields p c (before ++ (w ++ (more ++ rest))) u k (values_of fs) t (length (before ++ w) + length more)) (length-append before w)
    (subst (λ z. Fields p c z u (length (before ++ w)) (values_of fs) t (length (before ++ w) + length more)) (append_assoc before w (more ++ rest)) later) in
    let both : Fields p c (before ++ (w ++ (more ++ rest))) s (length before) (f.value ∷ values_of fs) t (length (before ++ w) + length more) =
    fields_append p c (before ++ (w ++ (more ++ rest))) s u t (length before) (length before + length w) (length (before ++ w) + length more) (f.value ∷ []) (values_of fs) first same in
    subst (λ k. Fields p c (before ++ ((w ++ more) ++ rest)) s (length before) (f.value ∷ values_of fs) t k) (end_moved before w more)
    (subst (λ z. Fields p c z s (length before) (f.value ∷ values_of fs) t (length (before ++ w) + length more)) (sym bits) both)
