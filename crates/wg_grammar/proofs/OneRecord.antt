-- Bits are at most one record.
use Rattle.std.proofs.Common.{◌≡◌, ℕ, ◌+◌, Bool, List, [], ◌∷◌, length, drop, Some, None, Result, Ok, Err, sym, ap, subst, ◌∙◌, arith}
use Rattle.wg_codes.specs.declared.outcome.Read.TheVariants as reads
use Rattle.wg_grammar.specs.declared.fault.Field.TheVariants as field
use Rattle.wg_grammar.specs.declared.need.Need.{Need}
use Rattle.wg_grammar.specs.declared.need.Need.TheVariants as need
use Rattle.wg_grammar.specs.declared.fault.Fault.{Fault}
use Rattle.wg_params.specs.Parameters.{Parameters, IsWithinLimits}
use Rattle.wg_codes.specs.Words.{word}
use Rattle.wg_grammar.specs.Context.{Context}
use Rattle.wg_grammar.specs.SoFar.{SoFar, after, nothing_yet}
use Rattle.wg_grammar.specs.Record.{Whole, Stands, Fields, Refused, Stops, ReadsRecord}
use Rattle.wg_grammar.specs.Next.{next}
use Rattle.wg_grammar.specs.Refusal.{refusal, judged}
use Rattle.wg_codes.proofs.CodeLaws.{one_result}
use Rattle.wg_grammar.proofs.Chain.{HasCode, next_coded}

value_is : (v w : ℕ) → reads.Value v ≡ reads.Value w → v ≡ w
value_is v w e = cc

fault_is : (e f : Fault) → e.page ≡ f.page → e.at ≡ f.at → e.field ≡ f.field → e.kind ≡ f.kind → e ≡ f
fault_is e f page at of why = λ i. record { page = page i; at = at i; field = of i; kind = why i }

whole_is : (w x : Whole) → w.known.list ≡ x.known.list → w.known.depth ≡ x.known.depth → w.end ≡ x.end → w ≡ x
whole_is w x list depth end = λ i. record { known = record { list = list i; depth = depth i }; end = end i }

-- one field
pub stands_one : (m : Need) → HasCode m → (p : Parameters) (c : Context) (bits : List Bool) (s : SoFar) (at v mid w end : ℕ) (t u : SoFar) →
    Stands m p c bits s at v mid t → Stands m p c bits s at w end u → (v ≡ w) × (mid ≡ end) × (t ≡ u)
stands_one (need.Read f code) is p c bits s at v mid w end t u x y =
    let same : v ≡ w = value_is v w (one_result code is (drop at bits) _ _ x.0 y.0) in
    (same, x.1 ∙ ap (λ (k : ℕ). at + length (word code k)) same ∙ sym y.1, x.3 ∙ ap (after p c s f) same ∙ sym y.3)
stands_one need.Check is p c bits s at v mid w end t u x y =
    let same : v ≡ w = x.0 ∙ sym y.0 in
    (same, x.1 ∙ sym y.1, x.3 ∙ ap (after p c s field.Copied) same ∙ sym y.3)
stands_one need.End is p c bits s at v mid w end t u x y = absurd x

-- what stands is not refused
pub stands_or_refused : (m : Need) → HasCode m → (p : Parameters) (c : Context) (bits : List Bool) (s : SoFar) (start at v mid : ℕ) (t : SoFar) (e : Fault) →
    Stands m p c bits s at v mid t → Refused m p c bits start s at e → ⊥
stands_or_refused (need.Read f code) is p c bits s start at v mid t e x y =
    let same : y.0 ≡ reads.Value v = one_result code is (drop at bits) _ _ y.1 x.0 in
    let j : refusal p c s f v ≡ Some e.kind = ap (judged p c s f) (sym same) ∙ y.2 in
    absurd (let k : None ≡ Some e.kind = sym x.2 ∙ j in cc)
stands_or_refused need.Check is p c bits s start at v mid t e x y =
    let j : refusal p c s field.Copied v ≡ Some e.kind = ap (refusal p c s field.Copied) x.0 ∙ y.0 in
    absurd (let k : None ≡ Some e.kind = sym x.2 ∙ j in cc)
stands_or_refused need.End is p c bits s start at v mid t e x y = x

pub refused_one : (m : Need) → HasCode m → (p : Parameters) (c : Context) (bits : List Bool) (s : SoFar) (start at : ℕ) (e f : Fault) →
    Refused m p c bits start s at e → Refused m p c bits start s at f → e.page ≡ f.page → e ≡ f
refused_one (need.Read g code) is p c bits s start at e f x y page =
    let same : x.0 ≡ y.0 = one_result code is (drop at bits) _ _ x.1 y.1 in
    let k : Some e.kind ≡ Some f.kind = sym x.2 ∙ ap (judged p c s g) same ∙ y.2 in
    fault_is e f page (x.4 ∙ sym y.4) (x.3 ∙ sym y.3) cc
refused_one need.Check is p c bits s start at e f x y page =
    let k : Some e.kind ≡ Some f.kind = sym x.0 ∙ y.0 in
    fault_is e f page (x.2 ∙ sym y.2) (x.1 ∙ sym y.1) cc
refused_one need.End is p c bits s start at e f x y page = fault_is e f page (x.3 ∙ sym y.3) (x.2 ∙ sym y.2) (x.1 ∙ sym y.1)

-- the end
pub stops_one : (p : Parameters) → IsWithinLimits p → (c : Context) (bits : List Bool) (start : ℕ) (s : SoFar) (at : ℕ) (w x : Result Whole Fault) → Stops p c bits start s at w → Stops p c bits start s at x → w ≡ x
stops_one p limits c bits start s at (Ok w) (Ok x) h k = ap Ok (whole_is w x (h.2 ∙ sym k.2) (h.3 ∙ sym k.3) (h.4 ∙ sym k.4))
stops_one p limits c bits start s at (Ok w) (Err e) h k =
    let r : Refused need.End p c bits start s at e = subst (λ (m : Need). Refused m p c bits start s at e) h.0 k.0 in absurd (omega (arith, r.0, h.1))
stops_one p limits c bits start s at (Err e) (Ok x) h k =
    let r : Refused need.End p c bits start s at e = subst (λ (m : Need). Refused m p c bits start s at e) k.0 h.0 in absurd (omega (arith, r.0, k.1))
stops_one p limits c bits start s at (Err e) (Err f) h k = ap Err (refused_one (next p c s) (next_coded p c s limits) p c bits s start at e f h.0 k.0 (h.1 ∙ sym k.1))

-- a field does not stand where the record stops
pub goes_or_stops : (p : Parameters) → IsWithinLimits p → (c : Context) (bits : List Bool) (start : ℕ) (s : SoFar) (at v mid : ℕ) (t : SoFar) (w : Result Whole Fault) → Stands (next p c s) p c bits s at v mid t → Stops p c bits start s at w → ⊥
goes_or_stops p limits c bits start s at v mid t (Ok w) h k = subst (λ (m : Need). Stands m p c bits s at v mid t) k.0 h
goes_or_stops p limits c bits start s at v mid t (Err e) h k = stands_or_refused (next p c s) (next_coded p c s limits) p c bits s start at v mid t e h k.0

abbrev pub Ends : Parameters → Context → List Bool → ℕ → SoFar → ℕ → List ℕ → Result Whole Fault → Type 0
Ends p c bits start s at vs w = (t : SoFar) × (end : ℕ) × Fields p c bits s at vs t end × Stops p c bits start t end w

here : (p : Parameters) (c : Context) (bits : List Bool) (start : ℕ) (s : SoFar) (at : ℕ) (w : Result Whole Fault) → Ends p c bits start s at [] w → Stops p c bits start s at w
here p c bits start s at w x =
    let moved : Stops p c bits start s x.1 w = subst (λ (t : SoFar). Stops p c bits start t x.1 w) x.2.0 x.3 in
    subst (λ (k : ℕ). Stops p c bits start s k w) x.2.1 moved

pub ends_one : (p : Parameters) → IsWithinLimits p → (c : Context) (bits : List Bool) (start : ℕ) (s : SoFar) (at : ℕ) (vs ws : List ℕ) (w x : Result Whole Fault) → Ends p c bits start s at vs w → Ends p c bits start s at ws x → w ≡ x
ends_one p limits c bits start s at [] [] w x h k = stops_one p limits c bits start s at w x (here p c bits start s at w h) (here p c bits start s at x k)
ends_one p limits c bits start s at [] (v ∷ ws) w x h k = absurd (goes_or_stops p limits c bits start s at v k.2.1 k.2.0 w k.2.2 (here p c bits start s at w h))
ends_one p limits c bits start s at (v ∷ vs) [] w x h k = absurd (goes_or_stops p limits c bits start s at v h.2.1 h.2.0 x h.2.2 (here p c bits start s at x k))
ends_one p limits c bits start s at (v ∷ vs) (u ∷ ws) w x h k =
    let one = stands_one (next p c s) (next_coded p c s limits) p c bits s at v h.2.1 u k.2.1 h.2.0 k.2.0 h.2.2 k.2.2 in
    let rest : Ends p c bits start h.2.0 h.2.1 ws x =
    subst (λ (t : SoFar). Ends p c bits start t h.2.1 ws x) (sym one.2) (subst (λ (m : ℕ). Ends p c bits start k.2.0 m ws x) (sym one.1) (k.0, k.1, k.2.3, k.3)) in
    ends_one p limits c bits start h.2.0 h.2.1 vs ws w x (h.0, h.1, h.2.3, h.3) rest

pub record_one : (p : Parameters) → IsWithinLimits p → (c : Context) (bits : List Bool) (start : ℕ) (w x : Result Whole Fault) → ReadsRecord p c bits start w → ReadsRecord p c bits start x → w ≡ x
record_one p limits c bits start w x h k = ends_one p limits c bits start nothing_yet start h.0 k.0 w x (h.1, h.2, h.3, h.4) (k.1, k.2, k.3, k.4)
