-- Bits stand for at most one graph, and for a graph or a first fault.
use Rattle.std.proofs.Common.{◌≡◌, ℕ, zero, suc, ◌+◌, ◌-◌, ◌<◌, ◌≤◌, ◌⊎◌, Bool, true, false, List, [], ◌∷◌, length, drop, get_or, None, Result, Ok, Err, refl, sym, ap, subst, ◌∙◌, arith, inl, inr, length-drop}
use Rattle.std.proofs.lemmas.Bool.{cases_eq, cases_Bool, cases_lt, ltb-false}
use Rattle.std.proofs.lemmas.List.Sums.{sum_by-cons}
use Rattle.wg_grammar.specs.declared.fault.Field.{Field}
use Rattle.wg_grammar.specs.declared.fault.Field.TheVariants as field
use Rattle.wg_grammar.specs.declared.need.Need.{Need}
use Rattle.wg_grammar.specs.declared.need.Need.TheVariants as need
use Rattle.wg_grammar.specs.declared.fault.Fault.{Fault}
use Rattle.wg_grammar.specs.declared.fault.ArchiveFault.{ArchiveFault}
use Rattle.wg_grammar.specs.declared.fault.ArchiveFault.TheVariants as faults
use Rattle.wg_params.specs.Parameters.{Parameters, IsWithinLimits}
use Rattle.wg_grammar.specs.Context.{Context}
use Rattle.wg_grammar.specs.SoFar.{SoFar, after, nothing_yet, value_or_0}
use Rattle.wg_grammar.specs.Record.{Whole, Stands, Fields, ReadsRecord}
use Rattle.wg_grammar.specs.Next.{next}
use Rattle.wg_grammar.specs.Refusal.{refusal}
use Rattle.wg_grammar.specs.Archive.{arcs_read, context_of, Pages, IsTail, IsTailFault, Accepted, lists_of, places_of, EndsAs, ReadsGraph}
use Rattle.wg_grammar.specs.declared.tail.TheConstants.{MOST_TAIL}
use Rattle.wg_codes.proofs.CodeLaws.{value_front}
use Rattle.wg_graph.specs.Ascending.{Ascends, Below}
use Rattle.wg_graph.proofs.Sets.{ascends-where, below-where}
use Rattle.wg_grammar.specs.Members.{list_of, is_member}
use Rattle.wg_grammar.proofs.Along.{not_first, kept_along}
use Rattle.wg_grammar.proofs.OneRecord.{record_one}
use Rattle.wg_grammar.proofs.SomeRecord.{record_some}

-- ---- what every record keeps

stands_within : (m : Need) (p : Parameters) (a : Context) (bits : List Bool) (s : SoFar) (at v mid : ℕ) (t : SoFar) → at ≤ length bits → Stands m p a bits s at v mid t → mid ≤ length bits
stands_within (need.Read f c) p a bits s at v mid t fits h = omega (arith, (value_front c (drop at bits) v h.0).0, length-drop at bits, h.1)
stands_within need.Check p a bits s at v mid t fits h = omega (arith, h.1)
stands_within need.End p a bits s at v mid t fits h = absurd h

pub fields_within : (p : Parameters) (a : Context) (bits : List Bool) (s : SoFar) (at : ℕ) (vs : List ℕ) (t : SoFar) (end : ℕ) → at ≤ length bits → Fields p a bits s at vs t end → end ≤ length bits
fields_within p a bits s at [] t end fits h = omega (arith, h.1)
fields_within p a bits s at (v ∷ vs) t end fits h = fields_within p a bits h.0 h.1 vs t end (stands_within (next p a s) p a bits s at v h.1 h.0 fits h.2) h.3

stands_onward : (m : Need) (p : Parameters) (a : Context) (bits : List Bool) (s : SoFar) (at v mid : ℕ) (t : SoFar) → Stands m p a bits s at v mid t → at ≤ mid
stands_onward (need.Read f c) p a bits s at v mid t h = omega (arith, h.1)
stands_onward need.Check p a bits s at v mid t h = omega (arith, h.1)
stands_onward need.End p a bits s at v mid t h = absurd h

fields_onward : (p : Parameters) (a : Context) (bits : List Bool) (s : SoFar) (at : ℕ) (vs : List ℕ) (t : SoFar) (end : ℕ) → Fields p a bits s at vs t end → at ≤ end
fields_onward p a bits s at [] t end h = omega (arith, h.1)
fields_onward p a bits s at (v ∷ vs) t end h = omega (arith, stands_onward (next p a s) p a bits s at v h.1 h.0 h.2, fields_onward p a bits h.0 h.1 vs t end h.3)

abbrev ArcsFit : Parameters → Context → SoFar → Type 0
ArcsFit p a s = a.arcs_before + value_or_0 s.outdegree ≤ p.arcs

after_arcs : (p : Parameters) (a : Context) (s : SoFar) (f : Field) (v : ℕ) → ArcsFit p a s → refusal p a s f v ≡ None → ArcsFit p a (after p a s f v)
unfolding after refusal
after_arcs p a s field.Outdegree v h e = ltb-false _ _ (not_first _ _ None (not_first _ _ _ e).1).0
after_arcs p a s field.Reference v h e = h
after_arcs p a s field.BlockCount v h e = h
after_arcs p a s field.Block v h e = h
after_arcs p a s field.Copied v h e = h
after_arcs p a s field.IntervalCount v h e = h
after_arcs p a s field.Left v h e = h
after_arcs p a s field.Length v h e = h
after_arcs p a s field.Residual v h e = h
after_arcs p a s field.Record v h e = h

pub fields_arcs : (p : Parameters) (a : Context) (bits : List Bool) (s : SoFar) (at : ℕ) (vs : List ℕ) (t : SoFar) (end : ℕ) → ArcsFit p a s → Fields p a bits s at vs t end → ArcsFit p a t
fields_arcs p a bits s at vs t end fits h = kept_along p a bits (ArcsFit p a) (λ u f v is fine x. after_arcs p a u f v x fine) s at vs t end h fits

pub record_within : (p : Parameters) (a : Context) (bits : List Bool) (start : ℕ) (w : Whole) → start ≤ length bits → ReadsRecord p a bits start (Ok w) → w.end ≤ length bits
record_within p a bits start w fits h = omega (arith, fields_within p a bits nothing_yet start h.0 h.1 h.2 fits h.3, h.4.4)

-- a record ends where it begins or later
pub record_onward : (p : Parameters) (a : Context) (bits : List Bool) (start : ℕ) (w : Whole) → ReadsRecord p a bits start (Ok w) → start ≤ w.end
record_onward p a bits start w h = omega (arith, fields_onward p a bits nothing_yet start h.0 h.1 h.2 h.3, h.4.4)

pub record_arcs : (p : Parameters) (a : Context) (bits : List Bool) (start : ℕ) (w : Whole) → a.arcs_before ≤ p.arcs → ReadsRecord p a bits start (Ok w) → a.arcs_before + length w.known.list ≤ p.arcs
record_arcs p a bits start w fits h =
    let f : ArcsFit p a h.1 = fields_arcs p a bits nothing_yet start h.0 h.1 h.2 (omega arith) h.3 in
    let same : length w.known.list ≡ value_or_0 h.1.outdegree = ap length h.4.2 ∙ h.4.1 in
    omega (arith, f, same)

-- ---- the tail

pub tail_or_fault : (bits : List Bool) (end at : ℕ) → IsTail bits end → IsTailFault bits end at → ⊥
tail_or_fault bits end at t f =
    elim f.why [
      | inl one ↦ let z = t.zeros at f.from f.there in absurd (let e : true ≡ false = sym one ∙ z in cc)
      | inr far ↦ absurd (omega (arith, t.short, f.there, far))
    ]

fault_first : (bits : List Bool) (end at offset : ℕ) → IsTailFault bits end at → IsTailFault bits end offset → at < offset → ⊥
fault_first bits end at offset f g lt =
    elim f.why [
      | inl one ↦ let z = g.zeros at f.from lt in absurd (let e : true ≡ false = sym one ∙ z in cc)
      | inr far ↦ absurd (omega (arith, g.near, far))
    ]

pub fault_one : (bits : List Bool) (end at offset : ℕ) → IsTailFault bits end at → IsTailFault bits end offset → at ≡ offset
fault_one bits end at offset f g =
    elim (cases_lt at offset) [
      | inl lt ↦ absurd (fault_first bits end at offset f g lt)
      | inr le ↦ elim (cases_lt offset at) [ inl lt ↦ absurd (fault_first bits end offset at g f lt) | inr ge ↦ omega arith ]
    ]

abbrev Tailed : List Bool → ℕ → Type 0
Tailed bits end = IsTail bits end ⊎ ((at : ℕ) × IsTailFault bits end at)

abbrev ZerosTo : List Bool → ℕ → ℕ → Type 0
ZerosTo bits end i = (k : ℕ) → end ≤ k → k < i → get_or bits k false ≡ false

one_more : (bits : List Bool) (end i : ℕ) → ZerosTo bits end i → get_or bits i false ≡ false → ZerosTo bits end (i + 1)
one_more bits end i z here k low high = elim (cases_eq k i) [ inl same ↦ rw same here | inr other ↦ z k low (omega arith) ]

tail_from : (bits : List Bool) (end n i : ℕ) → end ≤ i → i ≤ end + MOST_TAIL → i + n ≡ length bits → ZerosTo bits end i → Tailed bits end
tail_from bits end zero i low near all z = inl (record { short = omega arith; zeros = λ k from lt. z k from (omega arith) })
tail_from bits end (suc n) i low near all z =
    elim (cases_Bool (get_or bits i false)) [
      | inl one ↦ inr (i, record { from = low; there = omega arith; near = near; zeros = z; why = inl one })
      | inr none ↦ elim (cases_eq i (end + MOST_TAIL)) [
        | inl far ↦ inr (i, record { from = low; there = omega arith; near = near; zeros = z; why = inr far })
        | inr other ↦ tail_from bits end n (i + 1) (omega arith) (omega arith) (omega arith) (one_more bits end i z none)
      ]
    ]

pub tail_some : (bits : List Bool) (end : ℕ) → end ≤ length bits → Tailed bits end
tail_some bits end fits = tail_from bits end (length bits - end) end (omega arith) (omega arith) (omega arith) (λ k low high. absurd (omega arith))

-- ---- one

accepted_is : (g h : Accepted) → g.graph ≡ h.graph → g.places ≡ h.places → g ≡ h
accepted_is g h a b = λ i. record { graph = a i; places = b i }

abbrev failed : Fault → Result Whole Fault
failed e = Err e

abbrev stood : Whole → Result Whole Fault
stood w = Ok w

err_is : (e f : Fault) → failed e ≡ failed f → e ≡ f
err_is e f h = cc

closes_one : (p : Parameters) → IsWithinLimits p → (bits : List Bool) (behind : List Whole) (at : ℕ) (w x : Result Accepted ArchiveFault) → EndsAs p bits behind at w → EndsAs p bits behind at x → w ≡ x
closes_one p limits bits behind at (Ok g) (Ok h) a b = ap Ok (accepted_is g h (a.3 ∙ sym b.3) (a.4 ∙ sym b.4))
closes_one p limits bits behind at (Ok g) (Err (faults.Record e)) a b = absurd (omega (arith, a.0, b.0))
closes_one p limits bits behind at (Ok g) (Err (faults.Tail offset)) a b = absurd (tail_or_fault bits at offset a.1 b.1)
closes_one p limits bits behind at (Ok g) (Err (faults.ArcsShort total)) a b = absurd (omega (arith, a.2, b.2, b.3))
closes_one p limits bits behind at (Err (faults.Record e)) (Ok g) b a = absurd (omega (arith, a.0, b.0))
closes_one p limits bits behind at (Err (faults.Record e)) (Err (faults.Record f)) a b = ap (λ (e : Fault). Err (faults.Record e)) (err_is e f (record_one p limits (context_of p behind) bits at (Err e) (Err f) a.1 b.1))
closes_one p limits bits behind at (Err (faults.Record e)) (Err (faults.Tail offset)) a b = absurd (omega (arith, a.0, b.0))
closes_one p limits bits behind at (Err (faults.Record e)) (Err (faults.ArcsShort total)) a b = absurd (omega (arith, a.0, b.0))
closes_one p limits bits behind at (Err (faults.Tail offset)) (Ok g) b a = absurd (tail_or_fault bits at offset a.1 b.1)
closes_one p limits bits behind at (Err (faults.Tail offset)) (Err (faults.Record e)) a b = absurd (omega (arith, a.0, b.0))
closes_one p limits bits behind at (Err (faults.Tail offset)) (Err (faults.Tail other)) a b = ap (λ (k : ℕ). Err (faults.Tail k)) (fault_one bits at offset other a.1 b.1)
closes_one p limits bits behind at (Err (faults.Tail offset)) (Err (faults.ArcsShort total)) a b = absurd (tail_or_fault bits at offset b.1 a.1)
closes_one p limits bits behind at (Err (faults.ArcsShort total)) (Ok g) b a = absurd (omega (arith, a.2, b.2, b.3))
closes_one p limits bits behind at (Err (faults.ArcsShort total)) (Err (faults.Record e)) a b = absurd (omega (arith, a.0, b.0))
closes_one p limits bits behind at (Err (faults.ArcsShort total)) (Err (faults.Tail offset)) a b = absurd (tail_or_fault bits at offset a.1 b.1)
closes_one p limits bits behind at (Err (faults.ArcsShort total)) (Err (faults.ArcsShort other)) a b = ap (λ (k : ℕ). Err (faults.ArcsShort k)) (a.2 ∙ sym b.2)
closes_one p limits bits behind at (Ok g) (Err (faults.Offsets f)) x y = absurd y
closes_one p limits bits behind at (Ok g) (Err (faults.Length page found stored)) x y = absurd y
closes_one p limits bits behind at (Err (faults.Record e)) (Err (faults.Offsets f)) x y = absurd y
closes_one p limits bits behind at (Err (faults.Record e)) (Err (faults.Length page found stored)) x y = absurd y
closes_one p limits bits behind at (Err (faults.Tail offset)) (Err (faults.Offsets f)) x y = absurd y
closes_one p limits bits behind at (Err (faults.Tail offset)) (Err (faults.Length page found stored)) x y = absurd y
closes_one p limits bits behind at (Err (faults.ArcsShort total)) (Err (faults.Offsets f)) x y = absurd y
closes_one p limits bits behind at (Err (faults.ArcsShort total)) (Err (faults.Length page found stored)) x y = absurd y
closes_one p limits bits behind at (Err (faults.Offsets f)) w x y = absurd x
closes_one p limits bits behind at (Err (faults.Length page found stored)) w x y = absurd x

abbrev Walks : Parameters → List Bool → List Whole → ℕ → List Whole → Result Accepted ArchiveFault → Type 0
Walks p bits behind at ks w = (last : List Whole) × (end : ℕ) × Pages p bits behind at ks last end × EndsAs p bits last end w

here : (p : Parameters) (bits : List Bool) (behind : List Whole) (at : ℕ) (w : Result Accepted ArchiveFault) → Walks p bits behind at [] w → EndsAs p bits behind at w
here p bits behind at w x = subst (λ (k : ℕ). EndsAs p bits behind k w) x.2.1 (subst (λ (l : List Whole). EndsAs p bits l x.1 w) x.2.0 x.3)

goes_or_closes : (p : Parameters) → IsWithinLimits p → (bits : List Bool) (behind : List Whole) (at : ℕ) (k : Whole) (w : Result Accepted ArchiveFault) → length behind < p.nodes → ReadsRecord p (context_of p behind) bits at (Ok k) → EndsAs p bits behind at w → ⊥
goes_or_closes p limits bits behind at k (Ok g) lt c h = absurd (omega (arith, h.0))
goes_or_closes p limits bits behind at k (Err (faults.Record e)) lt c h = absurd (let s = record_one p limits (context_of p behind) bits at (Ok k) (Err e) c h.1 in cc)
goes_or_closes p limits bits behind at k (Err (faults.Tail offset)) lt c h = absurd (omega (arith, h.0))
goes_or_closes p limits bits behind at k (Err (faults.ArcsShort total)) lt c h = absurd (omega (arith, h.0))
goes_or_closes p limits bits behind at k (Err (faults.Offsets f)) lt c h = h
goes_or_closes p limits bits behind at k (Err (faults.Length page found stored)) lt c h = h

ok_whole : (w x : Whole) → stood w ≡ stood x → w ≡ x
ok_whole w x e = cc

walks_one : (p : Parameters) → IsWithinLimits p → (bits : List Bool) (behind : List Whole) (at : ℕ) (ks ls : List Whole) (w x : Result Accepted ArchiveFault) → Walks p bits behind at ks w → Walks p bits behind at ls x → w ≡ x
walks_one p limits bits behind at [] [] w x a b = closes_one p limits bits behind at w x (here p bits behind at w a) (here p bits behind at x b)
walks_one p limits bits behind at [] (l ∷ ls) w x a b = absurd (goes_or_closes p limits bits behind at _ w b.2.0 b.2.1 (here p bits behind at w a))
walks_one p limits bits behind at (k ∷ ks) [] w x a b = absurd (goes_or_closes p limits bits behind at _ x a.2.0 a.2.1 (here p bits behind at x b))
walks_one p limits bits behind at (k ∷ ks) (l ∷ ls) w x a b =
    let same : l ≡ k = ok_whole l k (record_one p limits (context_of p behind) bits at (Ok l) (Ok k) b.2.1 a.2.1) in
    let rest : Walks p bits (k ∷ behind) k.end ls x = subst (λ (r : Whole). Walks p bits (r ∷ behind) r.end ls x) same (b.0, b.1, b.2.2, b.3) in
    walks_one p limits bits (k ∷ behind) k.end ks ls w x (a.0, a.1, a.2.2, a.3) rest

pub graph_one : (p : Parameters) → IsWithinLimits p → (bits : List Bool) (w x : Result Accepted ArchiveFault) → ReadsGraph p bits w → ReadsGraph p bits x → w ≡ x
graph_one p limits bits w x a b = walks_one p limits bits [] 0 a.0 b.0 w x (a.1, a.2, a.3, a.4) (b.1, b.2, b.3, b.4)

-- ---- some

abbrev Found : Parameters → List Bool → List Whole → ℕ → Type 0
Found p bits behind at = (w : Result Accepted ArchiveFault) × (ks : List Whole) × Walks p bits behind at ks w

closes_here : (p : Parameters) (bits : List Bool) (behind : List Whole) (at : ℕ) (w : Result Accepted ArchiveFault) → EndsAs p bits behind at w → Found p bits behind at
closes_here p bits behind at w h = (w, [], (behind, at, (refl, refl), h))

at_end : (p : Parameters) (bits : List Bool) (behind : List Whole) (at : ℕ) → at ≤ length bits → arcs_read behind ≤ p.arcs → length behind ≡ p.nodes → Found p bits behind at
at_end p bits behind at fits arcs all =
    elim (tail_some bits at fits) [
      | inl tail ↦ elim (cases_eq (arcs_read behind) p.arcs) [
        | inl same ↦ closes_here p bits behind at (Ok (record { graph = lists_of behind; places = places_of behind })) (all, tail, same, refl, refl)
        | inr other ↦ closes_here p bits behind at (Err (faults.ArcsShort (arcs_read behind))) (all, tail, refl, omega arith)
      ]
      | inr f ↦ closes_here p bits behind at (Err (faults.Tail f.0)) (all, f.1)
    ]

arcs_more : (w : Whole) (behind : List Whole) → arcs_read (w ∷ behind) ≡ length w.known.list + arcs_read behind
arcs_more w behind = sum_by-cons (λ (w : Whole). length w.known.list) w behind

abbrev Later : ℕ → Parameters → List Bool → Type 0
Later n p bits = (behind : List Whole) (at : ℕ) → at ≤ length bits → arcs_read behind ≤ p.arcs → length behind + n ≡ p.nodes → Found p bits behind at

record_case : (n : ℕ) (p : Parameters) (bits : List Bool) (behind : List Whole) (at : ℕ) (w : Result Whole Fault) → Later n p bits → at ≤ length bits → arcs_read behind ≤ p.arcs → length behind + suc n ≡ p.nodes → ReadsRecord p (context_of p behind) bits at w → Found p bits behind at
record_case n p bits behind at (Ok w) later fits arcs all c =
    let rest = later (w ∷ behind) w.end (record_within p (context_of p behind) bits at w fits c) (omega (arith, arcs_more w behind, record_arcs p (context_of p behind) bits at w arcs c)) (omega arith) in
    (rest.0, w ∷ rest.1, (rest.2.0, rest.2.1, (omega arith, c, rest.2.2), rest.2.3))
record_case n p bits behind at (Err e) later fits arcs all c = closes_here p bits behind at (Err (faults.Record e)) (omega arith, c)

walks_some : (n : ℕ) (p : Parameters) → IsWithinLimits p → (bits : List Bool) → Later n p bits
walks_some zero p limits bits behind at fits arcs all = at_end p bits behind at fits arcs (omega arith)
walks_some (suc n) p limits bits behind at fits arcs all = let c = record_some p limits (context_of p behind) bits at fits in record_case n p bits behind at c.0 (walks_some n p limits bits) fits arcs all c.1

pub graph_some : (p : Parameters) → IsWithinLimits p → (bits : List Bool) → (w : Result Accepted ArchiveFault) × ReadsGraph p bits w
graph_some p limits bits =
    let f = walks_some p.nodes p limits bits [] 0 (omega arith) (omega arith) (omega arith) in
    (f.0, (f.1, f.2.0, f.2.1, f.2.2, f.2.3))

-- ---- lists of records

pub lists_ascend : (p : Parameters) (c : Context) (bits : List Bool) (start : ℕ) (w : Whole) → ReadsRecord p c bits start (Ok w) → Ascends 0 w.known.list × Below p.nodes w.known.list
unfolding list_of
lists_ascend p c bits start w h =
    let t : ℕ → Bool = is_member c h.1 in
    (subst (Ascends 0) (sym h.4.2) (ascends-where t 0 p.nodes), subst (Below p.nodes) (sym h.4.2) (below-where t 0 p.nodes p.nodes (omega arith)))
