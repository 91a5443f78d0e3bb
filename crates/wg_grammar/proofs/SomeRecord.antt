-- Bits are a record, or have a first fault.
use Rattle.std.proofs.Common.{◌≡◌, ℕ, zero, suc, ◌+◌, ◌-◌, ◌*◌, ◌<◌, ◌≤◌, Bool, true, false, cond, List, [], ◌∷◌, length, drop, Option, Some, None, Result, Ok, Err, refl, sym, subst, arith, inl, inr, length-drop}
use Rattle.std.proofs.lemmas.Bool.{cases_eq}
use Rattle.wg_params.specs.declared.code.Code.{Code}
use Rattle.wg_codes.specs.declared.outcome.Read.{Read}
use Rattle.wg_codes.specs.declared.outcome.Read.TheVariants as reads
use Rattle.wg_grammar.specs.declared.fault.Field.{Field}
use Rattle.wg_grammar.specs.declared.fault.Field.TheVariants as field
use Rattle.wg_grammar.specs.declared.fault.Kind.{Kind}
use Rattle.wg_grammar.specs.declared.fault.Kind.TheVariants as kind
use Rattle.wg_grammar.specs.declared.need.Need.{Need}
use Rattle.wg_grammar.specs.declared.need.Need.TheVariants as need
use Rattle.wg_grammar.specs.declared.fault.Fault.{Fault}
use Rattle.wg_params.specs.Parameters.{Parameters, IsWithinLimits}
use Rattle.wg_codes.specs.Reading.{Reads}
use Rattle.wg_codes.specs.Words.{word, top}
use Rattle.wg_grammar.specs.Context.{Context, depth_of}
use Rattle.wg_grammar.specs.SoFar.{SoFar, after, nothing_yet, value_or_0}
use Rattle.wg_grammar.specs.Record.{Whole, Stands, Refused, Stops, ReadsRecord}
use Rattle.wg_grammar.specs.Next.{next}
use Rattle.wg_grammar.specs.Refusal.{refusal}
use Rattle.wg_grammar.specs.Members.{list_of}
use Rattle.wg_codes.proofs.CodeLaws.{some_result, value_front, word_some}
use Rattle.wg_grammar.proofs.OneRecord.{Ends}
use Rattle.wg_params.specs.Codes.{IsCode}
use Rattle.wg_grammar.proofs.Chain.{HasCode, next_coded}
use Rattle.wg_grammar.proofs.Orderly.{Orderly, orderly_first, orderly_stands, never_more, unchecked}

abbrev Found : Parameters → Context → List Bool → ℕ → SoFar → ℕ → Type 0
Found p c bits start s at = (w : Result Whole Fault) × (vs : List ℕ) × Ends p c bits start s at vs w

unchecked_one : SoFar → ℕ
unchecked_one s = cond s.checked 0 1

-- one field, and what follows
goes_on : (p : Parameters) (c : Context) (bits : List Bool) (start : ℕ) (s : SoFar) (at v mid : ℕ) (t : SoFar) (m : Need) → next p c s ≡ m → Stands m p c bits s at v mid t → Found p c bits start t mid → Found p c bits start s at
goes_on p c bits start s at v mid t m is h x = (x.0, v ∷ x.1, (x.2.0, x.2.1, (t, mid, subst (λ (m : Need). Stands m p c bits s at v mid t) (sym is) h, x.2.2), x.2.3))

stops_here : (p : Parameters) (c : Context) (bits : List Bool) (start : ℕ) (s : SoFar) (at : ℕ) (w : Result Whole Fault) → Stops p c bits start s at w → Found p c bits start s at
stops_here p c bits start s at w h = (w, [], (s, at, (refl, refl), h))

abbrev to_do : List Bool → SoFar → ℕ → ℕ
to_do bits s at = 2 * (length bits - at) + cond s.checked 0 1

abbrev Later : Parameters → Context → List Bool → ℕ → ℕ → Type 0
Later p c bits start n = (s : SoFar) (at : ℕ) → Orderly p c s → at ≤ length bits → to_do bits s at < n → Found p c bits start s at

below_one : (b : Bool) → cond b 0 1 ≤ 1
below_one true = omega arith
below_one false = omega arith

checked_one : (s : SoFar) → s.checked ≡ false → unchecked_one s ≡ 1
unfolding unchecked_one
checked_one s e = rw e refl

checked_less : (p : Parameters) (c : Context) (bits : List Bool) (s : SoFar) (at n : ℕ) → unchecked_one s ≡ 1 → to_do bits s at < suc n → to_do bits (after p c s field.Copied 0) at < n
unfolding after unchecked_one
checked_less p c bits s at n one less = omega arith

refused_at : (p : Parameters) (c : Context) (bits : List Bool) (start : ℕ) (s : SoFar) (at : ℕ) (f : Field) (k : Kind) (offset : ℕ) (m : Need) → next p c s ≡ m →
    Refused m p c bits start s at (record { page = c.page; at = offset; field = f; kind = k }) → Found p c bits start s at
refused_at p c bits start s at f k offset m is h =
    let e : Fault = record { page = c.page; at = offset; field = f; kind = k } in
    stops_here p c bits start s at (Err e) (subst (λ (m : Need). Refused m p c bits start s at e) (sym is) h, refl)

judged_value : (n : ℕ) (p : Parameters) (c : Context) (bits : List Bool) (start : ℕ) (s : SoFar) (at : ℕ) (f : Field) (code : Code) (v : ℕ) (o : Option Kind) →
    Later p c bits start n → Orderly p c s → at ≤ length bits → to_do bits s at < suc n → next p c s ≡ need.Read f code → Reads (word code) (top code) (drop at bits) (reads.Value v) → refusal p c s f v ≡ o → Found p c bits start s at
judged_value n p c bits start s at f code v None later orderly fits less is found fine =
    let t = after p c s f v in
    let mid = at + length (word code v) in
    let room : at + length (word code v) ≤ length bits = omega (arith, (value_front code (drop at bits) v found).0, length-drop at bits) in
    let small : cond t.checked 0 1 ≤ 1 = below_one t.checked in
    let some = word_some code v in
    goes_on p c bits start s at v mid t _ is (found, refl, fine, refl) (later t mid (orderly_stands (need.Read f code) p c bits s at v mid t is (found, refl, fine, refl) orderly) room (omega arith))
judged_value n p c bits start s at f code v (Some k) later orderly fits less is found refused =
    refused_at p c bits start s at f k at _ is (reads.Value v, found, refused, refl, refl)

read_case : (n : ℕ) (p : Parameters) (c : Context) (bits : List Bool) (start : ℕ) (s : SoFar) (at : ℕ) (f : Field) (code : Code) (r : Read) →
    Later p c bits start n → Orderly p c s → at ≤ length bits → to_do bits s at < suc n → next p c s ≡ need.Read f code → Reads (word code) (top code) (drop at bits) r → Found p c bits start s at
read_case n p c bits start s at f code (reads.Value v) later orderly fits less is found = judged_value n p c bits start s at f code v (refusal p c s f v) later orderly fits less is found refl
read_case n p c bits start s at f code reads.Cut later orderly fits less is found =
    refused_at p c bits start s at f kind.Cut at _ is (reads.Cut, found, refl, refl, refl)
read_case n p c bits start s at f code reads.NoWord later orderly fits less is found =
    refused_at p c bits start s at f kind.NoWord at _ is (reads.NoWord, found, refl, refl, refl)

check_case : (n : ℕ) (p : Parameters) (c : Context) (bits : List Bool) (start : ℕ) (s : SoFar) (at : ℕ) (o : Option Kind) →
    Later p c bits start n → Orderly p c s → at ≤ length bits → to_do bits s at < suc n → next p c s ≡ need.Check → refusal p c s field.Copied 0 ≡ o → Found p c bits start s at
check_case n p c bits start s at None later orderly fits less is fine =
    let t = after p c s field.Copied 0 in
    let one : unchecked_one s ≡ 1 = checked_one s (unchecked p c s is) in
    goes_on p c bits start s at 0 at t _ is (refl, refl, fine, refl) (later t at (orderly_stands need.Check p c bits s at 0 at t is (refl, refl, fine, refl) orderly) fits (checked_less p c bits s at n one less))
check_case n p c bits start s at (Some k) later orderly fits less is refused =
    refused_at p c bits start s at field.Copied k at _ is (refused, refl, refl)

need_case : (n : ℕ) (p : Parameters) → IsWithinLimits p → (c : Context) (bits : List Bool) (start : ℕ) (s : SoFar) (at : ℕ) (m : Need) →
    Later p c bits start n → Orderly p c s → at ≤ length bits → to_do bits s at < suc n → next p c s ≡ m → Found p c bits start s at
need_case n p limits c bits start s at (need.Read f code) later orderly fits less is = let coded : IsCode code = subst HasCode is (next_coded p c s limits) in let r = some_result code coded (drop at bits) in read_case n p c bits start s at f code r.0 later orderly fits less is r.1
need_case n p limits c bits start s at need.Check later orderly fits less is = check_case n p c bits start s at (refusal p c s field.Copied 0) later orderly fits less is refl
need_case n p limits c bits start s at need.End later orderly fits less is =
    elim (cases_eq (length (list_of p c s)) (value_or_0 s.outdegree)) [
      | inl same ↦ stops_here p c bits start s at (Ok (record { known = record { list = list_of p c s; depth = depth_of c.behind (value_or_0 s.reference) }; end = at })) (is, same, refl, refl, refl)
      | inr other ↦ let fewer : length (list_of p c s) < value_or_0 s.outdegree = omega (arith, never_more p c s is orderly) in refused_at p c bits start s at field.Record kind.Twice start _ is (fewer, refl, refl, refl)
    ]

later : (p : Parameters) → IsWithinLimits p → (c : Context) (bits : List Bool) (start n : ℕ) → Later p c bits start n
later p limits c bits start zero s at orderly fits less = absurd (omega arith)
later p limits c bits start (suc n) s at orderly fits less = need_case n p limits c bits start s at (next p c s) (later p limits c bits start n) orderly fits less refl

pub record_some : (p : Parameters) → IsWithinLimits p → (c : Context) (bits : List Bool) (start : ℕ) → start ≤ length bits → (w : Result Whole Fault) × ReadsRecord p c bits start w
record_some p limits c bits start fits =
    let x = later p limits c bits start (to_do bits nothing_yet start + 1) nothing_yet start (orderly_first p c) fits (omega arith) in
    (x.0, (x.1, x.2.0, x.2.1, x.2.2, x.2.3))
