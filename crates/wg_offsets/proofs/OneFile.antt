-- Bits are at most one offsets file, and are one or have a first fault.
use Rattle.std.proofs.Common.{◌≡◌, ℕ, zero, suc, ◌+◌, ◌≤◌, Bool, List, [], ◌∷◌, ◌++◌, length, drop, sum, Option, Some, None, Result, Ok, Err, inl, inr, refl, sym, ◌∙◌, ap, subst, arith, length-append, length-drop}
use Rattle.wg_params.specs.declared.code.Code.{Code}
use Rattle.wg_params.specs.Codes.{IsCode}
use Rattle.wg_codes.specs.declared.outcome.Read.{Read}
use Rattle.wg_codes.specs.declared.outcome.Read.TheVariants as reads
use Rattle.wg_codes.specs.Words.{word, top}
use Rattle.wg_codes.specs.Reading.{Reads}
use Rattle.wg_codes.proofs.CodeLaws.{one_result, some_result, value_front}
use Rattle.wg_grammar.specs.declared.fault.OffsetWord.{OffsetWord}
use Rattle.wg_grammar.specs.declared.fault.OffsetWord.TheVariants as faults
use Rattle.wg_grammar.proofs.OneGraph.{tail_some, tail_or_fault, fault_one}
use Rattle.wg_offsets.specs.Words.{places_of, refusal, Words, IsRefused, HasNoTail, EndsAs, ReadsOffsets}

abbrev Walks : Code → ℕ → List Bool → List ℕ → ℕ → List ℕ → Result (List ℕ) OffsetWord → Type 0
Walks c n bits before at vs w = (values : List ℕ) × (end : ℕ) × Words c bits before at vs values end × EndsAs c n bits values end w

same_fault : (o : Option OffsetWord) (e f : OffsetWord) → o ≡ Some e → o ≡ Some f → e ≡ f
same_fault o e f a b = let s : Some e ≡ Some f = sym a ∙ b in cc

same_value : (v u : ℕ) → reads.Value v ≡ reads.Value u → v ≡ u
same_value v u e = cc

module _ (c : Code) (coded : IsCode c) (n : ℕ) (bits : List Bool) where
  -- ---- one

  faults_one : (values : List ℕ) (at : ℕ) (e f : OffsetWord) → IsRefused c bits (length values) (sum values) at e → IsRefused c bits (length values) (sum values) at f → e ≡ f
  faults_one values at e f a b = grind (arith, one_result, same_fault)

  tails_one : (at : ℕ) (e f : OffsetWord) → HasNoTail bits at e → HasNoTail bits at f → e ≡ f
  tails_one at e f a b = a.2 ∙ ap faults.Tail (fault_one bits at a.0 b.0 a.1 b.1) ∙ sym b.2

  closes_one : (values : List ℕ) (at : ℕ) (w x : Result (List ℕ) OffsetWord) → EndsAs c n bits values at w → EndsAs c n bits values at x → w ≡ x
  closes_one values at (Ok p) (Ok q) a b = ap Ok (a.2 ∙ sym b.2)
  closes_one values at (Ok p) (Err e) a b = elim b [ inl r ↦ absurd (omega (arith, a.0, r.0)) | inr t ↦ absurd (tail_or_fault bits at t.1.0 a.1 t.1.1) ]
  closes_one values at (Err e) (Ok p) b a = elim b [ inl r ↦ absurd (omega (arith, a.0, r.0)) | inr t ↦ absurd (tail_or_fault bits at t.1.0 a.1 t.1.1) ]
  closes_one values at (Err e) (Err f) a b =
      elim a [
        | inl r ↦ elim b [ inl s ↦ ap Err (faults_one values at e f r.1 s.1) | inr t ↦ absurd (omega (arith, r.0, t.0)) ]
        | inr t ↦ elim b [ inl s ↦ absurd (omega (arith, s.0, t.0)) | inr u ↦ ap Err (tails_one at e f t.1 u.1) ]
      ]

  words_length : (before : List ℕ) (at : ℕ) (vs values : List ℕ) (end : ℕ) → Words c bits before at vs values end → length values ≡ length before + length vs
  words_length before at [] values end words = omega (arith, ap length words.0)
  words_length before at (v ∷ vs) values end words =
      omega (arith, words_length (before ++ v ∷ []) (at + length (word c v)) vs values end words.2, length-append before (v ∷ []))

  few : (values : List ℕ) (at : ℕ) (w : Result (List ℕ) OffsetWord) → EndsAs c n bits values at w → length values ≤ n + 1
  few values at w h = grind arith

  here : (before : List ℕ) (at : ℕ) (w : Result (List ℕ) OffsetWord) → Walks c n bits before at [] w → EndsAs c n bits before at w
  here before at w x = subst (λ (k : ℕ). EndsAs c n bits before k w) x.2.1 (subst (λ (l : List ℕ). EndsAs c n bits l x.1 w) x.2.0 x.3)

  goes_or_closes : (before : List ℕ) (at v : ℕ) (w : Result (List ℕ) OffsetWord) → length before ≤ n → Reads (word c) (top c) (drop at bits) (reads.Value v)
      → refusal (length before) (sum before) (reads.Value v) ≡ None → EndsAs c n bits before at w → ⊥
  goes_or_closes before at v (Ok p) le found fine h = absurd (omega (arith, h.0))
  goes_or_closes before at v (Err e) le found fine h =
      elim h [
        | inl r ↦ absurd
            (let same : r.1.0 ≡ reads.Value v = one_result c coded (drop at bits) r.1.0 (reads.Value v) r.1.1 found in
            cc)
        | inr t ↦ absurd (omega (arith, t.0))
      ]

  goes_on : (before : List ℕ) (at v : ℕ) (vs : List ℕ) (w x : Result (List ℕ) OffsetWord) → Walks c n bits before at [] w → Walks c n bits before at (v ∷ vs) x → ⊥
  goes_on before at v vs w x a b =
      let more = words_length before at (v ∷ vs) b.0 b.1 b.2 in
      goes_or_closes before at v w (omega (arith, more, few b.0 b.1 x b.3)) b.2.0 b.2.1 (here before at w a)

  walks_one : (before : List ℕ) (at : ℕ) (vs us : List ℕ) (w x : Result (List ℕ) OffsetWord) → Walks c n bits before at vs w → Walks c n bits before at us x → w ≡ x
  walks_one before at [] [] w x a b = closes_one before at w x (here before at w a) (here before at x b)
  walks_one before at [] (u ∷ us) w x a b = absurd (goes_on before at u us w x a b)
  walks_one before at (v ∷ vs) [] w x a b = absurd (goes_on before at v vs x w b a)
  walks_one before at (v ∷ vs) (u ∷ us) w x a b =
      let same : u ≡ v = same_value u v (one_result c coded (drop at bits) (reads.Value u) (reads.Value v) b.2.0 a.2.0) in
      let rest : Walks c n bits (before ++ v ∷ []) (at + length (word c v)) us x = subst (λ (k : ℕ). Walks c n bits (before ++ k ∷ []) (at + length (word c k)) us x) same (b.0, b.1, b.2.2, b.3) in
      walks_one (before ++ v ∷ []) (at + length (word c v)) vs us w x (a.0, a.1, a.2.2, a.3) rest

  pub offsets_one : (w x : Result (List ℕ) OffsetWord) → ReadsOffsets c n bits w → ReadsOffsets c n bits x → w ≡ x
  offsets_one w x a b = walks_one [] 0 a.0 b.0 w x (a.1, a.2, a.3, a.4) (b.1, b.2, b.3, b.4)

  -- ---- some

  abbrev Found : List ℕ → ℕ → Type 0
  Found before at = (w : Result (List ℕ) OffsetWord) × (vs : List ℕ) × Walks c n bits before at vs w

  closes_here : (before : List ℕ) (at : ℕ) (w : Result (List ℕ) OffsetWord) → EndsAs c n bits before at w → Found before at
  closes_here before at w h = (w, [], (before, at, (refl, refl), h))

  at_end : (before : List ℕ) (at : ℕ) → at ≤ length bits → length before ≡ n + 1 → Found before at
  at_end before at fits all =
      elim (tail_some bits at fits) [
        | inl tail ↦ closes_here before at (Ok (places_of before)) (all, tail, refl)
        | inr f ↦ closes_here before at (Err (faults.Tail f.0)) (inr (all, (f.0, f.1, refl)))
      ]

  refused_here : (before : List ℕ) (at : ℕ) (r : Read) (e : OffsetWord) → length before ≤ n → Reads (word c) (top c) (drop at bits) r → refusal (length before) (sum before) r ≡ Some e → Found before at
  refused_here before at r e le found why = closes_here before at (Err e) (inl (le, (r, found, why)))

  abbrev Later : ℕ → Type 0
  Later k = (before : List ℕ) (at : ℕ) → at ≤ length bits → length before + k ≡ n + 1 → Found before at

  value_case : (k : ℕ) (before : List ℕ) (at v : ℕ) (o : Option OffsetWord) → Later k → at ≤ length bits → length before + suc k ≡ n + 1
      → Reads (word c) (top c) (drop at bits) (reads.Value v) → refusal (length before) (sum before) (reads.Value v) ≡ o → Found before at
  value_case k before at v None later fits all found fine =
      let room : at + length (word c v) ≤ length bits = omega (arith, (value_front c (drop at bits) v found).0, length-drop at bits) in
      let rest : Found (before ++ v ∷ []) (at + length (word c v)) = later (before ++ v ∷ []) (at + length (word c v)) room (omega (arith, length-append before (v ∷ []))) in
      (rest.0, v ∷ rest.1, (rest.2.0, rest.2.1, (found, fine, rest.2.2), rest.2.3))
  value_case k before at v (Some e) later fits all found refused = refused_here before at (reads.Value v) e (omega arith) found refused

  word_case : (k : ℕ) (before : List ℕ) (at : ℕ) (r : Read) → Later k → at ≤ length bits → length before + suc k ≡ n + 1 → Reads (word c) (top c) (drop at bits) r → Found before at
  word_case k before at (reads.Value v) later fits all found = value_case k before at v (refusal (length before) (sum before) (reads.Value v)) later fits all found refl
  word_case k before at reads.Cut later fits all found = refused_here before at reads.Cut (faults.Cut (length before)) (omega arith) found refl
  word_case k before at reads.NoWord later fits all found = refused_here before at reads.NoWord (faults.NoWord (length before)) (omega arith) found refl

  later : (k : ℕ) → Later k
  later zero before at fits all = at_end before at fits (omega arith)
  later (suc k) before at fits all = let r = some_result c coded (drop at bits) in word_case k before at r.0 (later k) fits all r.1

  pub offsets_some : (w : Result (List ℕ) OffsetWord) × ReadsOffsets c n bits w
  offsets_some = let f = later (n + 1) [] 0 (omega arith) (omega arith) in (f.0, (f.1, f.2.0, f.2.1, f.2.2, f.2.3))
