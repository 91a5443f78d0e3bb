-- Words that are read on from a sampled page.
use Rattle.std.proofs.Common.{◌≡◌, ℕ, zero, suc, ◌+◌, ◌*◌, ◌/◌, ◌<◌, ◌≤◌, Bool, List, [], ◌∷◌, ◌++◌, length, drop, sum, get_or, Result, Ok, Err, inl, inr, refl, sym, ◌∙◌, ap, subst, arith, length-append, length-drop, append_assoc}
use Rattle.std.proofs.lemmas.Bool.{cases_lt}
use Rattle.std.proofs.lemmas.List.{append-nil, get_or_append_left, get_or_push}
use Rattle.wg_params.specs.declared.code.Code.{Code}
use Rattle.wg_params.specs.Codes.{IsCode}
use Rattle.wg_codes.specs.declared.outcome.Read.TheVariants.{Value}
use Rattle.wg_codes.specs.Words.{word}
use Rattle.wg_codes.proofs.CodeLaws.{one_result, value_front}
use Rattle.wg_graph.specs.Copied.{ends_of}
use Rattle.wg_graph.proofs.Copies.{sum_cons}
use Rattle.wg_grammar.specs.declared.fault.OffsetWord.{OffsetWord}
use Rattle.wg_grammar.specs.Errors.{OfFault}
use Rattle.wg_grammar.proofs.ErrorLemmas.{fault_weaker}
use Rattle.wg_offsets.specs.Sampling.{AreSamples, IsSampleOf, Sampled, bit_before}
use Rattle.wg_offsets.specs.Stages.{AreRead, WordsStand, WordsRead}
use Rattle.wg_offsets.specs.Words.{Words, ReadsOffsets}
use Rattle.wg_grammar.specs.declared.error.ReadError.{ReadError}
use Rattle.wg_offsets.specs.declared.samples.TheConstants.{SAMPLED}
use Rattle.wg_offsets.proofs.OneFile.{offsets_one}

-- what was read, as it is kept
pub read_as : (c d : Code) (file : List Bool) (n m a b p q : ℕ) (before : List ℕ) → c ≡ d → n ≡ m → a ≡ b → p ≡ q → WordsStand c file n a p before → WordsStand d file m b q before
read_as c d file n m a b p q before code count at place h = grind arith

-- one sample more
pub samples_more : (c : Code) (file : List Bool) (places bits : List ℕ) (place bit page : ℕ) (before : List ℕ) → length bits ≡ length places → SAMPLED * length places ≡ page
    → AreSamples c file places bits → WordsStand c file (page + 1) bit place before → AreSamples c file (places ++ place ∷ []) (bits ++ bit ∷ [])
samples_more c file places bits place bit page before many here samples read = λ k lt.
    elim (cases_lt k (length places)) [
      | inl less ↦
          let h = samples k less in
          (h.0, rw (get_or_append_left bits (bit ∷ []) 0 k (omega (arith, less, many)), get_or_append_left places (place ∷ []) 0 k less) h.1)
      | inr ge ↦
          let is : k ≡ length places = omega (arith, lt, ge, length-append places (place ∷ [])) in
          let count : page + 1 ≡ SAMPLED * k + 1 = omega (arith, is, here) in
          (before, rw (get_or_push bits bit 0 k (omega (arith, is, many)), get_or_push places place 0 k (sym is)) (subst (λ (n : ℕ). WordsStand c file n bit place before) count read))
    ]

-- ---- the words up to a page lead to its place

-- all values are those that were read
values_of : (c : Code) (bits : List Bool) (before : List ℕ) (at : ℕ) (vs last : List ℕ) (end : ℕ) → Words c bits before at vs last end → last ≡ before ++ vs
values_of c bits before at [] last end h = h.0 ∙ sym (append-nil before)
values_of c bits before at (v ∷ vs) last end h = values_of c bits (before ++ v ∷ []) (at + length (word c v)) vs last end h.2 ∙ append_assoc before (v ∷ []) vs

same_value : (v u : ℕ) → Value v ≡ Value u → v ≡ u
same_value v u e = cc

-- of the words from one bit on fewer are the front of more
front : (c : Code) (coded : IsCode c) (bits : List Bool) (before : List ℕ) (at : ℕ) (us vs some all : List ℕ) (end stop : ℕ) → Words c bits before at us some end → Words c bits before at vs all stop → length us ≤ length vs
    → (rest : List ℕ) × (vs ≡ us ++ rest)
front c coded bits before at [] vs some all end stop a b le = (vs, refl)
front c coded bits before at (u ∷ us) [] some all end stop a b le = absurd (omega (arith, le))
front c coded bits before at (u ∷ us) (v ∷ vs) some all end stop a b le =
    let same : v ≡ u = same_value v u (one_result c coded (drop at bits) (Value v) (Value u) b.0 a.0) in
    let next : Words c bits (before ++ u ∷ []) (at + length (word c u)) vs all stop = subst (λ (n : ℕ). Words c bits (before ++ n ∷ []) (at + length (word c n)) vs all stop) same b.2 in
    let rest = front c coded bits (before ++ u ∷ []) (at + length (word c u)) us vs some all end stop a.2 next (omega (arith, le)) in
    (rest.0, ap (λ (n : ℕ). n ∷ vs) same ∙ ap (λ (l : List ℕ). u ∷ l) rest.1)

none_left : (vs : List ℕ) → length vs ≡ 0 → sum vs ≡ 0
none_left [] e = refl
none_left (v ∷ vs) e = absurd (omega arith)

ends_at : (n : ℕ) (us rest : List ℕ) (x : ℕ) → length us ≡ x + 1 → get_or (ends_of n (us ++ rest)) x 0 ≡ n + sum us
ends_at n [] rest x e = absurd (omega (arith, e))
ends_at n (u ∷ us) rest zero e = let none : sum us ≡ 0 = none_left us (omega (arith, e)) in omega (arith, none, sum_cons u us)
ends_at n (u ∷ us) rest (suc x) e = omega (arith, (ends_at (n + u) us rest x (omega (arith, e))), sum_cons u us)

pub place_at : (c : Code) → IsCode c → (n : ℕ) (bits : List Bool) (places : List ℕ) → ReadsOffsets c n bits (Ok places) → (x at offset : ℕ) (before : List ℕ) → WordsStand c bits (x + 1) at offset before → x ≤ n
    → get_or places x 0 ≡ offset
place_at c coded n bits places h x at offset before p le = grind (arith, values_of, front, ends_at)

-- ---- no word of a file that has places is refused

never : (c : Code) → IsCode c → (n : ℕ) (bits : List Bool) (places : List ℕ) → ReadsOffsets c n bits (Ok places) → (w : OffsetWord) → ReadsOffsets c n bits (Err w) → ⊥
never c coded n bits places good w bad =
    let fine : Result (List ℕ) OffsetWord = Ok places in
    let refused : Result (List ℕ) OffsetWord = Err w in
    let same : fine ≡ refused = offsets_one c coded n bits fine refused good bad in
    cc

pub none_refused : {R : Type 0} (c : Code) → IsCode c → (n : ℕ) (bits : List Bool) (places : List ℕ) → ReadsOffsets c n bits (Ok places) → (e : ReadError OffsetWord R)
    → OfFault e (λ w. ReadsOffsets c n bits (Err w)) → OfFault e (λ w. ⊥)
none_refused c coded n bits places good e bad = fault_weaker e _ _ (never c coded n bits places good) bad

-- ---- the words stand in the file

words_fit : (c : Code) (bits : List Bool) (before : List ℕ) (at : ℕ) (vs last : List ℕ) (end : ℕ) → at ≤ length bits → Words c bits before at vs last end → end ≤ length bits
words_fit c bits before at [] last end le h = omega (arith, le, h.1)
words_fit c bits before at (v ∷ vs) last end le h =
    let room : at + length (word c v) ≤ length bits = omega (arith, (value_front c (drop at bits) v h.0).0, length-drop at bits, le) in
    words_fit c bits (before ++ v ∷ []) (at + length (word c v)) vs last end room h.2

pub prefix_fits : (c : Code) (bits : List Bool) (count at offset : ℕ) (before : List ℕ) → WordsStand c bits count at offset before → at ≤ length bits
prefix_fits c bits count at offset before p = words_fit c bits [] 0 p.read p.values at (omega arith) p.words

-- ---- how words are read on from a sample

pub from_sample : (s : Sampled) (w : WordsRead) (file : List Bool) (places : List ℕ) (page at : ℕ)
    → w ≡ record { code = s.code; pages = s.pages; count = SAMPLED * (page / SAMPLED) + 1; offset = get_or s.places (page / SAMPLED) 0 } → page / SAMPLED < length s.places → at ≡ bit_before s page
    → IsSampleOf file s places → (before : List ℕ) × AreRead file w at before
from_sample s w file places page at is lt here h =
    let a = h.samples (page / SAMPLED) lt in
    (a.0, subst (λ (x : WordsRead). AreRead file x at a.0) (sym is) (subst (λ (b : ℕ). WordsStand s.code file (SAMPLED * (page / SAMPLED) + 1) b (get_or s.places (page / SAMPLED) 0) a.0) (sym here) a.1))

pub place_of : (s : Sampled) (w : WordsRead) (file : List Bool) (places : List ℕ) (x at : ℕ) (before : List ℕ) → w.code ≡ s.code → w.count ≡ x + 1 → IsCode s.code → x ≤ s.pages
    → IsSampleOf file s places → AreRead file w at before → w.offset ≡ get_or places x 0
place_of s w file places x at before code count coded le h read =
    let here : WordsStand s.code file (x + 1) at w.offset before = read_as _ _ file _ _ _ _ _ _ before code count refl refl read in
    sym (place_at s.code coded s.pages file places h.reads x at w.offset before here le)

pub never_refused : {R : Type 0} (s : Sampled) (c : Code) (n : ℕ) (file : List Bool) (places : List ℕ) (e : ReadError OffsetWord R) → c ≡ s.code → n ≡ s.pages → IsCode s.code
    → IsSampleOf file s places
    → OfFault e (λ w. ReadsOffsets c n file (Err w)) → OfFault e (λ w. ⊥)
never_refused s c n file places e code pages coded h bad =
    none_refused s.code coded s.pages file places h.reads e
    (subst (λ (k : ℕ). OfFault e (λ w. ReadsOffsets s.code k file (Err w))) pages (subst (λ (d : Code). OfFault e (λ w. ReadsOffsets d n file (Err w))) code bad))
