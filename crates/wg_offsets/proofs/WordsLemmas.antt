-- Words of an offsets file, one after the other.
use Rattle.std.proofs.Common.{◌≡◌, ℕ, suc, ◌+◌, ◌-◌, ◌≤◌, Bool, List, [], ◌∷◌, ◌++◌, length, drop, sum, None, Err, refl, sym, ◌∙◌, ap, subst, arith, length-append}
use Rattle.std.proofs.lemmas.List.{get_or_push}
use Rattle.std.proofs.lemmas.Bool.{ltb-false}
use Rattle.wg_params.specs.declared.code.Code.{Code}
use Rattle.wg_codes.specs.declared.outcome.Read.{Read}
use Rattle.wg_codes.specs.declared.outcome.Read.TheVariants.{Value}
use Rattle.wg_codes.specs.Words.{word, top}
use Rattle.wg_codes.specs.Reading.{Reads}
use Rattle.wg_graph.specs.Copied.{ends_of}
use Rattle.wg_graph.proofs.Copies.{sum_cons, sum_push}
use Rattle.wg_grammar.specs.declared.fault.OffsetWord.{OffsetWord}
use Rattle.wg_grammar.specs.declared.fault.OffsetWord.TheVariants as faults
use Rattle.wg_offsets.specs.Words.{places_of, refusal, Words, IsRefused, ReadsOffsets}
use Rattle.wg_offsets.specs.declared.places.TheConstants.{MOST_PLACE}
use Rattle.wg_offsets.specs.Places.{last_place}
use Rattle.wg_grammar.specs.Standing.{IsReadAt}
use Rattle.wg_offsets.specs.Stages.{WordsStand, LeadsTo, LeadsBy}

-- a word more after some
pub words_more : (c : Code) (bits : List Bool) (before : List ℕ) (at : ℕ) (vs values : List ℕ) (mid v : ℕ) → Words c bits before at vs values mid
    → Reads (word c) (top c) (drop mid bits) (Value v) → refusal (length values) (sum values) (Value v) ≡ None
    → Words c bits before at (vs ++ v ∷ []) (values ++ v ∷ []) (mid + length (word c v))
words_more c bits before at [] values mid v words reads fine = (
  subst (λ (m : ℕ). Reads (word c) (top c) (drop m bits) (Value v)) words.1 reads,
  subst (λ (l : List ℕ). refusal (length l) (sum l) (Value v) ≡ None) words.0 fine,
  (ap (λ (l : List ℕ). l ++ v ∷ []) words.0, ap (λ (m : ℕ). m + length (word c v)) words.1),
)
words_more c bits before at (x ∷ vs) values mid v words reads fine =
    (words.0, words.1, words_more c bits (before ++ x ∷ []) (at + length (word c x)) vs values mid v words.2 reads fine)

-- the offset that one value more leads to
pub ends_more : (n : ℕ) (vs : List ℕ) (v : ℕ) → ends_of n (vs ++ v ∷ []) ≡ ends_of n vs ++ (n + sum vs + v) ∷ []
ends_more n [] v = ap (λ (k : ℕ). k ∷ []) (omega arith)
ends_more n (x ∷ vs) v =
    let same : n + x + sum vs + v ≡ n + sum (x ∷ vs) + v = omega (arith, sum_cons x vs) in
    ap (λ (l : List ℕ). (n + x) ∷ l) (ends_more (n + x) vs v ∙ ap (λ (k : ℕ). ends_of (n + x) vs ++ k ∷ []) same)

pub length_ends : (n : ℕ) (vs : List ℕ) → length (ends_of n vs) ≡ length vs
length_ends n [] = refl
length_ends n (x ∷ vs) = ap suc (length_ends (n + x) vs)

module _ (c : Code) (bits : List Bool) where
  pub one_more : (count at offset : ℕ) (places : List ℕ) (next end : ℕ) → WordsStand c bits count at offset places → LeadsTo c bits count offset at next end
      → WordsStand c bits (count + 1) end next (places ++ next ∷ [])
  one_more count at offset places next end h leads =
      let v : ℕ = leads.0 in
      let next_is : 0 + sum h.values + v ≡ next = omega (arith, h.total, leads.3) in
      let fine : refusal (length h.values) (sum h.values) (Value v) ≡ None =
      subst (λ (k : ℕ). refusal k (sum h.values) (Value v) ≡ None) (sym h.number)
      (subst (λ (k : ℕ). refusal count k (Value v) ≡ None) (sym h.total) leads.2) in
      record {
        read = h.read ++ v ∷ [];
        values = h.values ++ v ∷ [];
        words = subst (λ (e : ℕ). Words c bits [] 0 (h.read ++ v ∷ []) (h.values ++ v ∷ []) e) (sym leads.4) (words_more c bits [] 0 h.read h.values at v h.words leads.1 fine);
        number = omega (arith, length-append h.values (v ∷ []), h.number);
        total = omega (arith, sum_push h.values v, h.total, leads.3);
        lead = ap (λ (l : List ℕ). l ++ next ∷ []) h.lead ∙ ap (λ (k : ℕ). places_of h.values ++ k ∷ []) (sym next_is) ∙ sym (ends_more 0 h.values v);
      }

  -- the next word is refused, and so is the file
  pub one_refused : (n count at offset : ℕ) (places : List ℕ) (e : OffsetWord) → WordsStand c bits count at offset places → count ≤ n → IsRefused c bits count offset at e
      → ReadsOffsets c n bits (Err e)
  one_refused n count at offset places e h le refuses = grind arith

-- the last offset after one more
pub last_more : (places : List ℕ) (p : ℕ) → last_place (places ++ p ∷ []) ≡ p
last_more places p = get_or_push places p 0 (length (places ++ p ∷ []) - 1) (omega (arith, length-append places (p ∷ [])))

pub first_value : (offset v : ℕ) → refusal 0 offset (Value v) ≡ None → v ≤ 0
first_value offset v fine = grind (arith, ltb-false)

-- a word that is not refused leads to an offset that a file may have
pub value_within : (number offset v : ℕ) → refusal number offset (Value v) ≡ None → offset + v ≤ MOST_PLACE
value_within number offset v fine = grind (arith, ltb-false)

-- a word that stands there and leads on
pub leads_from : (c : Code) (bits : List Bool) (number offset at : ℕ) (r : Read) (next end : ℕ) → IsReadAt c bits at r end → LeadsBy number offset r next → LeadsTo c bits number offset at next end
leads_from c bits number offset at r next end found leads = grind arith
