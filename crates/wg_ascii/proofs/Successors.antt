-- The successors of a page, read word by word.
use Rattle.std.proofs.Common.{◌≡◌, ℕ, suc, ◌+◌, ◌<◌, ◌≤◌, ◌^◌, List, [], ◌∷◌, ◌++◌, map, length, decimal, Some, None, refl, sym, ap, subst, ◌∙◌, arith, append_assoc}
use Rattle.std.proofs.lemmas.Bool.{lt-leb, lt-ltb, le-ltb}
use Rattle.std.proofs.lemmas.List.{map-append, length_push}
use Rattle.wg_params.specs.declared.limits.TheConstants.{MOST_ARCS}
use Rattle.wg_num.proofs.Numbers.{number_of-decimal}
use Rattle.wg_graph.specs.Ascending.{Ascends, Below}
use Rattle.wg_graph.proofs.Sets.{ascends_push, below_push, below_more}
use Rattle.wg_ascii.specs.Reading.{refusal_of, fault_of_words}
use Rattle.wg_ascii.specs.Growing.{IsNumber}

-- ---- one word

pub not_refused : (n least arcs v : ℕ) → v < n → least ≤ v → arcs < MOST_ARCS → refusal_of n least arcs (Some v) ≡ None
not_refused n least arcs v page low room = rw (lt-leb n v page, le-ltb v least low, lt-ltb arcs MOST_ARCS room) refl

-- a number that may come next leaves the words after it
pub past_word : (n least arcs : ℕ) (word : List ℕ) (words : List (List ℕ)) (v : ℕ) → n ≤ 2 ^ 64 → IsNumber n least arcs word v → fault_of_words n least arcs (word ∷ words) ≡ fault_of_words n (v + 1) (arcs + 1) words
past_word n least arcs word words v small is = grind (arith, number_of-decimal, not_refused)

-- ---- all words

-- the numbers of an ascending list of pages are in order
pub fine_words : (n least arcs : ℕ) (list : List ℕ) → n ≤ 2 ^ 64 → Ascends least list → Below n list → arcs + length list ≤ MOST_ARCS → fault_of_words n least arcs (map decimal list) ≡ None
fine_words n least arcs [] small up below room = refl
fine_words n least arcs (v ∷ list) small up below room =
    let next : suc v ≡ v + 1 = omega arith in
    past_word n least arcs (decimal v) (map decimal list) v small (record { text = refl; low = up.0; page = below.0; room = omega arith })
    ∙ fine_words n (v + 1) (arcs + 1) list small (subst (λ (k : ℕ). Ascends k list) next up.1) below.1 (omega arith)

-- successors in order: `least` is above the last, and so many arcs come with them
pub record InOrder (n arcs : ℕ) (list : List ℕ) (least count : ℕ) : Type 0 where
  pub ascends : Ascends 0 list
  pub low : Below least list
  pub below : Below n list
  pub counted : count ≡ arcs + length list
  pub room : count ≤ MOST_ARCS
  pub small : least ≤ n

pub order_none : (n arcs : ℕ) → arcs ≤ MOST_ARCS → InOrder n arcs [] 0 arcs
order_none n arcs room = record { ascends = tt; low = tt; below = tt; counted = omega arith; room = room; small = omega arith }

pub order_more : (n arcs : ℕ) (list : List ℕ) (least count v : ℕ) → InOrder n arcs list least count → least ≤ v → v < n → count < MOST_ARCS → InOrder n arcs (list ++ v ∷ []) (v + 1) (count + 1)
order_more n arcs list least count v h low page room = record {
  ascends = ascends_push 0 v list (omega arith) h.ascends (below_more least v list low h.low);
  low = below_push (v + 1) v list (omega arith) (below_more least (v + 1) list (omega arith) h.low);
  below = below_push n v list page h.below;
  counted = let at = h.counted in omega (arith, length_push list v);
  room = omega arith;
  small = omega arith;
}

-- some of the words of a page's line are read, and these come after them
pub record ListSoFar (n arcs : ℕ) (words rest : List (List ℕ)) (list : List ℕ) (least count : ℕ) : Type 0 where
  pub text : words ≡ map decimal list ++ rest
  pub order : InOrder n arcs list least count
  pub fault : fault_of_words n 0 arcs words ≡ fault_of_words n least count rest

pub list_more : (n arcs : ℕ) (words after : List (List ℕ)) (word list new : List ℕ) (least count v : ℕ) → n ≤ 2 ^ 64 → ListSoFar n arcs words (word ∷ after) list least count → IsNumber n least count word v → new ≡ list ++ v ∷ []
    → ListSoFar n arcs words after new (v + 1) (count + 1)
list_more n arcs words after word list new least count v small h is more =
    subst (λ (l : List ℕ). ListSoFar n arcs words after l (v + 1) (count + 1)) (sym more) (record {
      text = h.text ∙ ap (λ (w : List ℕ). map decimal list ++ w ∷ after) is.text ∙ sym (append_assoc (map decimal list) (decimal v ∷ []) after) ∙ ap (λ (l : List (List ℕ)). l ++ after) (sym (map-append decimal list (v ∷ [])));
      order = order_more n arcs list least count v h.order is.low is.page is.room;
      fault = h.fault ∙ past_word n least count word after v small is;
    })
