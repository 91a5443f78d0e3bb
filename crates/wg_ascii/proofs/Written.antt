-- Lines in the form in which they are written, read number by number.
use Rattle.std.proofs.Common.{arith, ◌≡◌, ℕ, ◌+◌, ◌-◌, ◌<◌, ◌≤◌, ◌^◌, false, List, [], ◌∷◌, ◌++◌, length, take, drop, decimal, Result, Ok, Err, refl, sym, ap, subst, ◌∙◌, append_assoc, append-nil}
use Rattle.std.specs.Result.{OnOk, is_err}
use Rattle.std.proofs.lemmas.List.{take_rest, take-append-drop}
use Rattle.wg_params.specs.declared.limits.TheConstants.{MOST_ARCS}
use Rattle.wg_num.specs.Lines.{lines_of}
use Rattle.wg_graph.specs.Ascending.{Ascends, Below}
use Rattle.wg_ascii.specs.Text.{words_after, list_words, list_line}
use Rattle.wg_ascii.specs.Growing.{HasList}
use Rattle.wg_ascii.proofs.Successors.{InOrder, order_none, order_more}
use Rattle.wg_ascii.proofs.ReadBack.{line_back, words_plain, words_back}

-- the text of these numbers, a space after each
abbrev pub begun : List ℕ → List ℕ
begun [] = []
begun (v ∷ list) = decimal v ++ 32 ∷ begun list

begun_more : (list : List ℕ) (v : ℕ) → begun (list ++ v ∷ []) ≡ begun list ++ (decimal v ++ 32 ∷ [])
begun_more [] v = refl
begun_more (w ∷ list) v = ap (λ (l : List ℕ). decimal w ++ 32 ∷ l) (begun_more list v) ∙ sym (append_assoc (decimal w) (32 ∷ begun list) (decimal v ++ 32 ∷ []))

begun_after : (list : List ℕ) (v : ℕ) → 32 ∷ (begun list ++ decimal v) ≡ words_after (list ++ v ∷ [])
begun_after [] v = sym (append-nil (32 ∷ decimal v))
begun_after (w ∷ list) v = ap (λ (l : List ℕ). 32 ∷ l) (append_assoc (decimal w) (32 ∷ begun list) (decimal v) ∙ ap (λ (l : List ℕ). decimal w ++ l) (begun_after list v))

begun_words : (list : List ℕ) (v : ℕ) → begun list ++ decimal v ≡ list_words (list ++ v ∷ [])
begun_words [] v = sym (append-nil (decimal v))
begun_words (w ∷ list) v = append_assoc (decimal w) (32 ∷ begun list) (decimal v) ∙ ap (λ (l : List ℕ). decimal w ++ l) (begun_after list v)

-- a number at the front, and what follows it
pub parted : (rest after : List ℕ) (end v byte : ℕ) → take end rest ≡ decimal v → take (length rest - end) (drop end rest) ≡ byte ∷ after → rest ≡ decimal v ++ byte ∷ after
parted rest after end v byte front back = grind (arith, take_rest, take-append-drop)

-- numbers in order are read, a space after each, and this comes after them
pub record WrittenSoFar (n arcs : ℕ) (all rest list : List ℕ) (least count : ℕ) : Type 0 where
  pub text : all ≡ begun list ++ rest
  pub order : InOrder n arcs list least count

pub written_none : (n arcs : ℕ) (text list : List ℕ) → arcs ≤ MOST_ARCS → list ≡ [] → WrittenSoFar n arcs text text list 0 arcs
written_none n arcs text list room none = subst (λ (l : List ℕ). WrittenSoFar n arcs text text l 0 arcs) (sym none) (record { text = refl; order = order_none n arcs room })

pub written_more : (n arcs : ℕ) (text rest after list new : List ℕ) (least count v : ℕ) → WrittenSoFar n arcs text rest list least count → rest ≡ decimal v ++ 32 ∷ after → new ≡ list ++ v ∷ []
    → least ≤ v → v < n → count < MOST_ARCS → WrittenSoFar n arcs text after new (v + 1) (count + 1)
written_more n arcs text rest after list new least count v h is more low page room =
    subst (λ (l : List ℕ). WrittenSoFar n arcs text after l (v + 1) (count + 1)) (sym more) (record {
      text = h.text ∙ ap (λ (l : List ℕ). begun list ++ l) (is ∙ sym (append_assoc (decimal v) (32 ∷ []) after)) ∙ sym (append_assoc (begun list) (decimal v ++ 32 ∷ []) after) ∙ ap (λ (l : List ℕ). l ++ after) (sym (begun_more list v));
      order = order_more n arcs list least count v h.order low page room;
    })

-- the last number, and the line's end after it
pub written_line : (n arcs : ℕ) (text rest after list new : List ℕ) (least count v : ℕ) → WrittenSoFar n arcs text rest list least count → rest ≡ decimal v ++ 10 ∷ after → new ≡ list ++ v ∷ [] → text ≡ list_line new ++ after
written_line n arcs text rest after list new least count v h is more =
    subst (λ (l : List ℕ). text ≡ list_line l ++ after) (sym more)
    (h.text ∙ ap (λ (l : List ℕ). begun list ++ l) is ∙ sym (append_assoc (begun list) (decimal v) (10 ∷ after)) ∙ ap (λ (l : List ℕ). l ++ 10 ∷ after) (begun_words list v)
    ∙ sym (append_assoc (list_words (list ++ v ∷ [])) (10 ∷ []) after))

pub written_order : (n arcs : ℕ) (text rest list new : List ℕ) (least count v : ℕ) → WrittenSoFar n arcs text rest list least count → new ≡ list ++ v ∷ [] → least ≤ v → v < n → count < MOST_ARCS → InOrder n arcs new (v + 1) (count + 1)
written_order n arcs text rest list new least count v h more low page room = subst (λ (l : List ℕ). InOrder n arcs l (v + 1) (count + 1)) (sym more) (order_more n arcs list least count v h.order low page room)

-- a line without successors
pub none_line : (text after list : List ℕ) (first : ℕ) → text ≡ first ∷ after → first ≡ 10 → list ≡ []
    → text ≡ list_line list ++ after
none_line text after list first is end none =
    is ∙ ap (λ (b : ℕ). b ∷ after) end ∙ ap (λ (l : List ℕ). list_line l ++ after) (sym none)

-- the number is added if memory did not run out
pub added : {E : Type 0} (r : Result (Unit {0}) E) (list new : List ℕ) (v : ℕ) → OnOk r (new ≡ list ++ v ∷ [])
    → false ≡ is_err r → new ≡ list ++ v ∷ []
added (Ok done) list new v ok fine = ok
added (Err e) list new v ok fine = absurd (cc fine)

-- a line that is as it is written lists these successors
pub written_list : (n arcs : ℕ) (bytes after list : List ℕ) → n ≤ 2 ^ 64 → bytes ≡ list_line list ++ after → Ascends 0 list → Below n list → arcs + length list ≤ MOST_ARCS → HasList n arcs (lines_of bytes) (lines_of after) list
written_list n arcs bytes after list small is up below room = (
  list_words list,
  ap lines_of is ∙ line_back (list_words list) after (words_plain n list small below),
  record { text = words_back n list small below; ascends = up; below = below; room = room },
)
