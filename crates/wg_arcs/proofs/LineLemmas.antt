-- What one line more changes.
use Rattle.std.proofs.Common.{◌≡◌, ℕ, ◌+◌, ◌<◌, ◌≤◌, ◌^◌, false, List, [], ◌∷◌, ◌++◌, length, codes, decimal, Option, Some, None, sym, ap, subst, ◌∙◌, arith, length-append, append_assoc, ◌-◌, take, drop, get_or}
use Rattle.std.specs.Prelude.{option_to_list}
use Rattle.std.proofs.lemmas.List.{take_all, take_more, take_rest, take-append-drop}
use Rattle.wg_arcs.specs.Growing.{ArcLinesRead}
use Rattle.wg_arcs.specs.Growing.{IsFirst, IsRefusedLine, IsUpTo, with_line}
use Rattle.wg_num.specs.Lines.{lines_of}
use Rattle.wg_num.specs.Words.{words_of}
use Rattle.wg_arcs.specs.Numbers.{judged, number_in, numbers_on}
use Rattle.wg_arcs.specs.Reading.{arc_at, arc_in, fault_after, is_skipped, refusal_after}
use Rattle.wg_arcs.specs.declared.fault.ArcsKind.{ArcsKind}
use Rattle.wg_arcs.specs.declared.fault.ArcsError.{ArcsError}
use Rattle.wg_arcs.specs.Text.{arc_line}
use Rattle.wg_arcs.proofs.Order.{Arc}
use Rattle.wg_arcs.proofs.ReadBack.{arc_at_bare, bare, plain_fault, plain_line, with_end}
use Rattle.wg_arcs.proofs.Soundness.{line_read, line_refused}

-- one line more was read
pub line_more : (s t : ArcLinesRead) (a : Option Arc) → t ≡ with_line s a → t.line ≡ s.line + 1
line_more s t a h = grind arith

-- a plain line is not empty
pub line_taken : (u v : ℕ) (text rest : List ℕ) → text ≡ arc_line (u, v) ++ rest → length rest < length text
line_taken u v text rest is =
    let all = length-append (decimal u ++ codes " " ++ decimal v) (codes "\n") in
    omega (arith, ap length is, length-append (arc_line (u, v)) rest)

-- a plain line is read, or refused for its arc
module _ (a : Arc) (text rest : List ℕ) (line : text ≡ arc_line a ++ rest) (low : (a.0 < 2 ^ 64) × (a.1 < 2 ^ 64)) (s : ArcLinesRead) (all later : List (List ℕ)) (arcs : List Arc) (up : IsUpTo all (lines_of text ++ later) arcs s) where
  here : lines_of text ≡ bare a ∷ lines_of rest
  here = ap lines_of line ∙ plain_line a rest low.0 low.1

  fault : fault_after s.nodes s.last s.arcs (bare a) ≡ refusal_after s.nodes s.last s.arcs (Some a)
  fault = plain_fault s.nodes s.arcs s.last a low.0 low.1

  pub plain_read : (t : ArcLinesRead) → refusal_after s.nodes s.last s.arcs (Some a) ≡ None → t ≡ with_line s (Some a) → IsUpTo all (lines_of rest ++ later) (arcs ++ option_to_list (Some a)) t
  plain_read t fine new = line_read all later text rest _ arcs s t _ here (fault ∙ fine) (sym (arc_at_bare a low.0 low.1)) new up

  pub plain_refused : (e : ArcsError) → IsRefusedLine (s.line + 1) (refusal_after s.nodes s.last s.arcs (Some a)) e → IsFirst s.nodes all e
  plain_refused e refused = line_refused all later text rest _ arcs s e here (subst (λ (f : Option ArcsKind). IsRefusedLine (s.line + 1) f e) (sym fault) refused) up

-- a number at the front, and the byte behind it
pub after_number : (text rest digits : List ℕ) (i byte : ℕ) → take i text ≡ digits
    → take (length text - i) (drop i text) ≡ byte ∷ rest → text ≡ digits ++ byte ∷ rest
after_number text rest digits i byte front back = grind (arith, take_rest, take-append-drop)

-- the digits of a page and a space at the front, and what follows
pub after_start : (page : ℕ) (text start : List ℕ) → start ≡ decimal page ++ codes " "
    → text ≡ start ++ drop (length start) text
    → text ≡ decimal page ++ 32 ∷ take (length text - length start) (drop (length start) text)
after_start page text start is front =
    let second = take (length text - length start) (drop (length start) text) in
    front ∙ ap (λ (l : List ℕ). start ++ l) (sym (take_rest text _))
    ∙ ap (λ (l : List ℕ). l ++ second) is ∙ append_assoc _ _ second

-- two numbers make a plain line
pub plain_text : (u v : ℕ) (text second rest : List ℕ) → text ≡ decimal u ++ 32 ∷ second
    → second ≡ decimal v ++ 10 ∷ rest → text ≡ arc_line (u, v) ++ rest
plain_text u v text second rest first next =
    first ∙ ap (λ (l : List ℕ). decimal u ++ 32 ∷ l) next
    ∙ sym (append_assoc _ _ (10 ∷ rest)) ∙ sym (with_end (u, v) rest)

-- one byte more is the same
pub same_more : (text front : List ℕ) (i : ℕ) → take i text ≡ take i front → get_or text i 0 ≡ get_or front i 0
    → i < length front → length front ≤ length text → take (i + 1) text ≡ take (i + 1) front
same_more text front i same byte lt long =
    take_more text i 0 (omega arith) ∙ ap (λ (l : List ℕ). l ++ get_or text i 0 ∷ []) same
    ∙ ap (λ (b : ℕ). take i front ++ b ∷ []) byte ∙ sym (take_more front i 0 lt)

-- all bytes are the same
pub same_front : (text front : List ℕ) (i : ℕ) → take i text ≡ take i front → length front ≤ i → i ≤ length front
    → text ≡ front ++ drop (length front) text
same_front text front i same past within = grind (arith, take_all, take-append-drop)

-- ---- a line that is not skipped

module _ (text first : List ℕ) (words : List (List ℕ)) (is : words_of text ≡ first ∷ words)
    (entry : is_skipped (words_of text) ≡ false) where
  -- its arc
  pub entry_arc : (a : Option Arc) → a ≡ arc_in (first ∷ words) → a ≡ arc_at text
  entry_arc a e = rw entry (e ∙ ap arc_in (sym is))

  -- its fault is that of its arc
  pub entry_fault : (n count : ℕ) (last a : Option Arc) → a ≡ arc_in (first ∷ words)
      → fault_after n last count text ≡ refusal_after n last count a
  entry_fault n count last a e = rw entry (ap (refusal_after n last count) (ap arc_in is ∙ sym e))

  -- its number is checked
  pub entry_judged : (n limit line before : ℕ) (a : Option ℕ) → a ≡ number_in (first ∷ words)
      → numbers_on n limit line before text ≡ judged n limit line before a
  entry_judged n limit line before a e = rw entry (ap (judged n limit line before) (ap number_in is ∙ sym e))
