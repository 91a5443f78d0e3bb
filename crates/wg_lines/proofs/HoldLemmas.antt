-- How much is held of a file that is read in whole lines.
use Rattle.std.proofs.Common.{◌≡◌, ◌≢◌, inl, inr, ℕ, ◌+◌, ◌<◌, ◌≤◌, List, [], ◌++◌, length, get_or, take, drop, sym, ap, subst, ◌∙◌, arith, length-drop}
use Rattle.std.proofs.lemmas.Bool.{cases_lt}
use Rattle.std.proofs.lemmas.List.{append-nil, take-append-drop, get_or-drop, get_or_append_left}
use Rattle.std.proofs.lemmas.List.Elements.{All-drop, All-get_or, All-from_get_or}
use Rattle.wg_lines.specs.declared.reading.TheConstants.{PIECE}
use Rattle.wg_lines.specs.Reading.{HeldLines, HoldsAPiece, IsUnended, held_lines}

-- part of one line, lent or not
pub one_line : (first count : ℕ) (bytes : List ℕ) → IsUnended bytes → HoldsAPiece (held_lines first count bytes)
one_line first count bytes one = record {
  line = bytes;
  piece = [];
  is = take-append-drop count bytes ∙ sym (append-nil bytes);
  one = one;
  few = omega arith;
  rest = All-drop (λ b. b ≢ 10) count bytes one;
}

-- if no lines are lent, all that is held is part of one line
pub unlent : (h : HeldLines) (first whole : ℕ) (bytes : List ℕ) → held_lines first whole bytes ≡ h → h.lines ≡ [] → HoldsAPiece (held_lines first whole bytes) → IsUnended bytes
unlent view first whole bytes is lent h =
    let none : take whole bytes ≡ [] = ap (λ (v : HeldLines). v.lines) is ∙ lent in
    subst IsUnended (ap (λ (l : List ℕ). l ++ drop whole bytes) (sym none) ∙ take-append-drop whole bytes) h.rest

-- a piece more: behind those that are lent no line ends
pub piece_more : (first whole : ℕ) (old new piece : List ℕ) → new ≡ old ++ piece → IsUnended old → length piece ≤ PIECE
    → ((k : ℕ) → length old ≤ k → whole ≤ k → k < length new → get_or new k 0 ≢ 10) → HoldsAPiece (held_lines first whole new)
piece_more first whole old new piece is one few none = record {
  line = old;
  piece = piece;
  is = take-append-drop whole new ∙ is;
  one = one;
  few = few;
  rest = All-from_get_or (λ b. b ≢ 10) (drop whole new) 0 (λ i lt.
      let within : whole + i < length new = omega (arith, lt, length-drop whole new) in
      subst (λ (b : ℕ). b ≢ 10) (sym (get_or-drop whole new i 0))
      (elim (cases_lt (whole + i) (length old)) [
        | inl before ↦ subst (λ (b : ℕ). b ≢ 10) (sym (ap (λ (l : List ℕ). get_or l (whole + i) 0) is ∙ get_or_append_left old piece 0 (whole + i) before)) (All-get_or (λ b. b ≢ 10) old (whole + i) 0 before one)
        | inr behind ↦ none (whole + i) behind (omega arith) within
      ]));
}
