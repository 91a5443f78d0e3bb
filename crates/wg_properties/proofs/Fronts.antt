-- Fronts of a text that was written: they lack the class.
use Rattle.std.proofs.Common.{◌≡◌, ℕ, zero, suc, ◌+◌, ◌-◌, ◌<◌, ◌≤◌, Bool, true, false, not, ◌&&◌, cond, eqb, List, [], ◌∷◌, ◌++◌, length, take, map, refl, sym, ap, subst, ◌∙◌, length-append, inl, inr, arith, codes}
use Rattle.std.specs.Prelude.{Option, None, Result, Ok, Err, filter, IsErr, decimal}
use Rattle.std.specs.Result.{is_err}
use Rattle.std.specs.List.{list_all, flat_map, position_or_len, last_or}
use Rattle.std.specs.Str.{bytes_eq}
use Rattle.std.specs.Str.Lines.{strip_carriage_return}
use Rattle.std.proofs.Math.Seq.{take-append-add}
use Rattle.std.proofs.lemmas.Bool.{cases_Bool, cases_lt, and_parts, and_from, and_left, cond-true, cond-false, not_from_true, not_from_false, not-true, agree_below_at, true≢false}
use Rattle.std.proofs.lemmas.List.{append_assoc, append-nil, take-append-le, length-take-le}
use Rattle.std.proofs.lemmas.List.Concat.{flat_map-append}
use Rattle.wg_params.specs.Parameters.{Parameters, IsWithinLimits}
use Rattle.wg_params.specs.declared.key.Key.{Key}
use Rattle.wg_params.specs.declared.key.Key.TheVariants as key
use Rattle.wg_num.specs.Lines.{lines_of, without_empty_end, is_blank, without_blanks_before, without_blanks_after}
use Rattle.wg_properties.specs.Pairs.{is_skipped, ends_key, key_in, value_in, pairs_of, values_of}
use Rattle.wg_properties.specs.Words.{name_of, class_name, long_class_name}
use Rattle.wg_properties.specs.Judged.{judged_class, judged, properties_of}
use Rattle.wg_properties.specs.Text.{pair, chain_text, flags_text, ended, written_lines, text_of}
use Rattle.wg_properties.specs.declared.fault.PropFault.{PropFault}
use Rattle.wg_num.proofs.Cuts.{not_the_end, some_line}
use Rattle.wg_properties.proofs.Letters.{is_plain, blank_free_before}
use Rattle.wg_properties.proofs.Reread.{ArePlain, cut_lines, lines_again, no_returns, line_of}
use Rattle.wg_properties.proofs.Readback.{comment, plain_all}

-- ---- lines that do not name the class

-- neither a blank nor the first letter of the class's key
abbrev is_other : ℕ → Bool
is_other b = not (is_blank b) && not (eqb b 103)

abbrev begins_other : List ℕ → Bool
begins_other [] = true
begins_other (b ∷ bs) = is_other b

other-take : (n : ℕ) (line : List ℕ) → begins_other line ≡ true → begins_other (take n line) ≡ true
other-take zero line h = refl
other-take (suc n) [] h = refl
other-take (suc n) (b ∷ bs) h = h

plain-take : (n : ℕ) (line : List ℕ) → list_all is_plain line ≡ true → list_all is_plain (take n line) ≡ true
plain-take zero line h = refl
plain-take (suc n) [] h = refl
plain-take (suc n) (b ∷ bs) h = let parts = and_parts (is_plain b) (list_all is_plain bs) h in and_from (is_plain b) (list_all is_plain (take n bs)) parts.0 (plain-take n bs parts.1)

-- a plain line that does not name the class
record IsOther (line : List ℕ) : Type 0 where
  pub plain : list_all is_plain line ≡ true
  pub other : begins_other line ≡ true

abbrev AreOther : List (List ℕ) → Type 0
AreOther [] = Unit {0}
AreOther (line ∷ lines) = IsOther line × AreOther lines

are_plain : (lines : List (List ℕ)) → AreOther lines → ArePlain lines
are_plain [] are = tt
are_plain (line ∷ lines) are = (are.0.plain, are_plain lines are.1)

-- the values that lines have for the class
abbrev classes : List (List ℕ) → List (List ℕ)
classes lines = values_of (name_of key.GraphClass) (pairs_of lines)

key_more : (b : ℕ) (bs : List ℕ) → ends_key b ≡ false → key_in (b ∷ bs) ≡ b ∷ key_in bs
unfolding key_in
key_more b bs h = grind arith

key_none : (b : ℕ) (bs : List ℕ) → ends_key b ≡ true → key_in (b ∷ bs) ≡ []
unfolding key_in
key_none b bs h = ap (λ n. take n (b ∷ bs)) (cond-false (not (ends_key b)) (1 + position_or_len ends_key bs) 0 (not_from_true _ h))

other_key : (b : ℕ) (bs : List ℕ) → is_other b ≡ true → bytes_eq (key_in (b ∷ bs)) (name_of key.GraphClass) ≡ false
unfolding name_of
other_key b bs h = grind (arith, cases_Bool, and_parts, and_left, not-true, key_more, key_none)

abbrev kept_lines : List (List ℕ) → List (List ℕ)
kept_lines lines = filter (λ l. not (is_skipped l)) (map without_blanks_before lines)

abbrev pair_in : List ℕ → List ℕ × List ℕ
pair_in line = (key_in line, value_in line)

abbrev names_class : List ℕ × List ℕ → Bool
names_class p = bytes_eq p.0 (name_of key.GraphClass)

abbrev class_values : List (List ℕ) → List (List ℕ)
class_values kept = map (λ p. p.1) (filter names_class (map pair_in kept))

-- a line that does not name the class has no value for it
class_skips : (line : List ℕ) (lines : List (List ℕ)) → begins_other line ≡ true → classes (line ∷ lines) ≡ classes lines
class_skips [] lines h = ap (λ l. class_values (cond (not (is_skipped l)) (l ∷ kept_lines lines) (kept_lines lines))) (blank_free_before [] refl)
class_skips (b ∷ bs) lines h =
    let line : List ℕ = b ∷ bs in
    let kept : List (List ℕ) = kept_lines lines in
    let trimmed : without_blanks_before line ≡ line = blank_free_before line (not-true (is_blank b) (and_parts (not (is_blank b)) (not (eqb b 103)) h).0) in
    ap (λ l. class_values (cond (not (is_skipped l)) (l ∷ kept) kept)) trimmed
    ∙ elim (cases_Bool (is_skipped line)) [
      | inl k ↦ ap class_values (cond-false (not (is_skipped line)) (line ∷ kept) kept (not_from_true _ k))
      | inr k ↦ ap class_values (cond-true (not (is_skipped line)) (line ∷ kept) kept (not_from_false _ k))
          ∙ ap (map (λ p. p.1)) (cond-false (names_class (pair_in line)) (pair_in line ∷ filter names_class (map pair_in kept)) (filter names_class (map pair_in kept)) (other_key b bs h))
    ]

classes_skip : (lines rest : List (List ℕ)) → AreOther lines → classes (lines ++ rest) ≡ classes rest
classes_skip [] rest are = refl
classes_skip (line ∷ lines) rest are = class_skips line (lines ++ rest) are.0.other ∙ classes_skip lines rest are.1

-- ---- the front of some lines

lines_front : (lines : List (List ℕ)) (part : List ℕ) → ArePlain lines → list_all is_plain part ≡ true → 0 < length part → lines_of (flat_map ended lines ++ part) ≡ lines ++ part ∷ []
unfolding lines_of
lines_front lines part plain last some =
    ap (λ parts. map strip_carriage_return (without_empty_end parts)) (cut_lines lines part plain last)
    ∙ ap (map strip_carriage_return) (kept lines part some) ∙ no_returns (lines ++ part ∷ []) (both lines part plain last)
  where
    kept : (lines : List (List ℕ)) (part : List ℕ) → 0 < length part → without_empty_end (lines ++ part ∷ []) ≡ lines ++ part ∷ []
    kept [] part some = some_line part some
    kept (line ∷ lines) part some = not_the_end line (lines ++ part ∷ []) (omega (arith, length-append lines (part ∷ []))) ∙ ap (λ ls. line ∷ ls) (kept lines part some)

    both : (lines : List (List ℕ)) (part : List ℕ) → ArePlain lines → list_all is_plain part ≡ true → ArePlain (lines ++ part ∷ [])
    both [] part plain last = (last, tt)
    both (line ∷ lines) part plain last = (plain.0, both lines part plain.1 last)

-- some whole lines, and a part of the next
record IsFront (lines : List (List ℕ)) (n : ℕ) : Type 0 where
  pub whole : List (List ℕ)
  pub part : List ℕ
  pub is : take n (flat_map ended lines) ≡ flat_map ended whole ++ part
  pub others : AreOther whole
  pub part_is : IsOther part

take_none : (n : ℕ) → take {A = ℕ} n [] ≡ []
take_none n = grind arith

front_of : (n : ℕ) (lines : List (List ℕ)) → AreOther lines → IsFront lines n
front_of n [] are = record { whole = []; part = []; is = take_none n; others = tt; part_is = record { plain = refl; other = refl } }
front_of n (line ∷ lines) are =
    let rest : List ℕ = flat_map ended lines in
    let total : length (ended line) ≡ length line + 1 = length-append line (10 ∷ []) in
    elim (cases_lt (length line) n) [
      | inl past ↦
          let m : ℕ = n - length (ended line) in
          let f = front_of m lines are.1 in
          let size : n ≡ length (ended line) + m = omega (arith, total) in record {
            whole = line ∷ f.whole;
            part = f.part;
            is = ap (λ k. take k (ended line ++ rest)) size ∙ take-append-add (ended line) rest m ∙ ap (λ t. ended line ++ t) f.is ∙ sym (append_assoc (ended line) (flat_map ended f.whole) f.part);
            others = (are.0, f.others);
            part_is = f.part_is;
          }
      | inr within ↦ record {
        whole = [];
        part = take n line;
        is = take-append-le n (ended line) rest (omega (arith, total)) ∙ take-append-le n line (10 ∷ []) within;
        others = tt;
        part_is = record { plain = plain-take n line are.0.plain; other = other-take n line are.0.other };
      }
    ]

-- such a text has no class
no_class : (whole : List (List ℕ)) (part : List ℕ) → AreOther whole → IsOther part → classes (lines_of (flat_map ended whole ++ part)) ≡ []
no_class whole [] are is =
    ap (λ t. classes (lines_of t)) (append-nil (flat_map ended whole)) ∙ ap classes (lines_again whole (are_plain whole are))
    ∙ ap classes (sym (append-nil whole)) ∙ classes_skip whole [] are
no_class whole (b ∷ bs) are is =
    ap classes (lines_front whole (b ∷ bs) (are_plain whole are) is.plain (omega arith)) ∙ classes_skip whole ((b ∷ bs) ∷ []) are ∙ class_skips (b ∷ bs) [] is.other

-- ---- validated

class_refused : (v : Key → Option (List ℕ)) → is_err (judged_class (v key.GraphClass)) ≡ true → is_err (judged v) ≡ true
unfolding judged
class_refused v h = by_answer (judged_class (v key.GraphClass)) refl h
  where
    by_answer : (r : Result (Unit {0}) PropFault) → judged_class (v key.GraphClass) ≡ r → is_err r ≡ true → is_err (judged v) ≡ true
    by_answer (Ok x) e h = absurd (true≢false (sym h))
    by_answer (Err f) e h = rw e refl

text_refused : (bytes : List ℕ) → is_err (judged_class (last_or None (classes (lines_of bytes)))) ≡ true → IsErr (properties_of bytes)
unfolding properties_of
text_refused bytes h = grind (arith, class_refused)

-- ---- the whole text

-- the lines before the class
abbrev first_pairs : Parameters → List (Key × List ℕ)
first_pairs p =
    (key.Version, codes "0") ∷ (key.Nodes, decimal p.nodes) ∷ (key.Arcs, decimal p.arcs) ∷ (key.WindowSize, decimal p.window) ∷ (key.MaxRefCount, chain_text p.chain)
    ∷ (key.MinIntervalLength, decimal p.interval) ∷ (key.ZetaK, decimal p.zeta) ∷ (key.CompressionFlags, flags_text p) ∷ []

abbrev first_lines : Parameters → List (List ℕ)
first_lines p = comment ∷ map line_of (first_pairs p)

abbrev class_line : List ℕ
class_line = pair key.GraphClass class_name

text_parts : (p : Parameters) → text_of p ≡ flat_map ended (first_lines p) ++ ended class_line
unfolding written_lines
text_parts p = flat_map-append ended (first_lines p) (class_line ∷ []) ∙ ap (λ t. flat_map ended (first_lines p) ++ t) (append-nil (ended class_line))

first_plain : (p : Parameters) → IsWithinLimits p → ArePlain (first_lines p)
unfolding written_lines
first_plain p is =
    let all = plain_all p is in (all.0, (all.1.0, (all.1.1.0, (all.1.1.1.0, (all.1.1.1.1.0, (all.1.1.1.1.1.0, (all.1.1.1.1.1.1.0, (all.1.1.1.1.1.1.1.0, (all.1.1.1.1.1.1.1.1.0, tt)))))))))

first_other : (p : Parameters) → IsWithinLimits p → AreOther (first_lines p)
unfolding name_of
first_other p is =
    let plain = first_plain p is in (
      record { plain = plain.0; other = refl },
      (
        record { plain = plain.1.0; other = refl },
        (
          record { plain = plain.1.1.0; other = refl },
          (
            record { plain = plain.1.1.1.0; other = refl },
            (
              record { plain = plain.1.1.1.1.0; other = refl },
              (
                record { plain = plain.1.1.1.1.1.0; other = refl },
                (
                  record { plain = plain.1.1.1.1.1.1.0; other = refl },
                  (
                    record { plain = plain.1.1.1.1.1.1.1.0; other = refl },
                    (record { plain = plain.1.1.1.1.1.1.1.1.0; other = refl }, tt),
                  ),
                ),
              ),
            ),
          ),
        ),
      ),
    )

class_length : length class_line ≡ 40
unfolding name_of class_name
class_length = refl

class_plain : list_all is_plain class_line ≡ true
unfolding name_of class_name
class_plain = refl

-- whether the first k bytes of the class's line are refused
abbrev part_refused : ℕ → Bool
part_refused k = is_err (judged_class (last_or None (classes (take k class_line ∷ []))))

parts_refused : (k : ℕ) → k < 40 → part_refused k ≡ true
unfolding name_of class_name long_class_name key_in value_in without_blanks_before without_blanks_after
parts_refused k lt = agree_below_at part_refused (λ _. true) 40 k refl lt

early_front : (p : Parameters) → IsWithinLimits p → (n : ℕ) → n ≤ length (flat_map ended (first_lines p)) → IsErr (properties_of (take n (text_of p)))
early_front p is n le =
    let f = front_of n (first_lines p) (first_other p is) in
    let front : take n (text_of p) ≡ flat_map ended f.whole ++ f.part = ap (take n) (text_parts p) ∙ take-append-le n (flat_map ended (first_lines p)) (ended class_line) le ∙ f.is in
    text_refused (take n (text_of p)) (ap (λ t. is_err (judged_class (last_or None (classes (lines_of t))))) front ∙ ap (λ vs. is_err (judged_class (last_or None vs))) (no_class f.whole f.part f.others f.part_is))

late_front : (p : Parameters) → IsWithinLimits p → (k : ℕ) → 0 < k → k < 40 → IsErr (properties_of (take (length (flat_map ended (first_lines p)) + k) (text_of p)))
late_front p is k some lt =
    let lines : List (List ℕ) = first_lines p in
    let n : ℕ = length (flat_map ended lines) + k in
    let short : k ≤ length class_line = omega (arith, class_length) in
    let part : List ℕ = take k class_line in
    let front : take n (text_of p) ≡ flat_map ended lines ++ part =
    ap (take n) (text_parts p) ∙ take-append-add (flat_map ended lines) (ended class_line) k ∙ ap (λ t. flat_map ended lines ++ t) (take-append-le k class_line (10 ∷ []) short) in
    let count : 0 < length part = omega (arith, length-take-le k class_line short) in
    let cut : lines_of (take n (text_of p)) ≡ lines ++ part ∷ [] = ap lines_of front ∙ lines_front lines part (first_plain p is) (plain-take k class_line class_plain) count in
    text_refused (take n (text_of p))
    (ap (λ ls. is_err (judged_class (last_or None (classes ls)))) cut ∙ ap (λ vs. is_err (judged_class (last_or None vs))) (classes_skip lines (part ∷ []) (first_other p is)) ∙ parts_refused k lt)

pub front_refused : (p : Parameters) (n : ℕ) → IsWithinLimits p → n + 1 < length (text_of p) → IsErr (properties_of (take n (text_of p)))
front_refused p n is lt =
    let first : ℕ = length (flat_map ended (first_lines p)) in
    let total : length (text_of p) ≡ first + 41 = ap length (text_parts p) ∙ length-append (flat_map ended (first_lines p)) (ended class_line) ∙ ap (λ k. first + k) (length-append class_line (10 ∷ []) ∙ ap (λ k. k + 1) class_length) in
    elim (cases_lt first n) [
      | inl past ↦ let size : first + (n - first) ≡ n = omega arith in subst (λ m. IsErr (properties_of (take m (text_of p)))) size (late_front p is (n - first) (omega arith) (omega (arith, total)))
      | inr early ↦ early_front p is n early
    ]
