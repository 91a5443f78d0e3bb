-- A text that was written, read again.
use Rattle.std.proofs.Common.{◌≡◌, ℕ, ◌+◌, ◌-◌, ◌%◌, ◌^◌, ◌<◌, ◌≤◌, Bool, true, false, ◌&&◌, leb, List, [], ◌∷◌, length, get_or, map, refl, sym, ap, subst, ◌∙◌, arith, codes}
use Rattle.std.specs.Prelude.{Option, Some, None, Ok, decimal, unwrap_or}
use Rattle.std.specs.List.{list_all, position_from}
use Rattle.std.specs.Str.{bytes_eq}
use Rattle.std.proofs.lemmas.Bool.{cases_lt, and_parts, and_from, leb-true, le-leb, le-ltb, ne_eqb, or_from, false≢true, false_from_ne_true, cond-false}
use Rattle.std.proofs.lemmas.List.{get_or_past}
use Rattle.std.proofs.lemmas.Fmt.{decimal_by_steps}
use Rattle.std.proofs.lemmas.Slice.Eq.{bytes_eq-Decides}
use Rattle.wg_num.specs.Decimal.{number_of}
use Rattle.wg_num.proofs.Numbers.{number_of-decimal}
use Rattle.wg_params.specs.Parameters.{Parameters, IsWithinLimits, layout_of}
use Rattle.wg_params.specs.declared.key.Key.{Key}
use Rattle.wg_params.specs.declared.key.Key.TheVariants as key
use Rattle.wg_params.specs.declared.limits.TheConstants.{MOST_PAGES, MOST_ARCS, MOST_WINDOW, MOST_CHAIN, MOST_INTERVAL, MOST_ZETA}
use Rattle.wg_num.specs.Lines.{lines_of, is_blank, without_blanks_before}
use Rattle.wg_properties.specs.Pairs.{first_continued, is_continued, pairs_of, value_of}
use Rattle.wg_properties.specs.Words.{name_of, class_name}
use Rattle.wg_properties.specs.Judged.{within, judged_class, judged_version, judged_endianness, judged_number, judged_chain, judged_zeta, judged_flags, judged, unless_continued, properties_of}
use Rattle.wg_properties.specs.Text.{flags_text, chain_text, written_lines, text_of}
use Rattle.wg_properties.proofs.Letters.{every_append, every_at, every_more, is_plain, IsValue}
use Rattle.wg_properties.proofs.Reread.{ArePlain, lines_again, AreValues, line_of, plain_lines, none_continued, pairs_again}
use Rattle.wg_properties.proofs.Reflagged.{flags_value, codes_again}

-- ---- numbers

abbrev is_digit : ℕ → Bool
is_digit b = leb 48 b && leb b 57

digit_here : (n : ℕ) → n < 10 → is_digit (48 + n) ≡ true
digit_here n lt = and_from _ _ (le-leb 48 (48 + n) (omega arith)) (le-leb (48 + n) 57 (omega arith))

decimal_digits : (n : ℕ) → n < 2 ^ 64 → list_all is_digit (decimal n) ≡ true
decimal_digits n low =
    decimal_by_steps (λ m ds. list_all is_digit ds ≡ true)
    (λ m lt. and_from (is_digit (48 + m)) true (digit_here m lt) refl)
    (λ m ds large rest. every_append is_digit ds ((48 + m % 10) ∷ []) rest (and_from (is_digit (48 + m % 10)) true (digit_here (m % 10) (omega arith)) refl))
    n low

digit_low : (b : ℕ) → is_digit b ≡ true → 48 ≤ b
digit_low b h = leb-true 48 b (and_parts (leb 48 b) (leb b 57) h).0

digit_plain : (b : ℕ) → is_digit b ≡ true → is_plain b ≡ true
digit_plain b h = grind (arith, and_from, le-leb, ne_eqb, digit_low, leb-true, and_parts)

no_blank_at : (ds : List ℕ) (i : ℕ) → list_all is_digit ds ≡ true → is_blank (get_or ds i 0) ≡ false
no_blank_at ds i h = grind (arith, cases_lt, ne_eqb, or_from, get_or_past, every_at, digit_low)

decimal_value : (n : ℕ) → n < 2 ^ 64 → IsValue (decimal n)
decimal_value n low =
    let ds = decimal_digits n low in record {
      plain = every_more is_digit is_plain digit_plain (decimal n) ds;
      first = no_blank_at (decimal n) 0 ds;
      last = no_blank_at (decimal n) (length (decimal n) - 1) ds;
    }

within_again : (k : Key) (least most n : ℕ) → least ≤ n → n ≤ most → n < 2 ^ 64 → within k least most (number_of (decimal n)) ≡ Ok n
within_again k least most n low high small = grind (arith, le-ltb, or_from, cond-false, number_of-decimal)

-- ---- the chain limit

not_minus_one : (n : ℕ) → n < 2 ^ 64 → bytes_eq (decimal n) (codes "-1") ≡ false
not_minus_one n low = false_from_ne_true _ (λ h.
    let same : decimal n ≡ codes "-1" = (bytes_eq-Decides (decimal n) (codes "-1")).0 h in
    false≢true (subst (λ ds. list_all is_digit ds ≡ true) same (decimal_digits n low)))

chain_value : (chain : Option ℕ) → unwrap_or chain 0 ≤ MOST_CHAIN → IsValue (chain_text chain)
chain_value None low = record { plain = refl; first = refl; last = refl }
chain_value (Some n) low = decimal_value n (omega (arith, low))

chain_again : (chain : Option ℕ) → unwrap_or chain 0 ≤ MOST_CHAIN → judged_chain (Some (chain_text chain)) ≡ Ok chain
chain_again chain h = grind (arith, within_again, not_minus_one)

-- ---- lines and pairs

abbrev pub written_pairs : Parameters → List (Key × List ℕ)
written_pairs p =
    (key.Version, codes "0") ∷ (key.Nodes, decimal p.nodes) ∷ (key.Arcs, decimal p.arcs) ∷ (key.WindowSize, decimal p.window) ∷ (key.MaxRefCount, chain_text p.chain)
    ∷ (key.MinIntervalLength, decimal p.interval) ∷ (key.ZetaK, decimal p.zeta) ∷ (key.CompressionFlags, flags_text p) ∷ (key.GraphClass, class_name) ∷ []

abbrev pub comment : List ℕ
comment = codes "#BVGraph properties"

pub lines_are : (p : Parameters) → written_lines p ≡ comment ∷ map line_of (written_pairs p)
unfolding written_lines
lines_are p = refl

class_value : IsValue class_name
unfolding class_name
class_value = record { plain = refl; first = refl; last = refl }

pub values_are : (p : Parameters) → IsWithinLimits p → AreValues (written_pairs p)
values_are p is = (
  record { plain = refl; first = refl; last = refl },
  (
    decimal_value p.nodes (omega (arith, is.nodes)),
    (
      decimal_value p.arcs (omega (arith, is.arcs)),
      (
        decimal_value p.window (omega (arith, is.window)),
        (
          chain_value p.chain is.chain,
          (
            decimal_value p.interval (omega (arith, is.interval)),
            (
              decimal_value p.zeta (omega (arith, is.zeta)),
              (
                flags_value p,
                (class_value, tt),
              ),
            ),
          ),
        ),
      ),
    ),
  ),
)

pub plain_all : (p : Parameters) → IsWithinLimits p → ArePlain (written_lines p)
plain_all p is = subst ArePlain (sym (lines_are p)) (refl, plain_lines (written_pairs p) (values_are p is))

pub text_lines : (p : Parameters) → IsWithinLimits p → lines_of (text_of p) ≡ comment ∷ map line_of (written_pairs p)
text_lines p is = lines_again (written_lines p) (plain_all p is) ∙ lines_are p

after_comment : (lines : List (List ℕ)) → pairs_of (comment ∷ lines) ≡ pairs_of lines
unfolding without_blanks_before
after_comment lines = refl

comment_stops : (lines : List (List ℕ)) → position_from is_continued 2 lines ≡ None → first_continued (comment ∷ lines) ≡ None
unfolding is_continued without_blanks_before
comment_stops lines e = e

abbrev named : Key × List ℕ → List ℕ × List ℕ
named q = (name_of q.0, q.1)

pub text_pairs : (p : Parameters) → IsWithinLimits p → pairs_of (lines_of (text_of p)) ≡ map named (written_pairs p)
text_pairs p is = ap pairs_of (text_lines p is) ∙ after_comment (map line_of (written_pairs p)) ∙ pairs_again (written_pairs p) (values_are p is)

pub text_goes_on : (p : Parameters) → IsWithinLimits p → first_continued (lines_of (text_of p)) ≡ None
text_goes_on p is = ap first_continued (text_lines p is) ∙ comment_stops (map line_of (written_pairs p)) (none_continued 2 (written_pairs p) (values_are p is))

-- ---- validated

judged_again : (v : Key → Option (List ℕ)) (p : Parameters)
    → judged_class (v key.GraphClass) ≡ Ok tt → judged_version (v key.Version) ≡ Ok tt → judged_endianness (v key.Endianness) ≡ Ok tt
    → judged_number key.Nodes MOST_PAGES (v key.Nodes) ≡ Ok p.nodes → judged_number key.Arcs MOST_ARCS (v key.Arcs) ≡ Ok p.arcs → judged_number key.WindowSize MOST_WINDOW (v key.WindowSize) ≡ Ok p.window
    → judged_chain (v key.MaxRefCount) ≡ Ok p.chain → judged_number key.MinIntervalLength MOST_INTERVAL (v key.MinIntervalLength) ≡ Ok p.interval → judged_zeta (v key.ZetaK) ≡ Ok p.zeta
    → judged_flags p.zeta (v key.CompressionFlags) ≡ Ok (layout_of p).codes → judged v ≡ Ok p
unfolding judged
judged_again v p e1 e2 e3 e4 e5 e6 e7 e8 e9 e10 = rw (e1, e2, e3, e4, e5, e6, e7, e8, e9, e10) refl

values_again : (p : Parameters) → IsWithinLimits p → judged (λ k. value_of (name_of k) (map named (written_pairs p))) ≡ Ok p
unfolding name_of class_name
values_again p is =
    judged_again (λ k. value_of (name_of k) (map named (written_pairs p))) p refl refl refl
    (within_again key.Nodes 0 MOST_PAGES p.nodes (omega arith) is.nodes (omega (arith, is.nodes)))
    (within_again key.Arcs 0 MOST_ARCS p.arcs (omega arith) is.arcs (omega (arith, is.arcs)))
    (within_again key.WindowSize 0 MOST_WINDOW p.window (omega arith) is.window (omega (arith, is.window)))
    (chain_again p.chain is.chain)
    (within_again key.MinIntervalLength 0 MOST_INTERVAL p.interval (omega arith) is.interval (omega (arith, is.interval)))
    (within_again key.ZetaK 1 MOST_ZETA p.zeta is.some_zeta is.zeta (omega (arith, is.zeta)))
    (codes_again p is)

pub read_again : (p : Parameters) → IsWithinLimits p → properties_of (text_of p) ≡ Ok p
unfolding properties_of
read_again p is =
    ap (λ first. unless_continued first (judged (λ k. value_of (name_of k) (pairs_of (lines_of (text_of p)))))) (text_goes_on p is)
    ∙ ap (λ pairs. judged (λ k. value_of (name_of k) pairs)) (text_pairs p is) ∙ values_again p is
