-- A text that was written is short.
use Rattle.std.proofs.Common.{◌≡◌, ℕ, ◌+◌, ◌*◌, ◌^◌, ◌<◌, ◌≤◌, List, [], ◌∷◌, length, length-append, map, ap, arith}
use Rattle.std.specs.Prelude.{Option, decimal, unwrap_or}
use Rattle.std.specs.List.{flat_map}
use Rattle.std.proofs.lemmas.Fmt.{length-decimal-le}
use Rattle.wg_params.specs.Parameters.{Parameters, IsWithinLimits}
use Rattle.wg_params.specs.declared.key.Key.{Key}
use Rattle.wg_params.specs.declared.limits.TheConstants.{MOST_CHAIN}
use Rattle.wg_properties.specs.Words.{name_of, word_of, class_name}
use Rattle.wg_properties.specs.Text.{chain_text, ended, written_flags, flags_text, joined_by_bars, text_of}
use Rattle.wg_properties.proofs.Reread.{line_of}
use Rattle.wg_properties.proofs.Reflagged.{AreWords, flag_words, few_words}
use Rattle.wg_properties.proofs.Readback.{comment, lines_are, written_pairs}

-- ---- words

short_name : (k : Key) → length (name_of k) ≤ 17
unfolding name_of
short_name k = grind arith

-- ---- values

short_number : (n : ℕ) → n < 2 ^ 64 → length (decimal n) ≤ 20
short_number n low = length-decimal-le 20 n (omega arith) (omega arith) low

short_chain : (chain : Option ℕ) → unwrap_or chain 0 ≤ MOST_CHAIN → length (chain_text chain) ≤ 20
short_chain chain h = grind (arith, short_number)

-- a bar and the blanks round it before each further word
joined_more : (w : List ℕ) (ws : List (List ℕ)) → length (joined_by_bars (w ∷ ws)) ≤ length w + 3 + length (joined_by_bars ws)
joined_more w [] = omega arith
joined_more w (v ∷ vs) = omega (arith, length-append w (32 ∷ 124 ∷ 32 ∷ joined_by_bars (v ∷ vs)))

joined_short : (ws : List (List ℕ)) → AreWords ws → length (joined_by_bars ws) ≤ 21 * length ws
joined_short [] are = omega arith
joined_short (w ∷ ws) are = omega (arith, joined_more w ws, are.0.few, joined_short ws are.1)

short_flags : (p : Parameters) → IsWithinLimits p → length (flags_text p) ≤ 126
short_flags p is = omega (arith, joined_short (map word_of (written_flags p)) (flag_words (written_flags p)), few_words p is)

short_class : length class_name ≤ 29
unfolding class_name
short_class = omega arith

-- ---- lines

-- the bytes of the values
abbrev in_values : List (Key × List ℕ) → ℕ
in_values [] = 0
in_values (p ∷ ps) = length p.1 + in_values ps

short_lines : (ps : List (Key × List ℕ)) → length (flat_map ended (map line_of ps)) ≤ 19 * length ps + in_values ps
short_lines [] = omega arith
short_lines (p ∷ ps) =
    omega (
      arith,
      length-append (ended (line_of p)) (flat_map ended (map line_of ps)),
      length-append (line_of p) (10 ∷ []),
      length-append (name_of p.0) (61 ∷ p.1),
      short_name p.0,
      short_lines ps,
    )

short_values : (p : Parameters) → IsWithinLimits p → in_values (written_pairs p) ≤ 296
short_values p is = omega (arith, short_number, short_chain, short_flags p is, short_class)

pub text_short : (p : Parameters) → IsWithinLimits p → length (text_of p) < 2 ^ 9
text_short p is =
    let lines : List (List ℕ) = map line_of (written_pairs p) in
    let cut : length (text_of p) ≡ length (flat_map ended (comment ∷ lines)) = ap (λ ls. length (flat_map ended ls)) (lines_are p) in
    omega (arith, cut, length-append (ended comment) (flat_map ended lines), short_lines (written_pairs p), short_values p is)
