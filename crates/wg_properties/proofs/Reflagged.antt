-- Flags that were written, read again.
use Rattle.std.proofs.Common.{◌≡◌, ℕ, ◌+◌, ◌-◌, ◌<◌, ◌≤◌, Bool, true, false, not, cond, ◌&&◌, ◌||◌, eqb, leb, List, [], ◌∷◌, ◌++◌, length, take, drop, get_or, map, reverse, refl, sym, ap, subst, ◌∙◌, length-append, inl, inr, arith}
use Rattle.std.specs.Prelude.{Option, Some, Ok, All, filter}
use Rattle.std.specs.List.{list_all, prefix_len, slice_split, count_by}
use Rattle.std.proofs.lemmas.Bool.{cases_lt, and_parts, and_from, or_cases, leb-true, le-leb, eq-eqb, eqb-true, ne_eqb, or_from, not-true}
use Rattle.std.proofs.lemmas.List.{append_assoc, reverse-append, take-append-le, get_or-append_right, get_or_past, length-map}
use Rattle.std.proofs.lemmas.Simd.{map-map}
use Rattle.std.proofs.lemmas.List.Folds.{length-prefix_len}
use Rattle.std.proofs.lemmas.List.Sums.{AllPass-from_list_all, length-filter}
use Rattle.std.proofs.lemmas.List.Splits.{slice_split_at, slice_split_none}
use Rattle.wg_params.specs.Parameters.{Parameters, AreCodes, IsWithinLimits, layout_of, default_codes}
use Rattle.wg_params.specs.contracts.code.CodePartialEq.TheImpl as code
use Rattle.wg_params.proofs.FieldCodes.{two_codes, three_codes, four_codes}
use Rattle.wg_params.specs.declared.code.Code.{Code}
use Rattle.wg_params.specs.declared.layout.Codes.{Codes}
use Rattle.wg_properties.specs.declared.flags.Field.{Field}
use Rattle.wg_properties.specs.declared.flags.Field.TheVariants.{Outdegrees, Blocks, References, BlockCounts, Residuals, Offsets}
use Rattle.wg_properties.specs.declared.flags.Form.{Form}
use Rattle.wg_properties.specs.declared.flags.TheConstants.{FLAGS}
use Rattle.wg_num.specs.Lines.{is_blank, without_blanks_before, without_blanks_after}
use Rattle.wg_properties.specs.Flags.{code_of, with_code, with_flag, flag_of, codes_from, pieces_of, codes_of}
use Rattle.wg_properties.specs.Words.{Flag, front_of, end_of, word_of}
use Rattle.wg_properties.specs.Text.{holds, is_written, written_flags, joined_by_bars, flags_text}
use Rattle.wg_properties.proofs.Letters.{every_append, every_at, every_more, is_plain, blank_free_before, blank_free_after, IsValue}
use Rattle.wg_properties.proofs.Pieces.{is_bar, trimmed, pieces_are}

-- ---- the words of flags

-- a capital or an underscore
abbrev pub is_capital : ℕ → Bool
is_capital b = (leb 65 b && leb b 90) || eqb b 95

capital_no_blank : (b : ℕ) → is_capital b ≡ true → is_blank b ≡ false
capital_no_blank b h = grind (arith, ne_eqb, or_from, or_cases, leb-true, and_parts, eqb-true)

capital_plain : (b : ℕ) → is_capital b ≡ true → is_plain b ≡ true
capital_plain b h =
    elim (or_cases (leb 65 b && leb b 90) (eqb b 95) h) [
      | inl k ↦ let parts = and_parts (leb 65 b) (leb b 90) k in let least = leb-true 65 b parts.0 in let most = leb-true b 90 parts.1 in plain_of b (omega arith) (λ e. omega arith)
      | inr k ↦ let same = eqb-true b 95 k in plain_of b (omega arith) (λ e. omega arith)
    ]
  where
    plain_of : (b : ℕ) → 14 ≤ b → (b ≡ 92 → ⊥) → is_plain b ≡ true
    plain_of b low other = and_from _ _ (le-leb 14 b low) (ap not (ne_eqb b 92 other))

pub record IsWord (most : ℕ) (w : List ℕ) : Type 0 where
  pub some : 0 < length w
  pub few : length w ≤ most
  pub capitals : list_all is_capital w ≡ true

front_is : (field : Field) → IsWord 12 (front_of field)
unfolding front_of
front_is field = grind arith

end_is : (form : Form) → IsWord 6 (end_of form)
unfolding end_of
end_is form = grind arith

abbrev pub AreWords : List (List ℕ) → Type 0
AreWords [] = Unit {0}
AreWords (w ∷ ws) = IsWord 18 w × AreWords ws

both_are : (a b : List ℕ) → IsWord 12 a → IsWord 6 b → IsWord 18 (a ++ b)
both_are a b front end =
    let size = length-append a b in record {
      some = omega (arith, size, front.some);
      few = omega (arith, size, front.few, end.few);
      capitals = every_append is_capital a b front.capitals end.capitals;
    }

pub flag_words : (fs : List Flag) → AreWords (map word_of fs)
flag_words [] = tt
flag_words (f ∷ fs) = (both_are (front_of f.0) (end_of f.1) (front_is f.0) (end_is f.1), flag_words fs)

-- ---- blanks round a word

blank_front : (x : List ℕ) → without_blanks_before (32 ∷ x) ≡ without_blanks_before x
unfolding without_blanks_before
blank_front x = grind arith

blank_end : (x : List ℕ) → without_blanks_after (x ++ 32 ∷ []) ≡ without_blanks_after x
unfolding without_blanks_after
blank_end x =
    let y : List ℕ = x ++ 32 ∷ [] in
    let k : ℕ = prefix_len is_blank (reverse x) in
    let turned : reverse y ≡ 32 ∷ reverse x = reverse-append x (32 ∷ []) in
    let count : length (take (prefix_len is_blank (reverse y)) (reverse y)) ≡ 1 + k = length-prefix_len is_blank (reverse y) ∙ ap (prefix_len is_blank) turned in
    let old : length (take k (reverse x)) ≡ k = length-prefix_len is_blank (reverse x) in
    let less : length y - length (take (prefix_len is_blank (reverse y)) (reverse y)) ≡ length x - length (take k (reverse x)) = omega (arith, count, old, length-append x (32 ∷ [])) in
    ap (λ n. take n y) less ∙ take-append-le (length x - length (take k (reverse x))) x (32 ∷ []) (omega arith)

no_blank_at : (w : List ℕ) (i : ℕ) → list_all is_capital w ≡ true → is_blank (get_or w i 0) ≡ false
no_blank_at w i h = grind (arith, cases_lt, get_or_past, every_at, capital_no_blank)

word_after : (w : List ℕ) → IsWord 18 w → without_blanks_after w ≡ w
word_after w is = blank_free_after w (no_blank_at w (length w - 1) is.capitals)

fronted_after : (w : List ℕ) → IsWord 18 w → without_blanks_after (32 ∷ w) ≡ 32 ∷ w
fronted_after w is = grind (arith, blank_free_after, no_blank_at)

abbrev fronted : Bool → List ℕ → List ℕ
fronted true w = 32 ∷ w
fronted false w = w

trim_fronted : (b : Bool) (w : List ℕ) → IsWord 18 w → trimmed (fronted b w) ≡ w
trim_fronted true w is = grind (arith, blank_front, fronted_after, no_blank_at, blank_free_before)
trim_fronted false w is = grind (arith, word_after, no_blank_at, blank_free_before)

trim_ended : (b : Bool) (w : List ℕ) → IsWord 18 w → trimmed (fronted b w ++ 32 ∷ []) ≡ w
trim_ended b w is = ap without_blanks_before (blank_end (fronted b w)) ∙ trim_fronted b w is

-- ---- pieces

abbrev no_bar : ℕ → Bool
no_bar b = not (eqb b 124)

none_bar : (w : List ℕ) → list_all no_bar w ≡ true → All (λ b. is_bar b ≡ false) w
none_bar w h i d lt = not-true (eqb (get_or w i d) 124) (AllPass-from_list_all no_bar w h i d lt)

word_no_bar : (b : Bool) (w : List ℕ) → IsWord 18 w → list_all no_bar (fronted b w) ≡ true
word_no_bar b w h = grind (arith, every_more, or_cases, leb-true, and_parts, ne_eqb, eqb-true)

fronted_more : (b : Bool) (w rest : List ℕ) → fronted b (w ++ (32 ∷ 124 ∷ rest)) ≡ (fronted b w ++ 32 ∷ []) ++ 124 ∷ rest
fronted_more b w rest = grind (arith, append_assoc)

pieces_again : (b : Bool) (w : List ℕ) (ws : List (List ℕ)) → AreWords (w ∷ ws) → map trimmed (slice_split is_bar (fronted b (joined_by_bars (w ∷ ws)))) ≡ w ∷ ws
pieces_again b w [] are = ap (map trimmed) (slice_split_none is_bar (fronted b w) (none_bar (fronted b w) (word_no_bar b w are.0))) ∙ ap (λ x. x ∷ []) (trim_fronted b w are.0)
pieces_again b w (v ∷ vs) are =
    let rest : List ℕ = 32 ∷ joined_by_bars (v ∷ vs) in
    let first : List ℕ = fronted b w ++ 32 ∷ [] in
    let free : list_all no_bar first ≡ true = every_append no_bar (fronted b w) (32 ∷ []) (word_no_bar b w are.0) refl in
    ap (λ text. map trimmed (slice_split is_bar text)) (fronted_more b w rest)
    ∙ ap (map trimmed) (slice_split_at is_bar first 124 rest (none_bar first free) refl)
    ∙ (λ i. trim_ended b w are.0 i ∷ pieces_again true v vs are.1 i)

joined_some : (w : List ℕ) (ws : List (List ℕ)) → 0 < length w → 0 < length (joined_by_bars (w ∷ ws))
joined_some w [] some = some
joined_some w (v ∷ vs) some = omega (arith, length-append w (32 ∷ 124 ∷ 32 ∷ joined_by_bars (v ∷ vs)))

pub words_again : (ws : List (List ℕ)) → AreWords ws → pieces_of (joined_by_bars ws) ≡ ws
words_again [] are = refl
words_again (w ∷ ws) are = pieces_are (joined_by_bars (w ∷ ws)) (joined_some w ws are.0.some) ∙ pieces_again false w ws are

-- ---- a written value of flags

joined_plain : (ws : List (List ℕ)) → AreWords ws → list_all is_plain (joined_by_bars ws) ≡ true
joined_plain [] are = refl
joined_plain (w ∷ []) are = every_more is_capital is_plain capital_plain w are.0.capitals
joined_plain (w ∷ v ∷ vs) are = every_append is_plain w (32 ∷ 124 ∷ 32 ∷ joined_by_bars (v ∷ vs)) (every_more is_capital is_plain capital_plain w are.0.capitals) (joined_plain (v ∷ vs) are.1)

first_of : (w rest : List ℕ) → IsWord 18 w → is_blank (get_or (w ++ rest) 0 0) ≡ false
first_of [] rest is = absurd (omega (arith, is.some))
first_of (b ∷ bs) rest is = capital_no_blank b (and_parts (is_capital b) (list_all is_capital bs) is.capitals).0

joined_first : (ws : List (List ℕ)) → AreWords ws → is_blank (get_or (joined_by_bars ws) 0 0) ≡ false
joined_first [] are = refl
joined_first (w ∷ []) are = no_blank_at w 0 are.0.capitals
joined_first (w ∷ v ∷ vs) are = first_of w (32 ∷ 124 ∷ 32 ∷ joined_by_bars (v ∷ vs)) are.0

last_append : (xs ys : List ℕ) → 0 < length ys → get_or (xs ++ ys) (length (xs ++ ys) - 1) 0 ≡ get_or ys (length ys - 1) 0
last_append xs ys some =
    let total = length-append xs ys in
    get_or-append_right xs ys (length xs) (length (xs ++ ys) - 1) 0 refl (omega (arith, total))
    ∙ ap (λ n. get_or ys n 0) (let e : length (xs ++ ys) - 1 - length xs ≡ length ys - 1 = omega (arith, total) in e)

joined_last : (ws : List (List ℕ)) → AreWords ws → is_blank (get_or (joined_by_bars ws) (length (joined_by_bars ws) - 1) 0) ≡ false
joined_last [] are = refl
joined_last (w ∷ []) are = no_blank_at w (length w - 1) are.0.capitals
joined_last (w ∷ v ∷ vs) are =
    let rest : List ℕ = joined_by_bars (v ∷ vs) in
    ap is_blank (last_append w (32 ∷ 124 ∷ 32 ∷ rest) (omega arith) ∙ last_append (32 ∷ 124 ∷ 32 ∷ []) rest (joined_some v vs are.1.0.some))
    ∙ joined_last (v ∷ vs) are.1

pub flags_value : (p : Parameters) → IsValue (flags_text p)
flags_value p =
    let words : List (List ℕ) = map word_of (written_flags p) in
    let are = flag_words (written_flags p) in record { plain = joined_plain words are; first = joined_first words are; last = joined_last words are }

-- ---- the flags that words name

named_again : map flag_of (map word_of FLAGS) ≡ map Some FLAGS
unfolding flag_of front_of end_of
named_again = refl

-- what two functions agree on, they agree on in a part
agree_in_part : (f g : Flag → Option Flag) (q : Flag → Bool) (flags : List Flag) → map f flags ≡ map g flags → map f (filter q flags) ≡ map g (filter q flags)
agree_in_part f g q [] h = refl
agree_in_part f g q (x ∷ xs) h = grind (arith, agree_in_part f g q xs)

written_again : (p : Parameters) → map flag_of (map word_of (written_flags p)) ≡ map Some (written_flags p)
written_again p =
    map-map flag_of word_of (written_flags p)
    ∙ agree_in_part (λ (f : Flag). flag_of (word_of f)) Some (is_written p) FLAGS (sym (map-map flag_of word_of FLAGS) ∙ named_again)

-- ---- the codes that written flags give

abbrev with_flags : ℕ → Codes → List Flag → Codes
with_flags zeta c [] = c
with_flags zeta c (f ∷ fs) = with_flags zeta (with_flag zeta c f) fs

known_flags : (zeta i : ℕ) (c : Codes) (fs : List Flag) → codes_from zeta i c (map Some fs) ≡ Ok (with_flags zeta c fs)
known_flags zeta i c [] = refl
known_flags zeta i c (f ∷ fs) = known_flags zeta (i + 1) (with_flag zeta c f) fs

-- the code of a field
abbrev code_at : Codes → Field → Code
code_at c Outdegrees = c.outdegrees
code_at c Blocks = c.blocks
code_at c References = c.references
code_at c BlockCounts = c.block_counts
code_at c Residuals = c.residuals
code_at c Offsets = c.offsets

-- the codes after some of the flags, each of which is taken or leaves its field as it is
abbrev with_some : (Flag → Bool) → ℕ → Codes → List Flag → Codes
with_some q zeta c [] = c
with_some q zeta c (f ∷ fs) = with_some q zeta (with_code c f.0 (cond (q f) (code_of zeta f.1) (code_at c f.0))) fs

left_alone : (c : Codes) (field : Field) → with_code c field (code_at c field) ≡ c
left_alone c field = grind arith

taken_or_left : (q : Flag → Bool) (zeta : ℕ) (c : Codes) (fs : List Flag) → with_flags zeta c (filter q fs) ≡ with_some q zeta c fs
taken_or_left q zeta c [] = refl
taken_or_left q zeta c (f ∷ fs) = grind (arith, left_alone, taken_or_left q zeta (with_flag zeta c f) fs, taken_or_left q zeta c fs)

-- whether a flag says a code of these that is not the default
abbrev is_other : ℕ → Codes → Flag → Bool
is_other zeta c flag = holds zeta c flag && not (holds zeta (default_codes zeta) flag)

-- what the flags of codes make of the defaults
abbrev remade : ℕ → Codes → Codes
remade zeta c = with_some (is_other zeta c) zeta (default_codes zeta) FLAGS

-- the flags of a field
abbrev flags_at : Field → List Flag
flags_at Outdegrees = take 2 FLAGS
flags_at Blocks = take 2 (drop 2 FLAGS)
flags_at References = take 3 (drop 4 FLAGS)
flags_at BlockCounts = take 3 (drop 7 FLAGS)
flags_at Residuals = take 4 (drop 10 FLAGS)
flags_at Offsets = drop 14 FLAGS

same_code : (c : Code) → code.ghosts.eq c c ≡ true
same_code c = grind (arith, eq-eqb)

-- a field's code is made again, and by at most one flag
abbrev IsRemade : ℕ → Codes → Field → Code → Type 0
IsRemade zeta c field code =
    ◌≡◌ {A = Code × Bool} (code_at (remade zeta (with_code c field code)) field, leb (count_by (is_other zeta (with_code c field code)) (flags_at field)) 1) (code, true)

all_remade : (zeta : ℕ) (c : Codes) → AreCodes zeta c → (field : Field) → IsRemade zeta c field (code_at c field)
all_remade zeta c is Outdegrees = two_codes (IsRemade zeta c Outdegrees) c.outdegrees is.outdegrees (simp same_code) (simp same_code)
all_remade zeta c is Blocks = two_codes (IsRemade zeta c Blocks) c.blocks is.blocks (simp same_code) (simp same_code)
all_remade zeta c is References = three_codes (IsRemade zeta c References) c.references is.references (simp same_code) (simp same_code) (simp same_code)
all_remade zeta c is BlockCounts = three_codes (IsRemade zeta c BlockCounts) c.block_counts is.block_counts (simp same_code) (simp same_code) (simp same_code)
all_remade zeta c is Residuals = four_codes (IsRemade zeta c Residuals) zeta c.residuals is.residuals (simp same_code) (simp same_code) (simp same_code) (simp same_code)
all_remade zeta c is Offsets = two_codes (IsRemade zeta c Offsets) c.offsets is.offsets (simp same_code) (simp same_code)

remade_same : (zeta : ℕ) (c : Codes) → AreCodes zeta c → remade zeta c ≡ c
remade_same zeta c is =
    let own = all_remade zeta c is in
    λ i. record {
      outdegrees = (own Outdegrees i).0;
      references = (own References i).0;
      block_counts = (own BlockCounts i).0;
      blocks = (own Blocks i).0;
      residuals = (own Residuals i).0;
      offsets = (own Offsets i).0;
    }

written_codes : (p : Parameters) → IsWithinLimits p → AreCodes p.zeta (layout_of p).codes
written_codes p is = assumption is

few_at : (p : Parameters) → IsWithinLimits p → (field : Field) → count_by (is_written p) (flags_at field) ≤ 1
few_at p is field =
    subst (λ c. count_by (is_other p.zeta c) (flags_at field) ≤ 1) (left_alone (layout_of p).codes field)
    (leb-true _ 1 (ap (λ (x : Code × Bool). x.1) (all_remade p.zeta (layout_of p).codes (written_codes p is) field)))

pub few_words : (p : Parameters) → IsWithinLimits p → length (map word_of (written_flags p)) ≤ 6
few_words p is =
    let few = few_at p is in
    omega (arith, length-map (written_flags p) word_of, length-filter (is_written p) FLAGS, few Outdegrees, few Blocks, few References, few BlockCounts, few Residuals, few Offsets)

pub codes_again : (p : Parameters) → IsWithinLimits p → codes_of p.zeta (flags_text p) ≡ Ok (layout_of p).codes
unfolding codes_of
codes_again p is =
    ap (λ words. codes_from p.zeta 1 (default_codes p.zeta) (map flag_of words)) (words_again (map word_of (written_flags p)) (flag_words (written_flags p)))
    ∙ ap (codes_from p.zeta 1 (default_codes p.zeta)) (written_again p)
    ∙ known_flags p.zeta 1 (default_codes p.zeta) (written_flags p)
    ∙ ap Ok (taken_or_left (is_written p) p.zeta (default_codes p.zeta) FLAGS ∙ remade_same p.zeta (layout_of p).codes (written_codes p is))
