-- The keys of a properties text, each with its value.
use Rattle.std.specs.Prelude.{ℕ, ◌-◌, ◌==◌, Bool, true, not, ◌&&◌, ◌||◌, if◌then◌else◌, List, [], ◌∷◌, length, drop, map, filter, slice_index, find, Option, None}
use Rattle.std.specs.List.{before_first, last_or, position_from}
use Rattle.std.specs.Str.{bytes_eq}
use Rattle.wg_params.specs.declared.key.Key.{Key}
use Rattle.wg_num.specs.Lines.{is_blank, without_blanks_before, without_blanks_after}
use Rattle.wg_properties.specs.Words.{name_of}
use Rattle.wg_properties.specs.declared.keys.TheConstants.{KEYS}

-- a line that is empty after its first blanks, or is a comment, which begins with `#` (35) or `!` (33)
abbrev pub is_skipped : List ℕ → Bool
is_skipped [] = true
is_skipped (b ∷ bs) = b == 35 || b == 33

-- a line that would go on in the next: one that is not skipped and ends in a backslash (92)
unfoldable pub is_continued : List ℕ → Bool
is_continued line = not (is_skipped (without_blanks_before line)) && slice_index line (length line - 1) == 92

-- the number of the first line that would go on, counted from 1
abbrev pub first_continued : List (List ℕ) → Option ℕ
first_continued lines = position_from is_continued 1 lines

-- `=` (61) or `:` (58)
abbrev pub is_separator : ℕ → Bool
is_separator b = b == 61 || b == 58

abbrev pub ends_key : ℕ → Bool
ends_key b = is_separator b || is_blank b

-- the text without one separator at its front
abbrev pub without_separator : List ℕ → List ℕ
without_separator [] = []
without_separator (b ∷ bs) = if is_separator b then bs else b ∷ bs

-- a line's key goes up to the first separator or blank
unfoldable pub key_in : List ℕ → List ℕ
key_in line = before_first ends_key line

-- the value is what follows the key and at most one separator, without the blanks around both
unfoldable pub value_in : List ℕ → List ℕ
value_in line =
    without_blanks_after (without_blanks_before
    (without_separator (without_blanks_before (drop (length (key_in line)) line))))

-- the pairs of all lines that are not skipped
abbrev pub pairs_of : List (List ℕ) → List (List ℕ × List ℕ)
pairs_of lines =
    map (λ line. (key_in line, value_in line))
    (filter (λ line. not (is_skipped line)) (map without_blanks_before lines))

-- all values of one key, in their order
abbrev pub values_of : List ℕ → List (List ℕ × List ℕ) → List (List ℕ)
values_of name pairs = map (λ pair. pair.1) (filter (λ pair. bytes_eq pair.0 name) pairs)

-- of several pairs with one key the last holds
abbrev pub value_of : List ℕ → List (List ℕ × List ℕ) → Option (List ℕ)
value_of name pairs = last_or None (values_of name pairs)

-- the key that a name belongs to
unfoldable pub key_of : List ℕ → Option Key
key_of name = find (λ key. bytes_eq name (name_of key)) KEYS
