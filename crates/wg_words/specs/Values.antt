-- What a positional or an option gives: a name or a number.
use Rattle.std.specs.Prelude.{ℕ, nat_le, List, [], ◌∷◌, Option, Some, None, option_and_then, option_map, unwrap_or, if◌then◌else◌}
use Rattle.clap.specs.Words.{Row, Text, all_of, first_of}
use Rattle.wg_num.specs.Decimal.{number_of}

-- a name is not empty
abbrev pub nonempty_of : Text → Option Text
nonempty_of [] = None
nonempty_of (b ∷ bs) = Some (b ∷ bs)

-- the name that an argument gives
abbrev pub name_in : List Row → Text → Option Text
name_in rows id = option_and_then nonempty_of (first_of id rows)

-- the name that is given, if one is; it is not empty
abbrev pub name_or_none : Option Text → Option (Option Text)
name_or_none None = Some None
name_or_none (Some text) = option_map Some (nonempty_of text)

-- the name that an option gives, if it is there
abbrev pub optional_name_in : List Row → Text → Option (Option Text)
optional_name_in rows id = name_or_none (first_of id rows)

-- a number is at most its limit
abbrev pub limited : ℕ → ℕ → Option ℕ
limited most n = if nat_le n most then Some n else None

-- the number whose decimal the text is, if it is within the limit
abbrev pub number_up_to : ℕ → Text → Option ℕ
number_up_to most text = option_and_then (limited most) (number_of text)

-- the default if there is no text
abbrev pub number_or : ℕ → ℕ → Option Text → Option ℕ
number_or default most None = Some default
number_or default most (Some text) = number_up_to most text

-- the number that an option gives
abbrev pub number_in : List Row → Text → ℕ → ℕ → Option ℕ
number_in rows id default most = number_or default most (first_of id rows)

-- the number that an option without a default gives
abbrev pub required_in : List Row → Text → ℕ → Option ℕ
required_in rows id most = option_and_then (number_up_to most) (first_of id rows)

-- the number that an argument without a limit gives
abbrev pub unlimited_in : List Row → Text → Option ℕ
unlimited_in rows id = option_and_then number_of (first_of id rows)

-- the numbers whose decimals the texts are, if each text is a decimal
abbrev pub numbers_of : List Text → Option (List ℕ)
numbers_of [] = Some []
numbers_of (text ∷ texts) = option_and_then (λ n. option_map (λ ns. n ∷ ns) (numbers_of texts)) (number_of text)

-- the numbers that an argument of several values gives
abbrev pub numbers_in : List Row → Text → Option (List ℕ)
numbers_in rows id = option_and_then numbers_of (all_of id rows)

-- the word that an option gives
abbrev pub word_in : List Row → Text → Text → Text
word_in rows id default = unwrap_or (first_of id rows) default
