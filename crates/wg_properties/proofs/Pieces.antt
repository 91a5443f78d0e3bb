-- The flags of a value, piece by piece.
use Rattle.std.proofs.Common.{◌≡◌, ℕ, ◌+◌, ◌<◌, Bool, List, ◌∷◌, length, get_or, drop, map, Option, Some, None, Ok, Err, refl, ap, sym, ◌∙◌, arith, ◌==◌, add-one, drop-cons}
use Rattle.std.specs.List.{slice_split}
use Rattle.std.proofs.lemmas.List.{get_or-map, length-map, drop_all}
use Rattle.wg_params.specs.Parameters.{default_codes}
use Rattle.wg_properties.specs.Flags.{with_flag, flag_of, pieces_of, codes_from, codes_of}
use Rattle.wg_properties.specs.Words.{Flag}
use Rattle.wg_num.specs.Lines.{without_blanks_before, without_blanks_after}
use Rattle.wg_properties.specs.declared.fault.PropFault.TheVariants as fault
use Rattle.wg_params.specs.declared.layout.Codes.{Codes}

abbrev pub is_bar : ℕ → Bool
is_bar b = b == 124

abbrev pub trimmed : List ℕ → List ℕ
trimmed piece = without_blanks_before (without_blanks_after piece)

abbrev pub flags_of : List ℕ → List (Option Flag)
flags_of value = map flag_of (pieces_of value)

pub no_flags : (zeta : ℕ) (value : List ℕ) → length value ≡ 0 → codes_of zeta value ≡ Ok (default_codes zeta)
unfolding codes_of
no_flags zeta value h = grind arith

pub all_flags : (zeta : ℕ) (value : List ℕ) → codes_from zeta 1 (default_codes zeta) (flags_of value) ≡ codes_of zeta value
unfolding codes_of
all_flags zeta value = refl

pub pieces_are : (value : List ℕ) → 0 < length value → pieces_of value ≡ map trimmed (slice_split is_bar value)
pieces_are value h = grind arith

-- the flag of one piece, and those after it
pub next_flag : (value : List ℕ) (n : ℕ) (piece : List ℕ) → 0 < length value → n < length (slice_split is_bar value) → piece ≡ get_or (slice_split is_bar value) n piece → drop n (flags_of value) ≡ flag_of (trimmed piece) ∷ drop (n + 1) (flags_of value)
next_flag value n piece some h is =
    let parts = slice_split is_bar value in
    let same : flags_of value ≡ map flag_of (map trimmed parts) = ap (map flag_of) (pieces_are value some) in
    let long : length (map trimmed parts) ≡ length parts = length-map parts trimmed in
    let longer : length (flags_of value) ≡ length parts = ap length same ∙ length-map (map trimmed parts) flag_of ∙ long in
    let at : get_or (flags_of value) n None ≡ flag_of (trimmed piece) =
    ap (λ flags. get_or flags n None) same
    ∙ get_or-map flag_of (map trimmed parts) n (trimmed piece) None (omega (arith, long))
    ∙ ap flag_of (get_or-map trimmed parts n piece (trimmed piece) h ∙ ap trimmed (sym is)) in
    rw (add-one, drop-cons (flags_of value) n None (omega (arith, longer)), at)

abbrev IsPieceAt : List ℕ → ℕ → List ℕ → Type 0
IsPieceAt value n piece = (n < length (slice_split is_bar value)) × (piece ≡ get_or (slice_split is_bar value) n piece)

flag_at : (value : List ℕ) (n m : ℕ) (piece : List ℕ) (o : Option Flag) → 0 < length value → n ≡ m → IsPieceAt value m piece → o ≡ flag_of (trimmed piece) → drop n (flags_of value) ≡ o ∷ drop (n + 1) (flags_of value)
flag_at value n m piece o some e is named = grind (arith, flags_of, next_flag)

-- one known flag more, an unknown one, and the end
pub known : (zeta : ℕ) (value : List ℕ) (n m : ℕ) (piece : List ℕ) (o : Option Flag) (flag : Flag) (codes new : Codes) → 0 < length value → n ≡ m → IsPieceAt value m piece → o ≡ flag_of (trimmed piece) → o ≡ Some flag → new ≡ with_flag zeta codes flag → codes_from zeta (n + 1 + 1) new (drop (n + 1) (flags_of value)) ≡ codes_from zeta (n + 1) codes (drop n (flags_of value))
known zeta value n m piece o flag codes new some e is named found updated =
    ap (λ c. codes_from zeta (n + 1 + 1) c (drop (n + 1) (flags_of value))) updated
    ∙ ap (λ f. codes_from zeta (n + 1) codes (f ∷ drop (n + 1) (flags_of value))) (sym found)
    ∙ ap (codes_from zeta (n + 1) codes) (sym (flag_at value n m piece o some e is named))

pub unknown : (zeta : ℕ) (value : List ℕ) (n m : ℕ) (piece : List ℕ) (o : Option Flag) (codes : Codes) → 0 < length value → n ≡ m → IsPieceAt value m piece → o ≡ flag_of (trimmed piece) → o ≡ None → Err (fault.Flag (n + 1)) ≡ codes_from zeta (n + 1) codes (drop n (flags_of value))
unknown zeta value n m piece o codes some e is named found = grind (arith, flags_of, flag_at)

pub no_more : (zeta : ℕ) (value : List ℕ) (n m : ℕ) (codes : Codes) → 0 < length value → n ≡ m → m ≡ length (slice_split is_bar value) → Ok codes ≡ codes_from zeta (n + 1) codes (drop n (flags_of value))
no_more zeta value n m codes some e end = grind (arith, length-map, pieces_are, drop_all, flags_of, is_bar, trimmed)
