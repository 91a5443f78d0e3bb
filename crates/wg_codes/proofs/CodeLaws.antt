-- What callers of the codes need of all words at once, as lemmas.
use Rattle.std.proofs.Common.{◌≡◌, ℕ, suc, ◌+◌, ◌/◌, ◌<◌, ◌≤◌, Bool, List, ◌++◌, length, drop, refl, sym, ap, ◌∙◌, arith, length-append, add-one}
use Rattle.std.proofs.lemmas.List.{drop_at}
use Rattle.wg_params.specs.declared.code.Code.{Code}
use Rattle.wg_params.specs.declared.code.Code.TheVariants.{Unary, Gamma, Delta, Zeta, Nibble}
use Rattle.wg_params.specs.Codes.{IsCode}
use Rattle.wg_bits.specs.Bits.{low_bits}
use Rattle.wg_codes.specs.declared.outcome.Read.{Read}
use Rattle.wg_codes.specs.declared.outcome.Read.TheVariants.{Value}
use Rattle.wg_codes.specs.Reading.{Reads}
use Rattle.wg_codes.specs.Words.{highest, unary, gamma, delta, zeta, nibble, digits, shortened, word, top}
use Rattle.wg_codes.proofs.Prefix.{Free, one_case}
use Rattle.wg_codes.proofs.UnaryWords.{length-unary}
use Rattle.wg_codes.proofs.Exists.{exists_case, free_word}

-- no word begins another, or what follows it
pub words_free : (c : Code) → IsCode c → Free (word c) (top c)
words_free = free_word

-- only one result
pub one_result : (c : Code) → IsCode c → (z : List Bool) (r s : Read) → Reads (word c) (top c) z r → Reads (word c) (top c) z s → r ≡ s
one_result c h z r s f g = one_case (word c) (top c) (free_word c h) z r s f g

-- some result
pub some_result : (c : Code) → IsCode c → (z : List Bool) → (r : Read) × Reads (word c) (top c) z r
some_result = exists_case

-- no word is empty
unary_some : (v : ℕ) (z : List Bool) → 0 < length (unary v ++ z)
unary_some v z = omega (arith, length-append (unary v) z, length-unary v)

gamma_some : (v : ℕ) (z : List Bool) → 0 < length (gamma v ++ z)
unfolding gamma
gamma_some v z =
    let h = unary_some (highest (v + 1)) (low_bits (highest (v + 1)) (v + 1)) in
    omega (arith, length-append (unary (highest (v + 1)) ++ low_bits (highest (v + 1)) (v + 1)) z)

digits_some : (n v : ℕ) → 0 < length (digits (suc n) v)
unfolding digits
digits_some n v = grind arith

pub word_some : (c : Code) (v : ℕ) → 0 < length (word c v)
unfolding gamma delta zeta nibble
word_some Unary v = omega (arith, length-unary v)
word_some Gamma v = unary_some (highest (v + 1)) (low_bits (highest (v + 1)) (v + 1))
word_some Delta v = gamma_some (highest (v + 1)) (low_bits (highest (v + 1)) (v + 1))
word_some (Zeta k) v = unary_some (highest (v + 1) / k) (shortened k (highest (v + 1) / k) (v + 1))
word_some Nibble v = rw add-one (digits_some (highest v / 3) v)

-- at a value its word stands in front
pub value_front : (c : Code) (z : List Bool) (v : ℕ) → Reads (word c) (top c) z (Value v)
    → (length (word c v) ≤ length z) × (z ≡ word c v ++ drop (length (word c v)) z)
value_front c z v f =
    let t : List Bool = f.1.0 in
    let back : drop (length (word c v)) z ≡ t = ap (drop (length (word c v))) f.1.1 ∙ drop_at (word c v) t (length (word c v)) refl in
    (omega (arith, ap length f.1.1, length-append (word c v) t), f.1.1 ∙ ap (λ y. word c v ++ y) (sym back))

-- a word is read
pub word_reads : (c : Code) (v : ℕ) (z : List Bool) → v ≤ top c → Reads (word c) (top c) (word c v ++ z) (Value v)
word_reads c v z l = (l, (z, refl))
