-- The word of each value in each code, and the greatest value that a code has.
use Rattle.std.specs.Prelude.{ℕ, zero, suc, ◌+◌, ◌-◌, ◌*◌, ◌/◌, ◌^◌, Bool, true, false, nat_lt, if◌then◌else◌, List, [], ◌∷◌, ◌++◌, replicate}
use Rattle.wg_bits.specs.Bits.{low_bits}
use Rattle.wg_params.specs.declared.code.Code.{Code}
use Rattle.wg_params.specs.declared.code.Code.TheVariants.{Unary, Gamma, Delta, Zeta, Nibble}

-- of the n numbers from k on, the first that passes the test; k + n if none does
unfoldable pub first_where : (ℕ → Bool) → ℕ → ℕ → ℕ
first_where test k zero = k
first_where test k (suc n) = if test k then k else first_where test (suc k) n

-- the index of the highest one of a y below 2 ^ 64, the lowest index being 0; 0 for no one at all
unfoldable pub highest : ℕ → ℕ
highest y = first_where (λ m. nat_lt y (2 ^ suc m)) 0 63

-- v zero bits, then a one
unfoldable pub unary : ℕ → List Bool
unary v = replicate v false ++ true ∷ []

-- With y = v + 1 and m the index of its highest one: the word of m, then the low m bits of y.
abbrev pub with_low_bits : (ℕ → List Bool) → ℕ → List Bool
with_low_bits head v = head (highest (v + 1)) ++ low_bits (highest (v + 1)) (v + 1)

-- with the unary word of m
unfoldable pub gamma : ℕ → List Bool
gamma v = with_low_bits unary v

-- with the gamma word of m
unfoldable pub delta : ℕ → List Bool
delta v = with_low_bits gamma v

-- With least = 2 ^ (h * k): y - least in h * k + k - 1 bits, if it is below least, else y in h * k + k bits.
abbrev pub shortened : ℕ → ℕ → ℕ → List Bool
shortened k h y =
    if nat_lt (y - 2 ^ (h * k)) (2 ^ (h * k)) then low_bits (h * k + k - 1) (y - 2 ^ (h * k))
    else low_bits (h * k + k) y

-- With h = m / k: the unary word of h, then y in its shortened form.
unfoldable pub zeta : ℕ → ℕ → List Bool
zeta k v = unary (highest (v + 1) / k) ++ shortened k (highest (v + 1) / k) (v + 1)

-- the low n digits of v in base 8, the highest first, each with a marker before it, which is 1 at the last
unfoldable pub digits : ℕ → ℕ → List Bool
digits zero v = []
digits (suc zero) v = true ∷ low_bits 3 v
digits (suc (suc n)) v = false ∷ (low_bits 3 (v / 8 ^ suc n) ++ digits (suc n) v)

-- as many digits as v has, at least one
unfoldable pub nibble : ℕ → List Bool
nibble v = digits (highest v / 3 + 1) v

-- the word of v in a code
abbrev pub word : Code → ℕ → List Bool
word Unary v = unary v
word Gamma v = gamma v
word Delta v = delta v
word (Zeta k) v = zeta k v
word Nibble v = nibble v

-- the greatest value that a code has a word for
abbrev pub top : Code → ℕ
top Unary = 2 ^ 32 - 1
top Gamma = 2 ^ 63 - 2
top Delta = 2 ^ 63 - 2
top (Zeta k) = 2 ^ (k * (63 / k)) - 2
top Nibble = 2 ^ 63 - 1
