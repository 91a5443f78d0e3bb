-- Words that are taken, and the blocks that are stored as their values.
use Rattle.std.proofs.Common.{◌≡◌, ℕ, zero, suc, ◌+◌, ◌<◌, ◌≤◌, Bool, cond, eqb, List, [], ◌∷◌, ◌++◌, length, refl, sym, ap, subst, ◌∙◌, arith}
use Rattle.std.specs.Prelude.{sum}
use Rattle.std.proofs.lemmas.Bool.{ne_eqb}
use Rattle.std.proofs.lemmas.List.Sums.{sum_by-append}
use Rattle.wg_params.specs.declared.code.Code.{Code}
use Rattle.wg_bits.specs.Bits.{Position, rest}
use Rattle.wg_graph.specs.Copied.{copied_members, is_copied}
use Rattle.wg_graph.proofs.Copies.{at_positions_all, sum_cons}
use Rattle.wg_blocks.specs.Stored.{blocks_of, blocks_after}
use Rattle.wg_codes.specs.Standing.{IsWord}
use Rattle.wg_decoder.specs.Proper.Laid.{WordsTo}

-- what the reader of a value answers for the word that stands first
abbrev pub Takes : Code → List Bool → List Bool → ℕ → Type 0
Takes c old new w = (v : ℕ) (behind : List Bool) → IsWord c v old behind → (v ≡ w) × (behind ≡ new)

pub takes_from : (c : Code) (p q : Position) (new : List Bool) (w : ℕ) → q ≡ p → Takes c (rest q) new w → Takes c (rest p) new w
takes_from c p q new w e takes = subst (λ x. Takes c (rest x) new w) e takes

-- if not all of the words that stand there were taken, one comes next
pub word_at : (code : Code) (count : ℕ) (behind : List Bool) (index : ℕ) (z : List Bool) (todo : List ℕ) → index < count → length todo + index ≡ count → WordsTo code todo z behind → (v : ℕ) × (y : List Bool) × IsWord code v z y
word_at code count behind index z [] lt more stand = absurd (omega (arith, lt, more))
word_at code count behind index z (v ∷ vs) lt more stand = (v, stand.0, stand.1)

pub all_copied : (list : List ℕ) → copied_members [] list ≡ list
unfolding copied_members
all_copied list = at_positions_all (is_copied []) 0 list (λ q le. refl)

pub block_first : (i v : ℕ) (vs : List ℕ) → blocks_after i (v ∷ vs) ≡ cond (eqb i 0) v (v + 1) ∷ blocks_after (suc i) vs
block_first zero v vs = refl
block_first (suc i) v vs = rw (ne_eqb (suc i) 0 (λ e. omega (arith, e))) refl

pub parts_on : (values done vs : List ℕ) (index v stored b : ℕ) → blocks_of values ≡ done ++ blocks_after index (v ∷ vs) → v ≡ stored → b ≡ cond (eqb index 0) stored (stored + 1) → blocks_of values ≡ done ++ (b ∷ blocks_after (suc index) vs)
parts_on values done vs index v stored b parts same is =
    parts ∙ ap (λ (l : List ℕ). done ++ l) (block_first index v vs ∙ ap (λ (k : ℕ). cond (eqb index 0) k (k + 1) ∷ blocks_after (suc index) vs) same ∙ ap (λ (k : ℕ). k ∷ blocks_after (suc index) vs) (sym is))

pub fits_on : (values done more : List ℕ) (source b : ℕ) → blocks_of values ≡ done ++ (b ∷ more) → sum (blocks_of values) ≤ source → sum done + b ≤ source
fits_on values done more source b parts fits =
    omega (arith, fits, ap (λ (l : List ℕ). sum l) parts, sum_by-append (λ (e : ℕ). e) done (b ∷ more), sum_cons b more)

pub no_blocks : (index : ℕ) → blocks_after index [] ≡ []
no_blocks zero = refl
no_blocks (suc n) = refl
