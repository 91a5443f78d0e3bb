-- The words of a record, one field after the other, with what stands behind each.
use Rattle.std.specs.Prelude.{◌≡◌, ℕ, ◌+◌, ◌-◌, ◌^◌, ◌<◌, ◌≤◌, Bool, true, false, ◌&&◌, ◌||◌, nat_lt, List, [], ◌∷◌, length, sum, is_some, Option, Some, None}
use Rattle.wg_params.specs.declared.code.Code.{Code}
use Rattle.wg_params.specs.declared.code.Code.TheVariants.{Gamma}
use Rattle.wg_params.specs.Parameters.{Parameters}
use Rattle.wg_graph.specs.Numbers.{is_in, numbers_where}
use Rattle.wg_graph.specs.Copied.{copied_members}
use Rattle.wg_blocks.specs.Stored.{blocks_of}
use Rattle.wg_intervals.specs.Stored.{IsInterval}
use Rattle.wg_grammar.specs.Members.{is_covered}
use Rattle.wg_codes.specs.Standing.{IsWord}
use Rattle.wg_codes.specs.Fold.{number_of_gap}

-- if it is there, the word of v stands at the bits, with these behind it; else v is 0 and has no bits
abbrev pub MaybeWord : Bool → Code → ℕ → List Bool → List Bool → Type 0
MaybeWord true c v z behind = IsWord c v z behind
MaybeWord false c v z behind = (v ≡ 0) × (behind ≡ z)

-- the words of these values, one after the other
abbrev pub WordsTo : Code → List ℕ → List Bool → List Bool → Type 0
WordsTo c [] z behind = behind ≡ z
WordsTo c (v ∷ vs) z behind = (mid : List Bool) × IsWord c v z mid × WordsTo c vs mid behind

-- the intervals with these left ends and lengths
abbrev pub IntervalsTo : ℕ → ℕ → Option ℕ → List ℕ → List ℕ → List Bool → List Bool → Type 0
IntervalsTo page least past [] [] z behind = behind ≡ z
IntervalsTo page least past [] (n ∷ ns) z behind = ⊥
IntervalsTo page least past (l ∷ ls) [] z behind = ⊥
IntervalsTo page least past (l ∷ ls) (n ∷ ns) z behind =
    (mid : List Bool) × IsInterval page least past l n z mid × IntervalsTo page least (Some (l + n)) ls ns mid behind

-- a residual's word, which means the page y
pub record IsResidual (c : Code) (page : ℕ) (last : Option ℕ) (y : ℕ) (z behind : List Bool) : Type 0 where
  pub v : ℕ
  pub word : IsWord c v z behind
  pub means : number_of_gap page last v ≡ Some y
  pub low : y < 2 ^ 62

-- these residuals
abbrev pub ResidualsTo : Code → ℕ → Option ℕ → List ℕ → List Bool → List Bool → Type 0
ResidualsTo c page last [] z behind = behind ≡ z
ResidualsTo c page last (y ∷ ys) z behind = (mid : List Bool) × IsResidual c page last y z mid
    × ResidualsTo c page (Some y) ys mid behind

-- the list of the page below, empty if there is none
abbrev pub list_or_none : Option (List ℕ) → List ℕ
list_or_none None = []
list_or_none (Some list) = list

-- how long that list is
abbrev pub length_of : Option (List ℕ) → Option ℕ
length_of None = None
length_of (Some list) = Some (length list)

-- A record whose words stand at the bits z: all fields, each with what stands behind it.
pub record Laid (p : Parameters) (page : ℕ) (below : Option (List ℕ)) (z : List Bool) (list : List ℕ) : Type 0 where
  pub outdegree : ℕ
  pub after_outdegree : List Bool
  pub outdegree_stands : IsWord p.outdegrees outdegree z after_outdegree
  pub reference : ℕ
  pub after_reference : List Bool
  pub reference_stands : MaybeWord (nat_lt 0 outdegree && nat_lt 0 p.window)
      p.references reference after_outdegree after_reference
  pub values : List ℕ
  pub after_count : List Bool
  pub count_stands : MaybeWord (is_some below) p.block_counts (length values) after_reference after_count
  pub after_blocks : List Bool
  pub blocks_stand : WordsTo p.blocks values after_count after_blocks
  pub within : sum (blocks_of values) ≤ length (list_or_none below)
  pub copied : List ℕ
  pub copied_is : copied ≡ copied_members (blocks_of values) (list_or_none below)
  pub copied_fit : length copied ≤ outdegree
  pub lefts : List ℕ
  pub lengths : List ℕ
  pub after_interval_count : List Bool
  pub interval_count_stands : MaybeWord (nat_lt 0 (outdegree - length copied) && nat_lt 0 p.interval) Gamma
      (length lefts) after_blocks after_interval_count
  pub after_intervals : List Bool
  pub intervals_stand : IntervalsTo page p.interval None lefts lengths after_interval_count after_intervals
  pub inside_fit : sum lengths ≤ outdegree - length copied
  pub residuals : List ℕ
  pub behind : List Bool
  pub residuals_stand : ResidualsTo p.residuals page None residuals after_intervals behind
  pub residuals_fill : length residuals ≡ outdegree - length copied - sum lengths
  pub members : list ≡ numbers_where (λ y. is_in y copied || is_covered lefts lengths y || is_in y residuals) 0 p.nodes
  pub all : length list ≡ outdegree
