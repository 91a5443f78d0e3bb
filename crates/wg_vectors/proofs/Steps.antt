-- What the steps of drawing a list keep: it ascends, has pages alone, and not too many.
use Rattle.std.proofs.Common.{ℕ, zero, suc, ◌+◌, ◌-◌, ◌%◌, ◌<◌, ◌≤◌, Bool, true, false, ◌&&◌, eqb, ltb, cond, List, [], ◌∷◌, length, get_or, arith, inl, inr}
use Rattle.std.specs.Prelude.{All, min, not}
use Rattle.std.proofs.lemmas.Bool.{cases_lt, cases_Bool, lt-ltb, le-ltb}
use Rattle.std.proofs.lemmas.List.{get_or_past}
use Rattle.std.proofs.lemmas.List.Elements.{All-get_or}
use Rattle.std.proofs.lemmas.Nat.{mod_below}
use Rattle.wg_graph.specs.Ascending.{Ascends, Below}
use Rattle.wg_vectors.specs.Generated.{Drafted, next_state, drawn, after_draw, with_number, with_successor, with_copied, copying, begun, distance, scattering, scattered, with_numbers, with_interval, extended, drafted}
use Rattle.wg_vectors.proofs.Placed.{ascends-with_number, below-with_number, length-with_number}

-- an ascending list of at most m of the n pages
pub record Fits (n m : ℕ) (list : List ℕ) : Type 0 where
  pub ascends : Ascends 0 list
  pub below : Below n list
  pub few : length list ≤ m

none_fit : (n m : ℕ) → Fits n m []
none_fit n m = record { ascends = tt; below = tt; few = omega arith }

fits_more : (n m k : ℕ) (list : List ℕ) → m ≤ k → Fits n m list → Fits n k list
fits_more n m k list le h = record { ascends = h.ascends; below = h.below; few = let few = h.few in omega arith }

added_fits : (n m k y : ℕ) (list : List ℕ) → y < n → length list < k → Fits n m list → Fits n k (with_number y list)
added_fits n m k y list lt room h = grind (arith, ascends-with_number, below-with_number, length-with_number)

-- ---- the first step

taken_fits : (n y : ℕ) (b : Bool) (d : Drafted) → y < n → Fits n 64 d.list → Fits n 64 (cond (b && ltb (length d.list) 64) (with_successor y (after_draw d)) (after_draw d)).list
taken_fits n y false d lt h = h
taken_fits n y true d lt h =
    elim (cases_lt (length d.list) 64) [
      | inl few ↦ rw (lt-ltb (length d.list) 64 few) (added_fits n 64 64 y d.list lt few h)
      | inr many ↦ rw (le-ltb (length d.list) 64 many) h
    ]

pub copying_fits : (n : ℕ) (ys : List ℕ) (d : Drafted) → Below n ys → Fits n 64 d.list → Fits n 64 (copying ys d).list
copying_fits n [] d low h = h
copying_fits n (y ∷ ys) d low h = copying_fits n ys (with_copied y d) low.1 (taken_fits n y (not (eqb (drawn d.state % 8) 0)) d low.0 h)

below_at : (n : ℕ) (lists : List (List ℕ)) (i : ℕ) → All (Below n) lists → Below n (get_or lists i [])
below_at n lists i low = grind (arith, cases_lt, get_or_past, All-get_or)

pub begun_fits : (n : ℕ) (lists : List (List ℕ)) (s : ℕ) → All (Below n) lists → Fits n 64 (begun lists s).list
begun_fits n [] s low = none_fit n 64
begun_fits n (list ∷ lists) s low =
    let source : List ℕ = get_or (list ∷ lists) (length (list ∷ lists) - distance (length (list ∷ lists)) (next_state s)) [] in
    let copied = copying_fits n source (record { list = []; state = next_state (next_state s) }) (below_at n (list ∷ lists) (length (list ∷ lists) - distance (length (list ∷ lists)) (next_state s)) low) (none_fit n 64) in
    elim (cases_Bool (eqb (drawn s % 4) 0)) [ inl h ↦ rw h (none_fit n 64) | inr h ↦ rw h copied ]

-- ---- the second step

scattering_fits : (n k m : ℕ) (d : Drafted) → 0 < n → Fits n m d.list → Fits n (m + k) (scattering n k d).list
scattering_fits n zero m d some h = fits_more n m (m + zero) d.list (omega arith) h
scattering_fits n (suc k) m d some h =
    let next : Drafted = with_successor (drawn d.state % n) (after_draw d) in
    let one = added_fits n m (m + 1) (drawn d.state % n) d.list (mod_below (drawn d.state) n some) (omega arith) h in
    fits_more n (m + 1 + k) (m + suc k) (scattering n k next).list (omega arith) (scattering_fits n k (m + 1) next some one)

pub scattered_fits : (n m : ℕ) (d : Drafted) → 0 < n → Fits n m d.list → Fits n (m + 3) (scattered n d).list
scattered_fits n m d some h =
    fits_more n (m + drawn d.state % 4) (m + 3) (scattered n d).list (omega arith) (scattering_fits n (drawn d.state % 4) m (after_draw d) some h)

-- ---- the third step

with_numbers_fits : (n y k m : ℕ) (list : List ℕ) → y + k ≤ n → Fits n m list → Fits n (m + k) (with_numbers y k list)
with_numbers_fits n y zero m list le h = fits_more n m (m + zero) list (omega arith) h
with_numbers_fits n y (suc k) m list le h =
    let one = added_fits n m (m + 1) y list (omega arith) (omega arith) h in
    fits_more n (m + 1 + k) (m + suc k) (with_numbers (y + 1) k (with_number y list)) (omega arith) (with_numbers_fits n (y + 1) k (m + 1) (with_number y list) (omega arith) one)

interval_fits : (n left size m : ℕ) (d : Drafted) → left < n → Fits n m d.list → Fits n (m + size) (with_interval n left size d).list
interval_fits n left size m d lt h =
    let k : ℕ = min (left + size) n - left in
    let within : left + k ≤ n = omega arith in
    fits_more n (m + k) (m + size) (with_numbers left k d.list) (omega arith) (with_numbers_fits n left k m d.list within h)

pub extended_fits : (n m : ℕ) (d : Drafted) → 0 < n → Fits n m d.list → Fits n (m + 11) (extended n d).list
extended_fits n m d some h =
    let left : Drafted = after_draw d in
    let size : Drafted = after_draw left in
    let there = mod_below (drawn left.state) n some in
    let whole = fits_more n (m + (4 + drawn size.state % 8)) (m + 11) (with_interval n (drawn left.state % n) (4 + drawn size.state % 8) (after_draw size)).list (omega arith) (interval_fits n (drawn left.state % n) (4 + drawn size.state % 8) m (after_draw size) there h) in
    elim (cases_Bool (eqb (drawn d.state % 4) 0)) [ inl e ↦ rw e whole | inr e ↦ rw e (fits_more n m (m + 11) d.list (omega arith) h) ]

pub drafted_fits : (n : ℕ) (lists : List (List ℕ)) (s : ℕ) → 0 < n → All (Below n) lists → Fits n 78 (drafted n lists s).list
unfolding drafted
drafted_fits n lists s some low = extended_fits n 67 (scattered n (begun lists s)) some (scattered_fits n 64 (begun lists s) some (begun_fits n lists s low))
