-- A quotient in two steps, and one that is rounded up.
use Rattle.std.proofs.Common.{ℕ, ◌≡◌, ◌+◌, ◌-◌, ◌*◌, ◌/◌, ◌%◌, ◌<◌, ◌≤◌, arith, sym, ap, ◌∙◌}
use Rattle.std.specs.Int.{div_ceil}
use Rattle.std.proofs.lemmas.Grind.{div_ceil_times}
use Rattle.std.proofs.Math.Nat.{div-mul-le_self, lt-div-mul-add, mul-le-mul_left, mul-le-mul_right, lt_of_mul-lt-mul_right}
use Rattle.std.proofs.lemmas.Nat.{div-mul-add, div-add-mod', mod_below}

-- a multiple of the divisor leaves the rest as it is
add_multiple : (a d x : ℕ) → 0 < d → (a * d + x) / d ≡ a + x / d
add_multiple a d x p =
    ap (λ n. n / d) (omega (arith, div-add-mod' x d)) ∙ div-mul-add (a + x / d) d (x % d) (mod_below x d p)

-- what is above a cut is divided first, and its rest goes before what is below
pub cut_quotient : (v d m : ℕ) → 0 < d → v / m / d * m + (v / m % d * m + v % m) / d ≡ v / d
cut_quotient v d m p =
    let e : v ≡ v / m / d * m * d + (v / m % d * m + v % m) = omega (arith, div-add-mod' v m, ap (λ n. n * m) (div-add-mod' (v / m) d)) in
    sym (ap (λ n. n / d) e ∙ add_multiple (v / m / d * m) d (v / m % d * m + v % m) p)

-- a number that is multiplied is cut before
pub cut_damped : (a q m d e : ℕ) → 0 < d → a * (q / m) / d * m + (a * (q / m) % d * m + a * (q % m) + e) / d ≡ (a * q + e) / d
cut_damped a q m d e p =
    let h : ℕ = q / m in
    let l : ℕ = q % m in
    let k : a * q + e ≡ a * h / d * m * d + (a * h % d * m + a * l + e) =
    omega (arith, ap (λ n. a * n) (div-add-mod' q m), ap (λ n. n * m) (div-add-mod' (a * h) d)) in
    sym (ap (λ n. n / d) k ∙ add_multiple (a * h / d * m) d (a * h % d * m + a * l + e) p)

-- what the quotient is, by its bounds
pub quotient_near : (v d n : ℕ) → n * d ≤ v → v - n * d < d → n ≡ v / d
quotient_near v d n le lt = sym (ap (λ k. k / d) (omega (arith, le)) ∙ div-mul-add n d (v - n * d) lt)

-- the inverse of d, in units of one w-th and rounded up, makes the quotient of a small number
pub near_exact : (v d i w : ℕ) → 0 < d → v * d < w → i ≡ w / d + 1 → v * i / w ≡ v / d
near_exact v d i w some small is =
    let n : ℕ = v * i / w in
    let a : n * w ≤ v * i = div-mul-le_self (v * i) w in
    let b : v * i < n * w + w = lt-div-mul-add (omega (arith, small)) in
    let at : i * d ≡ w / d * d + d = omega (arith, ap (λ k. k * d) is) in
    let e : v * (i * d) ≤ v * (w + d) = mul-le-mul_left v (omega (arith, at, div-mul-le_self w d)) in
    let f : v * w ≤ v * (i * d) = mul-le-mul_left v (omega (arith, at, lt-div-mul-add {a = w} some)) in
    let g : (v * i + 1) * d ≤ (n * w + w) * d = mul-le-mul_right d (omega (arith, b)) in
    let above : n * d < v + 1 = lt_of_mul-lt-mul_right w (omega (arith, (mul-le-mul_right d a), e, small)) in
    let below : v < n * d + d = lt_of_mul-lt-mul_right w (omega (arith, f, g, some)) in
    quotient_near v d n (omega (arith, above)) (omega (arith, above, below))

-- one less than the divisor more is divided to the quotient that is rounded up
pub quotient_above : (x d : ℕ) → 0 < d → (x + (d - 1)) / d ≡ div_ceil x d
quotient_above x d some =
    let n : ℕ = div_ceil x d in
    let t : (x ≤ n * d) × (n * d < x + d) = div_ceil_times x d some in
    sym (quotient_near (x + (d - 1)) d n (omega (arith, t.1)) (omega (arith, t.0, t.1, some)))

-- what the quotient leaves, and that it is small if the divisor is
pub rest_is : (v d n : ℕ) → n ≡ v / d → v - n * d ≡ v % d
rest_is v d n is = omega (arith, ap (λ k. k * d) is, div-add-mod' v d)

pub rest_small : (v d n : ℕ) → 0 < d → d ≤ 2048 → n ≡ v / d → v - n * d < 2048
rest_small v d n some few is = omega (arith, rest_is v d n is, mod_below v d some, few)
