-- The setting of a graph, and its laws in the words of the definitions.
use Rattle.std.proofs.Common.{ℕ, ◌≡◌, ◌+◌, ◌-◌, ◌*◌, ◌/◌, ◌^◌, ◌<◌, ◌≤◌, max, refl, ap, arith, sym, ◌∙◌, add-one}
use Rattle.std.proofs.Math.Nat.{mul-le-mul_left, div-mul-le_self, lt-div-mul-add, le_of_mul-le-mul_left}
use Rattle.std.specs.Int.{div_ceil}
use Rattle.wg_graph.specs.Arcs.{has_arc}
use Rattle.wg_graph.specs.Digraph.{Digraph, IsGraph, outdegree, successors, arc_count}
use Rattle.wg_rank.specs.Sum.{sum_below}
use Rattle.wg_rank.specs.Rank.{total, degrees_product, gap, lower, low, high, exact_step, numerator, denominator, IsStationary, Encloses}
use Rattle.wg_rank.specs.declared.limits.TheConstants.{UNITS}
use Rattle.wg_rank.proofs.Sums.{sum_const, sum_scale, sum_same, sum_add, sum_le}
use Rattle.wg_rank.proofs.Steps.{Setting, div_mono, part_above}
use Rattle.wg_rank.proofs.Arcs.{members_count, list_ascends, list_below, lengths_total, product_pos, factor_back}
use Rattle.wg_rank.proofs.Iterates as laws
use Rattle.wg_rank.proofs.Steps as steps
use Rattle.wg_rank.proofs.Rising.{mul_pos, rising_below}
use Rattle.wg_rank.specs.Claims.{Rises}

floor_weighted : (a r n z s w x : ℕ)
    → (a * x / (1000 * n) + r * s * w / (1000 * z)) * (1000 * (n * z)) ≤ a * z * x + r * n * w * s
floor_weighted a r n z s w x =
    omega (arith, mul-le-mul_left z (div-mul-le_self (a * x) (1000 * n)), mul-le-mul_left n (div-mul-le_self (r * s * w) (1000 * z)))

ceil_weighted : (a r n z s w x : ℕ) → 0 < n → 0 < z
    → a * z * x + r * n * w * s ≤ (div_ceil (a * x) (1000 * n) + div_ceil (r * s * w) (1000 * z)) * (1000 * (n * z))
ceil_weighted a r n z s w x h k =
    omega (arith, mul-le-mul_left z (part_above (1000 * n) (a * x) (omega arith)), mul-le-mul_left n (part_above (1000 * z) (r * s * w) (omega arith)))

near_weighted : (a r n s : ℕ) (w : ℕ → ℕ) (x : ℕ) → 0 < n → 0 < sum_below n w
    → a * x + r * s ≤ sum_below n (λ v. 1000 * (a * x / (1000 * n) + r * s * w v / (1000 * sum_below n w))) + 2 * 1000 * n
near_weighted a r n s w x h k =
    let z : ℕ = sum_below n w in
    let f : ℕ → ℕ = λ v. 1000 * (r * s * w v / (1000 * z)) in
    let e2 : sum_below n (λ v. r * s * w v) ≤ sum_below n (λ v. z * f v + 1000 * z) =
    sum_le n (λ v. r * s * w v) (λ v. z * f v + 1000 * z) (λ v _. omega (arith, lt-div-mul-add {a = r * s * w v} {b = 1000 * z} (omega arith))) in
    let e3 : r * s ≤ sum_below n f + 1000 * n =
    le_of_mul-le-mul_left {m = r * s} {n = sum_below n f + 1000 * n} {k = z}
    (omega (arith, e2, sum_scale n (r * s) w, sum_add n (λ v. z * f v) (λ _. 1000 * z), sum_scale n z f, sum_const n (1000 * z))) k in
    let e4 : sum_below n (λ v. 1000 * (a * x / (1000 * n) + r * s * w v / (1000 * z))) ≡ sum_below n (λ v. 1000 * (a * x / (1000 * n)) + f v) =
    sum_same n (λ v. 1000 * (a * x / (1000 * n) + r * s * w v / (1000 * z))) (λ v. 1000 * (a * x / (1000 * n)) + f v) (λ v _. omega arith) in
    omega (arith, e3, e4, sum_add n (λ _. 1000 * (a * x / (1000 * n))) f, sum_const n (1000 * (a * x / (1000 * n))))

abbrev setting : (g : Digraph) (a : ℕ) (w : ℕ → ℕ) → IsGraph g → a ≤ 1000 → 0 < g.nodes → 0 < sum_below g.nodes w → Setting
setting g a w ok damped some heavy = record {
  n = g.nodes;
  a = a;
  b = 1000;
  whole = g.nodes * sum_below g.nodes w;
  share = sum_below g.nodes w;
  m = degrees_product g;
  s = UNITS;
  slack = 2 * 1000 * g.nodes;
  arc = has_arc g;
  d = outdegree g;
  q = λ u. degrees_product g / outdegree g u;
  e = λ v. (1000 - a) * g.nodes * w v;
  floor_part = λ x v. a * x / (1000 * g.nodes) + (1000 - a) * UNITS * w v / (1000 * sum_below g.nodes w);
  ceil_part = λ x v. div_ceil (a * x) (1000 * g.nodes) + div_ceil ((1000 - a) * UNITS * w v) (1000 * sum_below g.nodes w);
  damped = damped;
  b_pos = omega arith;
  whole_pos = mul_pos _ _ some heavy;
  m_pos = product_pos g.nodes (λ u. max 1 (outdegree g u)) (λ u. omega arith);
  degrees = λ u h. members_count g.nodes 0 (successors g u) (list_ascends g ok u h) (list_below g ok u h);
  quotient = λ u h p. factor_back g.nodes (outdegree g) u h p;
  split = refl;
  teleport = sum_scale g.nodes ((1000 - a) * g.nodes) w ∙ omega arith;
  floor_le = λ x v. floor_weighted a (1000 - a) g.nodes (sum_below g.nodes w) UNITS (w v) x;
  floor_mono = λ x y v h. omega (arith, div_mono (a * x) (a * y) (1000 * g.nodes) (mul-le-mul_left a h));
  floor_near = λ x. near_weighted a (1000 - a) g.nodes UNITS w x some heavy;
  step = exact_step g a w;
  grow = λ z. z * 1000 * g.nodes * degrees_product g * sum_below g.nodes w;
  step_is = λ p z v. omega arith;
  grow_is = λ z. omega arith;
  ceil_ge = λ x v. ceil_weighted a (1000 - a) g.nodes (sum_below g.nodes w) UNITS (w v) x some heavy;
}

module _ (g : Digraph) (a : ℕ) (wt : ℕ → ℕ) (ok : IsGraph g) (damped : a ≤ 1000) (some : 0 < g.nodes) (heavy : 0 < sum_below g.nodes wt) where
  same_low : (k : ℕ) → laws.low (setting g a wt ok damped some heavy) k ≡ low g a wt k
  same_low k = grind arith

  same_high : (k : ℕ) → laws.high (setting g a wt ok damped some heavy) k ≡ high g a wt k
  same_high k = grind arith

  same_den : (t : ℕ) → laws.den (setting g a wt ok damped some heavy) t ≡ denominator g wt t
  same_den t = grind arith

  same_num : (t : ℕ) → laws.num (setting g a wt ok damped some heavy) t ≡ numerator g a wt t
  same_num t = grind arith

  -- the numerators of an iterate add up to its denominator, which is above 0
  pub numerators_total : (t : ℕ) → (sum_below g.nodes (numerator g a wt t) ≡ denominator g wt t) × (0 < denominator g wt t)
  numerators_total t =
      let e = laws.num_total (setting g a wt ok damped some heavy) t in
      let p = laws.den_pos (setting g a wt ok damped some heavy) t some in
      (ap (λ f. sum_below g.nodes f) (sym (same_num t)) ∙ e ∙ same_den t, omega (arith, p, same_den t))

  enclosing : (l h p : ℕ → ℕ) (z : ℕ) → laws.Encl (setting g a wt ok damped some heavy) l h p z → Encloses g l h p z
  enclosing l h p z e v w = (e.under v w, e.over v w)

  -- after k rounds the bounds hold each iterate from the k-th on
  pub encloses_iterates : (k j : ℕ) → k ≤ j → Encloses g (low g a wt k) (high g a wt k) (numerator g a wt j) (denominator g wt j)
  encloses_iterates k j h =
      rw (← same_low k, ← same_high k, ← same_num j, ← same_den j)
      (enclosing _ _ _ _ (laws.enclosed (setting g a wt ok damped some heavy) k j h))

  -- and each vector that a step leaves as it is
  pub encloses_stationary : (p : ℕ → ℕ) (z : ℕ) → sum_below g.nodes p ≡ z
      → ((v : ℕ) → v < g.nodes → exact_step g a wt p z v ≡ p v * 1000 * g.nodes * degrees_product g * sum_below g.nodes wt)
      → (k : ℕ) → Encloses g (low g a wt k) (high g a wt k) p z
  encloses_stationary p z t h k =
      rw (← same_low k, ← same_high k)
      (enclosing _ _ _ _ (laws.stationary (setting g a wt ok damped some heavy) p z t (λ v w. h v w ∙ omega arith) k))

  pub low_rises : (k v : ℕ) → low g a wt k v ≤ low g a wt (k + 1) v
  low_rises k v = rw add-one (rw (← same_low k) (laws.low_rises (setting g a wt ok damped some heavy) k v))

  pub high_falls : (k v : ℕ) → high g a wt (k + 1) v ≤ high g a wt k v
  high_falls k v = rw add-one (omega arith)

  pub low_le_high : (k v : ℕ) → v < g.nodes → low g a wt k v ≤ high g a wt k v
  low_le_high k v w = rw (← same_low k, ← same_high k) (laws.low_le_high (setting g a wt ok damped some heavy) k v w)

  pub within_gap : (k v : ℕ) → high g a wt k v - low g a wt k v ≤ gap g (low g a wt k)
  within_gap k v = rw (← same_low k, ← same_high k) (omega (arith, laws.width_le_gap (setting g a wt ok damped some heavy) k v))

  pub arcs_are : arc_count g ≡ sum_below g.nodes (outdegree g)
  arcs_are = lengths_total g.lists ∙ ap (λ n. sum_below n (outdegree g)) ok.counted

  pub gap_shrinks : (k : ℕ) → 1000 * gap g (low g a wt (k + 1)) ≤ a * gap g (low g a wt k) + a * arc_count g + 3 * 1000 * g.nodes
  gap_shrinks k =
      rw (add-one, arcs_are, ← same_low k) (omega (arith, laws.gap_shrinks (setting g a wt ok damped some heavy) k))

  pub width_is : (k v : ℕ) → (1000 - a) * 1000 ^ k * (high g a wt k v - low g a wt k v)
      ≤ (1000 - a) * a ^ k * UNITS + 1000 ^ k * (a * arc_count g + 3 * 1000 * g.nodes)
  width_is k v =
      rw (arcs_are, ← same_low k, ← same_high k) (omega (arith, laws.width (setting g a wt ok damped some heavy) k v))

  pub low_total : (k : ℕ) → sum_below g.nodes (low g a wt k) ≤ UNITS
  low_total k = rw (← same_low k) (laws.low_total (setting g a wt ok damped some heavy) k)

  -- lower bounds that add up to at most 1 still do after a round, whatever they are
  pub lower_total : (l : ℕ → ℕ) → total g l ≤ UNITS → total g (lower g a wt l) ≤ UNITS
  lower_total l h = steps.lower_total (setting g a wt ok damped some heavy) l h

  -- lower bounds that a round does not lower, whatever they are
  pub rising_encloses : a < 1000 → (l p : ℕ → ℕ) (z : ℕ) → Rises g a wt l → total g p ≡ z → IsStationary g a wt p z
      → Encloses g l (λ v. l v + gap g l) p z
  rising_encloses shrinks l p z rises t fixed =
      let c : Setting = setting g a wt ok damped some heavy in
      let under = rising_below c shrinks (omega arith) l p z t (λ v w. sym (c.step_is p z v) ∙ fixed v w ∙ omega arith) rises in
      λ v w. (under v w, steps.gap_encloses g.nodes UNITS l p z t under v w)
