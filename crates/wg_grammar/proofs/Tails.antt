-- Zero bits, and what follows them.
use Rattle.std.proofs.Common.{◌≡◌, ℕ, ◌+◌, ◌-◌, ◌<◌, ◌≤◌, Bool, true, false, List, [], ◌∷◌, ◌++◌, length, replicate, drop, get_or, inl, inr, refl, sym, ap, ◌∙◌, arith, length-append, length-drop}
use Rattle.std.proofs.lemmas.List.{length-replicate, get_or-drop, get_or-replicate, get_or_append_left, get_or-append_right}
use Rattle.wg_bits.specs.Bits.{BeginsWithNoZero}
use Rattle.wg_grammar.specs.declared.tail.TheConstants.{MOST_TAIL}
use Rattle.wg_grammar.specs.Archive.{IsTail, IsTailFault}

-- the bit i of those from at on
from_place : (bits : List Bool) (at i : ℕ) → at ≤ i → get_or bits i false ≡ get_or (drop at bits) (i - at) false
from_place bits at i le = ap (λ (k : ℕ). get_or bits k false) (omega arith) ∙ sym (get_or-drop at bits (i - at) false)

zero_bits : (bits y : List Bool) (at n : ℕ) → drop at bits ≡ replicate n false ++ y → (i : ℕ) → at ≤ i → i < at + n → get_or bits i false ≡ false
zero_bits bits y at n e i low high =
    let within : i - at < length (replicate n false) = omega (arith, length-replicate n false) in
    from_place bits at i low ∙ ap (λ (z : List Bool). get_or z (i - at) false) e
    ∙ get_or_append_left (replicate n false) y false (i - at) within ∙ get_or-replicate n (i - at) false false (omega arith)

next_bit : (bits y : List Bool) (at n : ℕ) → drop at bits ≡ replicate n false ++ y → get_or bits (at + n) false ≡ get_or y 0 false
next_bit bits y at n e =
    from_place bits at (at + n) (omega arith) ∙ ap (λ (z : List Bool). get_or z (at + n - at) false) e
    ∙ get_or-append_right (replicate n false) y n (at + n - at) false (length-replicate n false) (omega arith)
    ∙ ap (λ (k : ℕ). get_or y k false) (omega arith)

begins_with_one : (y : List Bool) → BeginsWithNoZero y → 0 < length y → get_or y 0 false ≡ true
begins_with_one [] h some = absurd (omega arith)
begins_with_one (b ∷ bs) h some = h

whole_length : (bits y : List Bool) (at n : ℕ) → at ≤ length bits → drop at bits ≡ replicate n false ++ y → length bits ≡ at + n + length y
whole_length bits y at n fits e = omega (arith, fits, ap length e, length-drop at bits, length-append (replicate n false) y, length-replicate n false)

-- too many zero bits
pub too_many : (bits y : List Bool) (at n : ℕ) → at ≤ length bits → drop at bits ≡ replicate n false ++ y → MOST_TAIL < n → n ≤ MOST_TAIL + 1 → IsTailFault bits at (at + MOST_TAIL)
too_many bits y at n fits e many few = record {
  from = omega arith;
  there = omega (arith, whole_length bits y at n fits e);
  near = omega arith;
  zeros = λ i low high. zero_bits bits y at n e i low (omega arith);
  why = inr refl;
}

-- a one
pub one_stands : (bits y : List Bool) (at n : ℕ) → at ≤ length bits → drop at bits ≡ replicate n false ++ y → n ≤ MOST_TAIL → BeginsWithNoZero y → 0 < length y → IsTailFault bits at (at + n)
one_stands bits y at n fits e few one some = record {
  from = omega arith;
  there = omega (arith, whole_length bits y at n fits e);
  near = omega arith;
  zeros = λ i low high. zero_bits bits y at n e i low high;
  why = inl (next_bit bits y at n e ∙ begins_with_one y one some);
}

-- nothing more
pub all_zero : (bits y : List Bool) (at n : ℕ) → at ≤ length bits → drop at bits ≡ replicate n false ++ y → n ≤ MOST_TAIL → length y ≡ 0 → IsTail bits at
all_zero bits y at n fits e few none = record {
  short = omega (arith, whole_length bits y at n fits e);
  zeros = λ i low high. zero_bits bits y at n e i low (omega (arith, whole_length bits y at n fits e));
}
