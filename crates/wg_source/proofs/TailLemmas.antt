-- What follows the last record, by the bytes that are held.
use Rattle.std.proofs.Common.{◌≡◌, ℕ, ◌+◌, ◌-◌, ◌*◌, ◌/◌, ◌<◌, ◌≤◌, true, false, List, ◌++◌, length, get_or, Option, Some, None, IfSome, IfNone, ◌∙◌, ap, ⊎_elim, inl, inr, arith, length-append}
use Rattle.std.proofs.lemmas.List.{get_or_append_left, get_or-append-add}
use Rattle.wg_bits.specs.Bits.{bits_of}
use Rattle.wg_bits.proofs.Words.{length-bits_of}
use Rattle.wg_bits.proofs.Writes.{bits_of-append}
use Rattle.wg_grammar.specs.Archive.{IsTail, IsTailFault}
use Rattle.wg_grammar.specs.Standing.{IsTailAt}
use Rattle.wg_source.specs.declared.stretch.TheConstants.{WORD}
use Rattle.wg_source.specs.Held.{HeldBytes, IsHeldOf, IsInside, HoldsNext}
use Rattle.wg_source.proofs.FillLemmas.{no_bits}

-- how many bits the file has
length_of_file : (file : List ℕ) (h : HeldBytes) (i : IsHeldOf file h) → length (bits_of file) ≡ 8 * h.first + length (bits_of h.bytes) + length (bits_of i.behind)
length_of_file file h i =
    omega (arith, length-bits_of file, length-bits_of h.bytes, length-bits_of i.behind, ap length i.whole, length-append i.before (h.bytes ++ i.behind), length-append h.bytes i.behind, i.offset)

-- a bit that is held
held_bit : (file : List ℕ) (h : HeldBytes) (i : IsHeldOf file h) (k : ℕ) → 8 * h.first ≤ k → k - 8 * h.first < length (bits_of h.bytes) → get_or (bits_of file) k false ≡ get_or (bits_of h.bytes) (k - 8 * h.first) false
held_bit file h i k from there = grind (arith, get_or_append_left, get_or-append-add, length-bits_of, bits_of-append)

pub tail_of_file : (file : List ℕ) (h : HeldBytes) → IsHeldOf file h → IsInside h → HoldsNext WORD h → IsTail (bits_of h.bytes) (h.at - 8 * h.first) → IsTail (bits_of file) h.at
tail_of_file file h i inside next tail = ⊎_elim
    (λ (e : h.ended ≡ true).
    let none : length (bits_of i.behind) ≡ 0 = ap length (no_bits i.behind (i.ended e)) in
    let all = length_of_file file h i in
    record {
      short = omega (arith, tail.short, all, none, inside.from);
      zeros = λ k low high.
          held_bit file h i k (omega (arith, low, inside.from)) (omega (arith, high, all, none, low, inside.from))
          ∙ tail.zeros (k - 8 * h.first) (omega (arith, low)) (omega (arith, high, all, none, low, inside.from));
    })
    (λ (many : h.at / 8 + WORD ≤ h.first + length h.bytes). absurd (omega (arith, tail.short, many, length-bits_of h.bytes, inside.from)))
    next

pub fault_of_file : (file : List ℕ) (h : HeldBytes) (offset : ℕ) → IsHeldOf file h → IsInside h → 8 * h.first ≤ offset → IsTailFault (bits_of h.bytes) (h.at - 8 * h.first) (offset - 8 * h.first) → IsTailFault (bits_of file) h.at offset
fault_of_file file h offset i inside low f =
    let all = length_of_file file h i in
    record {
      from = omega (arith, f.from, inside.from, low);
      there = omega (arith, f.there, all, low);
      near = omega (arith, f.near, inside.from, low);
      zeros = λ k more less.
          held_bit file h i k (omega (arith, more, inside.from)) (omega (arith, less, f.there, low))
          ∙ f.zeros (k - 8 * h.first) (omega (arith, more)) (omega (arith, less, more, inside.from));
      why = ⊎_elim
          (λ (one : get_or (bits_of h.bytes) (offset - 8 * h.first) false ≡ true). inl (held_bit file h i offset low f.there ∙ one))
          (λ many. inr (omega (arith, many, low, inside.from)))
          f.why;
    }

-- the tail that is validated by what is held is that of the file
pub judged_of_file : (file : List ℕ) (h : HeldBytes) (o : Option ℕ) → IsHeldOf file h → IsInside h → HoldsNext WORD h → IfNone o (IsTail (bits_of h.bytes) (h.at - 8 * h.first))
    → IfSome o (λ at. (8 * h.first ≤ at) × IsTailFault (bits_of h.bytes) (h.at - 8 * h.first) (at - 8 * h.first)) → IsTailAt (bits_of file) h.at o
judged_of_file file h None i inside next none some = tail_of_file file h i inside next none
judged_of_file file h (Some at) i inside next none some = fault_of_file file h at i inside some.0 some.1
