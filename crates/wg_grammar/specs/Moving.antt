-- A cursor that moves on over its bits.
use Rattle.std.proofs.Common.{◌≡◌, ◌∙◌, ◌≤◌, Bool, List, refl, arith}
use Rattle.wg_bits.specs.Bits.{Position}

-- b has the bits of a, and an offset that is no smaller
pub record MovedOn (a b : Position) : Type 0 where
  pub bits : b.bits ≡ a.bits
  pub at : a.at ≤ b.at

pub stays : (a : Position) → MovedOn a a
stays a = record { bits = refl; at = omega arith }

pub goes_on : (a b c : Position) → MovedOn a b → MovedOn b c → MovedOn a c
goes_on a b c l m = record { bits = m.bits ∙ l.bits; at = omega (arith, l.at, m.at) }

pub onward : (a b : Position) → MovedOn a b → a.at ≤ b.at
onward a b l = l.at

pub same_bits : (a b : Position) (bits : List Bool) → MovedOn a b → a.bits ≡ bits → b.bits ≡ bits
same_bits a b bits l e = l.bits ∙ e
