-- What comes of a sink in memory or of the system by writing on.
use Rattle.std.proofs.Common.{◌≤◌, arith}
use Rattle.wg_io.specs.Memory.{Refusals}

-- no count falls
abbrev pub NoneFalls : Refusals → Refusals → Type 0
NoneFalls a b = (a.faults ≤ b.faults) × (a.wants ≤ b.wants)

pub none_falls : (a : Refusals) → NoneFalls a a
none_falls a = (omega arith, omega arith)

pub none_falls_twice : (a b c : Refusals) → NoneFalls a b → NoneFalls b c → NoneFalls a c
none_falls_twice a b c l m = (omega (arith, l.0, m.0), omega (arith, l.1, m.1))
