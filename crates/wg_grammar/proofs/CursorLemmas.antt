use Rattle.std.proofs.Common.{◌≡◌, Bool, List, drop, subst, ap, arith}
use Rattle.wg_bits.specs.Bits.{Position, rest}
use Rattle.wg_codes.specs.Reading.{Reads, after}
use Rattle.wg_codes.specs.Words.{word, top}
use Rattle.wg_codes.specs.declared.outcome.Read.{Read}
use Rattle.wg_codes.specs.declared.outcome.Read.TheVariants.{Value, Cut, NoWord}
use Rattle.wg_params.specs.declared.code.Code.{Code}
use Rattle.wg_grammar.specs.Standing.{StopsAt, IsReadAt}
use Rattle.wg_grammar.specs.Moving.{MovedOn}

pub after_later : (code : Code) (a b : Position) (r : Read) → b ≡ after (word code) a r → MovedOn a b
after_later code a b (Value v) e = record { bits = ap (λ (p : Position). p.bits) e; at = omega (arith, ap (λ (p : Position). p.at) e) }
after_later code a b Cut e = record { bits = ap (λ (p : Position). p.bits) e; at = omega (arith, ap (λ (p : Position). p.at) e) }
after_later code a b NoWord e = record { bits = ap (λ (p : Position). p.bits) e; at = omega (arith, ap (λ (p : Position). p.at) e) }

after_stops : (code : Code) (a b : Position) (r : Read) → b ≡ after (word code) a r → StopsAt code a.at r b.at
after_stops code a b (Value v) e = ap (λ (p : Position). p.at) e
after_stops code a b Cut e = tt
after_stops code a b NoWord e = tt

pub read_at : (code : Code) (a b : Position) (r : Read) (bits : List Bool) → Reads (word code) (top code) (rest a) r → b ≡ after (word code) a r → a.bits ≡ bits → IsReadAt code bits a.at r b.at
read_at code a b r bits found e is = (subst (λ (z : List Bool). Reads (word code) (top code) (drop a.at z) r) is found, after_stops code a b r e)
