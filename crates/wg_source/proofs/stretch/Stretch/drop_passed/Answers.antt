use Rattle.std.proofs.Common.{◌≡◌, ◌+◌, ◌-◌, ◌*◌, ◌/◌, ◌%◌, ◌∙◌, take, drop, ap, sym, subst, refl, arith}
use Rattle.wg_source.specs.Held.{HeldBytes}
use Rattle.wg_source.proofs.HeldLemmas.{front_dropped, same_held}
use Rattle.wg_source.proofs.stretch.Stretch.drop_passed.Goals as goal

pub returns : goal.returns
returns c =
    let s = c.self.inside in
    let v = c.self.invariant in
    let k = s.here / 8 in
    let passed : (8 * s.first + s.here) / 8 - s.first ≡ k = omega arith in
    let bytes : take (s.length - k) c.copy_within.new.self ≡ drop ((8 * s.first + s.here) / 8 - s.first) (take s.length s.bytes) =
    ap (take (s.length - k)) c.copy_within.ensures.after ∙ front_dropped s.bytes s.length k (omega (arith, v.1)) (omega (arith, v.0)) ∙ ap (λ n. drop n (take s.length s.bytes)) (sym passed) in
    subst (λ (h : HeldBytes). (let g : HeldBytes = record { bytes = take (s.length - k) c.copy_within.new.self; first = s.first + k; at = 8 * (s.first + k) + s.here % 8; ended = s.ended; looked = s.looked } in g) ≡ record { bytes = drop (h.at / 8 - h.first) h.bytes; first = h.at / 8; at = h.at; ended = h.ended; looked = h.looked })
    c.self.view_is (same_held _ _ bytes (omega arith) (omega arith) refl refl)
