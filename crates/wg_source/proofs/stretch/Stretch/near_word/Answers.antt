use Rattle.std.proofs.Common.{◌≡◌, ℕ, ◌+◌, ◌-◌, ◌*◌, ◌/◌, ◌%◌, ◌≤◌, ◌++◌, Bool, List, length, take, drop, sym, ap, subst, ◌∙◌, arith, length-drop}
use Rattle.wg_bits.specs.Bits.{bits_of, rest}
use Rattle.wg_bits.specs.declared.window.TheConstants.{GLANCE_BITS}
use Rattle.wg_codes.specs.Reading.{Reads}
use Rattle.wg_codes.specs.Words.{word, top}
use Rattle.wg_codes.specs.declared.outcome.Read.TheVariants.{Value}
use Rattle.wg_codes.proofs.PrefixReads.{prefix_value}
use Rattle.wg_source.specs.Held.{HeldBytes, ahead}
use Rattle.wg_source.specs.declared.stretch.TheConstants.{WORD}
use Rattle.wg_source.proofs.NearLemmas.{near_bits, length-near, told_here}
use Rattle.wg_source.proofs.stretch.Stretch.near_word.Goals as goal

pub new-near-requires : goal.new-near-requires
new-near-requires c =
    let s = c.self.inside in
    omega (arith, ap length c.of.ensures, length-near s.bytes s.length (s.here / 8) (s.here / 8 + WORD - s.here / 8) (omega arith) (omega (arith, c.self.invariant.0)))

pub returns-clause-found : goal.returns-clause-found
returns-clause-found c =
    let s = c.self.inside in
    let m : ℕ = s.here / 8 + WORD - s.here / 8 in
    let behind : List Bool = bits_of (drop m (drop (s.here / 8) (take s.length s.bytes))) in
    let long = length-near s.bytes s.length (s.here / 8) (s.here / 8 + WORD - s.here / 8) (omega arith) (omega (arith, c.self.invariant.0)) in
    let near : rest c.new-near.result ≡ drop (s.here % 8) (bits_of (take m (drop (s.here / 8) s.bytes))) =
    ap rest c.new-near.ensures ∙ ap (drop (s.here % 8)) c.of.ensures in
    let here : c.args.self.now.at - 8 * c.args.self.now.first ≡ 8 * (s.here / 8) + s.here % 8 =
    omega (arith, ap (λ (h : HeldBytes). h.at) c.self.view_is, ap (λ (h : HeldBytes). h.first) c.self.view_is) in
    let whole : ahead c.args.self.now ≡ rest c.new-near.result ++ behind =
    ap (λ k. drop k (bits_of c.args.self.now.bytes)) here
    ∙ ap (λ (h : HeldBytes). drop (8 * (s.here / 8) + s.here % 8) (bits_of h.bytes)) (sym c.self.view_is)
    ∙ near_bits s.bytes s.length (s.here / 8) (s.here % 8) m (omega arith) (omega (arith, c.self.invariant.0)) (omega arith)
    ∙ ap (λ (z : List Bool). z ++ behind) (sym near) in
    let fits : GLANCE_BITS ≤ length (rest c.new-near.result) =
    omega (arith, ap length near, length-drop (s.here % 8) (bits_of (take m (drop (s.here / 8) s.bytes))), long) in
    subst (λ (z : List Bool). Reads (word c.args.code) (top c.args.code) z (Value c.in_ok-found.found.value)) (sym whole)
    (prefix_value (word c.args.code) (top c.args.code) c.in_ok-found.found.value (rest c.new-near.result) behind
    (told_here (word c.args.code) (top c.args.code) c.glance.result GLANCE_BITS (rest c.new-near.result) fits c.glance.ensures c.in_ok-found.found c.in_ok-found.ensures (omega arith)))
