-- Where a record ends.
use Rattle.std.proofs.Common.{◌≡◌, ℕ, ◌-◌, ◌≤◌, Bool, List, [], ◌∷◌, length, drop, Option, ap, arith}
use Rattle.std.proofs.lemmas.List.{length-drop}
use Rattle.wg_params.specs.Parameters.{Parameters}
use Rattle.wg_bits.specs.Bits.{Position, rest, moved}
use Rattle.wg_grammar.specs.declared.need.Need.{Need}
use Rattle.wg_grammar.specs.declared.need.Need.TheVariants as need
use Rattle.wg_grammar.specs.Context.{Context}
use Rattle.wg_grammar.specs.SoFar.{SoFar, nothing_yet}
use Rattle.wg_grammar.specs.Next.{next}
use Rattle.wg_grammar.specs.Record.{Stands, Fields}
use Rattle.wg_grammar.proofs.OneGraph.{fields_within}
use Rattle.wg_decoder.specs.Proper.{unlimited, context_on, IsRecord}

stands_onward : (m : Need) (p : Parameters) (c : Context) (bits : List Bool) (s : SoFar) (at v mid : ℕ) (t : SoFar) → Stands m p c bits s at v mid t → at ≤ mid
stands_onward (need.Read f code) p c bits s at v mid t h = omega (arith, h.1)
stands_onward need.Check p c bits s at v mid t h = omega (arith, h.1)
stands_onward need.End p c bits s at v mid t h = absurd h

fields_onward : (p : Parameters) (c : Context) (bits : List Bool) (s : SoFar) (at : ℕ) (vs : List ℕ) (t : SoFar) (end : ℕ) → Fields p c bits s at vs t end → at ≤ end
fields_onward p c bits s at [] t end h = omega (arith, h.1)
fields_onward p c bits s at (v ∷ vs) t end h =
    let here = stands_onward (next p c s) p c bits s at v h.1 h.0 h.2 in
    let on = fields_onward p c bits h.0 h.1 vs t end h.3 in
    omega (arith, here, on)

record Inside (position : Position) (end : ℕ) : Type 0 where
  from : position.at ≤ end
  within : end ≤ length position.bits

inside : (p : Parameters) (page : ℕ) (below : Option (List ℕ)) (position : Position) (list : List ℕ) → position.at ≤ length position.bits → (h : IsRecord p page below position list) → Inside position h.end
inside p page below position list fits h = record {
  from = fields_onward (unlimited p) (context_on p page below) position.bits nothing_yet position.at h.stored h.whole h.end h.fields;
  within = fields_within (unlimited p) (context_on p page below) position.bits nothing_yet position.at h.stored h.whole h.end fits h.fields;
}

-- no more bits stand behind it than from its first bit on
pub fewer_behind : (p : Parameters) (page : ℕ) (below : Option (List ℕ)) (position : Position) (list : List ℕ) → position.at ≤ length position.bits → (h : IsRecord p page below position list) → length (drop h.end position.bits) ≤ length (rest position)
fewer_behind p page below position list fits h =
    let g = inside p page below position list fits h in
    omega (arith, g.from, length-drop h.end position.bits, length-drop position.at position.bits)

-- so many bits on it ends
pub end_there : (p : Parameters) (page : ℕ) (below : Option (List ℕ)) (position new : Position) (list : List ℕ) (by : ℕ) → position.at ≤ length position.bits → new ≡ moved position by → (h : IsRecord p page below position list) → by ≡ length (rest position) - length (drop h.end position.bits) → new.at ≡ h.end
end_there p page below position new list by fits is h by_is =
    let g = inside p page below position list fits h in
    omega (arith, g.from, g.within, fits, by_is, ap (λ (q : Position). q.at) is, length-drop h.end position.bits, length-drop position.at position.bits)
