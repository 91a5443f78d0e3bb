use Rattle.std.proofs.Common.{true≢false, ◌≡◌, ◌∙◌, ◌+◌, ◌<◌, ℕ, suc, List, ◌∷◌, [], ◌++◌, length, take, get_or, refl, sym, subst, arith}
use Rattle.std.proofs.lemmas.List.{length-set, take_more_set}
use Rattle.wg_graph.specs.Joined.{Joined}
use Rattle.wg_graph.proofs.Unions.{Nears, nears, nears_on, joins_member, joins_between}
use Rattle.wg_graph.proofs.merging.write_joined.Goals.{then-below-test+else-members-taken, else-below-test}
use Rattle.wg_graph.proofs.merging.write_joined.Goals as goal

pub below-init : goal.below-init
below-init c = record {
  within = omega arith;
  place = refl;
  length = refl;
  nears = λ numbers m le h. nears c.args.members.now numbers c.args.from (take c.args.at c.args.to.now) m c.args.number le h;
}

pub below-preserved : goal.below-preserved
below-preserved c =
    let a = c.args.members.now in
    let i : ℕ = c.below.taken in
    let k : ℕ = c.below.end in
    record {
      within = omega arith;
      place = omega arith;
      length = length-set c.below.to k (get_or a i 0) ∙ c.below.invariant.length;
      nears = λ numbers m le h. subst (λ (out : List ℕ). Nears a numbers (i + 1) out c.args.number) (sym (take_more_set c.below.to k (get_or a i 0) (omega arith))) (nears_on a numbers i (take k c.below.to) c.args.number c.below-test.true c.if-members-taken.true (c.below.invariant.nears numbers m le h));
    }

pub returns-then-stands_at-clause-joined : goal.returns-then-stands_at-clause-joined
returns-then-stands_at-clause-joined c numbers m le h =
    let a = c.args.members.now in
    let y = c.args.number in
    let i : ℕ = c.below.taken in
    let k : ℕ = c.below.end in
    let there = c.stands_at.ensures.0 c.if-stands_at.true in
    subst (λ (out : List ℕ). Joined a (numbers ++ y ∷ []) (i + 1) out (suc y)) (sym (take_more_set c.below.to k y (omega arith))) (joins_member a numbers i (take k c.below.to) m y h.below le (c.below.invariant.nears numbers m le h) there.0 there.1)

pub returns-clause-joined : goal.returns-clause-joined
returns-clause-joined c numbers m le h =
    let a = c.args.members.now in
    let y = c.args.number in
    let i : ℕ = c.below.taken in
    let k : ℕ = c.below.end in
    let other : i < length a → get_or a i 0 ≡ y → ⊥ = λ here same. true≢false (sym (c.stands_at.ensures.1 (here, same)) ∙ c.if-stands_at.false) in
    let later : i < length a → y < get_or a i 0 =
    λ here. elim c.below-test.branch [
      | then-below-test+else-members-taken w ↦ omega (arith, other here)
      | else-below-test w ↦ omega arith
    ] in
    subst (λ (out : List ℕ). Joined a (numbers ++ y ∷ []) i out (suc y)) (sym (take_more_set c.below.to k y (omega arith))) (joins_between a numbers i (take k c.below.to) m y h.below le (c.below.invariant.nears numbers m le h) later)
