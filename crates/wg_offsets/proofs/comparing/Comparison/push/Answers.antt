use Rattle.std.proofs.Common.{◌≡◌, ◌⊎◌, ◌≢◌, ℕ, ◌-◌, [], ◌∷◌, Some, None, IfSome, IfNone, sym, subst, arith, length-append}
use Rattle.wg_offsets.specs.Places.{last_place}
use Rattle.wg_offsets.specs.Comparing.{Compared, AreCompared}
use Rattle.wg_offsets.proofs.WordsLemmas.{last_more}
use Rattle.wg_offsets.proofs.ComparingLemmas.{judged_more}
use Rattle.wg_offsets.proofs.comparing.Comparison.push.Goals as goal

pub returns-clause-compared : goal.returns-clause-compared
returns-clause-compared c = λ p q h.
    let i = c.self.inside in
    let n = c.keep_first.new.mismatch in
    let a = subst (λ (x : Compared). AreCompared x p q) (sym c.self.view_is) h in
    let f = c.keep_first.ensures in
    let none = subst (λ (k : ℕ). IfNone n ((i.mismatch ≡ None) × (c.args.here - k ≡ c.args.there - last_place q))) (sym a.end_here)
    (subst (λ (k : ℕ). IfNone n ((i.mismatch ≡ None) × (c.args.here - i.here ≡ c.args.there - k))) (sym a.end_there) f.none) in
    let some = subst (λ (k : ℕ). IfSome n (λ x. (i.mismatch ≡ Some x) ⊎ ((i.mismatch ≡ None) × (x ≡ (i.page, c.args.here - k, c.args.there - last_place q)) × (c.args.here - k ≢ c.args.there - last_place q)))) (sym a.end_here)
    (subst (λ (k : ℕ). IfSome n (λ x. (i.mismatch ≡ Some x) ⊎ ((i.mismatch ≡ None) × (x ≡ (i.page, c.args.here - i.here, c.args.there - k)) × (c.args.here - i.here ≢ c.args.there - k)))) (sym a.end_there) f.some) in
    record {
      many_here = omega (arith, length-append p (c.args.here ∷ []), a.many_here);
      many_there = omega (arith, length-append q (c.args.there ∷ []), a.many_there);
      end_here = last_more p c.args.here;
      end_there = last_more q c.args.there;
      mismatch = judged_more i.mismatch n p q c.args.here c.args.there i.page a.many_here a.many_there a.mismatch none some;
    }
