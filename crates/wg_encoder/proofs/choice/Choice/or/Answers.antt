use Rattle.std.proofs.Common.{◌≡◌, ◌≤◌, true, Some, None, sym, subst, inl, inr, arith}
use Rattle.std.proofs.lemmas.Bool.{cases_lt, cond-true}
use Rattle.wg_encoder.specs.Cost.{IsFewer}
use Rattle.wg_greedy.specs.Greedy.{size_of, is_candidate}
use Rattle.wg_encoder.specs.Encoding.{offer_of}
use Rattle.wg_encoder.proofs.Choosing.{best_so_far}
use Rattle.wg_encoder.proofs.choice.Choice.or.Goals as goal

pub returns-in-None : goal.returns-in-None
returns-in-None c = λ p k list best fewer.
    let none : IsFewer c.args.self.bits (offer_of p k list c.args.reference) None = subst (IsFewer c.args.self.bits (offer_of p k list c.args.reference)) c.in-None.is fewer in
    record {
      candidate = best.candidate;
      bits = best.bits;
      among = (let a = best.among in omega (arith, a));
      shortest = λ r lt may. elim (cases_lt r c.args.reference) [
        | inl low ↦ best.shortest r low may
        | inr high ↦ (let same : r ≡ c.args.reference = omega arith in
            subst (λ n. c.args.self.bits ≤ size_of p k list n) (sym same)
            (none (size_of p k list c.args.reference) (cond-true (is_candidate p k list c.args.reference) (Some (size_of p k list c.args.reference)) None (subst (λ n. is_candidate p k list n ≡ true) same may))))
      ];
      first = best.first;
    }

pub returns-then-bits-self : goal.returns-then-bits-self
returns-then-bits-self c = λ p k list best fewer.
    best_so_far p k list _ _ _ best (subst (IsFewer c.args.self.bits (offer_of p k list c.args.reference)) c.in-Some.is fewer) c.if-bits-self.true
