use Rattle.std.proofs.Common.{◌≡◌, ℕ, List, length, min, ap, subst, arith}
use Rattle.wg_outside.specs.Puts.{Puts}
use Rattle.wg_outcomes.proofs.RankLemmas.{first_text}
use Rattle.wg_queries.proofs.rank.print_ranks.Goals as goal

pub of-first-requires : goal.of-first-requires
of-first-requires g c = omega (arith, ap length c.lower.ensures.value, c.min.ensures)

pub returns-clause-puts : goal.returns-clause-puts
returns-clause-puts g c = λ o r.
    let b = c.args.bounds in
    let s = c.of-first.result in
    let pages = ap length c.lower.ensures.value in
    let count : c.min.result ≡ min c.args.job.now.top (length b.low) = omega (arith, c.min.ensures, pages) in
    let first = c.of-first.ensures in
    let text = first_text b s c.min.result first.low first.high first.pages r c.args.job.now.top count in
    subst (λ (t : List ℕ). Puts t (g.O.Sink.taken c.args.out.now) (g.O.Sink.taken c.print_ranking.new.out) c.print_ranking.result) text (c.print_ranking.ensures.puts o)
