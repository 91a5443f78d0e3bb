use Rattle.std.proofs.Common.{◌≡◌, subst}
use Rattle.wg_graph.specs.Digraph.{Digraph}
use Rattle.wg_rank.specs.Weights.{weights_of}
use Rattle.wg_rank.specs.Rounds.{bounds_after}
use Rattle.wg_rank.proofs.pulled.bounds_by_rounds.Goals as goal

pub returns-in-Some-Runs : goal.returns-in-Some-Runs
returns-in-Some-Runs g c = λ given weighed.
    let b = c.args.bounds in
    let same = rw c.in-Some-Runs.field-0-is at (rw c.in-Some-Runs.is at c.requires.pulled) in
    subst (λ (h : Digraph). b.weights ≡ weights_of h.nodes given → c.last_bounds.result ≡ bounds_after h given b.damping c.args.rounds) same (c.last_bounds.ensures given) weighed

pub returns-in-Some-InLists : goal.returns-in-Some-InLists
returns-in-Some-InLists g c = λ given weighed.
    let b = c.args.bounds in
    let same = rw c.in-Some-InLists.field-0-is at (rw c.in-Some-InLists.is at c.requires.pulled) in
    subst (λ (h : Digraph). b.weights ≡ weights_of h.nodes given → c.last_bounds-in-Some-InLists.result ≡ bounds_after h given b.damping c.args.rounds) same (c.last_bounds-in-Some-InLists.ensures given) weighed
