use Rattle.std.proofs.Common.{◌∙◌, sym, rules}
use Rattle.std.proofs.lemmas.Option.{none-some}
use Rattle.wg_outside.proofs.PutsLemmas.{is_that_err}
use Rattle.wg_properties.specs.Values.{value_at}
use Rattle.wg_properties.specs.Judged.{judged}
use Rattle.wg_properties.proofs.Limits.{never_bad}
use Rattle.wg_properties.proofs.judge.judge.Goals as goal

pub returns-in_err-judge_class : goal.returns-in_err-judge_class
unfolding judged
returns-in_err-judge_class c = let h = is_that_err c.from_residual.result _ c.from_residual.ensures.1 in search rules

pub returns-in_err-judge_version : goal.returns-in_err-judge_version
unfolding judged
returns-in_err-judge_version c = let h = is_that_err c.from_residual-in_err-judge_version.result _ c.from_residual-in_err-judge_version.ensures.1 in search rules

pub returns-in_err-judge_endianness : goal.returns-in_err-judge_endianness
unfolding judged
returns-in_err-judge_endianness c = let h = is_that_err c.from_residual-in_err-judge_endianness.result _ c.from_residual-in_err-judge_endianness.ensures.1 in search rules

pub returns-in_err-nodes : goal.returns-in_err-nodes
unfolding judged
returns-in_err-nodes c = let h = is_that_err c.from_residual-in_err-nodes.result _ c.from_residual-in_err-nodes.ensures.1 in search rules

pub returns-in_err-arcs : goal.returns-in_err-arcs
unfolding judged
returns-in_err-arcs c = let h = is_that_err c.from_residual-in_err-arcs.result _ c.from_residual-in_err-arcs.ensures.1 in search rules

pub returns-in_err-window : goal.returns-in_err-window
unfolding judged
returns-in_err-window c = let h = is_that_err c.from_residual-in_err-window.result _ c.from_residual-in_err-window.ensures.1 in search rules

pub returns-in_err-chain : goal.returns-in_err-chain
unfolding judged
returns-in_err-chain c = let h = is_that_err c.from_residual-in_err-chain.result _ c.from_residual-in_err-chain.ensures.1 in search rules

pub returns-in_err-interval : goal.returns-in_err-interval
unfolding judged
returns-in_err-interval c = let h = is_that_err c.from_residual-in_err-interval.result _ c.from_residual-in_err-interval.ensures.1 in search rules

pub returns-in_err-zeta : goal.returns-in_err-zeta
unfolding judged
returns-in_err-zeta c = let h = is_that_err c.from_residual-in_err-zeta.result _ c.from_residual-in_err-zeta.ensures.1 in search rules

pub returns-in_err-codes : goal.returns-in_err-codes
unfolding judged
returns-in_err-codes c = let h = is_that_err c.from_residual-in_err-codes.result _ c.from_residual-in_err-codes.ensures.1 in search rules

pub returns-in-Ok : goal.returns-in-Ok
unfolding judged
returns-in-Ok c = let h = c.in-Ok.ensures.ok in search rules

pub returns-in-Err : goal.returns-in-Err
returns-in-Err c =
    let nodes = sym c.judge_number.ensures ∙ c.in_ok-nodes.was in
    let arcs = sym c.judge_number-2.ensures ∙ c.in_ok-arcs.was in
    let window = sym c.judge_number-3.ensures ∙ c.in_ok-window.was in
    let chain = sym c.judge_chain.ensures ∙ c.in_ok-chain.was in
    let interval = sym c.judge_number-4.ensures ∙ c.in_ok-interval.was in
    let zeta = sym c.judge_zeta.ensures ∙ c.in_ok-zeta.was in
    let codes = sym c.judge_flags.ensures ∙ c.in_ok-codes.was in
    let none = never_bad (value_at c.args.values.now) c.in_ok-nodes.nodes c.in_ok-arcs.arcs c.in_ok-window.window c.in_ok-chain.chain c.in_ok-interval.interval c.in_ok-zeta.zeta c.in_ok-codes.codes nodes arcs window chain interval zeta codes in
    absurd (none-some _ (sym none ∙ c.in-Err.ensures.bad))
