use Rattle.std.proofs.lemmas.Result.{IfOk-weaker}
use Rattle.wg_grammar.proofs.ErrorLemmas.{faults_weaker}
use Rattle.wg_decoder.proofs.ApartLemmas.{head_stands_at, head_fails_at}
use Rattle.wg_decoder.proofs.ahead.head_from.Goals as goal

pub returns-clause-stands : goal.returns-clause-stands
returns-clause-stands g c = λ bits r behind.
    IfOk-weaker c.read_head.result _ _
    (λ h stands. head_stands_at c.args.params.now c.endless-params.result c.args.page c.args.arcs_before _ behind bits _ h.outdegree h.reference _ c.endless-params.ensures stands)
    (c.read_head.ensures.stands bits r)

pub returns-clause-fault : goal.returns-clause-fault
returns-clause-fault g c = λ bits r behind.
    faults_weaker c.read_head.result _ _
    (λ e fails. head_fails_at c.args.params.now c.endless-params.result c.args.page c.args.arcs_before _ behind bits _ e c.endless-params.ensures fails)
    (c.read_head.ensures.fault bits r)
