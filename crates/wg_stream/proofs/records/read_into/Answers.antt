use Rattle.std.proofs.Common.{ℕ, [], Ok, Err, sym, subst}
use Rattle.wg_params.specs.Parameters.{Parameters}
use Rattle.wg_grammar.specs.Archive.{ReadsGraph}
use Rattle.wg_stream.specs.Prefix.{AreBehind}
use Rattle.wg_grammar.proofs.ErrorLemmas.{faults_weaker}
use Rattle.wg_stream.proofs.ErrorLemmas.{on_ok}
use Rattle.wg_stream.proofs.records.read_into.Goals as goal

pub returns-clause-reads : goal.returns-clause-reads
returns-clause-reads g c = λ bits r.
    let start = subst (λ (n : ℕ). AreBehind bits c.new-pages.result n []) (sym c.requires.start) (c.new-pages.ensures.behind bits) in
    on_ok c.read_lists.result _ _ (λ k. (k.0, subst (λ (q : Parameters). ReadsGraph q bits (Ok (record { graph = c.read_lists.new.graph.lists; places = k.0 }))) c.new-pages.ensures.params k.1))
    (c.read_lists.ensures.reads bits r start)

pub returns-clause-fault : goal.returns-clause-fault
returns-clause-fault g c = λ bits r.
    let start = subst (λ (n : ℕ). AreBehind bits c.new-pages.result n []) (sym c.requires.start) (c.new-pages.ensures.behind bits) in
    faults_weaker c.read_lists.result _ _ (λ f h. subst (λ (q : Parameters). ReadsGraph q bits (Err f)) c.new-pages.ensures.params h)
    (c.read_lists.ensures.fault bits r start)
