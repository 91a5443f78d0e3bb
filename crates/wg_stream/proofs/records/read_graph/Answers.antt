use Rattle.std.proofs.Common.{◌≡◌, ◌-◌, ◌∙◌, ℕ, List, [], ◌++◌, Ok, length, replicate, sym, ap, subst, arith}
use Rattle.std.proofs.lemmas.List.{append-nil}
use Rattle.wg_outside.proofs.PutsLemmas.{is_that_err}
use Rattle.wg_grammar.specs.Archive.{ReadsGraph}
use Rattle.wg_stream.proofs.records.read_graph.Goals as goal

pub returns-clause-reads : goal.returns-clause-reads
returns-clause-reads g c = λ bits r.
    let made = c.read_into.new.graph in
    let k = c.in_ok-read_into.ensures.reads bits r in
    let full : made.nodes - length made.lists ≡ 0 = omega (arith, c.in_ok-read_into.ensures.all, c.read_into.ensures.nodes) in
    let lists : c.in_ok-finish.field-0.lists ≡ made.lists = c.in_ok-finish.ensures.lists ∙ ap (λ (n : ℕ). made.lists ++ replicate n []) full ∙ append-nil made.lists in
    (k.0, subst (λ (s : List (List ℕ)). ReadsGraph c.args.params bits (Ok (record { graph = s; places = k.0 }))) (sym lists) k.1)

pub returns-in_err-read_into-clause-fault : goal.returns-in_err-read_into-clause-fault
returns-in_err-read_into-clause-fault g c = λ bits r.
    rw (is_that_err c.from_residual-in_err-read_into.result _ c.from_residual-in_err-read_into.ensures.1) (c.in_err-read_into.ensures.fault bits r)
