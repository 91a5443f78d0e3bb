use Rattle.std.proofs.Common.{ℕ, subst}
use Rattle.wg_bits.specs.Bits.{bits_of}
use Rattle.wg_grammar.specs.Standing.{IsTailAt}
use Rattle.wg_source.proofs.TailLemmas.{judged_of_file}
use Rattle.wg_source.proofs.filling.next_tail_fault.Goals as goal

pub returns-clause-tail : goal.returns-clause-tail
returns-clause-tail g c = λ t file is i.
    subst (λ (n : ℕ). IsTailAt (bits_of file) n c.tail_fault.result) c.in_ok-fill.ensures.at
    (judged_of_file file c.fill.new.held c.tail_fault.result (c.in_ok-fill.ensures.steps.in_step t file is i) c.in_ok-fill.ensures.inside c.in_ok-fill.ensures.next
    c.tail_fault.ensures.none c.tail_fault.ensures.some)
