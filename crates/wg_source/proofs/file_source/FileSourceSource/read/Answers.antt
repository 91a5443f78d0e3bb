use Rattle.std.proofs.Common.{◌≡◌, ℕ, List, Bool, sym, ap, subst}
use Rattle.std.specs.Result.{IfOk}
use Rattle.wg_bits.specs.Bits.{bits_of}
use Rattle.wg_codes.specs.declared.outcome.Read.TheVariants.{Value, Cut}
use Rattle.wg_grammar.specs.Standing.{IsReadAt}
use Rattle.wg_source.specs.Held.{HeldBytes, IsHeldOf}
use Rattle.wg_source.proofs.FillLemmas.{whole_of_file}
use Rattle.wg_source.proofs.file_source.FileSourceSource.read.Goals as goal

pub returns-in-Some-clause-found : goal.returns-in-Some-clause-found
returns-in-Some-clause-found g c = λ bits r.
    subst (λ (b : List Bool). IsReadAt c.args.code b c.args.self.now.held.now.at (Value c.in-Some.value) c.near_word.new.self.at) r.1.3 (
      whole_of_file c.args.code r.1.0 c.args.self.now.held.now (Value c.in-Some.value) (λ (e : Value c.in-Some.value ≡ Cut). cc e) c.near_word.ensures.inside r.1.2 c.in-Some.ensures.found,
      c.in-Some.ensures.stops,
    )

pub returns-in-None-clause-found : goal.returns-in-None-clause-found
returns-in-None-clause-found g c = λ bits r.
    let still = c.in-None.ensures.still in
    subst (λ (b : List Bool). IfOk c.word_in_pieces.result (λ x. IsReadAt c.args.code b c.args.self.now.held.now.at x c.word_in_pieces.new.held.at)) r.1.3
    (subst (λ (n : ℕ). IfOk c.word_in_pieces.result (λ x. IsReadAt c.args.code (bits_of r.1.0) n x c.word_in_pieces.new.held.at)) (ap (λ (h : HeldBytes). h.at) still)
    (c.word_in_pieces.ensures.found r.0 r.1.0 r.1.1 (subst (IsHeldOf r.1.0) (sym still) r.1.2)))
