use Rattle.std.proofs.Common.{rules, ◌≡◌, ℕ, Bool, List, Err, refl, subst, arith}
use Rattle.std.proofs.{lemmas.List.with_items_is, lemmas.List.Elements.All-replicate}
use Rattle.wg_outside.proofs.PutsLemmas.{is_that_err}
use Rattle.wg_bits.specs.Bits.{bits_of}
use Rattle.wg_params.specs.Parameters.{Parameters}
use Rattle.wg_grammar.specs.{Archive.ReadsGraph, Errors.OfFault}
use Rattle.wg_transforms.specs.Counting.{CountsArcs}
use Rattle.wg_transforms.proofs.counting.count_records.Goals as goal

pub count_on-requires-clause-zeros : goal.count_on-requires-clause-zeros
count_on-requires-clause-zeros c =
    let all = c.in_ok-counts.ensures.items_if_clones_equal (λ y h. search rules) in
    rw (c.deref_mut.ensures.value, all) (All-replicate (λ (x : ℕ). x ≡ 0) c.nodes-nodes.result 0 refl)

pub returns-in_err-greatest : goal.returns-in_err-greatest
returns-in_err-greatest c =
    let bits = bits_of c.args.bytes.now in
    let same : c.new-source.result.bits ≡ bits = rw (c.new-source.ensures, c.of.ensures) refl in
    let x = c.in_err-greatest.field-0.0 in
    rw (is_that_err c.from_residual-in_err-greatest.result _ c.from_residual-in_err-greatest.ensures.1) record {
      finds = tt;
      fault = subst (λ (p : Parameters). OfFault x (λ f. ReadsGraph p bits (Err f))) c.new-pages.ensures.params
          (subst (λ (b : List Bool). OfFault x (λ f. ReadsGraph c.new-pages.result.params b (Err f))) same c.in_err-greatest.ensures.fault);
    }

pub returns : goal.returns
returns c =
    let bits = bits_of c.args.bytes.now in
    let same : c.new-source.result.bits ≡ bits = rw (c.new-source.ensures, c.of.ensures) refl in
    let greatest = c.in_ok-greatest.greatest in
    let counts = c.count_on.new.counts in
    rw (with_items_is c.in_ok-counts.counts counts (omega arith)) record {
      finds = subst (λ (p : Parameters). CountsArcs p bits greatest counts) c.new-pages.ensures.params
          (subst (λ (b : List Bool). CountsArcs c.new-pages.result.params b greatest counts) same c.in_ok-greatest.ensures.finds);
      fault = tt;
    }
