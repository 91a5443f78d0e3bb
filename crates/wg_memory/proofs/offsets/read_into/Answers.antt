use Rattle.std.proofs.Common.{◌≡◌, ◌∙◌, take, arith}
use Rattle.std.proofs.lemmas.List.{take_all}
use Rattle.wg_outside.proofs.PutsLemmas.{is_that_err}
use Rattle.wg_bits.specs.Bits.{bits_of}
use Rattle.wg_stream.proofs.ErrorLemmas.{on_ok}
use Rattle.wg_grammar.proofs.ErrorLemmas.{fault_weaker, faults_weaker}
use Rattle.wg_memory.proofs.offsets.read_into.Goals as goal

pub loop-word-preserved : goal.loop-word-preserved
loop-word-preserved c =
    let l = c.loop-word in
    let i = l.invariant in
    let n = c.in_ok-place.ensures in
    record {
      code = n.code ∙ i.code;
      pages = n.pages ∙ i.pages;
      count = omega (arith, n.count, i.count);
      long = c.put_one.ensures.long ∙ i.long;
      bits = n.later.bits ∙ i.bits;
      read = rw (c.put_one.ensures.put, n.value) (n.reads (bits_of c.args.bytes.now) (take l.word l.places) i.bits i.read);
    }

pub returns-in_err-place-clause-refused : goal.returns-in_err-place-clause-refused
returns-in_err-place-clause-refused c =
    let l = c.loop-word in
    let i = l.invariant in
    rw (is_that_err c.from_residual.result _ c.from_residual.ensures.1) (fault_weaker c.in_err-place.field-0.0 _ _ (λ w k. rw (i.code, i.pages) at k)
    (c.in_err-place.ensures.fault (bits_of c.args.bytes.now) (take l.word l.places) i.bits i.read))

pub returns-clause-refused : goal.returns-clause-refused
returns-clause-refused c =
    let l = c.loop-word in
    let i = l.invariant in
    faults_weaker c.finish.result _ _ (λ w k. rw (i.code, i.pages) at k) (c.finish.ensures.fault (bits_of c.args.bytes.now) (take l.word l.places) i.bits i.read)

pub returns-clause-places : goal.returns-clause-places
returns-clause-places c =
    let l = c.loop-word in
    let i = l.invariant in
    let all : take l.word l.places ≡ l.places = take_all l.word l.places (omega (arith, i.long, c.loop-word-test.false)) in
    on_ok c.finish.result _ _ (λ k. rw (i.code, i.pages, all) at k) (c.finish.ensures.reads (bits_of c.args.bytes.now) (take l.word l.places) i.bits i.read)
