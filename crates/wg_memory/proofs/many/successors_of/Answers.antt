use Rattle.std.proofs.Common.{◌≡◌, ◌≤◌, ◌∙◌, ℕ, List, length, get_or, sym, ap, subst, arith}
use Rattle.wg_bits.specs.Bits.{bits_of}
use Rattle.wg_memory.specs.Answers.{HasList}
use Rattle.wg_memory.specs.Many.{AreSpots}
use Rattle.wg_memory.proofs.ManyLemmas.{end_after, one_spot}
use Rattle.wg_memory.proofs.many.successors_of.Goals as goal

pub loop-index-preserved : goal.loop-index-preserved
loop-index-preserved c =
    let l = c.loop-index in
    let h = l.invariant in
    let p = c.put-used.ensures in
    let params = c.args.params.now in
    let bits = bits_of c.args.graph.now in
    let here = c.as_slice-in-Ok.ensures in
    let fits : c.put-used.result ≤ length c.put-used.new.all = omega (arith, p.count, p.long, ap length here, ap length c.as_slice.ensures, c.if-as_slice-out.false, h.few) in
    let one : HasList params bits c.args.places.now (get_or c.args.pages.now l.index 0) c.as_slice-in-Ok.result.now = subst (λ (s : List ℕ). HasList params bits c.args.places.now (get_or c.args.pages.now l.index 0) s) (sym here) c.in-Ok.ensures.list in
    let made = one_spot params bits c.args.places.now c.args.pages.now l.ends l.out c.put_one.new.array c.put-used.new.all c.as_slice-in-Ok.result.now l.index l.used c.put-used.result p.count fits
    (omega (arith, c.put_one.ensures.long, h.ends_long, c.requires.ends, c.loop-index-test.true)) (omega (arith, h.ends_long, c.requires.ends, c.loop-index-test.true)) h.whole h.lists p.put c.put_one.ensures.put one in
    record {
      ends_long = c.put_one.ensures.long ∙ h.ends_long;
      out_long = p.long ∙ h.out_long;
      last = end_after c.put_one.new.array l.index ∙ c.put_one.ensures.here;
      few = fits;
      whole = made.0;
      lists = made.1;
    }

pub returns-clause-all : goal.returns-clause-all
returns-clause-all c =
    let l = c.loop-index in
    let h = l.invariant in
    let all : l.index ≡ length c.args.pages.now = omega (arith, c.loop-index-test.false, l.auto.index-end) in
    subst (λ (n : ℕ). AreSpots c.args.params.now (bits_of c.args.graph.now) c.args.places.now c.args.pages.now n l.ends l.out) all
    (record { used = l.used; last = h.last; few = h.few; long = omega (arith, all, h.ends_long, c.requires.ends); whole = h.whole; lists = h.lists })

pub returns-then-page-nodes-clause-some : goal.returns-then-page-nodes-clause-some
returns-then-page-nodes-clause-some c =
    let l = c.loop-index in
    let h = l.invariant in
    record { used = l.used; last = h.last; few = h.few; long = omega (arith, h.ends_long, c.requires.ends, c.loop-index-test.true); whole = h.whole; lists = h.lists }

pub returns-then-as_slice-out-clause-some : goal.returns-then-as_slice-out-clause-some
returns-then-as_slice-out-clause-some c =
    let l = c.loop-index in
    let h = l.invariant in
    record { used = l.used; last = h.last; few = h.few; long = omega (arith, h.ends_long, c.requires.ends, c.loop-index-test.true); whole = h.whole; lists = h.lists }

pub returns-in-Err-clause-some : goal.returns-in-Err-clause-some
returns-in-Err-clause-some c =
    let l = c.loop-index in
    let h = l.invariant in
    record { used = l.used; last = h.last; few = h.few; long = omega (arith, h.ends_long, c.requires.ends, c.loop-index-test.true); whole = h.whole; lists = h.lists }
