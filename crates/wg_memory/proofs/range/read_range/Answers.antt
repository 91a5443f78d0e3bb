use Rattle.std.proofs.Common.{◌≡◌, ◌≤◌, ◌∙◌, ◌+◌, ◌++◌, ◌∷◌, [], ℕ, List, ap, arith, length, subst, sym, take}
use Rattle.std.proofs.lemmas.List.{length-take-le}
use Rattle.wg_bits.specs.Bits.{bits_of}
use Rattle.wg_graph.specs.Pieces.{pieces}
use Rattle.wg_memory.specs.Many.{AreSpots}
use Rattle.wg_memory.specs.Range.{AreKnown}
use Rattle.std.specs.List.{range_with_len}
use Rattle.wg_memory.proofs.ListsLemmas.{put_more}
use Rattle.wg_memory.proofs.ManyLemmas.{end_after}
use Rattle.wg_memory.proofs.RangeLemmas.{spots_known, stops_same}
use Rattle.wg_memory.proofs.range.read_range.Goals as goal

pub loop-index-preserved : goal.loop-index-preserved
loop-index-preserved c =
    let l = c.loop-index in
    let h = l.invariant in
    let p = c.put-used.ensures in
    let here = c.as_slice.ensures in
    let within : l.used + length c.in-Ok.list ≤ length l.out = omega (arith, c.in-Ok.ensures.list, h.few) in
    let fits : c.put-used.result ≤ length c.put-used.new.all = omega (arith, p.count, p.long, ap length here, within) in
    let both = put_more l.ends l.out c.put_one.new.array c.put-used.new.all c.as_slice.result.now l.index l.used c.put-used.result p.count fits h.whole p.put c.put_one.ensures.put in
    let known = c.in-Ok.ensures.known in
    record {
      ends_long = c.put_one.ensures.long ∙ h.ends_long;
      out_long = p.long ∙ h.out_long;
      last = end_after c.put_one.new.array l.index ∙ c.put_one.ensures.here;
      few = fits;
      whole = both.0;
      known = subst (λ (lists : List (List ℕ)). AreKnown c.args.params.now (bits_of c.args.graph.now) c.args.places.now c.args.first lists c.next_page-read.new.depths)
          (sym (both.1 ∙ ap (λ (list : List ℕ). pieces 0 (take l.index l.ends) (take l.used l.out) ++ list ∷ []) here)) known;
    }

pub returns-clause-all : goal.returns-clause-all
returns-clause-all c =
    let l = c.loop-index in
    let h = l.invariant in
    let all : l.index ≡ length c.args.ends.now = omega (arith, c.loop-index-test.false, l.auto.index-end) in
    subst (λ (n : ℕ). AreSpots c.args.params.now (bits_of c.args.graph.now) c.args.places.now (range_with_len c.args.first (length c.args.ends.now)) n l.ends l.out) all
    (spots_known c.args.params.now (bits_of c.args.graph.now) c.args.places.now c.args.first (length c.args.ends.now) l.ends l.out l.depths l.index l.used h.last h.few
    (omega (arith, all, h.ends_long)) (omega (arith, all)) h.whole h.known)

pub returns-in-Err-clause-some : goal.returns-in-Err-clause-some
returns-in-Err-clause-some c =
    let l = c.loop-index in
    let h = l.invariant in
    spots_known c.args.params.now (bits_of c.args.graph.now) c.args.places.now c.args.first (length c.args.ends.now) l.ends l.out l.depths l.index l.used h.last h.few
    (omega (arith, h.ends_long, c.loop-index-test.true)) (omega (arith, c.loop-index-test.true)) h.whole h.known

pub returns-in-Err-clause-stops : goal.returns-in-Err-clause-stops
returns-in-Err-clause-stops c =
    let l = c.loop-index in
    let h = l.invariant in
    let pages = length-take-le l.index l.ends (omega (arith, h.ends_long, c.loop-index-test.true)) in
    let used = length-take-le l.used l.out h.few in
    stops_same c.args.params.now (bits_of c.args.graph.now) c.args.places.now _ _ _ _ _ _ c.in-Err.why (ap (λ (n : ℕ). c.args.first + n) pages) (used ∙ sym h.last)
    (omega (arith, used, h.few)) c.in-Err.ensures.stops
