use Rattle.std.proofs.Common.{◌+◌, take, get_or, arith}
use Rattle.wg_transpose.specs.Transposed.{predecessors}
use Rattle.wg_transpose.specs.Listed.{more_pages}
use Rattle.wg_transpose.proofs.Seen.{with_page}
use Rattle.wg_transpose.proofs.Steps.{place_below, place_step, page_more, page_fits, place_end}
use Rattle.wg_transpose.proofs.placing.place_arcs.Goals as goal

pub put_in_range-requires : goal.put_in_range-requires
put_in_range-requires c = record {
  room = λ low high.
      let r = c.requires.placed in
      let h = c.loop-target.invariant r.0 r.1 r.2 r.3 in
      let pages = h.pages in
      let j = c.loop-target.target-index in
      let list = c.args.list.now in
      place_below (predecessors r.0) (with_page r.0 c.args.page (take j list)) (with_page r.0 c.args.page (take (j + 1) list)) c.args.from r.1 (get_or list j 0) c.args.page c.loop-target.ends c.loop-target.all
      (page_more r.0 c.args.page j list r.2 (omega arith)) (page_fits r.0 c.args.page j list r.2 (omega arith) (λ xs. xs) more_pages) h low (omega arith);
}

pub loop-target-preserved : goal.loop-target-preserved
loop-target-preserved c = λ g n is h.
    let before = c.loop-target.invariant g n is h in
    let j = c.loop-target.target-index in
    let list = c.args.list.now in
    place_step (predecessors g) (with_page g c.args.page (take j list)) (with_page g c.args.page (take (j + 1) list)) c.args.from n (get_or list j 0) c.args.page c.loop-target.ends c.loop-target.all
    (page_more g c.args.page j list is (omega arith)) (page_fits g c.args.page j list is (omega arith) (λ xs. xs) more_pages) before
    c.put_in_range.new.ends c.put_in_range.new.all c.put_in_range.ensures.ends c.put_in_range.ensures.all c.put_in_range.ensures.same_ends c.put_in_range.ensures.same_all

pub returns : goal.returns
returns c = record {
  placed = λ g n is h. place_end g c.args.from n c.args.page c.loop-target.target-index c.args.list.now c.loop-target.ends c.loop-target.all is (omega arith) (c.loop-target.invariant g n is h);
}
