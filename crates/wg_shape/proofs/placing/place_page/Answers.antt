use Rattle.std.proofs.Common.{◌+◌, length, take, get_or, arith}
use Rattle.wg_transpose.proofs.Steps.{place_below, place_step}
use Rattle.wg_shape.specs.Quotient.{class_of}
use Rattle.wg_shape.specs.Classes.{reached_by}
use Rattle.wg_shape.proofs.Reached.{with_arcs, class_more, class_fits, page_end}
use Rattle.wg_shape.proofs.placing.place_page.Goals as goal

pub put_in_range-requires : goal.put_in_range-requires
put_in_range-requires c = record {
  room = λ low high.
      let r = c.requires.placed in
      let h = c.loop-target.invariant r.0 r.1 r.2 r.3 in
      let pages = h.pages in
      let j = c.loop-target.target-index in
      let list = c.args.list.now in
      let classes = c.args.classes.now in
      place_below (reached_by r.0 classes) (with_arcs r.0 classes c.args.page (take j list)) (with_arcs r.0 classes c.args.page (take (j + 1) list)) c.args.from (length c.args.ends.now)
      (class_of classes c.args.page) (class_of classes (get_or list j 0)) c.loop-target.ends c.loop-target.all
      (class_more r.0 classes c.args.page j list (omega arith)) (class_fits r.0 classes c.args.page (j + 1) list c.requires.page r.1.is) h low (omega arith);
}

pub loop-target-preserved : goal.loop-target-preserved
loop-target-preserved c = λ g is size h.
    let before = c.loop-target.invariant g is size h in
    let j = c.loop-target.target-index in
    let list = c.args.list.now in
    let classes = c.args.classes.now in
    place_step (reached_by g classes) (with_arcs g classes c.args.page (take j list)) (with_arcs g classes c.args.page (take (j + 1) list)) c.args.from (length c.args.ends.now)
    (class_of classes c.args.page) (class_of classes (get_or list j 0)) c.loop-target.ends c.loop-target.all
    (class_more g classes c.args.page j list (omega arith)) (class_fits g classes c.args.page (j + 1) list c.requires.page is.is) before
    c.put_in_range.new.ends c.put_in_range.new.all c.put_in_range.ensures.ends c.put_in_range.ensures.all c.put_in_range.ensures.same_ends c.put_in_range.ensures.same_all

pub returns : goal.returns
returns c = record {
  placed = λ g is size h.
      page_end g c.args.classes.now c.args.from (length c.args.ends.now) c.args.page c.loop-target.ends c.loop-target.all c.loop-target.target-index c.args.list.now (omega arith) is.is (c.loop-target.invariant g is size h);
}
