use Rattle.std.proofs.Common.{ℕ, ◌+◌, List, ◌++◌, Some, ◌∙◌, refl, sym, subst, arith}
use Rattle.std.specs.List.{range_with_len}
use Rattle.wg_bits.specs.Bits.{rest}
use Rattle.wg_intervals.specs.Stored.{numbers_inside}
use Rattle.wg_graph.specs.Unions.{union_of}
use Rattle.wg_decoder.specs.Proper.Joining.{Covered}
use Rattle.wg_decoder.proofs.ProperLemmas.JoinLemmas.{all_fit, members_joined, run_fits, rest_joined}
use Rattle.wg_decoder.proofs.ProperLemmas.CoveredLemmas.{covered_none, next_interval, first_word, left_low, second_word, interval_taken, covered_more, all_covered}
use Rattle.wg_decoder.proofs.proper.joining.join_intervals.Goals as goal

pub value-requires-clause-stands : goal.value-requires-clause-stands
value-requires-clause-stands c =
    let s = c.requires.stand in
    let all : List ℕ = c.args.row.now.list ++ union_of c.args.row.now.waiting (numbers_inside s.0 s.1) in
    let i = next_interval c.args.page c.args.least c.args.count all s.2 c.intervals._index c.intervals.past c.intervals.row.list c.intervals.row.waiting (rest c.intervals.cursor) (omega arith) (c.intervals.invariant.on s.0 s.1 s.2 s.3 s.4 s.5) in
    first_word c.args.page c.args.least c.args.count all s.2 c.intervals._index c.intervals.past c.intervals.row.list c.intervals.row.waiting (rest c.intervals.cursor) i

pub number_of_gap-first-requires-clause-means : goal.number_of_gap-first-requires-clause-means
number_of_gap-first-requires-clause-means c =
    let s = c.requires.stand in
    let all : List ℕ = c.args.row.now.list ++ union_of c.args.row.now.waiting (numbers_inside s.0 s.1) in
    let i = next_interval c.args.page c.args.least c.args.count all s.2 c.intervals._index c.intervals.past c.intervals.row.list c.intervals.row.waiting (rest c.intervals.cursor) (omega arith) (c.intervals.invariant.on s.0 s.1 s.2 s.3 s.4 s.5) in
    left_low c.args.page c.args.least c.args.count all s.2 c.intervals._index c.intervals.past c.intervals.row.list c.intervals.row.waiting (rest c.intervals.cursor) (rest c.value.new.cursor) c.value.result c.value.ensures.exact i

pub value-requires-in-intervals-clause-stands : goal.value-requires-in-intervals-clause-stands
value-requires-in-intervals-clause-stands c =
    let s = c.requires.stand in
    let all : List ℕ = c.args.row.now.list ++ union_of c.args.row.now.waiting (numbers_inside s.0 s.1) in
    let i = next_interval c.args.page c.args.least c.args.count all s.2 c.intervals._index c.intervals.past c.intervals.row.list c.intervals.row.waiting (rest c.intervals.cursor) (omega arith) (c.intervals.invariant.on s.0 s.1 s.2 s.3 s.4 s.5) in
    second_word c.args.page c.args.least c.args.count all s.2 c.intervals._index c.intervals.past c.intervals.row.list c.intervals.row.waiting (rest c.intervals.cursor) (rest c.value.new.cursor) c.value.result c.value.ensures.exact i

pub overflow_add-run : goal.overflow_add-run
overflow_add-run c =
    let s = c.requires.stand in
    let all : List ℕ = c.args.row.now.list ++ union_of c.args.row.now.waiting (numbers_inside s.0 s.1) in
    let i = next_interval c.args.page c.args.least c.args.count all s.2 c.intervals._index c.intervals.past c.intervals.row.list c.intervals.row.waiting (rest c.intervals.cursor) (omega arith) (c.intervals.invariant.on s.0 s.1 s.2 s.3 s.4 s.5) in
    let t = interval_taken c.args.page c.args.least c.args.count all s.2 c.intervals._index c.intervals.past c.intervals.row.list c.intervals.row.waiting (rest c.intervals.cursor) (rest c.value.new.cursor) (rest c.value-in-intervals.new.cursor) c.value.result c.value-in-intervals.result c.number_of_gap-first.result c.value.ensures.exact c.value-in-intervals.ensures.exact c.number_of_gap-first.ensures i in
    omega (arith, t.low)

pub extend_run-requires-clause-room : goal.extend_run-requires-clause-room
extend_run-requires-clause-room c =
    let s = c.requires.stand in
    let all : List ℕ = c.args.row.now.list ++ union_of c.args.row.now.waiting (numbers_inside s.0 s.1) in
    let i = next_interval c.args.page c.args.least c.args.count all s.2 c.intervals._index c.intervals.past c.intervals.row.list c.intervals.row.waiting (rest c.intervals.cursor) (omega arith) (c.intervals.invariant.on s.0 s.1 s.2 s.3 s.4 s.5) in
    let t = interval_taken c.args.page c.args.least c.args.count all s.2 c.intervals._index c.intervals.past c.intervals.row.list c.intervals.row.waiting (rest c.intervals.cursor) (rest c.value.new.cursor) (rest c.value-in-intervals.new.cursor) c.value.result c.value-in-intervals.result c.number_of_gap-first.result c.value.ensures.exact c.value-in-intervals.ensures.exact c.number_of_gap-first.ensures i in
    let moved = members_joined all c.intervals.row.list c.take_below.new.self.list c.intervals.row.waiting c.take_below.new.self.waiting (range_with_len c.number_of_gap-first.result (c.value-in-intervals.result + c.args.least) ++ numbers_inside t.lefts t.lengths) c.number_of_gap-first.result c.take_below.ensures.taken c.take_below.ensures.left t.up t.on in
    omega (arith, c.take_below.ensures.room, c.intervals.invariant.room, run_fits all c.take_below.new.self.list c.take_below.new.self.waiting (numbers_inside t.lefts t.lengths) c.number_of_gap-first.result (c.value-in-intervals.result + c.args.least) c.args.row.now.room (all_fit c.args.row.now.list _ c.args.row.now.room s.6) moved.on)

pub extend_run-requires-clause-short : goal.extend_run-requires-clause-short
extend_run-requires-clause-short c =
    let s = c.requires.stand in
    let all : List ℕ = c.args.row.now.list ++ union_of c.args.row.now.waiting (numbers_inside s.0 s.1) in
    let i = next_interval c.args.page c.args.least c.args.count all s.2 c.intervals._index c.intervals.past c.intervals.row.list c.intervals.row.waiting (rest c.intervals.cursor) (omega arith) (c.intervals.invariant.on s.0 s.1 s.2 s.3 s.4 s.5) in
    let t = interval_taken c.args.page c.args.least c.args.count all s.2 c.intervals._index c.intervals.past c.intervals.row.list c.intervals.row.waiting (rest c.intervals.cursor) (rest c.value.new.cursor) (rest c.value-in-intervals.new.cursor) c.value.result c.value-in-intervals.result c.number_of_gap-first.result c.value.ensures.exact c.value-in-intervals.ensures.exact c.number_of_gap-first.ensures i in
    omega (arith, t.low)

pub overflow_add-past : goal.overflow_add-past
overflow_add-past c =
    let s = c.requires.stand in
    let all : List ℕ = c.args.row.now.list ++ union_of c.args.row.now.waiting (numbers_inside s.0 s.1) in
    let i = next_interval c.args.page c.args.least c.args.count all s.2 c.intervals._index c.intervals.past c.intervals.row.list c.intervals.row.waiting (rest c.intervals.cursor) (omega arith) (c.intervals.invariant.on s.0 s.1 s.2 s.3 s.4 s.5) in
    let t = interval_taken c.args.page c.args.least c.args.count all s.2 c.intervals._index c.intervals.past c.intervals.row.list c.intervals.row.waiting (rest c.intervals.cursor) (rest c.value.new.cursor) (rest c.value-in-intervals.new.cursor) c.value.result c.value-in-intervals.result c.number_of_gap-first.result c.value.ensures.exact c.value-in-intervals.ensures.exact c.number_of_gap-first.ensures i in
    omega (arith, t.low)

pub intervals-preserved : goal.intervals-preserved
intervals-preserved c = record {
  on = λ lefts lengths behind len words h.
      let all : List ℕ = c.args.row.now.list ++ union_of c.args.row.now.waiting (numbers_inside lefts lengths) in
      let i = next_interval c.args.page c.args.least c.args.count all behind c.intervals._index c.intervals.past c.intervals.row.list c.intervals.row.waiting (rest c.intervals.cursor) (omega arith) (c.intervals.invariant.on lefts lengths behind len words h) in
      let t = interval_taken c.args.page c.args.least c.args.count all behind c.intervals._index c.intervals.past c.intervals.row.list c.intervals.row.waiting (rest c.intervals.cursor) (rest c.value.new.cursor) (rest c.value-in-intervals.new.cursor) c.value.result c.value-in-intervals.result c.number_of_gap-first.result c.value.ensures.exact c.value-in-intervals.ensures.exact c.number_of_gap-first.ensures i in
      subst (λ (w : List ℕ). Covered c.args.page c.args.least c.args.count all behind (c.intervals._index + 1) (Some (c.number_of_gap-first.result + (c.value-in-intervals.result + c.args.least))) c.extend_run.new.self.list w (rest c.value-in-intervals.new.cursor)) (sym c.extend_run.ensures.waiting)
      (covered_more c.args.page c.args.least c.args.count all behind c.intervals._index c.intervals.row.list c.intervals.row.waiting c.take_below.new.self.list c.take_below.new.self.waiting c.extend_run.new.self.list (rest c.value-in-intervals.new.cursor) c.number_of_gap-first.result (c.value-in-intervals.result + c.args.least) (λ others. members_joined all c.intervals.row.list c.take_below.new.self.list c.intervals.row.waiting c.take_below.new.self.waiting others c.number_of_gap-first.result c.take_below.ensures.taken c.take_below.ensures.left) c.extend_run.ensures.list t);
  room = c.extend_run.ensures.room ∙ c.take_below.ensures.room ∙ c.intervals.invariant.room;
}

pub returns-clause-list : goal.returns-clause-list
returns-clause-list c lefts lengths behind len words h =
    let all : List ℕ = c.args.row.now.list ++ union_of c.args.row.now.waiting (numbers_inside lefts lengths) in
    let d = (c.intervals.invariant.on lefts lengths behind len words h) in
    let e = all_covered c.args.page c.args.least c.args.count all behind c.intervals._index c.intervals.past c.intervals.row.list c.intervals.row.waiting (rest c.intervals.cursor) (omega arith) d in
    rest_joined all c.intervals.row.list c.take_all.new.self.list c.intervals.row.waiting _ e.0 c.take_all.ensures.list d.on

pub returns-clause-behind : goal.returns-clause-behind
returns-clause-behind c lefts lengths behind len words h =
    let all : List ℕ = c.args.row.now.list ++ union_of c.args.row.now.waiting (numbers_inside lefts lengths) in
    (all_covered c.args.page c.args.least c.args.count all behind c.intervals._index c.intervals.past c.intervals.row.list c.intervals.row.waiting (rest c.intervals.cursor) (omega arith) (c.intervals.invariant.on lefts lengths behind len words h)).1

pub intervals-init : goal.intervals-init
intervals-init c = record {
  on = λ lefts lengths behind len words h. covered_none c.args.page c.args.least c.args.count c.args.row.now.list c.args.row.now.waiting lefts lengths behind (rest c.args.cursor.now) len words h;
  room = refl;
}
