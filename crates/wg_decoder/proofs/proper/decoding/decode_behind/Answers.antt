-- at each step: what was read so far is what stands there, and the rows have what was made of it
use Rattle.std.proofs.Common.{◌-◌, ◌^◌, ◌≤◌, ℕ, Bool, List, length, refl, ap, ◌∙◌, arith}
use Rattle.std.specs.Prelude.{option_copied}
use Rattle.wg_bits.specs.Bits.{rest}
use Rattle.wg_decoder.proofs.ProperLemmas.LaidOut.{laid_of, laid_with}
use Rattle.wg_decoder.proofs.ProperLemmas.Beginning.{count_word, count_read, copied_fits, interval_count_word, interval_count_read}
use Rattle.wg_decoder.proofs.ProperLemmas.DecodeLemmas.{members_stand, members_copied, copied_long, intervals_join, intervals_joined, joined_fits, remaining, residuals_join}
use Rattle.wg_decoder.proofs.ProperLemmas.Ending.{fewer_behind, end_there}
use Rattle.wg_decoder.proofs.proper.decoding.decode_behind.Goals as goal

pub value_where-count-requires-clause-stands : goal.value_where-count-requires-clause-stands
value_where-count-requires-clause-stands c =
    let few : c.args.params.now.nodes ≤ 2 ^ 62 = omega (arith, c.nodes.ensures.within) in
    let up = c.requires.ascends in
    let l = laid_of c.args.params.now c.args.page (option_copied c.args.below) c.args.cursor.now c.requires.proper.0 few c.requires.proper.1 in
    let head = c.requires.head in
    let e = head l.outdegree l.reference l.after_outdegree l.after_reference l.outdegree_stands l.reference_stands in
    count_word c.args.params.now c.args.page (option_copied c.args.below) (rest c.args.cursor.now) c.requires.proper.0 (rest c.args.head.words) c.is_lent.result c.block_counts.result c.is_lent.ensures c.block_counts.ensures.value l e.2

pub copy_members-requires-clause-stand : goal.copy_members-requires-clause-stand
copy_members-requires-clause-stand c =
    let few : c.args.params.now.nodes ≤ 2 ^ 62 = omega (arith, c.nodes.ensures.within) in
    let up = c.requires.ascends in
    let l = laid_of c.args.params.now c.args.page (option_copied c.args.below) c.args.cursor.now c.requires.proper.0 few c.requires.proper.1 in
    let head = c.requires.head in
    let e = head l.outdegree l.reference l.after_outdegree l.after_reference l.outdegree_stands l.reference_stands in
    let e3 = count_read c.args.params.now c.args.page (option_copied c.args.below) (rest c.args.cursor.now) c.requires.proper.0 (rest c.args.head.words) (rest c.value_where-count.new.cursor) c.value_where-count.result c.is_lent.result c.block_counts.result c.is_lent.ensures c.block_counts.ensures.value c.value_where-count.ensures.exact l e.2 in
    members_stand c.args.params.now c.args.page (option_copied c.args.below) (rest c.args.cursor.now) c.requires.proper.0 (rest c.value_where-count.new.cursor) c.value_where-count.result c.clear.new.self.room c.members_of.result.now c.clear.new.self.list c.clear.new.self.waiting c.blocks-2.result c.blocks-2.ensures.value c.members_of.ensures c.clear.ensures.list c.clear.ensures.waiting (omega (arith, c.requires.proper.2, c.clear.ensures.room)) l e3

pub overflow_sub-extra : goal.overflow_sub-extra
overflow_sub-extra c =
    let few : c.args.params.now.nodes ≤ 2 ^ 62 = omega (arith, c.nodes.ensures.within) in
    let up = c.requires.ascends in
    let l = laid_of c.args.params.now c.args.page (option_copied c.args.below) c.args.cursor.now c.requires.proper.0 few c.requires.proper.1 in
    let head = c.requires.head in
    let e = head l.outdegree l.reference l.after_outdegree l.after_reference l.outdegree_stands l.reference_stands in
    let e3 = count_read c.args.params.now c.args.page (option_copied c.args.below) (rest c.args.cursor.now) c.requires.proper.0 (rest c.args.head.words) (rest c.value_where-count.new.cursor) c.value_where-count.result c.is_lent.result c.block_counts.result c.is_lent.ensures c.block_counts.ensures.value c.value_where-count.ensures.exact l e.2 in
    let copied = members_copied c.args.params.now c.args.page (option_copied c.args.below) (rest c.args.cursor.now) c.requires.proper.0 (rest c.value_where-count.new.cursor) (rest c.copy_members.new.cursor) c.value_where-count.result c.members_of.result.now c.clear.new.self.list c.copy_members.new.row.list c.blocks-2.result c.blocks-2.ensures.value c.members_of.ensures c.clear.ensures.list (c.copy_members.ensures.list, c.copy_members.ensures.behind) l e3 in
    let e4 = copied_long c.copy_members.new.row.list l.copied (length c.as_slice.result.now) l.after_blocks (rest c.copy_members.new.cursor) (ap (λ (xs : List ℕ). length xs) c.as_slice.ensures.value) copied in
    copied_fits c.args.params.now c.args.page (option_copied c.args.below) (rest c.args.cursor.now) c.requires.proper.0 c.args.head.outdegree (length c.as_slice.result.now) l e.0 e4.0

pub value_where-intervals-requires-clause-stands : goal.value_where-intervals-requires-clause-stands
value_where-intervals-requires-clause-stands c =
    let few : c.args.params.now.nodes ≤ 2 ^ 62 = omega (arith, c.nodes.ensures.within) in
    let up = c.requires.ascends in
    let l = laid_of c.args.params.now c.args.page (option_copied c.args.below) c.args.cursor.now c.requires.proper.0 few c.requires.proper.1 in
    let head = c.requires.head in
    let e = head l.outdegree l.reference l.after_outdegree l.after_reference l.outdegree_stands l.reference_stands in
    let e3 = count_read c.args.params.now c.args.page (option_copied c.args.below) (rest c.args.cursor.now) c.requires.proper.0 (rest c.args.head.words) (rest c.value_where-count.new.cursor) c.value_where-count.result c.is_lent.result c.block_counts.result c.is_lent.ensures c.block_counts.ensures.value c.value_where-count.ensures.exact l e.2 in
    let copied = members_copied c.args.params.now c.args.page (option_copied c.args.below) (rest c.args.cursor.now) c.requires.proper.0 (rest c.value_where-count.new.cursor) (rest c.copy_members.new.cursor) c.value_where-count.result c.members_of.result.now c.clear.new.self.list c.copy_members.new.row.list c.blocks-2.result c.blocks-2.ensures.value c.members_of.ensures c.clear.ensures.list (c.copy_members.ensures.list, c.copy_members.ensures.behind) l e3 in
    let e4 = copied_long c.copy_members.new.row.list l.copied (length c.as_slice.result.now) l.after_blocks (rest c.copy_members.new.cursor) (ap (λ (xs : List ℕ). length xs) c.as_slice.ensures.value) copied in
    interval_count_word c.args.params.now c.args.page (option_copied c.args.below) (rest c.args.cursor.now) c.requires.proper.0 (rest c.copy_members.new.cursor) c.args.head.outdegree (length c.as_slice.result.now) c.interval.result _ refl c.interval.ensures.value l e.0 e4

pub add_intervals-requires-clause-stand : goal.add_intervals-requires-clause-stand
add_intervals-requires-clause-stand c =
    let few : c.args.params.now.nodes ≤ 2 ^ 62 = omega (arith, c.nodes.ensures.within) in
    let up = c.requires.ascends in
    let l = laid_of c.args.params.now c.args.page (option_copied c.args.below) c.args.cursor.now c.requires.proper.0 few c.requires.proper.1 in
    let head = c.requires.head in
    let e = head l.outdegree l.reference l.after_outdegree l.after_reference l.outdegree_stands l.reference_stands in
    let e3 = count_read c.args.params.now c.args.page (option_copied c.args.below) (rest c.args.cursor.now) c.requires.proper.0 (rest c.args.head.words) (rest c.value_where-count.new.cursor) c.value_where-count.result c.is_lent.result c.block_counts.result c.is_lent.ensures c.block_counts.ensures.value c.value_where-count.ensures.exact l e.2 in
    let copied = members_copied c.args.params.now c.args.page (option_copied c.args.below) (rest c.args.cursor.now) c.requires.proper.0 (rest c.value_where-count.new.cursor) (rest c.copy_members.new.cursor) c.value_where-count.result c.members_of.result.now c.clear.new.self.list c.copy_members.new.row.list c.blocks-2.result c.blocks-2.ensures.value c.members_of.ensures c.clear.ensures.list (c.copy_members.ensures.list, c.copy_members.ensures.behind) l e3 in
    let e4 = copied_long c.copy_members.new.row.list l.copied (length c.as_slice.result.now) l.after_blocks (rest c.copy_members.new.cursor) (ap (λ (xs : List ℕ). length xs) c.as_slice.ensures.value) copied in
    let e5 = interval_count_read c.args.params.now c.args.page (option_copied c.args.below) (rest c.args.cursor.now) c.requires.proper.0 (rest c.copy_members.new.cursor) (rest c.value_where-intervals.new.cursor) c.args.head.outdegree (length c.as_slice.result.now) c.interval.result c.value_where-intervals.result _ refl c.interval.ensures.value c.value_where-intervals.ensures.exact l e.0 e4 in
    intervals_join c.args.params.now c.args.page (option_copied c.args.below) (rest c.args.cursor.now) c.requires.proper.0 (rest c.value_where-intervals.new.cursor) c.interval-2.result c.value_where-intervals.result c.copy_members.new.row.room c.copy_members.new.row.list c.interval-2.ensures.value up (omega (arith, c.requires.proper.2, c.copy_members.ensures.room, c.clear.ensures.room)) l e5 copied.0

pub overflow_sub-left : goal.overflow_sub-left
overflow_sub-left c =
    let few : c.args.params.now.nodes ≤ 2 ^ 62 = omega (arith, c.nodes.ensures.within) in
    let up = c.requires.ascends in
    let l = laid_of c.args.params.now c.args.page (option_copied c.args.below) c.args.cursor.now c.requires.proper.0 few c.requires.proper.1 in
    let head = c.requires.head in
    let e = head l.outdegree l.reference l.after_outdegree l.after_reference l.outdegree_stands l.reference_stands in
    let e3 = count_read c.args.params.now c.args.page (option_copied c.args.below) (rest c.args.cursor.now) c.requires.proper.0 (rest c.args.head.words) (rest c.value_where-count.new.cursor) c.value_where-count.result c.is_lent.result c.block_counts.result c.is_lent.ensures c.block_counts.ensures.value c.value_where-count.ensures.exact l e.2 in
    let copied = members_copied c.args.params.now c.args.page (option_copied c.args.below) (rest c.args.cursor.now) c.requires.proper.0 (rest c.value_where-count.new.cursor) (rest c.copy_members.new.cursor) c.value_where-count.result c.members_of.result.now c.clear.new.self.list c.copy_members.new.row.list c.blocks-2.result c.blocks-2.ensures.value c.members_of.ensures c.clear.ensures.list (c.copy_members.ensures.list, c.copy_members.ensures.behind) l e3 in
    let e4 = copied_long c.copy_members.new.row.list l.copied (length c.as_slice.result.now) l.after_blocks (rest c.copy_members.new.cursor) (ap (λ (xs : List ℕ). length xs) c.as_slice.ensures.value) copied in
    let e5 = interval_count_read c.args.params.now c.args.page (option_copied c.args.below) (rest c.args.cursor.now) c.requires.proper.0 (rest c.copy_members.new.cursor) (rest c.value_where-intervals.new.cursor) c.args.head.outdegree (length c.as_slice.result.now) c.interval.result c.value_where-intervals.result _ refl c.interval.ensures.value c.value_where-intervals.ensures.exact l e.0 e4 in
    let e6 = intervals_joined c.args.params.now c.args.page (option_copied c.args.below) (rest c.args.cursor.now) c.requires.proper.0 (rest c.value_where-intervals.new.cursor) (rest c.add_intervals.new.cursor) c.interval-2.result c.value_where-intervals.result c.copy_members.new.row.list c.add_intervals.new.row.list c.interval-2.ensures.value up (c.add_intervals.ensures.list, c.add_intervals.ensures.behind) l e5 copied.0 in
    joined_fits c.args.params.now c.args.page (option_copied c.args.below) (rest c.args.cursor.now) c.requires.proper.0 c.args.head.outdegree (length c.as_slice-2.result.now) c.add_intervals.new.row.list up (ap (λ (xs : List ℕ). length xs) c.as_slice-2.ensures.value) l e.0 e6.0

pub add_residuals-behind-requires-clause-stand : goal.add_residuals-behind-requires-clause-stand
add_residuals-behind-requires-clause-stand c =
    let few : c.args.params.now.nodes ≤ 2 ^ 62 = omega (arith, c.nodes.ensures.within) in
    let up = c.requires.ascends in
    let l = laid_of c.args.params.now c.args.page (option_copied c.args.below) c.args.cursor.now c.requires.proper.0 few c.requires.proper.1 in
    let head = c.requires.head in
    let e = head l.outdegree l.reference l.after_outdegree l.after_reference l.outdegree_stands l.reference_stands in
    let e3 = count_read c.args.params.now c.args.page (option_copied c.args.below) (rest c.args.cursor.now) c.requires.proper.0 (rest c.args.head.words) (rest c.value_where-count.new.cursor) c.value_where-count.result c.is_lent.result c.block_counts.result c.is_lent.ensures c.block_counts.ensures.value c.value_where-count.ensures.exact l e.2 in
    let copied = members_copied c.args.params.now c.args.page (option_copied c.args.below) (rest c.args.cursor.now) c.requires.proper.0 (rest c.value_where-count.new.cursor) (rest c.copy_members.new.cursor) c.value_where-count.result c.members_of.result.now c.clear.new.self.list c.copy_members.new.row.list c.blocks-2.result c.blocks-2.ensures.value c.members_of.ensures c.clear.ensures.list (c.copy_members.ensures.list, c.copy_members.ensures.behind) l e3 in
    let e4 = copied_long c.copy_members.new.row.list l.copied (length c.as_slice.result.now) l.after_blocks (rest c.copy_members.new.cursor) (ap (λ (xs : List ℕ). length xs) c.as_slice.ensures.value) copied in
    let e5 = interval_count_read c.args.params.now c.args.page (option_copied c.args.below) (rest c.args.cursor.now) c.requires.proper.0 (rest c.copy_members.new.cursor) (rest c.value_where-intervals.new.cursor) c.args.head.outdegree (length c.as_slice.result.now) c.interval.result c.value_where-intervals.result _ refl c.interval.ensures.value c.value_where-intervals.ensures.exact l e.0 e4 in
    let e6 = intervals_joined c.args.params.now c.args.page (option_copied c.args.below) (rest c.args.cursor.now) c.requires.proper.0 (rest c.value_where-intervals.new.cursor) (rest c.add_intervals.new.cursor) c.interval-2.result c.value_where-intervals.result c.copy_members.new.row.list c.add_intervals.new.row.list c.interval-2.ensures.value up (c.add_intervals.ensures.list, c.add_intervals.ensures.behind) l e5 copied.0 in
    let r = remaining c.args.params.now c.args.page (option_copied c.args.below) (rest c.args.cursor.now) c.requires.proper.0 (rest c.add_intervals.new.cursor) c.args.head.outdegree (length c.as_slice-2.result.now) c.residuals.result c.add_intervals.new.row.list c.residuals.ensures.value up (ap (λ (xs : List ℕ). length xs) c.as_slice-2.ensures.value) l e.0 e6 in
    residuals_join c.residuals.result c.args.page (c.args.head.outdegree - length c.as_slice-2.result.now) (rest c.add_intervals.new.cursor) c.add_intervals.new.row.list c.requires.proper.0 l.residuals l.behind c.add_intervals.new.row.room (omega (arith, c.requires.proper.2, c.add_intervals.ensures.room, c.copy_members.ensures.room, c.clear.ensures.room)) r

pub overflow_sub-remaining : goal.overflow_sub-remaining
overflow_sub-remaining c =
    let few : c.args.params.now.nodes ≤ 2 ^ 62 = omega (arith, c.nodes.ensures.within) in
    let up = c.requires.ascends in
    let g = laid_with c.args.params.now c.args.page (option_copied c.args.below) c.args.cursor.now c.requires.proper.0 few c.requires.proper.1 in
    let l = g.laid in
    let head = c.requires.head in
    let e = head l.outdegree l.reference l.after_outdegree l.after_reference l.outdegree_stands l.reference_stands in
    let e3 = count_read c.args.params.now c.args.page (option_copied c.args.below) (rest c.args.cursor.now) c.requires.proper.0 (rest c.args.head.words) (rest c.value_where-count.new.cursor) c.value_where-count.result c.is_lent.result c.block_counts.result c.is_lent.ensures c.block_counts.ensures.value c.value_where-count.ensures.exact l e.2 in
    let copied = members_copied c.args.params.now c.args.page (option_copied c.args.below) (rest c.args.cursor.now) c.requires.proper.0 (rest c.value_where-count.new.cursor) (rest c.copy_members.new.cursor) c.value_where-count.result c.members_of.result.now c.clear.new.self.list c.copy_members.new.row.list c.blocks-2.result c.blocks-2.ensures.value c.members_of.ensures c.clear.ensures.list (c.copy_members.ensures.list, c.copy_members.ensures.behind) l e3 in
    let e4 = copied_long c.copy_members.new.row.list l.copied (length c.as_slice.result.now) l.after_blocks (rest c.copy_members.new.cursor) (ap (λ (xs : List ℕ). length xs) c.as_slice.ensures.value) copied in
    let e5 = interval_count_read c.args.params.now c.args.page (option_copied c.args.below) (rest c.args.cursor.now) c.requires.proper.0 (rest c.copy_members.new.cursor) (rest c.value_where-intervals.new.cursor) c.args.head.outdegree (length c.as_slice.result.now) c.interval.result c.value_where-intervals.result _ refl c.interval.ensures.value c.value_where-intervals.ensures.exact l e.0 e4 in
    let e6 = intervals_joined c.args.params.now c.args.page (option_copied c.args.below) (rest c.args.cursor.now) c.requires.proper.0 (rest c.value_where-intervals.new.cursor) (rest c.add_intervals.new.cursor) c.interval-2.result c.value_where-intervals.result c.copy_members.new.row.list c.add_intervals.new.row.list c.interval-2.ensures.value up (c.add_intervals.ensures.list, c.add_intervals.ensures.behind) l e5 copied.0 in
    let r = remaining c.args.params.now c.args.page (option_copied c.args.below) (rest c.args.cursor.now) c.requires.proper.0 (rest c.add_intervals.new.cursor) c.args.head.outdegree (length c.as_slice-2.result.now) c.residuals.result c.add_intervals.new.row.list c.residuals.ensures.value up (ap (λ (xs : List ℕ). length xs) c.as_slice-2.ensures.value) l e.0 e6 in
    let behind = c.add_residuals-behind.ensures.behind l.residuals l.behind r.count_is r.stand r.joinable ∙ ap (λ (xs : List Bool). length xs) g.behind in
    let fewer = fewer_behind c.args.params.now c.args.page (option_copied c.args.below) c.args.cursor.now c.requires.proper.0 (omega (arith, c.at.ensures.within, c.at.ensures.offset)) c.requires.proper.1 in
    omega (arith, fewer, c.remaining.ensures, behind)

pub returns-clause-list : goal.returns-clause-list
returns-clause-list c list h =
    let few : c.args.params.now.nodes ≤ 2 ^ 62 = omega (arith, c.nodes.ensures.within) in
    let up = c.requires.ascends in
    let l = laid_of c.args.params.now c.args.page (option_copied c.args.below) c.args.cursor.now list few h in
    let head = c.requires.head in
    let e = head l.outdegree l.reference l.after_outdegree l.after_reference l.outdegree_stands l.reference_stands in
    let e3 = count_read c.args.params.now c.args.page (option_copied c.args.below) (rest c.args.cursor.now) list (rest c.args.head.words) (rest c.value_where-count.new.cursor) c.value_where-count.result c.is_lent.result c.block_counts.result c.is_lent.ensures c.block_counts.ensures.value c.value_where-count.ensures.exact l e.2 in
    let copied = members_copied c.args.params.now c.args.page (option_copied c.args.below) (rest c.args.cursor.now) list (rest c.value_where-count.new.cursor) (rest c.copy_members.new.cursor) c.value_where-count.result c.members_of.result.now c.clear.new.self.list c.copy_members.new.row.list c.blocks-2.result c.blocks-2.ensures.value c.members_of.ensures c.clear.ensures.list (c.copy_members.ensures.list, c.copy_members.ensures.behind) l e3 in
    let e4 = copied_long c.copy_members.new.row.list l.copied (length c.as_slice.result.now) l.after_blocks (rest c.copy_members.new.cursor) (ap (λ (xs : List ℕ). length xs) c.as_slice.ensures.value) copied in
    let e5 = interval_count_read c.args.params.now c.args.page (option_copied c.args.below) (rest c.args.cursor.now) list (rest c.copy_members.new.cursor) (rest c.value_where-intervals.new.cursor) c.args.head.outdegree (length c.as_slice.result.now) c.interval.result c.value_where-intervals.result _ refl c.interval.ensures.value c.value_where-intervals.ensures.exact l e.0 e4 in
    let e6 = intervals_joined c.args.params.now c.args.page (option_copied c.args.below) (rest c.args.cursor.now) list (rest c.value_where-intervals.new.cursor) (rest c.add_intervals.new.cursor) c.interval-2.result c.value_where-intervals.result c.copy_members.new.row.list c.add_intervals.new.row.list c.interval-2.ensures.value up (c.add_intervals.ensures.list, c.add_intervals.ensures.behind) l e5 copied.0 in
    let r = remaining c.args.params.now c.args.page (option_copied c.args.below) (rest c.args.cursor.now) list (rest c.add_intervals.new.cursor) c.args.head.outdegree (length c.as_slice-2.result.now) c.residuals.result c.add_intervals.new.row.list c.residuals.ensures.value up (ap (λ (xs : List ℕ). length xs) c.as_slice-2.ensures.value) l e.0 e6 in
    c.add_residuals-behind.ensures.list l.residuals l.behind r.count_is r.stand r.joinable ∙ r.union

pub returns-clause-end : goal.returns-clause-end
returns-clause-end c list h =
    let few : c.args.params.now.nodes ≤ 2 ^ 62 = omega (arith, c.nodes.ensures.within) in
    let up = c.requires.ascends in
    let g = laid_with c.args.params.now c.args.page (option_copied c.args.below) c.args.cursor.now list few h in
    let l = g.laid in
    let head = c.requires.head in
    let e = head l.outdegree l.reference l.after_outdegree l.after_reference l.outdegree_stands l.reference_stands in
    let e3 = count_read c.args.params.now c.args.page (option_copied c.args.below) (rest c.args.cursor.now) list (rest c.args.head.words) (rest c.value_where-count.new.cursor) c.value_where-count.result c.is_lent.result c.block_counts.result c.is_lent.ensures c.block_counts.ensures.value c.value_where-count.ensures.exact l e.2 in
    let copied = members_copied c.args.params.now c.args.page (option_copied c.args.below) (rest c.args.cursor.now) list (rest c.value_where-count.new.cursor) (rest c.copy_members.new.cursor) c.value_where-count.result c.members_of.result.now c.clear.new.self.list c.copy_members.new.row.list c.blocks-2.result c.blocks-2.ensures.value c.members_of.ensures c.clear.ensures.list (c.copy_members.ensures.list, c.copy_members.ensures.behind) l e3 in
    let e4 = copied_long c.copy_members.new.row.list l.copied (length c.as_slice.result.now) l.after_blocks (rest c.copy_members.new.cursor) (ap (λ (xs : List ℕ). length xs) c.as_slice.ensures.value) copied in
    let e5 = interval_count_read c.args.params.now c.args.page (option_copied c.args.below) (rest c.args.cursor.now) list (rest c.copy_members.new.cursor) (rest c.value_where-intervals.new.cursor) c.args.head.outdegree (length c.as_slice.result.now) c.interval.result c.value_where-intervals.result _ refl c.interval.ensures.value c.value_where-intervals.ensures.exact l e.0 e4 in
    let e6 = intervals_joined c.args.params.now c.args.page (option_copied c.args.below) (rest c.args.cursor.now) list (rest c.value_where-intervals.new.cursor) (rest c.add_intervals.new.cursor) c.interval-2.result c.value_where-intervals.result c.copy_members.new.row.list c.add_intervals.new.row.list c.interval-2.ensures.value up (c.add_intervals.ensures.list, c.add_intervals.ensures.behind) l e5 copied.0 in
    let r = remaining c.args.params.now c.args.page (option_copied c.args.below) (rest c.args.cursor.now) list (rest c.add_intervals.new.cursor) c.args.head.outdegree (length c.as_slice-2.result.now) c.residuals.result c.add_intervals.new.row.list c.residuals.ensures.value up (ap (λ (xs : List ℕ). length xs) c.as_slice-2.ensures.value) l e.0 e6 in
    let behind = c.add_residuals-behind.ensures.behind l.residuals l.behind r.count_is r.stand r.joinable ∙ ap (λ (xs : List Bool). length xs) g.behind in
    end_there c.args.params.now c.args.page (option_copied c.args.below) c.args.cursor.now c.advance.new.self list _ (omega (arith, c.at.ensures.within, c.at.ensures.offset)) c.advance.ensures h
    (omega (arith, c.remaining.ensures, behind))
