use Rattle.std.proofs.Common.{◌∙◌, ◌≡◌, ℕ, ◌-◌, ◌%◌, ◌==◌, cond, List, [], ◌++◌, length, take, drop, refl, ap, arith, length-drop, length-append}
use Rattle.std.proofs.lemmas.List.{length-take-le, take_rest}
use Rattle.wg_bits.specs.Bits.{rest}
use Rattle.wg_graph.specs.Copied.{copied_members}
use Rattle.wg_blocks.specs.Stored.{blocks_of}
use Rattle.wg_decoder.proofs.ProperLemmas.CopyingLemmas.{copying_none, next_block, block_fits, block_copied, copying_fits, kept_long, all_copied}
use Rattle.wg_decoder.proofs.proper.copying.copy_members.Goals as goal

pub copies-init : goal.copies-init
copies-init c = record {
  on = λ values behind len total words. copying_none c.args.code c.args.count c.args.members.now values behind c.args.row.now.list (rest c.args.cursor.now) len words;
  fits = omega arith;
  waiting = refl;
  room = refl;
}

pub value-requires-clause-stands : goal.value-requires-clause-stands
value-requires-clause-stands c =
    let s = c.requires.stand in
    next_block c.args.code c.args.count c.args.members.now s.0 s.1 c.args.row.now.list c.copies.index c.copies.done c.copies.row.list (rest c.copies.cursor) (omega arith) (c.copies.invariant.on s.0 s.1 s.2 s.3 s.4)

pub keep-requires-clause-within : goal.keep-requires-clause-within
keep-requires-clause-within c =
    let s = c.requires.stand in
    let fits = block_fits c.args.code c.args.count c.args.members.now s.0 s.1 c.args.row.now.list c.copies.index c.copies.done c.copies.row.list (rest c.copies.cursor) (rest c.value.new.cursor) c.value.result c.block_of-length.result c.value.ensures.exact c.block_of-length.ensures (omega arith) s.3 (c.copies.invariant.on s.0 s.1 s.2 s.3 s.4) in
    omega (arith, fits, length-drop c.copies.done c.args.members.now)

pub keep-requires-clause-room : goal.keep-requires-clause-room
keep-requires-clause-room c even =
    let s = c.requires.stand in
    let fits = block_fits c.args.code c.args.count c.args.members.now s.0 s.1 c.args.row.now.list c.copies.index c.copies.done c.copies.row.list (rest c.copies.cursor) (rest c.value.new.cursor) c.value.result c.block_of-length.result c.value.ensures.exact c.block_of-length.ensures (omega arith) s.3 (c.copies.invariant.on s.0 s.1 s.2 s.3 s.4) in
    let run : List ℕ = take c.block_of-length.result (drop c.copies.done c.args.members.now) in
    let long : length run ≡ c.block_of-length.result = length-take-le c.block_of-length.result (drop c.copies.done c.args.members.now) (omega (arith, fits, length-drop c.copies.done c.args.members.now)) in
    let more : List ℕ = c.copies.row.list ++ cond (c.copies.index % 2 == 0) run [] in
    let next = block_copied c.args.code c.args.count c.args.members.now s.0 s.1 c.args.row.now.list c.copies.index c.copies.done c.copies.row.list more (rest c.copies.cursor) (rest c.value.new.cursor) c.value.result c.block_of-length.result c.value.ensures.exact c.block_of-length.ensures (omega arith) fits refl (c.copies.invariant.on s.0 s.1 s.2 s.3 s.4) in
    omega (arith, s.5, c.copies.invariant.room, ap (λ (w : List ℕ). length w) c.copies.invariant.waiting, kept_long c.copies.row.list run c.copies.index c.block_of-length.result long even, copying_fits c.args.code c.args.count c.args.members.now s.0 s.1 c.args.row.now.list _ _ more (rest c.value.new.cursor) s.3 next)

pub overflow_add-done : goal.overflow_add-done
overflow_add-done c =
    let s = c.requires.stand in
    let fits = block_fits c.args.code c.args.count c.args.members.now s.0 s.1 c.args.row.now.list c.copies.index c.copies.done c.copies.row.list (rest c.copies.cursor) (rest c.value.new.cursor) c.value.result c.block_of-length.result c.value.ensures.exact c.block_of-length.ensures (omega arith) s.3 (c.copies.invariant.on s.0 s.1 s.2 s.3 s.4) in
    omega (arith, fits)

pub copies-preserved : goal.copies-preserved
copies-preserved c =
    let s = c.requires.stand in
    let fits = block_fits c.args.code c.args.count c.args.members.now s.0 s.1 c.args.row.now.list c.copies.index c.copies.done c.copies.row.list (rest c.copies.cursor) (rest c.value.new.cursor) c.value.result c.block_of-length.result c.value.ensures.exact c.block_of-length.ensures (omega arith) s.3 (c.copies.invariant.on s.0 s.1 s.2 s.3 s.4) in
    record {
      on = λ values behind len total words. block_copied c.args.code c.args.count c.args.members.now values behind c.args.row.now.list c.copies.index c.copies.done c.copies.row.list c.keep.new.row.list (rest c.copies.cursor) (rest c.value.new.cursor) c.value.result c.block_of-length.result c.value.ensures.exact c.block_of-length.ensures (omega arith) fits
          (c.keep.ensures.list ∙ ap (λ (xs : List ℕ). c.copies.row.list ++ cond (c.copies.index % 2 == 0) (take c.block_of-length.result xs) []) (take_rest c.args.members.now c.copies.done)) (c.copies.invariant.on values behind len total words);
      fits = fits;
      waiting = c.keep.ensures.waiting ∙ c.copies.invariant.waiting;
      room = c.keep.ensures.room ∙ c.copies.invariant.room;
    }

pub keep-requires-2-clause-room : goal.keep-requires-2-clause-room
keep-requires-2-clause-room c even =
    let s = c.requires.stand in
    let run : List ℕ = drop c.copies.done c.args.members.now in
    let whole = all_copied c.args.code c.args.count c.args.members.now s.0 s.1 c.args.row.now.list c.copies.index c.copies.done c.copies.row.list (c.copies.row.list ++ cond (c.args.count % 2 == 0) run []) (rest c.copies.cursor) (omega arith) c.copies.invariant.fits refl (c.copies.invariant.on s.0 s.1 s.2 s.3 s.4) in
    omega (arith, s.5, c.copies.invariant.room, ap (λ (w : List ℕ). length w) c.copies.invariant.waiting, kept_long c.copies.row.list run c.args.count (length c.args.members.now - c.copies.done) (length-drop c.copies.done c.args.members.now) even, ap (λ (l : List ℕ). length l) whole.0, length-append c.args.row.now.list (copied_members (blocks_of s.0) c.args.members.now))

pub returns-clause-list : goal.returns-clause-list
returns-clause-list c values behind len total words =
    (all_copied c.args.code c.args.count c.args.members.now values behind c.args.row.now.list c.copies.index c.copies.done c.copies.row.list c.keep-2.new.row.list (rest c.copies.cursor) (omega arith) c.copies.invariant.fits (c.keep-2.ensures.list ∙ ap (λ (xs : List ℕ). c.copies.row.list ++ cond (c.args.count % 2 == 0) (take (length c.args.members.now - c.copies.done) xs) []) (take_rest c.args.members.now c.copies.done) ∙ ap (λ (xs : List ℕ). c.copies.row.list ++ cond (c.args.count % 2 == 0) xs []) (take_rest c.args.members.now c.copies.done)) (c.copies.invariant.on values behind len total words)).0

pub returns-clause-behind : goal.returns-clause-behind
returns-clause-behind c values behind len total words =
    (all_copied c.args.code c.args.count c.args.members.now values behind c.args.row.now.list c.copies.index c.copies.done c.copies.row.list c.keep-2.new.row.list (rest c.copies.cursor) (omega arith) c.copies.invariant.fits (c.keep-2.ensures.list ∙ ap (λ (xs : List ℕ). c.copies.row.list ++ cond (c.args.count % 2 == 0) (take (length c.args.members.now - c.copies.done) xs) []) (take_rest c.args.members.now c.copies.done) ∙ ap (λ (xs : List ℕ). c.copies.row.list ++ cond (c.args.count % 2 == 0) xs []) (take_rest c.args.members.now c.copies.done)) (c.copies.invariant.on values behind len total words)).1
