use Rattle.std.proofs.Common.{◌+◌, ◌-◌, ◌*◌, ◌^◌, ◌%◌, ◌++◌, ◌∙◌, ◌<◌, ◌≤◌, length, take, refl, ap, arith}
use Rattle.std.proofs.lemmas.List.{length-take-le}
use Rattle.wg_bits.specs.Bits.{bits_of, low_bits}
use Rattle.wg_bits.proofs.Writes.{byte_out, held_length, held_more, pushed_fits}
use Rattle.wg_memory.proofs.WritingLemmas.{drop_one}
use Rattle.wg_memory.proofs.words.put_bits.Goals as goal

pub overflow_add-part : goal.overflow_add-part
overflow_add-part c =
    let few : c.args.count ≤ 64 = omega (arith, c.requires.count) in
    omega (arith, pushed_fits c.args.held.part c.args.value c.args.count few c.requires.value)

pub loop-fill-init : goal.loop-fill-init
loop-fill-init c =
    let few : c.args.held.fill + c.args.count < 64 = omega (arith, c.requires.few, c.requires.count) in
    record {
      long = refl;
      within = c.requires.within;
      onward = omega arith;
      few = few;
      bits = held_more _ (take c.args.held.bytes c.args.file.now) c.args.held.part c.args.held.fill c.args.value c.args.count
          few c.requires.value refl;
      rest = refl;
    }

pub returns-then-bytes-file : goal.returns-then-bytes-file
returns-then-bytes-file c =
    let l = c.loop-fill in
    let long = held_length (take l.bytes l.file) l.fill (c.args.held.part * 2 ^ c.args.count % 18446744073709551616 + c.args.value) in
    omega (
      arith,
      long,
      length-take-le l.bytes l.file l.invariant.within,
      ap length l.invariant.bits,
      l.invariant.long,
      c.if-bytes-file.true,
      c.loop-fill-test.true,
    )

pub loop-fill-preserved : goal.loop-fill-preserved
loop-fill-preserved c =
    let l = c.loop-fill in
    let i = l.invariant in
    let p = c.put_byte.ensures in
    let part = c.args.held.part * 2 ^ c.args.count % 18446744073709551616 + c.args.value in
    record {
      long = p.long ∙ i.long;
      within = omega (arith, i.within, c.if-bytes-file.false, p.long);
      onward = omega (arith, i.onward);
      few = omega (arith, i.few);
      bits = ap (λ z. bits_of z ++ low_bits (l.fill - 8) part) p.put ∙ byte_out (take l.bytes l.file) part l.fill c.loop-fill-test.true
          ∙ i.bits;
      rest = drop_one c.put_byte.new.file l.file c.args.file.now l.bytes p.rest i.rest;
    }
