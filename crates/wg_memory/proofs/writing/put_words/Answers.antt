use Rattle.std.proofs.Common.{◌-◌, ◌++◌, get_or, Some, refl}
use native.Mathlib.Numerals.{unary_clauses}
use Rattle.wg_codes.specs.Words.{word}
use Rattle.wg_memory.proofs.WritingLemmas.{puts_then, word_more}
use Rattle.wg_memory.proofs.writing.put_words.Goals as goal

pub loop-index-preserved : goal.loop-index-preserved
loop-index-preserved c =
    let l = c.loop-index in
    let p = l.invariant.put in
    let w = word c.args.code (get_or c.args.places.now l.index 0 - l.before) in
    record {
      before = simp unary_clauses refl;
      put = (
        p.0 ++ w,
        puts_then c.args.file.now l.file c.put_word.new.file _ l.held p.0 w (p.0 ++ w) (Some c.in_ok-held.held) refl p.1 c.in_ok-held.ensures,
        word_more c.args.code c.args.places.now l.index l.before p.0 c.loop-index-test.true p.2,
      );
    }
