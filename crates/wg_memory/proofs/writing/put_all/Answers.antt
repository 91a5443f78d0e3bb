use Rattle.wg_memory.proofs.WritingLemmas.{puts_then, words_filled}
use Rattle.wg_memory.proofs.writing.put_all.Goals as goal

pub returns-clause-puts : goal.returns-clause-puts
returns-clause-puts c =
    let put = c.in_ok-held.ensures.puts in
    puts_then _ _ _ _ _ _ _ _ _ (words_filled c.args.code c.args.file.now c.put_words.new.file c.args.places.now c.in_ok-held.held put)
    put c.fill_byte.ensures.puts
