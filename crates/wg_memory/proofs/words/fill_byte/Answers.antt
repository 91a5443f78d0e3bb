use Rattle.wg_memory.proofs.WritingLemmas.{filled_up, whole_byte}
use Rattle.wg_memory.proofs.words.fill_byte.Goals as goal

pub returns-clause-puts : goal.returns-clause-puts
returns-clause-puts c = filled_up c.args.file.now c.put_bits.new.file c.args.held c.put_bits.result c.requires.within c.requires.few c.put_bits.ensures

pub returns-clause-whole : goal.returns-clause-whole
returns-clause-whole c = whole_byte c.args.file.now c.put_bits.new.file c.args.held c.put_bits.result c.requires.within c.requires.few c.put_bits.ensures
