use Rattle.wg_num.proofs.Parted.{first_none, first_some, rest_shorter}
use Rattle.wg_num.proofs.words.first_word.Goals as goal

pub returns-clause-none : goal.returns-clause-none
returns-clause-none c none = first_none c.args.text.now c.without_blanks_before-text.result.now c.word_length-end.result c.without_blanks_before-text.ensures c.word_length-end.ensures none

pub returns-clause-some : goal.returns-clause-some
returns-clause-some c some = first_some c.args.text.now c.without_blanks_before-text.result.now c.word_length-end.result c.without_blanks_before-text.ensures c.word_length-end.ensures some

pub returns-clause-shorter : goal.returns-clause-shorter
returns-clause-shorter c some = rest_shorter c.args.text.now c.without_blanks_before-text.result.now c.word_length-end.result c.without_blanks_before-text.ensures some
