use Rattle.std.proofs.Common.{◌∙◌, sym}
use Rattle.wg_words.proofs.files.overwrites.Goals as goal

pub returns-then-is_file_of : goal.returns-then-is_file_of
returns-then-is_file_of c = rw (c.in-Some.is, sym c.is_file_of.ensures ∙ c.if-is_file_of.true) c.if-is_file_of.true

pub returns-else-is_file_of : goal.returns-else-is_file_of
returns-else-is_file_of c = rw (c.in-Some.is, sym c.is_file_of.ensures ∙ c.if-is_file_of.false) c.is_given.ensures
