use Rattle.std.proofs.Common.{refl}
use Rattle.wg_outside.proofs.FilesLemmas.{more_content, one_text}
use Rattle.wg_outside.proofs.file_sink.FileSinkSink.write.Goals as goal

pub returns-clause-ok : goal.returns-clause-ok
returns-clause-ok g c t = more_content _ _ _ _ c.append.result (c.append.ensures.ok t)

pub returns-clause-later : goal.returns-clause-later
returns-clause-later g c = (refl, refl, record { added = λ t. one_text _ _ _ _ c.append.result (c.append.ensures.ok t) c.append.ensures.err; counts = c.append.ensures.later })
