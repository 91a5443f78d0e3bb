use Rattle.std.proofs.Common.{◌≤◌, Err, sym, subst}
use Rattle.std.proofs.lemmas.Result.{err_from_is_err_and}
use Rattle.wg_offsets.specs.Stages.{WordsRead, AreRead}
use Rattle.wg_offsets.specs.Words.{ReadsOffsets}
use Rattle.wg_offsets.proofs.WordsLemmas.{one_more, one_refused, leads_from}
use Rattle.wg_offsets.proofs.offset_words.OffsetWords.next.Goals as goal

pub returns-clause-reads : goal.returns-clause-reads
returns-clause-reads g c = λ bits places r h.
    let i = c.self.inside in
    let at = g.S.Source.offset c.args.source.now in
    let end = g.S.Source.offset c.read.new.self in
    let next = c.in_ok-offset.offset in
    let here = subst (λ (w : WordsRead). AreRead bits w at places) (sym c.self.view_is) h in
    one_more i.code bits i.count at i.offset places next end here (leads_from i.code bits i.count i.offset at c.in-Ok.read next end (c.in-Ok.ensures.found bits r) c.in_ok-offset.ensures.leads)

pub returns-in_err-offset-clause-fault : goal.returns-in_err-offset-clause-fault
returns-in_err-offset-clause-fault g c = λ bits places r h.
    let i = c.self.inside in
    let at = g.S.Source.offset c.args.source.now in
    let f = c.in_err-offset.field-0.0 in
    let here = subst (λ (w : WordsRead). AreRead bits w at places) (sym c.self.view_is) h in
    let more = subst (λ (w : WordsRead). w.count ≤ w.pages) (sym c.self.view_is) c.requires.more in
    let e = err_from_is_err_and c.from_residual.result c.from_residual.ensures.1 in
    let all = one_refused i.code bits i.pages i.count at i.offset places f here more (c.in-Ok.read, (c.in-Ok.ensures.found bits r).0, c.in_err-offset.ensures.refused) in
    rw (e.1, e.2) (subst (λ (w : WordsRead). ReadsOffsets w.code w.pages bits (Err f)) c.self.view_is all)
