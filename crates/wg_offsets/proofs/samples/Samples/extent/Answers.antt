use Rattle.std.proofs.Common.{◌≡◌, ◌∙◌, ◌+◌, ap, arith}
use Rattle.std.proofs.lemmas.Result.{err_from_is_err_and}
use Rattle.wg_offsets.specs.Stages.{WordsRead}
use Rattle.wg_offsets.proofs.SamplesLemmas.{from_sample, never_refused, place_of}
use Rattle.wg_offsets.proofs.samples.Samples.extent.Goals as goal

pub returns-in_err-read_more-clause-right : goal.returns-in_err-read_more-clause-right
returns-in_err-read_more-clause-right g c = λ file places r is.
    let s = c.args.self.now in
    let w = c.words-reading.ensures in
    let a = from_sample s c.words-reading.result file places c.args.page _ w.words w.kept c.requires.at is in
    let e = err_from_is_err_and c.from_residual.result c.from_residual.ensures.1 in
    rw (e.1, e.2) (never_refused s _ _ file places c.in_err-read_more.field-0.0 (ap (λ (x : WordsRead). x.code) w.words) (ap (λ (x : WordsRead). x.pages) w.words) w.coded is (c.in_err-read_more.ensures.fault file a.0 r a.1))

pub returns-in_err-end-clause-right : goal.returns-in_err-end-clause-right
returns-in_err-end-clause-right g c = λ file places r is.
    let s = c.args.self.now in
    let w = c.words-reading.ensures in
    let o = c.in_ok-read_more.ensures in
    let a = from_sample s c.words-reading.result file places c.args.page _ w.words w.kept c.requires.at is in
    let b = o.reads file a.0 r a.1 in
    let on = g.met.S.Source.same_bits _ _ file o.later r in
    let code = o.code ∙ ap (λ (x : WordsRead). x.code) w.words in
    let pages = o.pages ∙ ap (λ (x : WordsRead). x.pages) w.words in
    let e = err_from_is_err_and c.from_residual-in_err-end.result c.from_residual-in_err-end.ensures.1 in
    rw (e.1, e.2) (never_refused s _ _ file places c.in_err-end.field-0.0 code pages w.coded is (c.in_err-end.ensures.fault file b.0 on b.1))

pub returns-clause-lies : goal.returns-clause-lies
returns-clause-lies g c = λ file places r is.
    let s = c.args.self.now in
    let page = c.args.page in
    let w = c.words-reading.ensures in
    let o = c.in_ok-read_more.ensures in
    let n = c.in_ok-end.ensures in
    let a = from_sample s c.words-reading.result file places page _ w.words w.kept c.requires.at is in
    let b = o.reads file a.0 r a.1 in
    let on = g.met.S.Source.same_bits _ _ file o.later r in
    let code : c.read_more.new.words.code ≡ s.code = o.code ∙ ap (λ (x : WordsRead). x.code) w.words in
    let count : c.read_more.new.words.count ≡ page + 1 = omega (arith, o.count, ap (λ (x : WordsRead). x.count) w.words) in
    let start = place_of s c.read_more.new.words file places page _ b.0 code count w.coded (omega (arith, c.requires.page)) is b.1 in
    let next : c.next.new.self.count ≡ page + 1 + 1 = omega (arith, n.count, count) in
    let end = place_of s c.next.new.self file places (page + 1) _ _ (n.code ∙ code) next w.coded (omega (arith, c.requires.page)) is (n.reads file b.0 on b.1) in
    (c.offset-start.ensures ∙ start, n.value ∙ end)
