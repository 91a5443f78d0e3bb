use Rattle.std.proofs.{Common.◌∙◌, Common.Some, Common.None, lemmas.Bool.Decides.Decides-eqb}
use Rattle.std.proofs.lemmas.Slice.Eq.{strip_prefix_is}
use Rattle.wg_words.proofs.FileLemmas.{rest_decides, no_front}
use Rattle.wg_words.proofs.files.is_joined.Goals as goal

pub returns-in-Some : goal.returns-in-Some
returns-in-Some c =
    let name = c.as_bytes.result.now in
    let first = c.as_bytes-2.result.now in
    rw (← c.as_bytes.ensures.value, ← c.as_bytes-2.ensures.value, ← c.as_bytes-in-Some.ensures.value)
    (c.eq.ensures ∙ rest_decides name first c.in-Some.rest.now c.as_bytes-in-Some.result.now
    (strip_prefix_is Decides-eqb name first (Some c.in-Some.rest) c.in-Some.ensures.cases))

pub returns-in-None : goal.returns-in-None
returns-in-None c =
    let name = c.as_bytes.result.now in
    let first = c.as_bytes-2.result.now in
    rw (← c.as_bytes.ensures.value, ← c.as_bytes-2.ensures.value)
    (no_front name first c.args.second.now (strip_prefix_is Decides-eqb name first None c.in-None.ensures.cases))
