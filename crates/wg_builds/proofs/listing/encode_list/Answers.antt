use Rattle.std.proofs.{Common.refl, lemmas.Result.err_from_is_err_and}
use Rattle.wg_outside.proofs.FilesLemmas.{none_falls-refl}
use Rattle.wg_builds.proofs.ListedJobs.{list_unheld}
use Rattle.wg_builds.proofs.listing.encode_list.Goals as goal

pub returns-in_err-encoder : goal.returns-in_err-encoder
returns-in_err-encoder g c =
    let q = err_from_is_err_and c.from_residual.result c.from_residual.ensures.1 in
    rw (q.1, q.2) record { makes = tt; ends = list_unheld c.args.name.now c.args.nodes _ _ _ _ _ refl (none_falls-refl _) }

pub returns-in_err-encoder-2 : goal.returns-in_err-encoder-2
returns-in_err-encoder-2 g c =
    let q = err_from_is_err_and c.from_residual-in_err-encoder-2.result c.from_residual-in_err-encoder-2.ensures.1 in
    rw (q.1, q.2) record { makes = tt; ends = rw (c.as_str.ensures) at (c.in_err-encoder-2.ensures.ends) }

pub returns-in_err-archive : goal.returns-in_err-archive
returns-in_err-archive g c =
    let l = c.in_ok-encoder-2.ensures.encodes.loads in
    let q = err_from_is_err_and c.from_residual-in_err-archive.result c.from_residual-in_err-archive.ensures.1 in
    rw (q.1, q.2) record { makes = tt; ends = list_unheld c.args.name.now c.args.nodes _ _ _ _ _ l.same l.later }
