use Rattle.std.proofs.Common.{arith}
use Rattle.wg_builds.proofs.ListingLemmas.{all_taken, taken_whole}
use Rattle.wg_builds.proofs.listing.end_pages.Goals as goal

pub returns-then-page-nodes-clause-encoded : goal.returns-then-page-nodes-clause-encoded
returns-then-page-nodes-clause-encoded c = λ done h.
    rw (taken_whole c.args.nodes c.args.encoder done c.args.list.now h (omega (arith, c.page.ensures.value, c.if-page-nodes.true))) (c.pass_to.ensures.encoded done h)

pub returns-clause-encoded : goal.returns-clause-encoded
returns-clause-encoded c = λ done h. all_taken c.args.nodes c.args.encoder done c.args.list.now h (omega (arith, c.page.ensures.value, c.page.ensures.within, c.if-page-nodes.false, c.requires.nodes))
