use Rattle.wg_readings.proofs.ReadingsLemmas.{in_at}
use Rattle.wg_readings.proofs.archive.find_pages.Goals as goal

pub returns-then-page-nodes-clause-only : goal.returns-then-page-nodes-clause-only
returns-then-page-nodes-clause-only c = (_, in_at c.args.pages.now c.loop-page.page-index _ c.loop-page-test.true, c.of.ensures.status)
