use Rattle.std.proofs.Common.{arith}
use Rattle.wg_random.proofs.archive.Archive.open_or_list.Goals as goal

pub returns-in_ok-climb : goal.returns-in_ok-climb
returns-in_ok-climb c r = (omega (arith, (c.requires.chain r).deep), c.in_ok-climb.ensures r)
