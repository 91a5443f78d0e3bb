use Rattle.std.proofs.Common.{codes, refl}
use Rattle.wg_words.proofs.JobLemmas.{differs}
use Rattle.wg_words.proofs.asked.more_on.Goals as goal

pub returns-in-show : goal.returns-in-show
returns-in-show c = rw c.in-show.is c.show_on.ensures

pub returns-in-spot : goal.returns-in-spot
returns-in-spot c = rw c.in-spot.is c.spot_on.ensures

pub returns-in-rank : goal.returns-in-rank
returns-in-rank c = rw c.in-rank.is c.rank_on.ensures

pub returns-in-verify : goal.returns-in-verify
returns-in-verify c = rw c.in-verify.is c.verify_on.ensures

pub returns-in-build : goal.returns-in-build
returns-in-build c = rw c.in-build.is c.build_on.ensures

pub returns-in-import : goal.returns-in-import
returns-in-import c = rw c.in-import.is c.import_on.ensures

pub returns-in_default : goal.returns-in_default
returns-in_default c =
    rw (
      differs c.args.command.now (codes "show") c.in_default.not-show,
      differs c.args.command.now (codes "spot") c.in_default.not-spot,
      differs c.args.command.now (codes "rank") c.in_default.not-rank,
      differs c.args.command.now (codes "verify") c.in_default.not-verify,
      differs c.args.command.now (codes "build") c.in_default.not-build,
      differs c.args.command.now (codes "import") c.in_default.not-import,
    ) refl
