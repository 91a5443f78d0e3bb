use Rattle.wg_decoder.proofs.Lists.{known_all, known_push}
use Rattle.wg_decoder.proofs.window.Window.exchange.Goals as goal

pub returns-clause-ok : goal.returns-clause-ok
returns-clause-ok c = known_push _ _ _ _ _ _ c.self.view_is c.in_ok-push_front.ensures.items c.without_furthest.ensures.items

pub returns-clause-all : goal.returns-clause-all
returns-clause-all c = known_all _ _ _ _ _ _ _ c.self.view_is c.in_ok-push_front.ensures.items c.without_furthest.ensures.all
