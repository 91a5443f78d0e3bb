use Rattle.wg_decoder.proofs.ahead.endless.Goals as goal

pub returns : goal.returns
returns c = rw (c.layout.ensures, c.nodes.ensures.value, c.arcs.ensures.value) at c.in-Ok.ensures.ok
