use Rattle.wg_properties.proofs.writing.add_chain.Goals as goal

pub returns-in-None : goal.returns-in-None
returns-in-None c = rw c.in-None.is c.add_line.ensures
