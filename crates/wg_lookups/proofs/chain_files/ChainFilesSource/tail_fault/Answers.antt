use Rattle.wg_lookups.proofs.chain_files.ChainFilesSource.tail_fault.Goals as goal

pub returns-clause-refused : goal.returns-clause-refused
returns-clause-refused g c = c.tail_of_graph.ensures.cause c.args.self.now.offsets.now
