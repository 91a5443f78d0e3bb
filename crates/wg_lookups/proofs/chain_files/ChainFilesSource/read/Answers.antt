use Rattle.wg_lookups.proofs.chain_files.ChainFilesSource.read.Goals as goal

pub returns-clause-refused : goal.returns-clause-refused
returns-clause-refused g c = c.read_graph.ensures.cause c.args.self.now.offsets.now
