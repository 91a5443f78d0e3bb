use Rattle.wg_lookups.proofs.chain_files.ChainFilesSeek.go_to.Goals as goal

pub returns-clause-refused : goal.returns-clause-refused
returns-clause-refused g c = c.seek_graph.ensures.cause c.args.self.now.offsets.now
