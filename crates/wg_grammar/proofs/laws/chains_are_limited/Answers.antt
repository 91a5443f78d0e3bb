use Rattle.std.proofs.Common.{[]}
use Rattle.wg_grammar.proofs.Depths.{record_limited, pages_limited}
use Rattle.wg_grammar.proofs.laws.chains_are_limited.Goals as goal

pub returns-clause-records : goal.returns-clause-records
returns-clause-records c = record_limited

pub returns-clause-pages : goal.returns-clause-pages
returns-clause-pages c = λ p bits ws behind end limit has pages. pages_limited p bits [] 0 ws behind end limit has pages
