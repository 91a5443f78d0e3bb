use Rattle.wg_vectors.proofs.Whole.{generated_is_proper, generated_is_sparse}
use Rattle.wg_vectors.proofs.laws.generated_graphs.Goals as goal

pub returns : goal.returns
returns c = record { proper = generated_is_proper; sparse = generated_is_sparse }
