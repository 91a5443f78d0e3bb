use Rattle.std.proofs.Common.{◌∙◌, [], ap}
use Rattle.std.specs.FinMap as fin
use Rattle.wg_io.specs.Memory.{SteadyFiles}
use Rattle.wg_outside.specs.Suffixes.{graph_name, offsets_name}
use Rattle.wg_encoder.proofs.InMemory.{as_encoded}
use Rattle.wg_encoder.proofs.archive_encoder.ArchiveEncoder.new.Goals as goal

pub invariant_of-result : goal.invariant_of-result
invariant_of-result c =
    let n = c.in_ok-lists.ensures in
    let same = c.in_ok-files.ensures.ok in
    let graph = ap (λ (d : SteadyFiles). fin.get d.files (graph_name [])) same ∙ c.in_ok-empty_files.ensures.graph in
    let offsets = ap (λ (d : SteadyFiles). fin.get d.files (offsets_name [])) same ∙ c.in_ok-empty_files.ensures.offsets in
    ([], as_encoded c.in_ok-lists.lists c.in_ok-files.files.value.files [] n.written (n.begun c.in_ok-files.files.value.files [] graph offsets))

pub returns-clause-encoded : goal.returns-clause-encoded
unfolding invariant_of-result
returns-clause-encoded c = (invariant_of-result c).1
