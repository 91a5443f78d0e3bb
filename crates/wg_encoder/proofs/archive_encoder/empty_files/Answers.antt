use Rattle.std.proofs.Common.{◌∙◌, [], ap}
use Rattle.std.specs.FinMap as fin
use Rattle.wg_io.specs.Memory.{SteadyFiles}
use Rattle.wg_outside.specs.Suffixes.{graph_name, offsets_name}
use Rattle.wg_outside.proofs.FilesLemmas.{get-insert_same, get-insert_other}
use Rattle.wg_outside.proofs.SuffixLemmas.{graph_offsets}
use Rattle.wg_encoder.proofs.archive_encoder.empty_files.Goals as goal

pub returns-clause-graph : goal.returns-clause-graph
returns-clause-graph c =
    ap (λ (d : SteadyFiles). fin.get d.files (graph_name [])) c.in_ok-put_file-2.ensures.ok
    ∙ get-insert_other c.put_file.new.self.files (offsets_name []) [] (graph_name []) (graph_offsets [])
    ∙ ap (λ (d : SteadyFiles). fin.get d.files (graph_name [])) c.in_ok-put_file.ensures.ok
    ∙ get-insert_same c.new-depot.result.files (graph_name []) []

pub returns-clause-offsets : goal.returns-clause-offsets
returns-clause-offsets c =
    ap (λ (d : SteadyFiles). fin.get d.files (offsets_name [])) c.in_ok-put_file-2.ensures.ok
    ∙ get-insert_same c.put_file.new.self.files (offsets_name []) []
