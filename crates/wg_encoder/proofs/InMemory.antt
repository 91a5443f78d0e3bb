-- An encoder into files in memory is one of lists, and its files.
use Rattle.std.proofs.Common.{◌≡◌, ℕ, List, [], length, refl, sym, ap, subst, ◌∙◌}
use Rattle.std.specs.Prelude.{unwrap_or, Option}
use Rattle.std.specs.FinMap.{insert}
use Rattle.wg_outside.specs.Outside.{Files}
use Rattle.wg_outside.specs.Suffixes.{properties_name, graph_name, offsets_name}
use Rattle.wg_outside.proofs.FilesLemmas.{get-insert_same, get-insert_other}
use Rattle.wg_encoder.proofs.FileNames.{properties_graph, properties_offsets}
use Rattle.wg_params.specs.Parameters.{Parameters}
use Rattle.wg_grammar.specs.Context.{Context}
use Rattle.wg_greedy.specs.Archive.{Archive, graph_bits, referring_pages}
use Rattle.wg_encoder.specs.Encoding.{Encoded, HasWritten}
use Rattle.wg_encoder.specs.Gone.{HasSentAll, IsWritten}
use Rattle.wg_encoder.specs.ArchiveInMemory.{encoded, so_far, HasEncoded, archive_of, HoldsArchive}
use Rattle.wg_encoder.proofs.AnyArcs.{with_arcs, same_encoded}

pub as_encoded : (e : Encoded) (files : Files) (lists : List (List ℕ)) → HasWritten e lists → HasSentAll files [] e lists → HasEncoded (so_far e files) lists
as_encoded e files lists written sent = record {
  params = refl;
  page = ap (λ (c : Context). c.page) written.context;
  arcs = ap (λ (c : Context). c.arcs_before) written.context;
  written = written;
  records = sent.records;
  words = sent.words;
}

pub as_sent : (e : Encoded) (files : Files) (lists : List (List ℕ)) → HasEncoded (so_far e files) lists → HasSentAll files [] e lists
as_sent e files lists h = record { records = h.records; words = h.words }

-- ---- the files once all is written

-- the properties beside the two files of the greedy archive
pub whole_archive : (files : Files) (text : List ℕ) (p : Parameters) (lists : List (List ℕ)) → IsWritten files [] p lists → HoldsArchive (insert files (properties_name []) text) [] (encoded p text lists).files
whole_archive files text p lists are = record {
  properties = get-insert_same files (properties_name []) text;
  graph = get-insert_other files (properties_name []) text (graph_name []) (λ same. properties_graph [] (sym same)) ∙ are.0;
  offsets = get-insert_other files (properties_name []) text (offsets_name []) (λ same. properties_offsets [] (sym same)) ∙ are.1;
}

-- what is held is what the names hold
pub archive_held : (files : Files) (base : List ℕ) (a : Archive) → HoldsArchive files base a → archive_of base files ≡ a
archive_held files base a h =
    let held : Option (List ℕ) → List ℕ = λ o. unwrap_or o [] in
    (λ i. record { properties = held (h.properties i); graph = held (h.graph i); offsets = held (h.offsets i) })

pub there : (files : Files) (base : List ℕ) (a : Archive) → HoldsArchive files base a → HoldsArchive files base (archive_of base files)
there files base a h = subst (HoldsArchive files base) (sym (archive_held files base a h)) h

-- what is answered of them, by parameters that may tell another number of arcs
pub answered : (p q : Parameters) (files : Files) (text : List ℕ) (lists : List (List ℕ)) (bits referring : ℕ) → HoldsArchive files [] (encoded q text lists).files → bits ≡ length (graph_bits q lists) → referring ≡ referring_pages q lists → p ≡ with_arcs q p.arcs
    → record { files = archive_of [] files; summary = record { bits = bits; referring = referring } } ≡ encoded p text lists
answered p q files text lists bits referring h b r is =
    let here : record { files = archive_of [] files; summary = record { bits = bits; referring = referring } } ≡ encoded q text lists =
    λ i. record { files = archive_held files [] (encoded q text lists).files h i; summary = record { bits = b i; referring = r i } } in
    here ∙ sym (same_encoded q p.arcs text lists) ∙ ap (λ (x : Parameters). encoded x text lists) (sym is)
