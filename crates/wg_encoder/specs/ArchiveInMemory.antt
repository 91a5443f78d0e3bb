-- An archive that is encoded into files in memory. They belong to the archive whose name is empty.
use Rattle.std.specs.Prelude.{◌≡◌, ℕ, List, [], length, Option, Some}
use Rattle.std.specs.List.{sum_by}
use Rattle.std.specs.FinMap as fin
use Rattle.wg_outside.specs.Outside.{Files, content}
use Rattle.wg_outside.specs.Suffixes.{properties_name, graph_name, offsets_name}
use Rattle.wg_params.specs.Parameters.{Parameters}
use Rattle.wg_greedy.specs.Archive.{Archive, graph_bits, referring_pages, graph_file, offsets_file}
use Rattle.wg_encoder.specs.Encoding.{Encoded, HasWritten, words_before}
use Rattle.wg_encoder.specs.Gone.{HasSent}
use Rattle.wg_encoder.specs.declared.summary.Summary.{Summary}

-- how many bits the records have, and how many of them refer to a page before
abbrev pub summary_of : Parameters → List (List ℕ) → Summary
summary_of p lists = record { bits = length (graph_bits p lists); referring = referring_pages p lists }

-- an archive, and what its records come to
pub record Summarized : Type 0 where
  pub files : Archive
  pub summary : Summary

-- the greedy archive of these lists, with this properties text
abbrev pub encoded : Parameters → List ℕ → List (List ℕ) → Summarized
encoded p text lists =
    record {
      files = record { properties = text; graph = graph_file p lists; offsets = offsets_file p lists };
      summary = summary_of p lists;
    }

-- How many lists were encoded, and how many numbers they have; where the record that comes next stands; and the graph
-- file and the offsets file as far as they have gone out.
pub record EncodedSoFar : Type 0 where
  pub params : Parameters
  pub page : ℕ
  pub arcs : ℕ
  pub encoder : Encoded
  pub graph : Option (List ℕ)
  pub offsets : Option (List ℕ)

-- what an encoder of lists has made of these files
abbrev pub so_far : Encoded → Files → EncodedSoFar
so_far e files = record {
  params = e.params;
  page = e.next.page;
  arcs = e.next.arcs_before;
  encoder = e;
  graph = fin.get files (graph_name []);
  offsets = fin.get files (offsets_name []);
}

-- these lists were encoded, in this order, each by the reference that is chosen
pub record HasEncoded (e : EncodedSoFar) (lists : List (List ℕ)) : Type 0 where
  pub params : e.encoder.params ≡ e.params
  pub page : e.page ≡ length lists
  pub arcs : e.arcs ≡ sum_by (λ list. length list) lists
  pub written : HasWritten e.encoder lists
  pub records : HasSent e.graph e.encoder.graph_waits (graph_bits e.encoder.params lists)
  pub words : HasSent e.offsets e.encoder.offsets_waits (words_before e.encoder.params lists)

-- what the three files of an archive of this name hold
abbrev pub archive_of : List ℕ → Files → Archive
archive_of base files =
    record {
      properties = content files (properties_name base);
      graph = content files (graph_name base);
      offsets = content files (offsets_name base);
    }

-- the three files of an archive of this name are there, and hold this
pub record HoldsArchive (files : Files) (base : List ℕ) (a : Archive) : Type 0 where
  pub properties : fin.get files (properties_name base) ≡ Some a.properties
  pub graph : fin.get files (graph_name base) ≡ Some a.graph
  pub offsets : fin.get files (offsets_name base) ≡ Some a.offsets
