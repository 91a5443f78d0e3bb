-- The graph of an ASCIIGraph text on its way into an archive, line by line.
use Rattle.std.specs.Prelude.{◌≡◌, ℕ, ◌+◌, ◌<◌, ◌≤◌, List, ◌++◌}
use Rattle.wg_num.specs.Lines.{lines_of}
use Rattle.wg_params.specs.declared.limits.TheConstants.{MOST_ARCS, MOST_PAGES}
use Rattle.wg_ascii.specs.Growing.{IsUpTo}
use Rattle.wg_ascii.specs.Growing.{PageLinesRead}
use Rattle.wg_ascii.specs.declared.fault.AsciiError.{AsciiError}
use Rattle.wg_ascii.specs.declared.fault.AsciiError.TheVariants as error
use Rattle.wg_encoder.specs.ArchiveInMemory.{EncodedSoFar, HasEncoded}
use Rattle.wg_outcomes.specs.declared.status.Status.{Status}
use Rattle.wg_outcomes.specs.declared.status.Status.TheVariants.{BadText, Memory}

-- how a job ends at an error of an ASCIIGraph text
abbrev pub status_of_text : AsciiError → Status
status_of_text (error.Line line kind) = BadText line kind
status_of_text error.Memory = Memory

-- The lists of the pages whose lines were read are encoded; as many arcs are told as an archive may have.
pub record KeepsPace (e : EncodedSoFar) (s : PageLinesRead) : Type 0 where
  pub nodes : e.params.nodes ≡ s.nodes
  pub few : s.nodes ≤ MOST_PAGES
  pub most : e.params.arcs ≡ MOST_ARCS
  pub arcs : e.arcs ≡ s.arcs
  pub room : s.arcs ≤ MOST_ARCS
  pub page : s.line ≤ s.nodes → e.page + 1 ≡ s.line
  pub over : s.nodes < s.line → e.page ≡ s.nodes

-- the first line was read, and other lines of a text; these lists are encoded
pub record Begins (text : List ℕ) (e : EncodedSoFar) (s : PageLinesRead) : Type 0 where
  pub lists : List (List ℕ)
  pub encoded : HasEncoded e lists
  pub reads : (later : List (List ℕ)) → IsUpTo (lines_of text ++ later) later lists s

-- some lines more were read, where those before gave these lists
pub record GoesOn (text : List ℕ) (s : PageLinesRead) (before : List (List ℕ)) (e : EncodedSoFar) (t : PageLinesRead)
    : Type 0 where
  pub lists : List (List ℕ)
  pub encoded : HasEncoded e lists
  pub reads : (all later : List (List ℕ)) → IsUpTo all (lines_of text ++ later) before s → IsUpTo all later lists t
