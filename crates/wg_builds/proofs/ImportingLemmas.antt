-- Lists of an ASCIIGraph text that are encoded as its lines come.
use Rattle.std.proofs.Common.{◌≡◌, ℕ, ◌+◌, ◌<◌, ◌≤◌, List, [], ◌++◌, length, Bool, true, false, Result, Ok, sym, ap, subst, ◌∙◌, arith}
use Rattle.wg_num.specs.Lines.{lines_of}
use Rattle.wg_num.proofs.Cuts.{no_lines}
use Rattle.wg_ascii.specs.{Growing.IsUpTo, Growing.PageLinesRead}
use Rattle.wg_encoder.specs.ArchiveInMemory.{EncodedSoFar}
use Rattle.wg_outcomes.specs.declared.ending.Ending.{Ending}
use Rattle.wg_builds.specs.Imported.{KeepsPace}

-- lines after those of the pages, if there are any
pub blank_pace : (e : EncodedSoFar) (s t : PageLinesRead) (count : ℕ) → KeepsPace e s → (0 < count → s.nodes < s.line) → t.nodes ≡ s.nodes → t.arcs ≡ s.arcs → s.line ≤ t.line → t.line ≤ s.line + count → KeepsPace e t
blank_pace e s t count k behind nodes arcs onward line = grind arith

-- the lines that come next are lent now
pub lent : (all next later lists : List (List ℕ)) (text lines : List ℕ) (s : PageLinesRead) → next ≡ lines_of lines ++ later → text ≡ lines → IsUpTo all next lists s → IsUpTo all (lines_of text ++ later) lists s
lent all next later lists text lines s is same up = subst (λ (ls : List (List ℕ)). IsUpTo all ls lists s) (is ∙ ap (λ (l : List ℕ). lines_of l ++ later) (sym same)) up

-- nothing is lent only at the end
pub no_later : (b : Bool) (before later : List (List ℕ)) (lines : List ℕ) → (◌≡◌ {A = Result Bool Ending} (Ok b) (Ok true) → 0 < length lines) → (◌≡◌ {A = Result Bool Ending} (Ok b) (Ok false) → before ≡ []) → before ≡ lines_of lines ++ later
    → length lines ≡ 0 → later ≡ []
no_later b before later lines h h2 h3 h4 = grind (arith, no_lines)
