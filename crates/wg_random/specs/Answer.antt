-- What is answered when a page is opened, listed or read.
use Rattle.std.specs.Prelude.{◌≡◌, ℕ, ◌<◌, ◌≤◌, List, length, Result, Ok, Err}
use Rattle.wg_grammar.specs.Context.{Known}
use Rattle.wg_iterators.specs.Coming.{Coming}
use Rattle.wg_iterators.specs.declared.below.TheConstants.{CHAIN_PAGES}
use Rattle.wg_random.specs.declared.error.ListError.{ListError}
use Rattle.wg_random.specs.declared.error.ListError.TheVariants as lists
use Rattle.wg_random.specs.declared.error.OpenError.{OpenError}
use Rattle.wg_random.specs.declared.error.OpenError.TheVariants.{NoPage, Deep, Memory}
use Rattle.wg_random.specs.declared.reading.Page.{Page}
use Rattle.wg_random.specs.declared.reading.Page.TheVariants.{Opened, Listed}

-- all successors of the page are still to come
abbrev pub all_of : Known → Coming
all_of k = record { outdegree = length k.list; depth = k.depth; list = k.list }

-- the page, which is x; or there is no such page; or it is too deep; or memory ran out, for a page that refers to
-- another
abbrev pub Opens : ℕ → ℕ → Known → Result Coming OpenError → Type 0
Opens nodes x k (Ok s) = (x < nodes) × (k.depth < CHAIN_PAGES) × (s ≡ all_of k)
Opens nodes x k (Err NoPage) = nodes ≤ x
Opens nodes x k (Err (Deep d)) = (x < nodes) × (d ≡ k.depth) × (CHAIN_PAGES ≤ d)
Opens nodes x k (Err Memory) = (x < nodes) × (k.depth < CHAIN_PAGES) × (0 < k.depth)

-- the list of the page, which is x; or there is no such page; or memory ran out
abbrev pub Lists : ℕ → ℕ → Known → Result (List ℕ) ListError → Type 0
Lists nodes x k (Ok list) = (x < nodes) × (list ≡ k.list)
Lists nodes x k (Err lists.NoPage) = nodes ≤ x
Lists nodes x k (Err lists.Memory) = x < nodes

-- the successors of a page that was read, whether they are to come or are listed
abbrev pub list_in : Page → List ℕ
list_in (Opened s) = s.list
list_in (Listed list) = list

-- all of them; they are to come one by one exactly if the chain is short enough for that
abbrev pub IsReadOf : Known → Page → Type 0
IsReadOf k (Opened s) = (k.depth < CHAIN_PAGES) × (s ≡ all_of k)
IsReadOf k (Listed list) = (CHAIN_PAGES ≤ k.depth) × (list ≡ k.list)

-- the page, which is x; or there is no such page; or memory ran out
abbrev pub Reads : ℕ → ℕ → Known → Result Page ListError → Type 0
Reads nodes x k (Ok page) = (x < nodes) × IsReadOf k page
Reads nodes x k (Err lists.NoPage) = nodes ≤ x
Reads nodes x k (Err lists.Memory) = x < nodes
