-- What is answered when a page is opened, listed or read.
use Rattle.std.proofs.Common.{◌≡◌, ℕ, ◌+◌, ◌-◌, ◌<◌, ◌≤◌, List, [], Some, Result, Ok, Err, refl, arith}
use Rattle.std.specs.Prelude.{get_or, IfOk, OnOk}
use Rattle.wg_grammar.specs.Archive.{Accepted, ReadsGraph}
use Rattle.wg_grammar.specs.Context.{Known}
use Rattle.wg_random.proofs.Readings.{few_opened}
use Rattle.wg_random.specs.Checked.{CheckedRecords, StandsForGraph}
use Rattle.wg_stream.specs.AllRecords.{AllRecords, known_at}
use Rattle.wg_random.specs.declared.error.ListError.{ListError}
use Rattle.wg_random.specs.declared.error.ListError.TheVariants as lists
use Rattle.wg_random.specs.declared.error.OpenError.{OpenError}
use Rattle.wg_random.specs.declared.error.OpenError.TheVariants as opens

-- one answer is no other
pub no_error : {A E : Type 0} {e : E} {a : A} → ◌≡◌ {A = Result A E} (Ok a) (Err e) → ⊥
no_error is = absurd (cc is)

pub not_listed : {A : Type 0} → ◌≡◌ {A = Result A ListError} (Err lists.Memory) (Err lists.NoPage) → ⊥
not_listed is = absurd (cc is)

pub not_opened : {A : Type 0} → ◌≡◌ {A = Result A OpenError} (Err opens.Memory) (Err opens.NoPage) → ⊥
not_opened is = absurd (cc is)

pub not_deep : {A : Type 0} (d : ℕ) → ◌≡◌ {A = Result A OpenError} (Err (opens.Deep d)) (Err opens.NoPage) → ⊥
not_deep d is = absurd (cc is)

-- how many records were opened
pub no_more_than : (from to deep : ℕ) → to ≡ from + deep + 1 → to ≤ from + deep + 1
no_more_than from to deep is = omega (arith, is)

pub ticks_of : (from to long deep : ℕ) → to ≡ from + long → 0 < long → deep ≡ long - 1 → to ≡ from + deep + 1
ticks_of from to long deep is some ends = omega (arith, is, some, ends)

pub ticks_by : (from to depth deep : ℕ) → to ≡ from + depth + 1 → deep ≡ depth → to ≡ from + deep + 1
ticks_by from to depth deep is ends = omega (arith, is, ends)

-- the depth of the page is that of its chain
pub as_near : (depth most deep : ℕ) → depth < most → deep ≡ depth → deep < most
as_near depth most deep lt is = omega (arith, lt, is)

pub as_deep : (depth deep : ℕ) → 0 < depth → deep ≡ depth → 0 < deep
as_deep depth deep lt is = omega (arith, lt, is)

-- ---- the clauses of a call

-- `says` is what a call answers for a page's list and depth, `list` the list of an answer, and `missing` the error if there
-- is no such page
module _ {A E : Type 0} (v : CheckedRecords) (x old : ℕ) (says : Known → Result A E → Type 0) (list : A → List ℕ) (missing : E) where
  -- what is said of page x, once this was answered and the ticks are as many as `new`
  abbrev pub OfPage : ℕ → Result A E → Type 0
  OfPage new result = record {
    answer : (r : AllRecords v.params v.bits) → says (known_at r.records x) result;
    graph : (a : Accepted) → ReadsGraph v.params v.bits (Ok a) → IfOk result (λ y. list y ≡ get_or a.graph x []);
    ticks : (r : AllRecords v.params v.bits) → OnOk result (new ≡ old + (known_at r.records x).depth + 1);
    most : (r : AllRecords v.params v.bits) → new ≤ old + (known_at r.records x).depth + 1;
    none : v.params.nodes ≤ x → new ≡ old;
    stands : StandsForGraph v;
    records : AllRecords v.params v.bits;
    no_page : v.params.nodes ≤ x → result ≡ Err missing;
    no_page_only_then : result ≡ Err missing → v.params.nodes ≤ x;
    few : (limit : ℕ) → v.params.chain ≡ Some limit → new ≤ old + limit + 1;
  }

  -- what is known of the number of pages
  abbrev pub HasPages : ℕ → Type 0
  HasPages n = record { count : n ≡ v.params.nodes; stands : StandsForGraph v; records : AllRecords v.params v.bits }

  pub no_page : (n : ℕ) → HasPages n → n ≤ x → ((k : Known) → v.params.nodes ≤ x → says k (Err missing)) → OfPage old (Err missing)
  no_page n is le said =
      let past : v.params.nodes ≤ x = omega (arith, le, is.count) in
      record {
        answer = λ r. said (known_at r.records x) past;
        graph = λ a h. tt;
        ticks = λ r. tt;
        most = λ r. omega arith;
        none = λ _. refl;
        stands = is.stands;
        records = is.records;
        no_page = λ _. refl;
        no_page_only_then = λ _. past;
        few = few_opened _ _ x _ _ is.records (λ r. omega arith);
      }

  pub on_page : (n new : ℕ) (result : Result A E) → HasPages n → x < n
      → (x < v.params.nodes → (r : AllRecords v.params v.bits) → says (known_at r.records x) result)
      → ((a : Accepted) → ReadsGraph v.params v.bits (Ok a) → IfOk result (λ y. list y ≡ get_or a.graph x []))
      → ((r : AllRecords v.params v.bits) → OnOk result (new ≡ old + (known_at r.records x).depth + 1))
      → ((r : AllRecords v.params v.bits) → new ≤ old + (known_at r.records x).depth + 1) → (result ≡ Err missing → ⊥) → OfPage new result
  on_page n new result is lt said graph ticks most other = record {
    answer = said (omega (arith, lt, is.count));
    graph = graph;
    ticks = ticks;
    most = most;
    none = λ le. absurd (omega (arith, lt, le, is.count));
    stands = is.stands;
    records = is.records;
    no_page = λ le. absurd (omega (arith, lt, le, is.count));
    no_page_only_then = λ e. absurd (other e);
    few = few_opened _ _ x _ _ is.records most;
  }
