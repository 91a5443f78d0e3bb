-- The archive of a graph whose lists were encoded one after the other, and the number of its arcs told at the end.
use Rattle.std.proofs.Common.{◌≡◌, ◌∙◌, ℕ, ◌+◌, ◌<◌, ◌≤◌, max, List, length, sym, ap, subst, arith}
use Rattle.wg_params.specs.{Parameters.Parameters, Parameters.params_of, declared.layout.Layout.Layout}
use Rattle.wg_params.specs.declared.limits.TheConstants.{MOST_ARCS, MOST_PAGES}
use Rattle.wg_properties.specs.Text.{text_of}
use Rattle.wg_graph.specs.Digraph.{Digraph, arc_count}
use Rattle.wg_encoder.specs.ArchiveInMemory.{EncodedSoFar, HasEncoded, Summarized, encoded}
use Rattle.wg_outcomes.specs.declared.status.Status.{Status}
use Rattle.wg_outcomes.specs.declared.status.Status.TheVariants as status
use Rattle.wg_shape.specs.declared.error.ShapeError.{ShapeError}
use Rattle.wg_shape.specs.declared.error.ShapeError.TheVariants as errors
use Rattle.wg_writing.specs.Writing.{IsArchiveOf}

-- running out of memory does not tell of too many arcs
pub no_arcs : (a b : ℕ) → ◌≡◌ {A = ShapeError} errors.Memory errors.TooManyArcs → a < b
no_arcs a b is = cc is

-- the greater of two numbers of pages
pub greater : (n a b a' b' : ℕ) → n ≡ max a b → a ≡ a' → b ≡ b' → n ≡ max a' b'
greater n a b a' b' is one other = is ∙ (λ i. max (one i) (other i))

pub few_pages : (n a b a' b' : ℕ) → n ≡ max a b → a ≡ a' → b ≡ b' → a' ≤ MOST_PAGES → b' ≤ MOST_PAGES → n ≤ MOST_PAGES
few_pages n a b a' b' is one other few few' = omega arith

module _ (l : Layout) (n : ℕ) (p begun : Parameters) (is : p ≡ params_of l n MOST_ARCS) (begun_is : begun ≡ p) where
  -- what the encoder is told at the beginning
  pub nodes_begun : (k : ℕ) → n ≡ k → begun.nodes ≡ k
  nodes_begun k size = ap (λ (q : Parameters). q.nodes) (begun_is ∙ is) ∙ size

  pub arcs_begun : begun.arcs ≡ MOST_ARCS
  arcs_begun = ap (λ (q : Parameters). q.arcs) (begun_is ∙ is)

  module _ (e : EncodedSoFar) (same : e.params ≡ begun) (arcs : ℕ) where
    -- there are few arcs, as the encoder was told
    pub few_encoded : arcs ≤ e.params.arcs → arcs ≤ MOST_ARCS
    few_encoded within = subst (λ (k : ℕ). arcs ≤ k) (ap (λ (q : Parameters). q.arcs) same ∙ arcs_begun) within

    module _ (g : Digraph) (count : arcs ≡ e.arcs) (lists : HasEncoded e g.lists) where
      pub few_arcs : arcs ≤ e.params.arcs → arc_count g ≤ MOST_ARCS
      few_arcs within = subst (λ (k : ℕ). k ≤ MOST_ARCS) (count ∙ lists.arcs) (few_encoded within)

      -- all pages are behind
      pub all_encoded : length g.lists ≡ g.nodes → n ≡ g.nodes → e.page ≡ e.params.nodes
      all_encoded counted size = lists.page ∙ counted ∙ sym (ap (λ (q : Parameters). q.nodes) same ∙ nodes_begun g.nodes size)

      -- the archive of the graph
      pub made_of : (made : Parameters) (archive : Summarized) → n ≡ g.nodes → made ≡ params_of l n arcs
          → ((all : List (List ℕ)) → HasEncoded e all → made ≡ record (e.params) { arcs = made.arcs } → archive ≡ encoded made (text_of made) all)
          → IsArchiveOf l g (made, archive)
      made_of made archive size made_is ends = grind arith

-- an ending by running out of memory tells nothing of the arcs
pub no_status : (a b : ℕ) (s : Status) → s ≡ status.Memory → s ≡ status.TooManyArcs → a < b
no_status a b s memory arcs = cc (memory, arcs)

pub next_page : (a b : ℕ) → b ≡ a + 1 → a < b
next_page a b is = omega (arith, is)

pub as_many : MOST_ARCS ≤ MOST_ARCS
as_many = omega arith
