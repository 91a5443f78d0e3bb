-- Records and files of small graphs, by the definitions.
use Rattle.std.proofs.Common.{◌≡◌, ℕ, [], ◌∷◌, Some, refl}
use Rattle.wg_bits.specs.Bits.{low_bits}
use Rattle.wg_bits.specs.Written.{padding}
use Rattle.wg_codes.specs.Words.{first_where, highest, unary, gamma, zeta}
use Rattle.wg_params.specs.Parameters.{Parameters}
use Rattle.wg_params.specs.declared.code.Code.TheVariants.{Unary, Gamma, Zeta}
use Rattle.wg_blocks.specs.Canonical.{canonical_blocks}
use Rattle.wg_intervals.specs.Canonical.{runs_of}
use Rattle.wg_greedy.specs.Fields.{record_fields}
use Rattle.wg_greedy.specs.Greedy.{chosen}
use Rattle.wg_greedy.specs.Archive.{graph_file, offsets_file}

-- the usual codes
usual : ℕ → ℕ → ℕ → ℕ → Parameters
usual nodes arcs chain interval = record {
  nodes = nodes;
  arcs = arcs;
  window = 7;
  chain = Some chain;
  interval = interval;
  zeta = 3;
  outdegrees = Gamma;
  references = Unary;
  block_counts = Gamma;
  blocks = Gamma;
  residuals = Zeta 3;
  offsets = Gamma;
}

-- 1 page without successors
one_page : graph_file (usual 1 0 3 4) ([] ∷ []) ≡ 128 ∷ []
unfolding usual graph_file chosen record_fields canonical_blocks runs_of padding highest unary gamma zeta low_bits first_where
one_page = refl

-- 010 1 1 1011, and 1
two_pages : graph_file (usual 2 1 3 4) ((1 ∷ []) ∷ [] ∷ []) ≡ 93 ∷ 192 ∷ []
unfolding usual graph_file chosen record_fields canonical_blocks runs_of padding highest unary gamma zeta low_bits first_where
two_pages = refl

two_pages_offsets : offsets_file (usual 2 1 3 4) ((1 ∷ []) ∷ [] ∷ []) ≡ 138 ∷ 64 ∷ []
unfolding usual offsets_file chosen record_fields canonical_blocks runs_of padding highest unary gamma zeta low_bits first_where
two_pages_offsets = refl

-- 011 1 1 1011 100, then 011 01 1 by a reference that copies all, and 1
three_pages : graph_file (usual 3 4 3 4) ((1 ∷ 2 ∷ []) ∷ (1 ∷ 2 ∷ []) ∷ [] ∷ []) ≡ 125 ∷ 198 ∷ 224 ∷ []
unfolding usual graph_file chosen record_fields canonical_blocks runs_of padding highest unary gamma zeta low_bits first_where
three_pages = refl

three_pages_offsets : offsets_file (usual 3 4 3 4) ((1 ∷ 2 ∷ []) ∷ (1 ∷ 2 ∷ []) ∷ [] ∷ []) ≡ 141 ∷ 58 ∷ []
unfolding usual offsets_file chosen record_fields canonical_blocks runs_of padding highest unary gamma zeta low_bits first_where
three_pages_offsets = refl

-- two intervals of the least length, and no residual
two_intervals : graph_file (usual 6 4 3 2) ((1 ∷ 2 ∷ 4 ∷ 5 ∷ []) ∷ [] ∷ [] ∷ [] ∷ [] ∷ [] ∷ []) ≡ 45 ∷ 191 ∷ 240 ∷ []
unfolding usual graph_file chosen record_fields canonical_blocks runs_of padding highest unary gamma zeta low_bits first_where
two_intervals = refl

-- chains of one reference: page 3 refers to page 1, since page 2 refers to it already
short_chains : graph_file (usual 4 6 1 4) ([] ∷ (0 ∷ 2 ∷ []) ∷ (0 ∷ 2 ∷ []) ∷ (0 ∷ 2 ∷ []) ∷ []) ≡ 190 ∷ 169 ∷ 182 ∷ 96 ∷ []
unfolding usual graph_file chosen record_fields canonical_blocks runs_of padding highest unary gamma zeta low_bits first_where
short_chains = refl

short_chains_offsets : offsets_file (usual 4 6 1 4) ([] ∷ (0 ∷ 2 ∷ []) ∷ (0 ∷ 2 ∷ []) ∷ (0 ∷ 2 ∷ []) ∷ []) ≡ 161 ∷ 199 ∷ 16 ∷ []
unfolding usual offsets_file chosen record_fields canonical_blocks runs_of padding highest unary gamma zeta low_bits first_where
short_chains_offsets = refl

-- one member copied, one skipped, and the rest copied
two_blocks : graph_file (usual 8 7 3 4) ((1 ∷ 3 ∷ 5 ∷ 7 ∷ []) ∷ (1 ∷ 5 ∷ 7 ∷ []) ∷ [] ∷ [] ∷ [] ∷ [] ∷ [] ∷ [] ∷ []) ≡ 47 ∷ 117 ∷ 84 ∷ 69 ∷ 175 ∷ 224 ∷ []
unfolding usual graph_file chosen record_fields canonical_blocks runs_of padding highest unary gamma zeta low_bits first_where
two_blocks = refl

two_blocks_offsets : offsets_file (usual 8 7 3 4) ((1 ∷ 3 ∷ 5 ∷ 7 ∷ []) ∷ (1 ∷ 5 ∷ 7 ∷ []) ∷ [] ∷ [] ∷ [] ∷ [] ∷ [] ∷ [] ∷ []) ≡ 134 ∷ 7 ∷ 164 ∷ 146 ∷ 64 ∷ []
unfolding usual offsets_file chosen record_fields canonical_blocks runs_of padding highest unary gamma zeta low_bits first_where
two_blocks_offsets = refl

-- no pages
nothing : graph_file (usual 0 0 3 4) [] ≡ []
unfolding usual graph_file chosen record_fields canonical_blocks runs_of padding highest unary gamma zeta low_bits first_where
nothing = refl

nothing_offsets : offsets_file (usual 0 0 3 4) [] ≡ 128 ∷ []
unfolding usual offsets_file chosen record_fields canonical_blocks runs_of padding highest unary gamma zeta low_bits first_where
nothing_offsets = refl

-- neither window nor intervals, and residuals in gamma: 010 011 1
plain : Parameters
plain = record {
  nodes = 2;
  arcs = 1;
  window = 0;
  chain = Some 3;
  interval = 0;
  zeta = 3;
  outdegrees = Gamma;
  references = Unary;
  block_counts = Gamma;
  blocks = Gamma;
  residuals = Gamma;
  offsets = Gamma;
}

residuals_alone : graph_file plain ((1 ∷ []) ∷ [] ∷ []) ≡ 78 ∷ []
unfolding plain graph_file chosen record_fields canonical_blocks runs_of padding highest unary gamma zeta low_bits first_where
residuals_alone = refl
