-- Records of small archives, validated by the definitions.
use Rattle.std.proofs.Common.{◌≡◌, ℕ, Bool, true, false, ◌==◌, List, [], ◌∷◌, drop, Some, Ok, Err, refl, lit<, lit≤}
use Rattle.wg_params.specs.Parameters.{Parameters}
use Rattle.wg_params.specs.declared.code.Code.TheVariants.{Unary, Gamma, Zeta}
use Rattle.wg_bits.specs.Bits.{low_bits}
use Rattle.wg_codes.specs.Words.{first_where, highest, unary, gamma, zeta}
use Rattle.wg_codes.specs.declared.outcome.Read.TheVariants as reads
use Rattle.wg_graph.specs.Copied.{copied_members}
use Rattle.wg_grammar.specs.declared.fault.Field.TheVariants as field
use Rattle.wg_grammar.specs.declared.fault.Kind.TheVariants as kind
use Rattle.wg_grammar.specs.Context.{Context}
use Rattle.wg_grammar.specs.SoFar.{nothing_yet, after}
use Rattle.wg_grammar.specs.Next.{next}
use Rattle.wg_grammar.specs.Refusal.{refusal}
use Rattle.wg_grammar.specs.Members.{list_of}
use Rattle.wg_grammar.specs.Record.{ReadsRecord}

-- the bits that these digits are
spelled : List ℕ → List Bool
spelled [] = []
spelled (b ∷ bs) = (b == 1) ∷ spelled bs

-- the usual codes, with intervals of at least 4 pages
usual : ℕ → ℕ → ℕ → Parameters
usual nodes arcs interval = record {
  nodes = nodes;
  arcs = arcs;
  window = 7;
  chain = Some 3;
  interval = interval;
  zeta = 3;
  outdegrees = Gamma;
  references = Unary;
  block_counts = Gamma;
  blocks = Gamma;
  residuals = Zeta 3;
  offsets = Gamma;
}

page_0 : Context
page_0 = record { page = 0; arcs_before = 0; behind = [] }

-- after a page with the successors 1, 3, 5 and 7
page_1 : Context
page_1 = record { page = 1; arcs_before = 4; behind = record { list = 1 ∷ 3 ∷ 5 ∷ 7 ∷ []; depth = 0 } ∷ [] }

-- 1 and then 1 of the members 1, 3, 5, 7: one copied, one skipped, and the rest copied
even_blocks : copied_members (1 ∷ 1 ∷ []) (1 ∷ 3 ∷ 5 ∷ 7 ∷ []) ≡ 1 ∷ 5 ∷ 7 ∷ []
unfolding copied_members
even_blocks = refl

-- after an odd number of blocks the rest is skipped
odd_blocks : copied_members (2 ∷ []) (1 ∷ 3 ∷ 5 ∷ 7 ∷ []) ≡ 1 ∷ 3 ∷ []
unfolding copied_members
odd_blocks = refl

-- no page is copied first
empty_first_block : copied_members (0 ∷ 3 ∷ []) (1 ∷ 3 ∷ 5 ∷ 7 ∷ []) ≡ 7 ∷ []
unfolding copied_members
empty_first_block = refl

-- of two pages, page 0 has the successor 1
one_residual : ReadsRecord (usual 2 1 4) page_0 (spelled (0 ∷ 1 ∷ 0 ∷ 1 ∷ 1 ∷ 1 ∷ 0 ∷ 1 ∷ 1 ∷ [])) 0 (Ok (record { known = record { list = 1 ∷ []; depth = 0 }; end = 9 }))
unfolding usual spelled page_0 next refusal after list_of copied_members highest unary gamma zeta low_bits first_where
one_residual =
    let bits = spelled (0 ∷ 1 ∷ 0 ∷ 1 ∷ 1 ∷ 1 ∷ 0 ∷ 1 ∷ 1 ∷ []) in
    let s1 = after (usual 2 1 4) page_0 nothing_yet field.Outdegree 1 in
    let s2 = after (usual 2 1 4) page_0 s1 field.Reference 0 in
    let s3 = after (usual 2 1 4) page_0 s2 field.IntervalCount 0 in
    let s4 = after (usual 2 1 4) page_0 s3 field.Residual 2 in
    (1 ∷ 0 ∷ 0 ∷ 2 ∷ [], s4, 9, (s1, 3, ((lit≤ tt, (drop 3 bits, refl)), refl, refl, refl), (s2, 4, ((lit≤ tt, (drop 4 bits, refl)), refl, refl, refl), (s3, 5, ((lit≤ tt, (drop 5 bits, refl)), refl, refl, refl), (s4, 9, ((lit≤ tt, (drop 9 bits, refl)), refl, refl, refl), (refl, refl))))), (refl, refl, refl, refl, refl))

-- intervals 1, 2 and 4, 5 if the least length is 2
two_intervals : ReadsRecord (usual 6 4 2) page_0 (spelled (0 ∷ 0 ∷ 1 ∷ 0 ∷ 1 ∷ 1 ∷ 0 ∷ 1 ∷ 1 ∷ 0 ∷ 1 ∷ 1 ∷ 1 ∷ 1 ∷ 1 ∷ [])) 0 (Ok (record { known = record { list = 1 ∷ 2 ∷ 4 ∷ 5 ∷ []; depth = 0 }; end = 15 }))
unfolding usual spelled page_0 next refusal after list_of copied_members highest unary gamma zeta low_bits first_where
two_intervals =
    let bits = spelled (0 ∷ 0 ∷ 1 ∷ 0 ∷ 1 ∷ 1 ∷ 0 ∷ 1 ∷ 1 ∷ 0 ∷ 1 ∷ 1 ∷ 1 ∷ 1 ∷ 1 ∷ []) in
    let s1 = after (usual 6 4 2) page_0 nothing_yet field.Outdegree 4 in
    let s2 = after (usual 6 4 2) page_0 s1 field.Reference 0 in
    let s3 = after (usual 6 4 2) page_0 s2 field.IntervalCount 2 in
    let s4 = after (usual 6 4 2) page_0 s3 field.Left 2 in
    let s5 = after (usual 6 4 2) page_0 s4 field.Length 0 in
    let s6 = after (usual 6 4 2) page_0 s5 field.Left 0 in
    let s7 = after (usual 6 4 2) page_0 s6 field.Length 0 in
    (4 ∷ 0 ∷ 2 ∷ 2 ∷ 0 ∷ 0 ∷ 0 ∷ [], s7, 15, (s1, 5, ((lit≤ tt, (drop 5 bits, refl)), refl, refl, refl), (s2, 6, ((lit≤ tt, (drop 6 bits, refl)), refl, refl, refl), (s3, 9, ((lit≤ tt, (drop 9 bits, refl)), refl, refl, refl), (s4, 12, ((lit≤ tt, (drop 12 bits, refl)), refl, refl, refl), (s5, 13, ((lit≤ tt, (drop 13 bits, refl)), refl, refl, refl), (s6, 14, ((lit≤ tt, (drop 14 bits, refl)), refl, refl, refl), (s7, 15, ((lit≤ tt, (drop 15 bits, refl)), refl, refl, refl), (refl, refl)))))))), (refl, refl, refl, refl, refl))

-- of the page before, 1 is copied, 3 is skipped, and the rest is copied
two_blocks : ReadsRecord (usual 8 7 4) page_1 (spelled (0 ∷ 0 ∷ 1 ∷ 0 ∷ 0 ∷ 0 ∷ 1 ∷ 0 ∷ 1 ∷ 1 ∷ 0 ∷ 1 ∷ 0 ∷ 1 ∷ [])) 0 (Ok (record { known = record { list = 1 ∷ 5 ∷ 7 ∷ []; depth = 1 }; end = 14 }))
unfolding usual spelled page_1 next refusal after list_of copied_members highest unary gamma zeta low_bits first_where
two_blocks =
    let bits = spelled (0 ∷ 0 ∷ 1 ∷ 0 ∷ 0 ∷ 0 ∷ 1 ∷ 0 ∷ 1 ∷ 1 ∷ 0 ∷ 1 ∷ 0 ∷ 1 ∷ []) in
    let s1 = after (usual 8 7 4) page_1 nothing_yet field.Outdegree 3 in
    let s2 = after (usual 8 7 4) page_1 s1 field.Reference 1 in
    let s3 = after (usual 8 7 4) page_1 s2 field.BlockCount 2 in
    let s4 = after (usual 8 7 4) page_1 s3 field.Block 1 in
    let s5 = after (usual 8 7 4) page_1 s4 field.Block 0 in
    let s6 = after (usual 8 7 4) page_1 s5 field.Copied 0 in
    (3 ∷ 1 ∷ 2 ∷ 1 ∷ 0 ∷ 0 ∷ [], s6, 14, (s1, 5, ((lit≤ tt, (drop 5 bits, refl)), refl, refl, refl), (s2, 7, ((lit≤ tt, (drop 7 bits, refl)), refl, refl, refl), (s3, 10, ((lit≤ tt, (drop 10 bits, refl)), refl, refl, refl), (s4, 13, ((lit≤ tt, (drop 13 bits, refl)), refl, refl, refl), (s5, 14, ((lit≤ tt, (drop 14 bits, refl)), refl, refl, refl), (s6, 14, (refl, refl, refl, refl), (refl, refl))))))), (refl, refl, refl, refl, refl))

-- a reference past page 0
reference_too_far : ReadsRecord (usual 8 7 4) page_1 (spelled (0 ∷ 1 ∷ 0 ∷ 0 ∷ 0 ∷ 1 ∷ [])) 0 (Err (record { page = 1; at = 3; field = field.Reference; kind = kind.Range }))
unfolding usual spelled page_1 next refusal after list_of copied_members highest unary gamma zeta low_bits first_where
reference_too_far =
    let bits = spelled (0 ∷ 1 ∷ 0 ∷ 0 ∷ 0 ∷ 1 ∷ []) in
    let s1 = after (usual 8 7 4) page_1 nothing_yet field.Outdegree 1 in
    (1 ∷ [], s1, 3, (s1, 3, ((lit≤ tt, (drop 3 bits, refl)), refl, refl, refl), (refl, refl)), ((reads.Value 2, (lit≤ tt, ([], refl)), refl, refl, refl), refl))

-- four members are copied if there are three successors
more_copied_than_successors : ReadsRecord (usual 8 7 4) page_1 (spelled (0 ∷ 0 ∷ 1 ∷ 0 ∷ 0 ∷ 0 ∷ 1 ∷ 1 ∷ [])) 0 (Err (record { page = 1; at = 8; field = field.Copied; kind = kind.Copied }))
unfolding usual spelled page_1 next refusal after list_of copied_members highest unary gamma zeta low_bits first_where
more_copied_than_successors =
    let bits = spelled (0 ∷ 0 ∷ 1 ∷ 0 ∷ 0 ∷ 0 ∷ 1 ∷ 1 ∷ []) in
    let s1 = after (usual 8 7 4) page_1 nothing_yet field.Outdegree 3 in
    let s2 = after (usual 8 7 4) page_1 s1 field.Reference 1 in
    let s3 = after (usual 8 7 4) page_1 s2 field.BlockCount 0 in
    (3 ∷ 1 ∷ 0 ∷ [], s3, 8, (s1, 5, ((lit≤ tt, (drop 5 bits, refl)), refl, refl, refl), (s2, 7, ((lit≤ tt, (drop 7 bits, refl)), refl, refl, refl), (s3, 8, ((lit≤ tt, (drop 8 bits, refl)), refl, refl, refl), (refl, refl)))), ((refl, refl, refl), refl))

-- the residual 3 is copied too
residual_copied_too : ReadsRecord (usual 8 9 4) page_1 (spelled (0 ∷ 0 ∷ 1 ∷ 1 ∷ 0 ∷ 0 ∷ 1 ∷ 1 ∷ 1 ∷ 1 ∷ 1 ∷ 0 ∷ 1 ∷ [])) 0 (Err (record { page = 1; at = 0; field = field.Record; kind = kind.Twice }))
unfolding usual spelled page_1 next refusal after list_of copied_members highest unary gamma zeta low_bits first_where
residual_copied_too =
    let bits = spelled (0 ∷ 0 ∷ 1 ∷ 1 ∷ 0 ∷ 0 ∷ 1 ∷ 1 ∷ 1 ∷ 1 ∷ 1 ∷ 0 ∷ 1 ∷ []) in
    let s1 = after (usual 8 9 4) page_1 nothing_yet field.Outdegree 5 in
    let s2 = after (usual 8 9 4) page_1 s1 field.Reference 1 in
    let s3 = after (usual 8 9 4) page_1 s2 field.BlockCount 0 in
    let s4 = after (usual 8 9 4) page_1 s3 field.Copied 0 in
    let s5 = after (usual 8 9 4) page_1 s4 field.IntervalCount 0 in
    let s6 = after (usual 8 9 4) page_1 s5 field.Residual 4 in
    (5 ∷ 1 ∷ 0 ∷ 0 ∷ 0 ∷ 4 ∷ [], s6, 13, (s1, 5, ((lit≤ tt, (drop 5 bits, refl)), refl, refl, refl), (s2, 7, ((lit≤ tt, (drop 7 bits, refl)), refl, refl, refl), (s3, 8, ((lit≤ tt, (drop 8 bits, refl)), refl, refl, refl), (s4, 8, (refl, refl, refl, refl), (s5, 9, ((lit≤ tt, (drop 9 bits, refl)), refl, refl, refl), (s6, 13, ((lit≤ tt, (drop 13 bits, refl)), refl, refl, refl), (refl, refl))))))), ((lit< tt, refl, refl, refl), refl))

-- the bits end inside the outdegree
cut_in_a_field : ReadsRecord (usual 8 9 4) page_0 (spelled (0 ∷ 0 ∷ [])) 0 (Err (record { page = 0; at = 0; field = field.Outdegree; kind = kind.Cut }))
unfolding usual spelled page_0 next refusal after list_of copied_members highest unary gamma zeta low_bits first_where
cut_in_a_field =
    let bits = spelled (0 ∷ 0 ∷ []) in
    ([], nothing_yet, 0, (refl, refl), ((reads.Cut, (3, lit≤ tt, (true ∷ false ∷ false ∷ [], lit< tt, refl)), refl, refl, refl), refl))
