-- The reference by which a list is written: how far it reaches, that its values have words, and that its record is
-- short.
use Rattle.std.proofs.Common.{◌≡◌, ℕ, ◌+◌, ◌^◌, ◌<◌, ◌≤◌, eqb, ltb, leb, min, true, not, ◌&&◌, List, length, sym, ap, subst, ◌∙◌, inl, inr, arith}
use Rattle.std.proofs.lemmas.Bool.{and_parts, or_cases, eqb-true}
use Rattle.wg_params.specs.Parameters.{Parameters, IsWithinLimits}
use Rattle.wg_grammar.specs.Context.{Context, referenced, depth_of}
use Rattle.wg_grammar.specs.Refusal.{passes}
use Rattle.wg_encoder.specs.declared.choice.Choice.{Choice}
use Rattle.wg_greedy.specs.Fields.{all_have_words}
use Rattle.wg_greedy.specs.Greedy.{canonical, size_of, is_candidate}
use Rattle.wg_greedy.specs.Laws.{IsList, enough_bits}
use Rattle.wg_encoder.specs.Encoding.{Encoded, IsChosen}
use Rattle.wg_greedy.proofs.Least.{chosen_candidate, within}
use Rattle.wg_greedy.proofs.NoReference.{no_reference_has}
use Rattle.wg_greedy.proofs.ShortRecords.{chosen_short}

module _ (p : Parameters) (c : Context) (list : List ℕ) (choice : Choice) (is : IsChosen p c list choice) where
  chosen_may : is_candidate p c list choice.reference ≡ true
  chosen_may = ap (is_candidate p c list) is.0 ∙ chosen_candidate p c list

  pub chosen_reach : choice.reference ≤ min p.window c.page
  chosen_reach = within p c list choice.reference chosen_may

  pub chosen_words : IsWithinLimits p → c.page < p.nodes → IsList p list → all_have_words (canonical p c list choice.reference) ≡ true
  chosen_words limits here proper =
      let r : ℕ = choice.reference in
      elim (or_cases (eqb r 0) (leb r (min p.window c.page) && ltb 0 (length (referenced c.behind r)) && not (passes p.chain (depth_of c.behind r)) && all_have_words (canonical p c list r)) chosen_may) [
        | inl none ↦
            ap (λ (n : ℕ). all_have_words (canonical p c list n)) (eqb-true r 0 none)
            ∙ no_reference_has p c.page p.nodes list limits (let n = limits.nodes in omega (arith, n)) here proper.ascends proper.below
        | inr some ↦ (and_parts _ _ some).1
      ]

  chosen_few : IsWithinLimits p → c.page < p.nodes → IsList p list → choice.bits ≤ enough_bits 1 (length list)
  chosen_few limits here proper = omega (arith, is.1 ∙ ap (size_of p c list) is.0, chosen_short p c list limits here proper)

-- the bits of the records so far stay few, with those of this one
pub record StaysFew (c : Context) (list : List ℕ) (before bits : ℕ) : Type 0 where
  pub last : bits < 2 ^ 62
  pub total : before + bits ≤ enough_bits (c.page + 1) (c.arcs_before + length list)
  pub room : before + bits < 2 ^ 64

pub stays_few : (p : Parameters) (c : Context) (list : List ℕ) (choice : Choice) (before : ℕ) → IsWithinLimits p → c.page < p.nodes → IsList p list → c.arcs_before + length list ≤ p.arcs → IsChosen p c list choice
    → before ≤ enough_bits c.page c.arcs_before → StaysFew c list before choice.bits
stays_few p c list choice before limits here proper fits is few =
    let bits = chosen_few p c list choice is limits here proper in
    let nodes = limits.nodes in
    let arcs = limits.arcs in
    record {
      last = omega (arith, bits, fits, arcs);
      total = omega (arith, bits, few);
      room = omega (arith, bits, few, fits, arcs, nodes, here);
    }

-- the bits stay few with those of this record, by the encoder as it was
pub stays_few_at : (e v : Encoded) (list : List ℕ) (choice : Choice) → v ≡ e → IsWithinLimits e.params → e.next.page < e.params.nodes → IsList e.params list → e.next.arcs_before + length list ≤ e.params.arcs → IsChosen e.params e.next list choice
    → v.total ≤ enough_bits v.next.page v.next.arcs_before → StaysFew v.next list v.total choice.bits
stays_few_at e v list choice same limits here proper fits is few =
    subst (λ (x : Encoded). x.total ≤ enough_bits x.next.page x.next.arcs_before → StaysFew x.next list x.total choice.bits) (sym same) (stays_few e.params e.next list choice e.total limits here proper fits is) few
