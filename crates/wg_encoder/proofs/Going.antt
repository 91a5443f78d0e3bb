-- From one list to the next: what an encoder knows is what the greedy archive has.
use Rattle.std.proofs.Common.{◌≡◌, ℕ, zero, suc, ◌+◌, ◌≤◌, Bool, true, false, cond, List, [], ◌∷◌, ◌++◌, length, length-append, take, refl, sym, ap, subst, ◌∙◌, arith}
use Rattle.wg_params.specs.Parameters.{Parameters}
use Rattle.wg_grammar.specs.Context.{Known, Context}
use Rattle.wg_decoder.specs.Remembered.{Serves}
use Rattle.wg_decoder.proofs.Serving.{serves_next}
use Rattle.wg_greedy.specs.Archive.{graph_bits, refers, referring_pages}
use Rattle.wg_greedy.specs.Laws.{IsList}
use Rattle.wg_encoder.specs.Encoding.{Encoded, next_context, context_on, chosen_size, encoded_on, HasWritten}
use Rattle.wg_greedy.specs.Greedy.{chosen}
use Rattle.wg_encoder.proofs.Pages.{context_more, due_more, graph_more, referring_more, chosen_bits}

-- one list more was written
pub written_on : (e : Encoded) (list : List ℕ) (w v : List Bool) (lists : List (List ℕ)) → HasWritten e lists → HasWritten (encoded_on e list w v) (lists ++ list ∷ [])
written_on e list w v lists h =
    let p : Parameters = e.params in
    let size : chosen_size p e.next list ≡ length (chosen_bits p (next_context p lists) list) = ap (λ (c : Context). chosen_size p c list) h.context in
    record {
      context = ap (λ (c : Context). context_on p c list) h.context ∙ context_more p lists list;
      is_last = size ∙ sym (due_more p lists list);
      is_referring = ap (λ (n : ℕ). n + cond (refers (chosen p e.next list)) 1 0) h.is_referring ∙ ap (λ (c : Context). referring_pages p lists + cond (refers (chosen p c list)) 1 0) h.context ∙ sym (referring_more p lists list);
      is_total = omega (arith, h.is_total, size, ap (λ (bits : List Bool). length bits) (graph_more p lists list), length-append (graph_bits p lists) (chosen_bits p (next_context p lists) list));
    }

-- a record is counted once at most
pub ones_few : (r : ℕ) → cond (refers r) 1 0 ≤ 1
ones_few r = at (refers r)
  where
    at : (b : Bool) → cond b 1 0 ≤ 1
    at true = omega arith
    at false = omega arith

-- nothing is kept if no reference may be
pub none_kept : (w : ℕ) (behind more : List Known) → w ≡ 0 → length behind ≤ w → behind ≡ take w more
none_kept zero [] more none few = refl
none_kept zero (k ∷ ks) more none few = absurd (omega (arith, few))
none_kept (suc w) behind more none few = absurd (omega (arith, none))

-- what is kept serves the next page
pub serves_on : (p : Parameters) (page d : ℕ) (list : List ℕ) (behind now : List Known) → Serves p page behind → IsList p list → d ≤ page → now ≡ take p.window (record { list = list; depth = d } ∷ behind) → Serves p (page + 1) now
serves_on p page d list behind now s is low taken =
    subst (Serves p (page + 1)) (sym taken) (serves_next p page behind (record { list = list; depth = d }) s is.ascends is.below low)
