-- One page more.
use native.Mathlib.Numerals.{unary_clauses}
use Rattle.std.proofs.Common.{refl, ◌≡◌, ℕ, ◌+◌, ◌≤◌, Bool, List, ◌∷◌, [], ◌++◌, length, take, get_or, inl, inr, sym, subst, arith, length-append, ◌∙◌}
use Rattle.std.proofs.lemmas.List.{get_or_push, get_or_append_left, length-take-le}
use Rattle.std.proofs.lemmas.Bool.{cases_lt}
use Rattle.wg_params.specs.Parameters.{Parameters}
use Rattle.wg_graph.specs.Pieces.{pieces, EndsAt}
use Rattle.wg_graph.proofs.Ends.{length-pieces}
use Rattle.wg_memory.specs.Answers.{HasList}
use Rattle.wg_memory.specs.Many.{AreListsOf, end_before}
use Rattle.wg_memory.proofs.ListsLemmas.{put_more}

one_list : (p : Parameters) (bits : List Bool) (places pages list : List ℕ) (lists : List (List ℕ)) → AreListsOf p bits places pages lists → HasList p bits places (get_or pages (length lists) 0) list
    → AreListsOf p bits places pages (lists ++ list ∷ [])
one_list p bits places pages list lists all one i lt = elim (cases_lt i (length lists)) [
  | inl before ↦ subst (λ (s : List ℕ). HasList p bits places (get_or pages i 0) s) (sym (get_or_append_left lists (list ∷ []) [] i before)) (all i before)
  | inr past ↦
      let here : length lists ≡ i = omega (arith, lt, past, length-append lists (list ∷ [])) in
      subst (λ (s : List ℕ). HasList p bits places (get_or pages i 0) s) (sym (get_or_push lists list [] i here)) (subst (λ (k : ℕ). HasList p bits places (get_or pages k 0) list) here one)
]

pub one_spot : (p : Parameters) (bits : List Bool) (places pages ends out ends1 out1 list : List ℕ) (done used after : ℕ) → after ≡ used + length list → after ≤ length out1 → done + 1 ≤ length ends1
    → done ≤ length ends → EndsAt 0 (take done ends) (length (take used out)) → AreListsOf p bits places pages (pieces 0 (take done ends) (take used out))
    → take after out1 ≡ take used out ++ list → take (done + 1) ends1 ≡ take done ends ++ after ∷ [] → HasList p bits places (get_or pages done 0) list
    → EndsAt 0 (take (done + 1) ends1) (length (take after out1)) × AreListsOf p bits places pages (pieces 0 (take (done + 1) ends1) (take after out1))
one_spot p bits places pages ends out ends1 out1 list done used after after_is fits long1 long whole lists put_out put_end one =
    let both = put_more ends out ends1 out1 list done used after after_is fits whole put_out put_end in
    let count : length (pieces 0 (take done ends) (take used out)) ≡ done = length-pieces 0 (take done ends) (take used out) ∙ length-take-le done ends long in (
      both.0,
      subst (λ (ls : List (List ℕ)). AreListsOf p bits places pages ls) (sym both.1)
          (one_list p bits places pages list (pieces 0 (take done ends) (take used out)) lists (subst (λ (k : ℕ). HasList p bits places (get_or pages k 0) list) (sym count) one)),
    )

-- the lists before the next page end where that of this page ends
pub end_after : (ends : List ℕ) (i : ℕ) → end_before ends (i + 1) ≡ get_or ends i 0
end_after ends i = simp unary_clauses refl
