-- Lists that are put into arrays, one after the other.
use Rattle.std.proofs.Common.{◌≡◌, ℕ, ◌+◌, ◌≤◌, Bool, List, ◌∷◌, [], ◌++◌, length, take, Result, Ok, Err, sym, subst}
use Rattle.std.specs.Prelude.{OnOk}
use Rattle.std.proofs.lemmas.List.{length-take-le, take_all}
use Rattle.wg_params.specs.Parameters.{Parameters}
use Rattle.wg_graph.specs.Pieces.{pieces, EndsAt}
use Rattle.wg_graph.proofs.Growth.{append_is}
use Rattle.wg_grammar.specs.Record.{Whole}
use Rattle.wg_grammar.specs.Archive.{lists_of, places_of, ReadsGraph}
use Rattle.wg_memory.specs.Answers.{AreLists}

-- one list more
pub put_more : (ends all ends1 all1 list : List ℕ) (page arcs after : ℕ) → after ≡ arcs + length list → after ≤ length all1 → EndsAt 0 (take page ends) (length (take arcs all))
    → take after all1 ≡ take arcs all ++ list → take (page + 1) ends1 ≡ take page ends ++ after ∷ []
    → EndsAt 0 (take (page + 1) ends1) (length (take after all1)) × (pieces 0 (take (page + 1) ends1) (take after all1) ≡ pieces 0 (take page ends) (take arcs all) ++ list ∷ [])
put_more ends all ends1 all1 list page arcs after after_is fits whole put_all put_end =
    append_is (take page ends) (take arcs all) list (take (page + 1) ends1) (take after all1) after whole put_all (sym (length-take-le after all1 fits)) put_end

-- all of them
pub all_lists : (p q : Parameters) (bits : List Bool) (ends all : List ℕ) (page arcs : ℕ) (behind : List Whole) → q ≡ p → length ends ≤ page → length all ≤ arcs
    → EndsAt 0 (take page ends) (length (take arcs all)) → pieces 0 (take page ends) (take arcs all) ≡ lists_of behind
    → ReadsGraph q bits (Ok (record { graph = lists_of behind; places = places_of behind })) → AreLists p bits ends all
all_lists p q bits ends all page arcs behind same every_page every_arc whole lists reads =
    let e : take page ends ≡ ends = take_all page ends every_page in
    let a : take arcs all ≡ all = take_all arcs all every_arc in
    let made : pieces 0 ends all ≡ lists_of behind = subst (λ (es : List ℕ). pieces 0 es all ≡ lists_of behind) e (subst (λ (xs : List ℕ). pieces 0 (take page ends) xs ≡ lists_of behind) a lists) in
    record {
      whole = subst (λ (es : List ℕ). EndsAt 0 es (length all)) e (subst (λ (xs : List ℕ). EndsAt 0 (take page ends) (length xs)) a whole);
      places = places_of behind;
      reads = subst (λ (s : List (List ℕ)). ReadsGraph p bits (Ok (record { graph = s; places = places_of behind }))) (sym made)
          (subst (λ (r : Parameters). ReadsGraph r bits (Ok (record { graph = lists_of behind; places = places_of behind }))) same reads);
    }

pub on_both : {A E : Type 0} (x : Result A E) (P Q R : Type 0) → (P → Q → R) → OnOk x P → OnOk x Q → OnOk x R
on_both (Ok a) P Q R on p q = on p q
on_both (Err e) P Q R on p q = tt
