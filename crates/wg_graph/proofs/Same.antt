-- Two graphs have the same lists exactly if the numbers are the same by which they are held.
use Rattle.std.proofs.Common.{◌≡◌, ℕ, ◌+◌, ◌-◌, ◌≤◌, ◌&&◌, List, [], ◌∷◌, ◌++◌, length, drop, slice_range, take-append-drop, bytes_eq, refl, sym, ap, ap₂, subst, ◌∙◌, arith}
use Rattle.std.specs.Cmp.Lexicographic.{pointwise, pointwise_decides, bytes_decides}
use Rattle.std.specs.Cmp.{first_so, second_so}
use Rattle.std.specs.Bool.{Decides, one_answer}
use Rattle.std.proofs.lemmas.List.{drop_all, drop-drop}
use Rattle.wg_graph.specs.Pieces.{pieces, EndsAt}
use Rattle.wg_graph.proofs.Ends.{ends_le, range_length}

-- what follows a place is the piece up to a later one, and what follows that
range_then : (all : List ℕ) (i j : ℕ) → i ≤ j → slice_range all i j ++ drop j all ≡ drop i all
range_then all i j le =
    let on : i + (j - i) ≡ j = omega arith in
    ap (λ (l : List ℕ). slice_range all i j ++ l) (ap (λ (k : ℕ). drop k all) (sym on) ∙ sym (drop-drop (j - i) i all)) ∙ take-append-drop (j - i) (drop i all)

-- pieces tell their ends, and what they are pieces of
same_parts : (s : ℕ) (es fs a b : List ℕ) → EndsAt s es (length a) → EndsAt s fs (length b) → pieces s es a ≡ pieces s fs b → (es ≡ fs) × (drop s a ≡ drop s b)
same_parts s [] [] a b h g same = (refl, drop_all s a (omega (arith, h)) ∙ sym (drop_all s b (omega (arith, g))))
same_parts s [] (f ∷ fs) a b h g same = absurd (cc same)
same_parts s (e ∷ es) [] a b h g same = absurd (cc same)
same_parts s (e ∷ es) (f ∷ fs) a b h g same =
    let head : slice_range a s e ≡ slice_range b s f = cc same in
    let tail : pieces e es a ≡ pieces f fs b = cc same in
    let end : e ≡ f =
    omega (arith, range_length a s e h.0 (ends_le e (length a) es h.1), range_length b s f g.0 (ends_le f (length b) fs g.1), ap (λ (l : List ℕ). length l) head) in
    let rest = same_parts e es fs a b h.1 (subst (λ (k : ℕ). EndsAt k fs (length b)) (sym end) g.1) (tail ∙ ap (λ (k : ℕ). pieces k fs b) (sym end)) in
    let behind : drop e a ≡ drop f b = rest.1 ∙ ap (λ (k : ℕ). drop k b) end in
    (ap₂ ◌∷◌ end rest.0, sym (range_then a s e h.0) ∙ ap₂ ◌++◌ head behind ∙ range_then b s f g.0)

-- so the lists are compared by these numbers
pub same_cuts : (es fs a b : List ℕ) → EndsAt 0 es (length a) → EndsAt 0 fs (length b) → (bytes_eq es fs && bytes_eq a b) ≡ pointwise bytes_eq (pieces 0 es a) (pieces 0 fs b)
same_cuts es fs a b h g =
    let P : Type 0 = (es ≡ fs) × (a ≡ b) in
    let by_parts : Decides (bytes_eq es fs && bytes_eq a b) P =
    (λ t. ((bytes_decides es fs).0 (first_so _ _ t), (bytes_decides a b).0 (second_so _ _ t)), λ p i. (bytes_decides es fs).1 p.0 i && (bytes_decides a b).1 p.1 i) in
    let lists = pointwise_decides bytes_decides (pieces 0 es a) (pieces 0 fs b) in
    one_answer _ _ by_parts
    (λ t. same_parts 0 es fs a b h g (lists.0 t), λ p. lists.1 (ap₂ (λ (k l : List ℕ). pieces 0 k l) p.0 p.1))
