-- The text of a claim is read as the claim.
use Rattle.std.proofs.Common.{ℕ, suc, ◌≡◌, ◌+◌, ◌<◌, ◌≤◌, ◌^◌, leb, true, All, List, [], ◌∷◌, ◌++◌, length, map, Ok, refl, ap, ◌∙◌, arith, append_assoc, codes}
use Rattle.std.specs.Fmt.{decimal}
use Rattle.std.specs.List.{list_all}
use Rattle.std.proofs.lemmas.Bool.{eq-eqb, le-leb}
use Rattle.std.proofs.lemmas.List.Elements.{All-append}
use Rattle.wg_num.specs.Lines.{lines_of}
use Rattle.wg_num.specs.Units.{text_of_units}
use Rattle.wg_num.proofs.Cuts.{no_lines}
use Rattle.wg_num.proofs.Plain.{IsPlain, line_read, word_plain, decimal_plain, units_plain}
use Rattle.wg_num.proofs.Numbers.{number_of-decimal}
use Rattle.wg_num.proofs.UnitsRead.{units_of-text}
use Rattle.wg_params.specs.declared.limits.TheConstants.{MOST_PAGES}
use Rattle.wg_rank.specs.Claims.{Claim, IsClaim}
use Rattle.wg_rank.specs.CertificateText.{pages_of, bounds_of, bound_lines, text_of_claim, claim_of}
use Rattle.wg_rank.specs.declared.limits.TheConstants.{UNITS}
use Rattle.wg_rank.proofs.ReadBounds.{within_one}
use Rattle.wg_rank.proofs.Rounds.{all_within_total}

-- ---- the bounds

bounds_lines : (xs : List ℕ) → lines_of (bound_lines xs) ≡ map text_of_units xs
bounds_lines [] = no_lines [] refl
bounds_lines (x ∷ xs) =
    ap lines_of (append_assoc (text_of_units x) (10 ∷ []) (bound_lines xs))
    ∙ line_read (text_of_units x) (bound_lines xs) (units_plain x) ∙ ap (λ ls. text_of_units x ∷ ls) (bounds_lines xs)

bounds_back : (number : ℕ) (xs : List ℕ) → All (λ x. x ≤ UNITS) xs → bounds_of number (length xs) (map text_of_units xs) ≡ Ok xs
bounds_back number [] h = refl
bounds_back number (x ∷ xs) h =
    rw (units_of-text x (h 0 0 (omega arith)), bounds_back (number + 1) xs (λ i d w. h (suc i) d (omega arith))) refl

-- ---- the whole text

abbrev first : ℕ → List ℕ
first a = codes "damping " ++ decimal a

abbrev second : ℕ → List ℕ
second n = codes "pages " ++ decimal n

text_parts : (d p rest : List ℕ) → ((d ++ 10 ∷ []) ++ (p ++ 10 ∷ [])) ++ rest ≡ d ++ 10 ∷ (p ++ 10 ∷ rest)
text_parts d p rest =
    append_assoc (d ++ 10 ∷ []) (p ++ 10 ∷ []) rest ∙ append_assoc d (10 ∷ []) ((p ++ 10 ∷ []) ++ rest)
    ∙ ap (λ (l : List ℕ). d ++ 10 ∷ l) (append_assoc p (10 ∷ []) rest)

pages_back : (n : ℕ) (ls : List (List ℕ)) → n ≤ MOST_PAGES → pages_of n (second n ∷ ls) ≡ Ok tt
pages_back n ls h = grind (arith, eq-eqb, number_of-decimal)

named_plain : (word : List ℕ) (n : ℕ) → list_all (λ b. leb 32 b) word ≡ true → n < 2 ^ 64 → IsPlain (word ++ decimal n)
named_plain word n plain small = All-append (λ b. 32 ≤ b) word (decimal n) (word_plain word plain) (decimal_plain n small)

lines_back : (c : Claim) → IsClaim c → lines_of (text_of_claim c) ≡ first c.damping ∷ second (length c.low) ∷ map text_of_units c.low
lines_back c ok =
    let rest = bound_lines c.low in
    let n = length c.low in
    ap lines_of (text_parts (first c.damping) (second n) rest)
    ∙ line_read (first c.damping) (second n ++ 10 ∷ rest) (named_plain (codes "damping ") c.damping refl (omega (arith, ok.damped)))
    ∙ ap (λ ls. first c.damping ∷ ls) (line_read (second n) rest (named_plain (codes "pages ") n refl (omega (arith, ok.few)))
    ∙ ap (λ ls. second n ∷ ls) (bounds_lines c.low))

pub written_back : (c : Claim) → IsClaim c → claim_of (length c.low) (text_of_claim c) ≡ Ok c
unfolding claim_of
written_back c ok = grind (arith, within_one, all_within_total, bounds_back, pages_back, lines_back, number_of-decimal, le-leb)
