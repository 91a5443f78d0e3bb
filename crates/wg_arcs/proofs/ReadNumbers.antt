-- Numbers that are read line by line.
use Rattle.std.proofs.Common.{ℕ, ◌≡◌, ◌+◌, ◌<◌, ◌≤◌, List, [], ◌∷◌, ◌++◌, length, cond, Result, Ok, Err, refl, ap, sym, ◌∙◌, append_assoc, append-nil, length-append, arith}
use Rattle.std.proofs.lemmas.Bool.{le-ltb}
use Rattle.wg_num.specs.Lines.{lines_of}
use Rattle.wg_arcs.specs.Numbers.{numbers_on, and_then, numbers_from, numbers_of, AreRead, IsRefused}
use Rattle.wg_arcs.specs.declared.numbers_fault.NumbersError.{NumbersError}
use Rattle.wg_arcs.specs.declared.numbers_fault.NumbersFault.{NumbersFault}
use Rattle.wg_arcs.specs.declared.numbers_fault.NumbersFault.TheVariants as fault

-- these numbers, and then others
abbrev pub after_these : List ℕ → Result (List ℕ) NumbersFault → Result (List ℕ) NumbersFault
after_these xs told = and_then told (λ ys. Ok (xs ++ ys))

none_yet : (told : Result (List ℕ) NumbersFault) → told ≡ after_these [] told
none_yet told = grind arith

more : (xs these ys : List ℕ) (told : Result (List ℕ) NumbersFault) → ys ≡ xs ++ these
    → after_these xs (and_then told (λ others. Ok (these ++ others))) ≡ after_these ys told
more xs these ys (Ok others) e = rw e (ap Ok (sym (append_assoc xs these others)))
more xs these ys (Err f) e = refl

module _ (n limit : ℕ) where
  pub begun : (bytes : List ℕ) → numbers_of n limit bytes ≡ after_these [] (numbers_from n limit (0 + 1) 0 (lines_of bytes))
  unfolding numbers_of
  begun bytes = none_yet _

  pub step : (line : ℕ) (all : Result (List ℕ) NumbersFault) (xs these ys text : List ℕ) (rest after : List (List ℕ)) → rest ≡ text ∷ after
      → all ≡ after_these xs (numbers_from n limit line (length xs) rest) → numbers_on n limit line (length xs) text ≡ Ok these → ys ≡ xs ++ these
      → all ≡ after_these ys (numbers_from n limit (line + 1) (length ys) after)
  step line all xs these ys text rest after cut so_far on e =
      let count : length xs + length these ≡ length ys = sym (length-append xs these) ∙ ap length (sym e) in
      so_far
      ∙ ap (λ ls. after_these xs (numbers_from n limit line (length xs) ls)) cut
      ∙ ap (λ told. after_these xs (and_then told (λ these. and_then (numbers_from n limit (line + 1) (length xs + length these) after) (λ others. Ok (these ++ others))))) on
      ∙ ap (λ k. after_these xs (and_then (numbers_from n limit (line + 1) k after) (λ others. Ok (these ++ others)))) count
      ∙ more xs these ys _ e

  pub stopped : (line : ℕ) (all : Result (List ℕ) NumbersFault) (xs text : List ℕ) (rest after : List (List ℕ)) (f : NumbersFault) → rest ≡ text ∷ after
      → all ≡ after_these xs (numbers_from n limit line (length xs) rest) → numbers_on n limit line (length xs) text ≡ Err f → all ≡ Err f
  stopped line all xs text rest after f cut so_far on = grind arith

  -- a line is refused, or memory runs out
  pub refused : (line : ℕ) (all : Result (List ℕ) NumbersFault) (xs text : List ℕ) (rest after : List (List ℕ))
      (e : NumbersError) → rest ≡ text ∷ after → all ≡ after_these xs (numbers_from n limit line (length xs) rest)
      → IsRefused (numbers_on n limit line (length xs) text) e → AreRead all (Err e)
  refused line all xs text rest after e h h2 h3 = grind arith

  pub ended : (line : ℕ) (all : Result (List ℕ) NumbersFault) (xs : List ℕ) (rest : List (List ℕ)) → rest ≡ [] → n ≤ length xs
      → all ≡ after_these xs (numbers_from n limit line (length xs) rest) → all ≡ Ok xs
  ended line all xs rest none enough so_far =
      so_far
      ∙ ap (λ ls. after_these xs (numbers_from n limit line (length xs) ls)) none
      ∙ ap (λ t. after_these xs (cond t (Err (fault.Count (length xs))) (Ok []))) (le-ltb (length xs) n enough)
      ∙ ap Ok (append-nil xs)

  pub too_few : (line : ℕ) (all : Result (List ℕ) NumbersFault) (xs : List ℕ) (rest : List (List ℕ)) → rest ≡ [] → length xs < n
      → all ≡ after_these xs (numbers_from n limit line (length xs) rest) → all ≡ Err (fault.Count (length xs))
  too_few line all xs rest none few so_far = grind arith
