-- A text of numbers has one outcome, and this is what the reading gives.
use Rattle.std.proofs.Common.{◌≡◌, ◌⊎◌, ℕ, ◌+◌, ◌<◌, ◌≤◌, List, [], ◌∷◌, ◌++◌, length, Option, Some, None, Result, Ok, Err, refl, sym, ap, subst, ◌∙◌, arith, inl, inr, append_assoc, append-nil, length-append}
use Rattle.wg_arcs.proofs.Soundness.{one_more}
use Rattle.std.specs.Prelude.{option_to_list}
use Rattle.std.proofs.lemmas.Bool.{cases_Bool, cases_lt}
use Rattle.std.proofs.lemmas.Option.{none-some}
use Rattle.std.proofs.lemmas.List.{take_at, get_or_at, length_push}
use Rattle.wg_lines.proofs.FirstFault.{first_is_one}
use Rattle.wg_num.specs.Lines.{lines_of}
use Rattle.wg_num.specs.Words.{words_of}
use Rattle.wg_arcs.specs.declared.numbers_fault.NumbersError.{NumbersError}
use Rattle.wg_arcs.specs.declared.numbers_fault.NumbersError.TheVariants as error
use Rattle.wg_arcs.specs.declared.numbers_fault.NumbersFault.{NumbersFault}
use Rattle.wg_arcs.specs.declared.numbers_fault.NumbersFault.TheVariants as fault
use Rattle.wg_arcs.specs.declared.numbers_fault.NumbersKind.{NumbersKind}
use Rattle.wg_arcs.specs.Reading.{is_skipped}
use Rattle.wg_arcs.specs.Numbers.{number_in, judged, numbers_on, numbers_from, numbers_of, AreRead}
use Rattle.wg_arcs.specs.NumberTexts.{number_at, numbers_in, number_refusal, number_fault, number_fault_at, AreNumbers, IsFirstFaultyLine, AreTooFew, IsOutcome, AreListed}
use Rattle.wg_arcs.specs.Laws.{NumbersAreThose, FaultsAreFirst, OutcomesAreOne}
use Rattle.wg_arcs.proofs.ReadNumbers.{after_these, begun, step, stopped, ended, too_few}

-- ---- one line

-- a number is taken, or it is refused
judged_is : (n limit line before : ℕ) (o : Option ℕ) →
    ((number_refusal n limit before o ≡ None) × (judged n limit line before o ≡ Ok (option_to_list o)) × (before + length (option_to_list o) ≤ n))
    ⊎ ((k : NumbersKind) × (number_refusal n limit before o ≡ Some k) × (judged n limit line before o ≡ Err (fault.Line line k)))
judged_is n limit line before o = grind arith

-- a line is in order, and its number, if it has one, is taken
record IsFine (n limit line before : ℕ) (text : List ℕ) : Type 0 where
  fine : number_fault n limit before text ≡ None
  read : numbers_on n limit line before text ≡ Ok (option_to_list (number_at text))
  few : before ≤ n → before + length (option_to_list (number_at text)) ≤ n

-- or it is faulty, and refused for this
record IsFaulty (n limit line before : ℕ) (text : List ℕ) : Type 0 where
  what : NumbersKind
  faulty : number_fault n limit before text ≡ Some what
  refused : numbers_on n limit line before text ≡ Err (fault.Line line what)

line_is : (n limit line before : ℕ) (text : List ℕ) → IsFine n limit line before text ⊎ IsFaulty n limit line before text
line_is n limit line before text =
    elim (cases_Bool (is_skipped (words_of text))) [
      | inl skipped ↦ inl (record { fine = rw skipped refl; read = rw skipped refl; few = rw skipped (λ le. omega arith) })
      | inr read ↦ elim (judged_is n limit line before (number_in (words_of text))) [
        | inl h ↦ inl (record { fine = rw read h.0; read = rw read h.1; few = rw read (λ le. h.2) })
        | inr h ↦ inr (record { what = h.0; faulty = rw read h.1; refused = rw read h.2 })
      ]
    ]

-- ---- lines that are read one after the other

-- these lines are read, and the numbers are theirs
record SoFar (n limit : ℕ) (all rest : List (List ℕ)) (count : ℕ) (xs : List ℕ) : Type 0 where
  done : List (List ℕ)
  split : all ≡ done ++ rest
  counted : length done ≡ count
  numbers : xs ≡ numbers_in done
  few : length xs ≤ n
  sound : (i : ℕ) → i < count → number_fault_at n limit all i ≡ None

none_read : (n limit : ℕ) (all : List (List ℕ)) → SoFar n limit all all 0 []
none_read n limit all = record { done = []; split = refl; counted = refl; numbers = refl; few = omega arith; sound = λ i lt. absurd (omega arith) }

-- the fault of the line that comes next
next_fault : (n limit : ℕ) (all rest : List (List ℕ)) (text : List ℕ) (count : ℕ) (xs : List ℕ) → SoFar n limit all (text ∷ rest) count xs → number_fault_at n limit all count ≡ number_fault n limit (length xs) text
next_fault n limit all rest text count xs h = grind (arith, take_at, get_or_at)

more_read : (n limit line : ℕ) (all rest : List (List ℕ)) (text : List ℕ) (count : ℕ) (xs : List ℕ) → SoFar n limit all (text ∷ rest) count xs → IsFine n limit line (length xs) text →
    SoFar n limit all rest (count + 1) (xs ++ option_to_list (number_at text))
more_read n limit line all rest text count xs h f = record {
  done = h.done ++ text ∷ [];
  split = h.split ∙ sym (append_assoc h.done _ rest);
  counted = length_push h.done text ∙ ap (λ (k : ℕ). k + 1) h.counted;
  numbers = ap (λ (l : List ℕ). l ++ option_to_list (number_at text)) h.numbers ∙ one_more number_at h.done text;
  few = omega (arith, length-append xs (option_to_list (number_at text)));
  sound = λ i lt. elim (cases_lt i count) [ inl low ↦ h.sound i low | inr high ↦ (let same : i ≡ count = omega arith in subst (λ (k : ℕ). number_fault_at n limit all k ≡ None) (sym same) (next_fault n limit all rest text count xs h ∙ f.fine)) ];
}

first_fault : (n limit line : ℕ) (all rest : List (List ℕ)) (text : List ℕ) (count : ℕ) (xs : List ℕ) → SoFar n limit all (text ∷ rest) count xs → (f : IsFaulty n limit line (length xs) text) → line ≡ count + 1 →
    IsFirstFaultyLine n limit all line f.what
first_fault n limit line all rest text count xs h f at = record {
  index = count;
  counted = at;
  there = let size = h.counted in omega (arith, ap length h.split, length-append h.done (text ∷ rest));
  fault = next_fault n limit all rest text count xs h ∙ f.faulty;
  sound = h.sound;
}

-- all lines are read
record AllRead (n limit : ℕ) (all : List (List ℕ)) (xs : List ℕ) : Type 0 where
  numbers : xs ≡ numbers_in all
  few : length xs ≤ n
  sound : (i : ℕ) → i < length all → number_fault_at n limit all i ≡ None

all_read : (n limit : ℕ) (all : List (List ℕ)) (count : ℕ) (xs : List ℕ) → SoFar n limit all [] count xs → AllRead n limit all xs
all_read n limit all count xs h =
    let whole : all ≡ h.done = h.split ∙ append-nil h.done in
    let size : length all ≡ count = ap length whole ∙ h.counted in
    record { numbers = h.numbers ∙ ap numbers_in (sym whole); few = h.few; sound = λ i lt. h.sound i (omega arith) }

walk : (n limit : ℕ) (all rest : List (List ℕ)) (count : ℕ) (xs : List ℕ) → SoFar n limit all rest count xs → IsOutcome n limit all (after_these xs (numbers_from n limit (count + 1) (length xs) rest))
walk n limit all [] count xs h =
    let a = all_read n limit all count xs h in
    elim (cases_lt (length xs) n) [
      | inl few ↦ subst (IsOutcome n limit all) (sym (too_few n limit (count + 1) (after_these xs (numbers_from n limit (count + 1) (length xs) [])) xs [] refl few refl))
          (record { sound = a.sound; counted = ap length a.numbers; few = few })
      | inr enough ↦ subst (IsOutcome n limit all) (sym (ended n limit (count + 1) (after_these xs (numbers_from n limit (count + 1) (length xs) [])) xs [] refl enough refl))
          (let most = h.few in record { sound = a.sound; numbers = a.numbers; wanted = omega arith })
    ]
walk n limit all (text ∷ rest) count xs h =
    elim (line_is n limit (count + 1) (length xs) text) [
      | inl f ↦
          let these : List ℕ = option_to_list _ in
          subst (IsOutcome n limit all) (sym (step n limit (count + 1) (after_these xs (numbers_from n limit (count + 1) (length xs) (text ∷ rest))) xs these (xs ++ these) text (text ∷ rest) rest refl refl f.read refl))
          (walk n limit all rest (count + 1) (xs ++ these) (more_read n limit (count + 1) all rest text count xs h f))
      | inr f ↦ subst (IsOutcome n limit all) (sym (stopped n limit (count + 1) (after_these xs (numbers_from n limit (count + 1) (length xs) (text ∷ rest))) xs text (text ∷ rest) rest _ refl refl f.refused))
          (first_fault n limit (count + 1) all rest text count xs h f refl)
    ]

-- what the reading gives is the outcome
outcome : (n limit : ℕ) (bytes : List ℕ) → IsOutcome n limit (lines_of bytes) (numbers_of n limit bytes)
outcome n limit bytes = subst (IsOutcome n limit (lines_of bytes)) (sym (begun n limit bytes)) (walk n limit (lines_of bytes) (lines_of bytes) 0 [] (none_read n limit (lines_of bytes)))

-- ---- the outcome is one

same_line : (n limit : ℕ) (lines : List (List ℕ)) (line line1 : ℕ) (k k1 : NumbersKind) → IsFirstFaultyLine n limit lines line k → IsFirstFaultyLine n limit lines line1 k1 → (line ≡ line1) × (k ≡ k1)
same_line n limit lines line line1 k k1 f g =
    let same = first_is_one _ f.index g.index k k1 f.fault g.fault f.sound g.sound in
    (omega arith, same.1)

sound_or_faulty : (n limit : ℕ) (lines : List (List ℕ)) (line : ℕ) (k : NumbersKind) → ((i : ℕ) → i < length lines → number_fault_at n limit lines i ≡ None) → IsFirstFaultyLine n limit lines line k → ⊥
sound_or_faulty n limit lines line k sound f = none-some k (sym (sound f.index f.there) ∙ f.fault)

numbers_or_too_few : (n limit : ℕ) (lines : List (List ℕ)) (xs : List ℕ) (found : ℕ) → AreNumbers n limit lines xs → AreTooFew n limit lines found → ⊥
numbers_or_too_few n limit lines xs found a f = grind arith

one_outcome : (n limit : ℕ) (lines : List (List ℕ)) (w x : Result (List ℕ) NumbersFault) → IsOutcome n limit lines w → IsOutcome n limit lines x → w ≡ x
one_outcome n limit lines (Ok xs) (Ok ys) a b = ap Ok (a.numbers ∙ sym b.numbers)
one_outcome n limit lines (Ok xs) (Err (fault.Line line k)) a b = absurd (sound_or_faulty n limit lines line k a.sound b)
one_outcome n limit lines (Ok xs) (Err (fault.Count found)) a b = grind arith
one_outcome n limit lines (Err (fault.Line line k)) (Ok ys) a b = absurd (sound_or_faulty n limit lines line k b.sound a)
one_outcome n limit lines (Err (fault.Line line k)) (Err (fault.Line line1 k1)) a b = let same = same_line n limit lines line line1 k k1 a b in λ i. Err (fault.Line (same.0 i) (same.1 i))
one_outcome n limit lines (Err (fault.Line line k)) (Err (fault.Count found)) a b = absurd (sound_or_faulty n limit lines line k b.sound a)
one_outcome n limit lines (Err (fault.Count found)) (Ok ys) a b = absurd (numbers_or_too_few n limit lines ys found b a)
one_outcome n limit lines (Err (fault.Count found)) (Err (fault.Line line k)) a b = absurd (sound_or_faulty n limit lines line k a.sound b)
one_outcome n limit lines (Err (fault.Count found)) _ a b = ap (λ (m : ℕ). Err (fault.Count m)) (a.counted ∙ sym b.counted)

-- the reading gives this exactly if it is the outcome
given : (n limit : ℕ) (bytes : List ℕ) (w : Result (List ℕ) NumbersFault) → numbers_of n limit bytes ≡ w → IsOutcome n limit (lines_of bytes) w
given n limit bytes w e = subst (IsOutcome n limit _) e (outcome n limit bytes)

gives : (n limit : ℕ) (bytes : List ℕ) (w : Result (List ℕ) NumbersFault) → IsOutcome n limit (lines_of bytes) w → numbers_of n limit bytes ≡ w
gives n limit bytes w h = one_outcome n limit _ _ w (outcome n limit bytes) h

pub numbers_are_those : NumbersAreThose
numbers_are_those n limit bytes xs = (given n limit bytes (Ok xs), gives n limit bytes (Ok xs))

pub faults_are_first : FaultsAreFirst
faults_are_first n limit bytes f = (given n limit bytes (Err f), gives n limit bytes (Err f))

some_outcome : (n limit : ℕ) (lines : List (List ℕ)) → (w : Result (List ℕ) NumbersFault) × IsOutcome n limit lines w
some_outcome n limit lines = (after_these [] _, walk n limit lines lines 0 [] (none_read n limit lines))

pub outcomes_are_one : OutcomesAreOne
outcomes_are_one = record { some = some_outcome; one = one_outcome }

-- what is read is what the text stands for
pub listed : (n limit : ℕ) (bytes : List ℕ) (r : Result (List ℕ) NumbersError) → AreRead (numbers_of n limit bytes) r → AreListed n limit bytes r
listed n limit bytes (Ok xs) h = given n limit bytes (Ok xs) h
listed n limit bytes (Err (error.Fault f)) h = given n limit bytes (Err f) h
listed n limit bytes _ h = tt
