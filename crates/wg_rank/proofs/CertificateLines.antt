-- The text of a certificate has one outcome, and this is what the reading gives.
use Rattle.std.proofs.Common.{◌≡◌, ◌⊎◌, ℕ, zero, suc, ◌+◌, ◌<◌, ◌≤◌, List, [], ◌∷◌, ◌++◌, length, drop, get_or, Option, Some, None, Result, Ok, Err, refl, sym, ap, subst, ◌∙◌, arith, inl, inr, append_assoc, append-nil, length-append, lt-ltb}
use Rattle.std.proofs.lemmas.Bool.{cases_lt, cases_eq, eq-eqb, ne_eqb, le-ltb}
use Rattle.std.proofs.lemmas.Option.{none-some, same_Some}
use Rattle.std.proofs.lemmas.List.{get_or_at, length_push}
use Rattle.std.proofs.lemmas.List.Elements.{filter_map-append}
use Rattle.wg_lines.proofs.FirstFault.{first_is_one}
use Rattle.wg_num.specs.Lines.{lines_of}
use Rattle.wg_num.specs.Units.{units_of}
use Rattle.wg_rank.specs.Sum.{sum_below}
use Rattle.wg_rank.specs.Intervals.{by_page}
use Rattle.wg_rank.specs.Claims.{Claim}
use Rattle.wg_rank.specs.declared.limits.TheConstants.{UNITS}
use Rattle.wg_rank.specs.declared.fault.CertError.{CertError}
use Rattle.wg_rank.specs.declared.fault.CertError.TheVariants as error
use Rattle.wg_rank.specs.declared.fault.CertKind.{CertKind}
use Rattle.wg_rank.specs.declared.fault.CertKind.TheVariants as kind
use Rattle.wg_rank.specs.declared.fault.CertFault.{CertFault}
use Rattle.wg_rank.specs.declared.fault.CertFault.TheVariants as fault
use Rattle.wg_rank.specs.CertificateText.{and_then, bounds_of, claimed, claim_in, claim_of, IsRead}
use Rattle.wg_rank.specs.CertificateLines.{damping_on, pages_on, unless_written, unless_same, refusal_of_line, fault_at, bounds_on, IsClaimed, IsFirstFaultyLine, ArePastOne, IsFirstFault, IsOutcome, StandsFor}
use Rattle.wg_rank.specs.Laws.{ClaimsAreThose, FaultsAreFirst, OutcomesAreOne}
use Rattle.wg_rank.proofs.ReadBounds.{after_these, none_yet, one_more, within_one, past_one}

cases_option : {A : Type 0} (o : Option A) → (o ≡ None) ⊎ ((x : A) × (o ≡ Some x))
cases_option None = inl refl
cases_option (Some x) = inr (x, refl)

-- ---- one line

bound_line : (n k : ℕ) (line : List ℕ) → 2 ≤ k → k < n + 2 → refusal_of_line n k line ≡ unless_written (units_of line)
bound_line n k line two lt = rw (ne_eqb k 0 (λ e. omega arith), ne_eqb k 1 (λ e. omega arith), lt-ltb k (n + 2) lt) refl

extra_line : (n k : ℕ) (line : List ℕ) → 2 ≤ k → n + 2 ≤ k → refusal_of_line n k line ≡ Some kind.Extra
extra_line n k line two le = rw (ne_eqb k 0 (λ e. omega arith), ne_eqb k 1 (λ e. omega arith), le-ltb k (n + 2) le) refl

-- the line that comes after these
line_there : (n : ℕ) (all done rest : List (List ℕ)) (line : List ℕ) (k : ℕ) → all ≡ done ++ line ∷ rest → length done ≡ k → fault_at n all k ≡ refusal_of_line n k line
line_there n all done rest line k split count =
    let there : k < length all = omega (arith, ap length split, length-append done (line ∷ rest)) in
    let here : get_or all k [] ≡ line = ap (λ (ls : List (List ℕ)). get_or ls k []) split ∙ get_or_at done line rest [] k count in
    rw (lt-ltb k (length all) there) (ap (refusal_of_line n k) here)

line_wanted : (n : ℕ) (all : List (List ℕ)) (k : ℕ) → length all ≤ k → k < n + 2 → fault_at n all k ≡ Some kind.Missing
line_wanted n all k past lt = rw (le-ltb k (length all) past, lt-ltb k (n + 2) lt) refl

line_past : (n : ℕ) (all : List (List ℕ)) (k : ℕ) → length all ≤ k → n + 2 ≤ k → fault_at n all k ≡ None
line_past n all k past le = rw (le-ltb k (length all) past, le-ltb k (n + 2) le) refl

-- ---- the bounds, which are read one after the other

-- the two lines before them and i bounds are read
record SoFar (n : ℕ) (all rest : List (List ℕ)) (i : ℕ) (xs : List ℕ) : Type 0 where
  done : List (List ℕ)
  split : all ≡ done ++ rest
  counted : length done ≡ 2 + i
  bounds : xs ≡ bounds_on done
  many : length xs ≡ i
  sound : (j : ℕ) → j < 2 + i → fault_at n all j ≡ None

-- no line is faulty, and these are the bounds
record AreBounds (n : ℕ) (all : List (List ℕ)) (xs : List ℕ) : Type 0 where
  sound : (j : ℕ) → fault_at n all j ≡ None
  bounds : xs ≡ bounds_on all
  many : length xs ≡ n

abbrev AreTold : ℕ → List (List ℕ) → Result (List ℕ) CertFault → Type 0
AreTold n all (Ok xs) = AreBounds n all xs
AreTold n all (Err f) = IsFirstFault n all f

faulty : (n : ℕ) (all rest : List (List ℕ)) (i : ℕ) (xs : List ℕ) (k : CertKind) → SoFar n all rest i xs → fault_at n all (2 + i) ≡ Some k → IsFirstFaultyLine n all (3 + i) k
faulty n all rest i xs k h f = record { index = 2 + i; counted = omega arith; fault = f; sound = h.sound }

at_end : (n : ℕ) (all : List (List ℕ)) (i : ℕ) (xs : List ℕ) → SoFar n all [] i xs → length all ≡ 2 + i
at_end n all i xs h = ap length (h.split ∙ append-nil h.done) ∙ h.counted

all_read : (n : ℕ) (all : List (List ℕ)) (i : ℕ) (xs : List ℕ) → i ≡ n → SoFar n all [] i xs → AreBounds n all xs
all_read n all i xs e h =
    let size = at_end n all i xs h in
    record {
      sound = λ j. elim (cases_lt j (2 + i)) [ inl lt ↦ h.sound j lt | inr le ↦ line_past n all j (omega arith) (omega arith) ];
      bounds = h.bounds ∙ ap bounds_on (sym (h.split ∙ append-nil h.done));
      many = h.many ∙ e;
    }

drop_more : (done : List (List ℕ)) (line : List ℕ) → 2 ≤ length done → drop 2 (done ++ line ∷ []) ≡ drop 2 done ++ line ∷ []
drop_more done line h = grind arith

bounds_more : (done : List (List ℕ)) (line : List ℕ) (x : ℕ) → 2 ≤ length done → units_of line ≡ Some x → bounds_on (done ++ line ∷ []) ≡ bounds_on done ++ x ∷ []
bounds_more done line x le e = grind (arith, filter_map-append, drop_more)

one_read : (n : ℕ) (all rest : List (List ℕ)) (line : List ℕ) (i x : ℕ) (xs : List ℕ) → i < n → units_of line ≡ Some x → SoFar n all (line ∷ rest) i xs → SoFar n all rest (i + 1) (xs ++ x ∷ [])
one_read n all rest line i x xs lt e h =
    let fine : fault_at n all (2 + i) ≡ None = line_there n all h.done rest line (2 + i) h.split h.counted ∙ bound_line n (2 + i) line (omega arith) (omega arith) ∙ ap unless_written e in
    record {
      done = h.done ++ line ∷ [];
      split = h.split ∙ sym (append_assoc h.done (line ∷ []) rest);
      counted = omega (arith, length_push h.done line);
      bounds = ap (λ (l : List ℕ). l ++ x ∷ []) h.bounds ∙ sym (bounds_more h.done line x (omega arith) e);
      many = omega (arith, h.many, length_push xs x);
      sound = λ j w. elim (cases_lt j (2 + i)) [ inl low ↦ h.sound j low | inr high ↦ (let same : j ≡ 2 + i = omega arith in subst (λ (k : ℕ). fault_at n all k ≡ None) (sym same) fine) ];
    }

walk : (n : ℕ) (all rest : List (List ℕ)) (m i : ℕ) (xs : List ℕ) → m + i ≡ n → SoFar n all rest i xs → AreTold n all (after_these xs (bounds_of (3 + i) m rest))
walk n all [] zero i xs e h = subst (λ (l : List ℕ). AreTold n all (Ok l)) (sym (append-nil xs)) (all_read n all i xs (omega arith) h)
walk n all (line ∷ rest) zero i xs e h = faulty n all (line ∷ rest) i xs kind.Extra h (line_there n all h.done rest line (2 + i) h.split h.counted ∙ extra_line n (2 + i) line (omega arith) (omega arith))
walk n all [] (suc m) i xs e h = let size = at_end n all i xs h in faulty n all [] i xs kind.Missing h (line_wanted n all (2 + i) (omega arith) (omega arith))
walk n all (line ∷ rest) (suc m) i xs e h =
    elim (cases_option (units_of line)) [
      | inl none ↦
          let told : after_these xs (bounds_of (3 + i) (suc m) (line ∷ rest)) ≡ Err (fault.Line (3 + i) kind.Shape) = rw none refl in
          subst (AreTold n all) (sym told) (faulty n all (line ∷ rest) i xs kind.Shape h (line_there n all h.done rest line (2 + i) h.split h.counted ∙ bound_line n (2 + i) line (omega arith) (omega arith) ∙ ap unless_written none))
      | inr w ↦
          let ys : List ℕ = xs ++ w.0 ∷ [] in
          let number : 3 + i + 1 ≡ 3 + (i + 1) = omega arith in
          let one : after_these xs (bounds_of (3 + i) (suc m) (line ∷ rest)) ≡ after_these xs (and_then (bounds_of (3 + i + 1) m rest) (λ zs. Ok (w.0 ∷ zs))) = rw (w.1) refl in
          let told = one ∙ one_more xs ys w.0 (bounds_of (3 + i + 1) m rest) refl ∙ ap (λ (k : ℕ). after_these ys (bounds_of k m rest)) number in
          subst (AreTold n all) (sym told) (walk n all rest m (i + 1) ys (omega arith) (one_read n all rest line i w.0 xs (omega arith) w.1 h))
    ]

-- ---- the whole text

ending : (n a : ℕ) (all : List (List ℕ)) (r : Result (List ℕ) CertFault) → damping_on (get_or all 0 []) ≡ Some a → AreTold n all r → IsOutcome n all (and_then r (λ low. claimed a low))
ending n a all (Err f) d h = h
ending n a all (Ok low) d h =
    elim (cases_lt UNITS (sum_below (length low) (by_page low))) [
      | inl past ↦ subst (IsOutcome n all) (sym (past_one a low past)) (record { sound = h.sound; past = subst (λ (l : List ℕ). UNITS < sum_below (length l) (by_page l)) h.bounds past })
      | inr within ↦ subst (IsOutcome n all) (sym (within_one a low within)) (record { sound = h.sound; damping = d; bounds = h.bounds; pages = h.many; within = within })
    ]

no_line : (n : ℕ) (all : List (List ℕ)) (k : CertKind) → fault_at n all 0 ≡ Some k → IsFirstFaultyLine n all 1 k
no_line n all k f = record { index = 0; counted = refl; fault = f; sound = λ j lt. absurd (omega arith) }

first_fine : (n a : ℕ) (d : List ℕ) (rest : List (List ℕ)) → damping_on d ≡ Some a → fault_at n (d ∷ rest) 0 ≡ None
first_fine n a d rest e = line_there n (d ∷ rest) [] rest d 0 refl refl ∙ ap unless_written e

second_faulty : (n a : ℕ) (d : List ℕ) (rest : List (List ℕ)) (k : CertKind) → damping_on d ≡ Some a → fault_at n (d ∷ rest) 1 ≡ Some k → IsFirstFaultyLine n (d ∷ rest) 2 k
second_faulty n a d rest k e f = record {
  index = 1;
  counted = refl;
  fault = f;
  sound = λ j lt. (let same : j ≡ 0 = omega arith in subst (λ (m : ℕ). fault_at n (d ∷ rest) m ≡ None) (sym same) (first_fine n a d rest e));
}

begun : (n a : ℕ) (d p : List ℕ) (rest : List (List ℕ)) → damping_on d ≡ Some a → unless_same n (pages_on p) ≡ None → SoFar n (d ∷ p ∷ rest) rest 0 []
begun n a d p rest e f =
    let all : List (List ℕ) = d ∷ p ∷ rest in
    let one : fault_at n all 1 ≡ None = line_there n all (d ∷ []) rest p 1 refl refl ∙ f in
    record {
      done = d ∷ p ∷ [];
      split = refl;
      counted = refl;
      bounds = refl;
      many = refl;
      sound = λ j lt. elim (cases_eq j 0) [
        | inl same ↦ subst (λ (m : ℕ). fault_at n all m ≡ None) (sym same) (first_fine n a d (p ∷ rest) e)
        | inr ne ↦ (let same : j ≡ 1 = omega arith in subst (λ (m : ℕ). fault_at n all m ≡ None) (sym same) one)
      ];
    }

after_damping : (n a : ℕ) (d : List ℕ) (rest : List (List ℕ)) → damping_on d ≡ Some a → IsOutcome n (d ∷ rest) (claim_in n (d ∷ rest))
after_damping n a d [] e =
    let told : claim_in n (d ∷ []) ≡ Err (fault.Line 2 kind.Missing) = rw e refl in
    subst (IsOutcome n (d ∷ [])) (sym told) (second_faulty n a d [] kind.Missing e (line_wanted n (d ∷ []) 1 (omega arith) (omega arith)))
after_damping n a d (p ∷ rest) e =
    let all : List (List ℕ) = d ∷ p ∷ rest in
    let there : fault_at n all 1 ≡ unless_same n (pages_on p) = line_there n all (d ∷ []) rest p 1 refl refl in
    elim (cases_option (pages_on p)) [
      | inl none ↦
          let told : claim_in n all ≡ Err (fault.Line 2 kind.Shape) = rw (e, none) refl in
          subst (IsOutcome n all) (sym told) (second_faulty n a d (p ∷ rest) kind.Shape e (there ∙ ap (unless_same n) none))
      | inr w ↦ elim (cases_eq w.0 n) [
        | inr ne ↦
            let told : claim_in n all ≡ Err (fault.Line 2 kind.Pages) = rw (e, w.1, ne_eqb w.0 n ne) refl in
            let other : unless_same n (Some w.0) ≡ Some kind.Pages = rw (ne_eqb w.0 n ne) refl in
            subst (IsOutcome n all) (sym told) (second_faulty n a d (p ∷ rest) kind.Pages e (there ∙ ap (unless_same n) w.1 ∙ other))
        | inl same ↦
            let told : claim_in n all ≡ and_then (bounds_of 3 n rest) (λ low. claimed a low) = rw (e, w.1, eq-eqb w.0 n same) refl in
            let right : unless_same n (Some w.0) ≡ None = rw (eq-eqb w.0 n same) refl in
            let bounds : AreTold n all (bounds_of 3 n rest) = subst (AreTold n all) (sym (none_yet (bounds_of 3 n rest))) (walk n all rest n 0 [] (omega arith) (begun n a d p rest e (ap (unless_same n) w.1 ∙ right))) in
            subst (IsOutcome n all) (sym told) (ending n a all (bounds_of 3 n rest) e bounds)
      ]
    ]

outcome : (n : ℕ) (lines : List (List ℕ)) → IsOutcome n lines (claim_in n lines)
outcome n [] = no_line n [] kind.Missing (line_wanted n [] 0 (omega arith) (omega arith))
outcome n (d ∷ rest) =
    elim (cases_option (damping_on d)) [
      | inl none ↦
          let told : claim_in n (d ∷ rest) ≡ Err (fault.Line 1 kind.Shape) = rw none refl in
          subst (IsOutcome n (d ∷ rest)) (sym told) (no_line n (d ∷ rest) kind.Shape (line_there n (d ∷ rest) [] rest d 0 refl refl ∙ ap unless_written none))
      | inr w ↦ after_damping n w.0 d rest w.1
    ]

-- ---- the outcome is one

same_line : (n : ℕ) (lines : List (List ℕ)) (line line1 : ℕ) (k k1 : CertKind) → IsFirstFaultyLine n lines line k → IsFirstFaultyLine n lines line1 k1 → (line ≡ line1) × (k ≡ k1)
same_line n lines line line1 k k1 f g =
    let same = first_is_one (fault_at n lines) f.index g.index k k1 f.fault g.fault f.sound g.sound in
    (omega (arith, f.counted, g.counted, same.0), same.1)

sound_or_faulty : (n : ℕ) (lines : List (List ℕ)) (line : ℕ) (k : CertKind) → ((i : ℕ) → fault_at n lines i ≡ None) → IsFirstFaultyLine n lines line k → ⊥
sound_or_faulty n lines line k sound f = none-some k (sym (sound f.index) ∙ f.fault)

within_or_past : (n : ℕ) (lines : List (List ℕ)) (c : Claim) → IsClaimed n lines c → ArePastOne n lines → ⊥
within_or_past n lines c h f = grind arith

one_outcome : (n : ℕ) (lines : List (List ℕ)) (w x : Result Claim CertFault) → IsOutcome n lines w → IsOutcome n lines x → w ≡ x
one_outcome n lines (Ok c) (Ok e) a b = grind (arith, same_Some)
one_outcome n lines (Ok c) (Err (fault.Line line k)) a b = absurd (sound_or_faulty n lines line k a.sound b)
one_outcome n lines (Ok c) (Err fault.Sum) a b = absurd (within_or_past n lines c a b)
one_outcome n lines (Err (fault.Line line k)) (Ok e) a b = absurd (sound_or_faulty n lines line k b.sound a)
one_outcome n lines (Err fault.Sum) (Ok e) a b = absurd (within_or_past n lines e b a)
one_outcome n lines (Err (fault.Line line k)) (Err (fault.Line line1 k1)) a b = let same = same_line n lines line line1 k k1 a b in λ i. Err (fault.Line (same.0 i) (same.1 i))
one_outcome n lines (Err (fault.Line line k)) (Err fault.Sum) a b = absurd (sound_or_faulty n lines line k b.sound a)
one_outcome n lines (Err fault.Sum) (Err (fault.Line line k)) a b = absurd (sound_or_faulty n lines line k a.sound b)
one_outcome n lines (Err fault.Sum) (Err fault.Sum) a b = refl
one_outcome n lines (Err (fault.Falls page)) x a b = absurd a
one_outcome n lines w (Err (fault.Falls page)) a b = absurd b

-- the reading gives this exactly if it is the outcome
given : (n : ℕ) (bytes : List ℕ) (w : Result Claim CertFault) → claim_of n bytes ≡ w → IsOutcome n (lines_of bytes) w
unfolding claim_of
given n bytes w e = subst (IsOutcome n (lines_of bytes)) e (outcome n (lines_of bytes))

gives : (n : ℕ) (bytes : List ℕ) (w : Result Claim CertFault) → IsOutcome n (lines_of bytes) w → claim_of n bytes ≡ w
unfolding claim_of
gives n bytes w h = one_outcome n (lines_of bytes) (claim_in n (lines_of bytes)) w (outcome n (lines_of bytes)) h

pub claims_are_those : ClaimsAreThose
claims_are_those n bytes c = (given n bytes (Ok c), gives n bytes (Ok c))

pub faults_are_first : FaultsAreFirst
faults_are_first n bytes f = (given n bytes (Err f), gives n bytes (Err f))

some_outcome : (n : ℕ) (lines : List (List ℕ)) → (w : Result Claim CertFault) × IsOutcome n lines w
some_outcome n lines = (claim_in n lines, outcome n lines)

pub outcomes_are_one : OutcomesAreOne
outcomes_are_one = record { some = some_outcome; one = one_outcome }

-- what is read is what the text stands for
pub stands : (n : ℕ) (bytes : List ℕ) (r : Result Claim CertError) → IsRead {A = Claim} (claim_of n bytes) r → StandsFor n bytes r
stands n bytes (Ok c) h = given n bytes (Ok c) h
stands n bytes (Err (error.Fault f)) h = given n bytes (Err f) h
stands n bytes (Err error.Memory) h = tt
