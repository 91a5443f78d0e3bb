-- A record that is decoded in one pass over its words.
use Rattle.std.proofs.Common.{◌≡◌, ℕ, ◌+◌, ◌-◌, ◌≤◌, Bool, List, [], ◌++◌, length, Option, None, refl, sym, ap, subst, ◌∙◌, arith}
use Rattle.std.specs.Prelude.{sum}
use Rattle.wg_params.specs.declared.code.Code.{Code}
use Rattle.wg_params.specs.Parameters.{Parameters}
use Rattle.wg_graph.specs.Ascending.{Ascends}
use Rattle.wg_graph.specs.Copied.{copied_members}
use Rattle.wg_blocks.specs.Stored.{blocks_of}
use Rattle.wg_intervals.specs.Stored.{numbers_inside}
use Rattle.wg_graph.specs.Unions.{union_of}
use Rattle.wg_decoder.specs.Proper.Joining.{AreJoinable}
use Rattle.wg_decoder.specs.Proper.Laid.{WordsTo, IntervalsTo, ResidualsTo, list_or_none, Laid}
use Rattle.wg_decoder.proofs.ProperLemmas.Beginning.{blocks_words, intervals_words, residuals_given, laid_parts}
use Rattle.wg_decoder.proofs.ProperLemmas.Counting.{inside_count}
use Rattle.wg_decoder.proofs.ProperLemmas.JoinLemmas.{first_two, with_third, joined_long}

-- ---- what is copied

-- what the clauses of the copying say
abbrev pub CopiesMembers : Code → ℕ → List ℕ → List Bool → List Bool → List ℕ → List ℕ → Type 0
CopiesMembers code n members z3 z4 row new =
    ((values : List ℕ) (behind : List Bool) → length values ≡ n → sum (blocks_of values) ≤ length members → WordsTo code values z3 behind → new ≡ row ++ copied_members (blocks_of values) members)
    × ((values : List ℕ) (behind : List Bool) → length values ≡ n → sum (blocks_of values) ≤ length members → WordsTo code values z3 behind → behind ≡ z4)

pub members_copied : (p : Parameters) (page : ℕ) (below : Option (List ℕ)) (z : List Bool) (list : List ℕ) (z3 z4 : List Bool) (n : ℕ) (members row new : List ℕ) (code : Code) → code ≡ p.blocks → members ≡ list_or_none below → row ≡ [] → CopiesMembers code n members z3 z4 row new
    → (l : Laid p page below z list) → (length l.values ≡ n) × (l.after_count ≡ z3) → (new ≡ l.copied) × (l.after_blocks ≡ z4)
members_copied p page below z list z3 z4 n members row new code code_is is empty copies l e =
    let fits : sum (blocks_of l.values) ≤ length members = omega (arith, l.within, ap (λ (xs : List ℕ). length xs) is) in
    let words = blocks_words p page below z list z3 code code_is l e.1 in (
      copies.0 l.values l.after_blocks e.0 fits words ∙ ap (λ (r : List ℕ). r ++ copied_members (blocks_of l.values) members) empty ∙ ap (λ (xs : List ℕ). copied_members (blocks_of l.values) xs) is ∙ sym l.copied_is,
      copies.1 l.values l.after_blocks e.0 fits words,
    )

-- the words that stand there, and room for what they copy
pub members_stand : (p : Parameters) (page : ℕ) (below : Option (List ℕ)) (z : List Bool) (list : List ℕ) (z3 : List Bool) (n room : ℕ) (members row waiting : List ℕ) (code : Code) → code ≡ p.blocks → members ≡ list_or_none below → row ≡ [] → waiting ≡ [] → length list ≤ room
    → (l : Laid p page below z list) → (length l.values ≡ n) × (l.after_count ≡ z3)
    → (values : List ℕ) × (behind : List Bool) × (length values ≡ n) × (sum (blocks_of values) ≤ length members) × WordsTo code values z3 behind × (length row + length waiting + length (copied_members (blocks_of values) members) ≤ room)
members_stand p page below z list z3 n room members row waiting code code_is is empty none fits l e =
    let long : length members ≡ length (list_or_none below) = ap (λ (xs : List ℕ). length xs) is in
    let copied : length (copied_members (blocks_of l.values) members) ≡ length l.copied = ap (λ (xs : List ℕ). length (copied_members (blocks_of l.values) xs)) is ∙ sym (ap (λ (xs : List ℕ). length xs) l.copied_is) in
    (l.values, l.after_blocks, e.0, omega (arith, l.within, long), blocks_words p page below z list z3 code code_is l e.1, omega (arith, copied, l.copied_fit, l.all, fits, ap (λ (xs : List ℕ). length xs) empty, ap (λ (xs : List ℕ). length xs) none))

-- their number, taken from the row
pub copied_long : (row copied : List ℕ) (k : ℕ) (old new : List Bool) → k ≡ length row → (row ≡ copied) × (old ≡ new) → (length copied ≡ k) × (old ≡ new)
copied_long row copied k old new is e = (sym (is ∙ ap (λ (xs : List ℕ). length xs) e.0), e.1)

-- ---- the intervals

two_long : (p : Parameters) (page : ℕ) (below : Option (List ℕ)) (z : List Bool) (list row : List ℕ) → (l : Laid p page below z list) → row ≡ l.copied → AreJoinable row (numbers_inside l.lefts l.lengths) → length (union_of row (numbers_inside l.lefts l.lengths)) ≡ length l.copied + sum l.lengths
two_long p page below z list row l is j =
    omega (arith, joined_long row (numbers_inside l.lefts l.lengths) j, ap (λ (xs : List ℕ). length xs) is, inside_count page p.interval None l.lefts l.lengths l.after_interval_count l.after_intervals l.intervals_stand)

joins : (p : Parameters) (page : ℕ) (below : Option (List ℕ)) (z : List Bool) (list row : List ℕ) → Ascends 0 (list_or_none below) → (l : Laid p page below z list) → row ≡ l.copied → AreJoinable row (numbers_inside l.lefts l.lengths)
joins p page below z list row up l is =
    subst (λ (r : List ℕ). AreJoinable r (numbers_inside l.lefts l.lengths)) (sym is) (first_two l.copied (numbers_inside l.lefts l.lengths) l.residuals list (laid_parts p page below z list up l))

pub intervals_join : (p : Parameters) (page : ℕ) (below : Option (List ℕ)) (z : List Bool) (list : List ℕ) (z5 : List Bool) (w i room : ℕ) (row : List ℕ) → w ≡ p.interval → Ascends 0 (list_or_none below) → length list ≤ room
    → (l : Laid p page below z list) → (length l.lefts ≡ i) × (l.after_interval_count ≡ z5) → row ≡ l.copied
    → (lefts : List ℕ) × (lengths : List ℕ) × (behind : List Bool) × (length lefts ≡ i) × IntervalsTo page w None lefts lengths z5 behind × AreJoinable row (numbers_inside lefts lengths) × (length (union_of row (numbers_inside lefts lengths)) ≤ room)
intervals_join p page below z list z5 w i room row w_is up fits l e is =
    let j = joins p page below z list row up l is in
    (l.lefts, l.lengths, l.after_intervals, e.0, intervals_words p page below z list z5 w w_is l e.1, j, omega (arith, two_long p page below z list row l is j, l.copied_fit, l.inside_fit, l.all, fits))

-- what the clauses of the joining say
abbrev pub JoinsIntervals : ℕ → ℕ → ℕ → List Bool → List Bool → List ℕ → List ℕ → Type 0
JoinsIntervals page least i z5 z6 row new =
    ((lefts lengths : List ℕ) (behind : List Bool) → length lefts ≡ i → IntervalsTo page least None lefts lengths z5 behind → AreJoinable row (numbers_inside lefts lengths) → new ≡ union_of row (numbers_inside lefts lengths))
    × ((lefts lengths : List ℕ) (behind : List Bool) → length lefts ≡ i → IntervalsTo page least None lefts lengths z5 behind → AreJoinable row (numbers_inside lefts lengths) → behind ≡ z6)

pub intervals_joined : (p : Parameters) (page : ℕ) (below : Option (List ℕ)) (z : List Bool) (list : List ℕ) (z5 z6 : List Bool) (w i : ℕ) (row new : List ℕ) → w ≡ p.interval → Ascends 0 (list_or_none below) → JoinsIntervals page w i z5 z6 row new
    → (l : Laid p page below z list) → (length l.lefts ≡ i) × (l.after_interval_count ≡ z5) → row ≡ l.copied → (new ≡ union_of l.copied (numbers_inside l.lefts l.lengths)) × (l.after_intervals ≡ z6)
intervals_joined p page below z list z5 z6 w i row new w_is up does l e is =
    let j = joins p page below z list row up l is in
    let words = intervals_words p page below z list z5 w w_is l e.1 in
    (does.0 l.lefts l.lengths l.after_intervals e.0 words j ∙ ap (λ (r : List ℕ). union_of r (numbers_inside l.lefts l.lengths)) is, does.1 l.lefts l.lengths l.after_intervals e.0 words j)

-- how many there are by now
both_long : (p : Parameters) (page : ℕ) (below : Option (List ℕ)) (z : List Bool) (list : List ℕ) (k : ℕ) (row : List ℕ) → Ascends 0 (list_or_none below) → k ≡ length row → (l : Laid p page below z list) → row ≡ union_of l.copied (numbers_inside l.lefts l.lengths) → k ≡ length l.copied + sum l.lengths
both_long p page below z list k row up k_is l is =
    k_is ∙ ap (λ (xs : List ℕ). length xs) is ∙ two_long p page below z list l.copied l refl (joins p page below z list l.copied up l refl)

pub joined_fits : (p : Parameters) (page : ℕ) (below : Option (List ℕ)) (z : List Bool) (list : List ℕ) (d k : ℕ) (row : List ℕ) → Ascends 0 (list_or_none below) → k ≡ length row → (l : Laid p page below z list) → l.outdegree ≡ d → row ≡ union_of l.copied (numbers_inside l.lefts l.lengths) → k ≤ d
joined_fits p page below z list d k row up k_is l d_is is = omega (arith, both_long p page below z list k row up k_is l is, l.copied_fit, l.inside_fit, d_is)

-- ---- the residuals

pub record Remaining (code : Code) (page count : ℕ) (z6 : List Bool) (row list residuals : List ℕ) (behind : List Bool) : Type 0 where
  pub count_is : length residuals ≡ count
  pub stand : ResidualsTo code page None residuals z6 behind
  pub joinable : AreJoinable row residuals
  pub union : union_of row residuals ≡ list

pub remaining : (p : Parameters) (page : ℕ) (below : Option (List ℕ)) (z : List Bool) (list : List ℕ) (z6 : List Bool) (d k : ℕ) (code : Code) (row : List ℕ) → code ≡ p.residuals → Ascends 0 (list_or_none below) → k ≡ length row
    → (l : Laid p page below z list) → l.outdegree ≡ d → (row ≡ union_of l.copied (numbers_inside l.lefts l.lengths)) × (l.after_intervals ≡ z6) → Remaining code page (d - k) z6 row list l.residuals l.behind
remaining p page below z list z6 d k code row code_is up k_is l d_is e =
    let g = residuals_given p page below z list z6 d (length l.copied) (sum l.lengths) code code_is l d_is refl (refl, e.1) in
    let parts = laid_parts p page below z list up l in
    record {
      count_is = omega (arith, g.0, both_long p page below z list k row up k_is l e.0);
      stand = g.1;
      joinable = subst (λ (r : List ℕ). AreJoinable r l.residuals) (sym e.0) (with_third l.copied (numbers_inside l.lefts l.lengths) l.residuals list parts);
      union = ap (λ (r : List ℕ). union_of r l.residuals) e.0 ∙ parts.joined;
    }

abbrev pub Stand : Code → ℕ → ℕ → List Bool → List ℕ → ℕ → Type 0
Stand code page count z6 row room =
    (residuals : List ℕ) × (behind : List Bool) × (length residuals ≡ count) × ResidualsTo code page None residuals z6 behind × AreJoinable row residuals × (length (union_of row residuals) ≤ room)

pub residuals_join : (code : Code) (page count : ℕ) (z6 : List Bool) (row list residuals : List ℕ) (behind : List Bool) (room : ℕ) → length list ≤ room → Remaining code page count z6 row list residuals behind → Stand code page count z6 row room
residuals_join code page count z6 row list residuals behind room fits h =
    (residuals, behind, h.count_is, h.stand, h.joinable, omega (arith, fits, ap (λ (xs : List ℕ). length xs) h.union))
