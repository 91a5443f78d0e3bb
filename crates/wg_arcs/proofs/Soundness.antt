-- Lines that are read one after the other.
use Rattle.std.proofs.Common.{◌≡◌, ℕ, ◌+◌, List, [], ◌∷◌, ◌++◌, length, Option, Some, None, Err, refl, sym, ap, subst, ◌∙◌, arith, inl, inr, append_assoc, append-nil, length-append}
use Rattle.std.specs.List.{filter_map, last_or}
use Rattle.std.specs.Prelude.{option_to_list}
use Rattle.std.proofs.lemmas.Bool.{cases_lt}
use Rattle.std.proofs.lemmas.List.{take_at, get_or_at, length_push}
use Rattle.std.proofs.lemmas.List.Elements.{filter_map-append}
use Rattle.wg_num.specs.Lines.{lines_of}
use Rattle.wg_graph.specs.Digraph.{Digraph, IsGraph}
use Rattle.wg_graph.specs.Arcs.{arcs_of}
use Rattle.wg_arcs.specs.Growing.{ArcLinesRead}
use Rattle.wg_arcs.specs.declared.fault.ArcsKind.{ArcsKind}
use Rattle.wg_arcs.specs.declared.fault.ArcsError.{ArcsError}
use Rattle.wg_arcs.specs.declared.fault.ArcsError.TheVariants as error
use Rattle.wg_arcs.specs.Growing.{SoFar, IsUpTo, IsRefusedLine, IsFirst, with_line}
use Rattle.wg_arcs.specs.Reading.{arc_at, arcs_in, fault_after, fault_of, fault_at, AreArcs, IsFirstFault, IsRead}
use Rattle.wg_arcs.proofs.Order.{Arc, last_or-append}

pub so_far_none : (n : ℕ) (all : List (List ℕ)) → SoFar n all all 0 []
so_far_none n all = record { done = []; split = refl; counted = refl; theirs = refl; sound = λ i lt. absurd (omega arith) }

-- the fault of the line that comes next
next_fault : (n : ℕ) (all rest : List (List ℕ)) (text : List ℕ) (count : ℕ) (arcs : List Arc) → SoFar n all (text ∷ rest) count arcs → fault_at n all count ≡ fault_of n arcs text
next_fault n all rest text count arcs h = grind (arith, take_at, get_or_at)

-- one line more, of which a value is kept, if it has one
kept_one : {A : Type 0} (o : Option A) → filter_map (λ (x : Option A). x) (o ∷ []) ≡ option_to_list o
kept_one None = refl
kept_one (Some a) = refl

pub one_more : {A : Type 0} (f : List ℕ → Option A) (done : List (List ℕ)) (text : List ℕ) → filter_map f done ++ option_to_list (f text) ≡ filter_map f (done ++ text ∷ [])
one_more f done text = ap (λ l. filter_map f done ++ l) (sym (kept_one (f text))) ∙ sym (filter_map-append f done (text ∷ []))

pub so_far_more : (n : ℕ) (all rest : List (List ℕ)) (text : List ℕ) (count : ℕ) (arcs : List Arc) → SoFar n all (text ∷ rest) count arcs → fault_of n arcs text ≡ None →
    SoFar n all rest (count + 1) (arcs ++ option_to_list (arc_at text))
so_far_more n all rest text count arcs h fine = record {
  done = h.done ++ text ∷ [];
  split = h.split ∙ sym (append_assoc h.done (text ∷ []) rest);
  counted = length_push h.done text ∙ ap (λ (k : ℕ). k + 1) h.counted;
  theirs = ap (λ (l : List Arc). l ++ option_to_list (arc_at text)) h.theirs ∙ one_more arc_at h.done text;
  sound = λ i lt. elim (cases_lt i count) [ inl low ↦ h.sound i low | inr high ↦ (let same : i ≡ count = omega arith in subst (λ (k : ℕ). fault_at n all k ≡ None) (sym same) (next_fault n all rest text count arcs h ∙ fine)) ];
}

pub first_fault : (n : ℕ) (all rest : List (List ℕ)) (text : List ℕ) (count line : ℕ) (kind : ArcsKind) (arcs : List Arc) → SoFar n all (text ∷ rest) count arcs → line ≡ count + 1 → fault_of n arcs text ≡ Some kind →
    IsFirstFault n all line kind
first_fault n all rest text count line kind arcs h at fault = record {
  index = count;
  counted = at;
  there = let size = h.counted in omega (arith, ap length h.split, length-append h.done (text ∷ rest));
  fault = next_fault n all rest text count arcs h ∙ fault;
  sound = h.sound;
}

pub all_read : (n : ℕ) (all : List (List ℕ)) (count : ℕ) (arcs : List Arc) (g : Digraph) → SoFar n all [] count arcs → g.nodes ≡ n → arcs_of g ≡ arcs → IsGraph g → AreArcs n all g
all_read n all count arcs g h nodes theirs proper =
    let whole : all ≡ h.done = h.split ∙ append-nil h.done in
    let size : length all ≡ count = ap length whole ∙ h.counted in
    record {
      sound = λ i lt. h.sound i (omega arith);
      nodes = nodes;
      proper = proper;
      arcs = theirs ∙ h.theirs ∙ ap arcs_in (sym whole);
    }

-- ---- by what is known of the lines before

-- the arc of a line is the last one then
last_more : (arcs : List Arc) (last : Option Arc) (s : ArcLinesRead) (a : Option Arc) → last_or None arcs ≡ last → last ≡ s.last → last_or None (arcs ++ option_to_list a) ≡ (with_line s a).last
last_more arcs last s a h h2 = grind (arith, last_or-append)

count_more : (arcs : List Arc) (s : ArcLinesRead) (a : Option Arc) → length arcs ≡ s.arcs → length (arcs ++ option_to_list a) ≡ (with_line s a).arcs
count_more arcs s None is = ap length (append-nil arcs) ∙ is
count_more arcs s (Some a) is = length_push arcs a ∙ ap (λ (k : ℕ). k + 1) is

lines_more : (n count : ℕ) (all next : List (List ℕ)) (arcs : List Arc) (s : ArcLinesRead) (a : Option Arc) → SoFar s.nodes all next (s.line + 1) arcs → SoFar (with_line s a).nodes all next (with_line s a).line arcs
lines_more n count all next arcs s a h = grind arith

-- the fault of a line, by the last arc and the number of arcs
known_fault : (all next : List (List ℕ)) (arcs : List Arc) (s : ArcLinesRead) (text : List ℕ) → IsUpTo all next arcs s → fault_of s.nodes arcs text ≡ fault_after s.nodes s.last s.arcs text
known_fault all next arcs s text up = ap (λ (o : Option Arc). fault_after s.nodes o (length arcs) text) up.last ∙ ap (λ (k : ℕ). fault_after s.nodes s.last k text) up.count

-- a line is read
pub line_read : (all later : List (List ℕ)) (bytes after text : List ℕ) (arcs : List Arc) (s t : ArcLinesRead) (a : Option Arc) → lines_of bytes ≡ text ∷ lines_of after → fault_after s.nodes s.last s.arcs text ≡ None → a ≡ arc_at text
    → t ≡ with_line s a → IsUpTo all (lines_of bytes ++ later) arcs s → IsUpTo all (lines_of after ++ later) (arcs ++ option_to_list a) t
line_read all later bytes after text arcs s t a lines fine is new up =
    let here : SoFar s.nodes all _ s.line arcs = subst (λ (ls : List (List ℕ)). SoFar s.nodes all (ls ++ later) s.line arcs) lines up.lines in
    let more = so_far_more s.nodes all (lines_of after ++ later) text s.line arcs here (known_fault all _ arcs s text up ∙ fine) in
    subst (IsUpTo all (lines_of after ++ later) (arcs ++ option_to_list a)) (sym new) (record {
      lines = lines_more s.nodes s.line all (lines_of after ++ later) (arcs ++ option_to_list a) s a (subst (λ (o : Option Arc). SoFar s.nodes all (lines_of after ++ later) (s.line + 1) (arcs ++ option_to_list o)) (sym is) more);
      last = last_more arcs _ s a refl up.last;
      count = count_more arcs s a up.count;
    })

-- a line is refused
pub line_refused : (all later : List (List ℕ)) (bytes after text : List ℕ) (arcs : List Arc) (s : ArcLinesRead) (e : ArcsError) → lines_of bytes ≡ text ∷ lines_of after → IsRefusedLine (s.line + 1) (fault_after s.nodes s.last s.arcs text) e
    → IsUpTo all (lines_of bytes ++ later) arcs s → IsFirst s.nodes all e
line_refused all later bytes after text arcs s (error.Line l kind) lines refused up =
    let here : SoFar s.nodes all _ s.line arcs = subst (λ (ls : List (List ℕ)). SoFar s.nodes all (ls ++ later) s.line arcs) lines up.lines in
    first_fault s.nodes all _ text s.line l kind arcs here refused.0 (known_fault all _ arcs s text up ∙ refused.1)
line_refused all later bytes after text arcs s error.Memory lines refused up = absurd refused

-- the error of a line is that of the text
pub read_err : (n m : ℕ) (bytes : List ℕ) (e : ArcsError) → m ≡ n → IsFirst m (lines_of bytes) e → IsRead n bytes (Err e)
read_err n m bytes e h h2 = grind arith
