-- Lines of a file that is read in pieces.
use Rattle.std.proofs.Common.{◌≡◌, inl, inr, ℕ, ◌+◌, ◌<◌, ◌≤◌, Bool, true, false, cond, List, [], ◌∷◌, ◌++◌, length, map, take, drop, refl, sym, ap, ◌∙◌, arith, append_assoc, length-append}
use Rattle.std.specs.List.{slice_split, onto_first}
use Rattle.std.specs.Str.Lines.{strip_carriage_return}
use Rattle.std.proofs.lemmas.List.{append-nil, drop_all, drop-drop, map-append, take-append-drop}
use Rattle.std.proofs.lemmas.List.Splits.{length-slice_split}
use Rattle.wg_outside.specs.declared.limits.TheConstants.{MOST_BYTES}
use Rattle.wg_num.specs.Lines.{lines_of, without_empty_end}
use Rattle.wg_num.proofs.Cuts.{is_end, not_the_end, no_lines}
use Rattle.wg_lines.specs.Reading.{HeldLines, end_of, lines_after, lines_ahead, IsWhole}

-- ---- lines behind whole lines

onto_first-append : (b : ℕ) (ps qs : List (List ℕ)) → 0 < length ps → onto_first b (ps ++ qs) ≡ onto_first b ps ++ qs
onto_first-append b [] qs some = absurd (omega arith)
onto_first-append b (p ∷ ps) qs some = refl

split_whole : (front ys : List ℕ) → slice_split is_end (front ++ 10 ∷ ys) ≡ slice_split is_end front ++ slice_split is_end ys
split_whole [] ys = refl
split_whole (b ∷ bs) ys = at (is_end b) (split_whole bs ys)
  where
    at : (t : Bool) → slice_split is_end (bs ++ 10 ∷ ys) ≡ slice_split is_end bs ++ slice_split is_end ys
        → cond t ([] ∷ slice_split is_end (bs ++ 10 ∷ ys)) (onto_first b (slice_split is_end (bs ++ 10 ∷ ys)))
        ≡ cond t ([] ∷ slice_split is_end bs) (onto_first b (slice_split is_end bs)) ++ slice_split is_end ys
    at true e = ap (λ (l : List (List ℕ)). [] ∷ l) e
    at false e = ap (onto_first b) e ∙ onto_first-append b (slice_split is_end bs) (slice_split is_end ys) (omega (arith, length-slice_split is_end bs))

not_at_end : (ps qs : List (List ℕ)) → 0 < length qs → without_empty_end (ps ++ qs) ≡ ps ++ without_empty_end qs
not_at_end [] qs some = refl
not_at_end (p ∷ ps) qs some = not_the_end p (ps ++ qs) (omega (arith, length-append ps qs)) ∙ ap (λ (l : List (List ℕ)). p ∷ l) (not_at_end ps qs some)

after_end : (front ys : List ℕ) → lines_of (front ++ 10 ∷ ys) ≡ map strip_carriage_return (slice_split is_end front) ++ lines_of ys
unfolding lines_of
after_end front ys =
    ap (λ (ps : List (List ℕ)). map strip_carriage_return (without_empty_end ps)) (split_whole front ys)
    ∙ ap (map strip_carriage_return) (not_at_end (slice_split is_end front) (slice_split is_end ys) (omega (arith, length-slice_split is_end ys)))
    ∙ map-append strip_carriage_return (slice_split is_end front) (without_empty_end (slice_split is_end ys))

pub none_of : (bytes : List ℕ) → bytes ≡ [] → lines_of bytes ≡ []
none_of bytes none = ap lines_of none ∙ no_lines [] refl

pub after_whole : (xs ys : List ℕ) → IsWhole xs → lines_of (xs ++ ys) ≡ lines_of xs ++ lines_of ys
after_whole xs ys (inl none) = ap (λ (l : List ℕ). lines_of (l ++ ys)) none ∙ ap (λ (l : List (List ℕ)). l ++ lines_of ys) (sym (none_of xs none))
after_whole xs ys (inr end) =
    let lines : List (List ℕ) = map strip_carriage_return (slice_split is_end end.0) in
    let alone : lines_of xs ≡ lines = ap lines_of end.1 ∙ after_end end.0 [] ∙ ap (λ (l : List (List ℕ)). lines ++ l) (none_of [] refl) ∙ append-nil lines in
    ap (λ (l : List ℕ). lines_of (l ++ ys)) end.1 ∙ ap lines_of (append_assoc end.0 (10 ∷ []) ys) ∙ after_end end.0 ys ∙ ap (λ (l : List (List ℕ)). l ++ lines_of ys) (sym alone)

-- ---- what is held

-- the lines that were lent are passed
pub passed_ahead : (file : List ℕ) (g h : HeldLines) → h ≡ record g { first = g.first + length g.lines; lines = [] } → lines_after file g ≡ lines_ahead file h
passed_ahead file g h is =
    let end : end_of g ≡ g.first + length g.lines + 0 + length g.rest = omega arith in
    let rest : List ℕ = g.rest ++ drop (g.first + length g.lines + 0 + length g.rest) file in
    ap (λ (n : ℕ). lines_of (g.rest ++ drop n file)) end ∙ ap (λ (l : List (List ℕ)). l ++ lines_of rest) (sym (none_of [] refl)) ∙ ap (λ (x : HeldLines). lines_ahead file x) (sym is)

-- nothing was read that is not lent
all_lent : (file : List ℕ) (h : HeldLines) → h.rest ≡ [] → length file ≤ end_of h → lines_ahead file h ≡ lines_of h.lines
all_lent file h none end =
    ap (λ (l : List (List ℕ)). lines_of h.lines ++ l) (none_of (h.rest ++ drop (end_of h) file) (ap (λ (l : List ℕ). l ++ drop (end_of h) file) none ∙ drop_all (end_of h) file end)) ∙ append-nil (lines_of h.lines)

-- at the end of the file all that is left is lent
pub rest_lent : (file : List ℕ) (g h : HeldLines) → g.lines ≡ [] → length file ≤ end_of g → h ≡ record g { lines = g.rest; rest = [] } → lines_ahead file h ≡ lines_of h.lines
rest_lent file g h none end is =
    all_lent file h (ap (λ (x : HeldLines). x.rest) is)
    (omega (arith, ap (λ (x : HeldLines). x.first) is, ap (λ (x : HeldLines). length x.lines) is, ap (λ (x : HeldLines). length x.rest) is, ap length none))

pub rest_ahead : (file : List ℕ) (g h : HeldLines) → g.lines ≡ [] → length file ≤ end_of g → h ≡ record g { lines = g.rest; rest = [] } → lines_ahead file h ≡ lines_ahead file g
rest_ahead file g h none end is =
    rest_lent file g h none end is ∙ ap (λ (x : HeldLines). lines_of x.lines) is
    ∙ sym (ap (λ (l : List (List ℕ)). l ++ lines_of (g.rest ++ drop (end_of g) file)) (none_of g.lines none)
    ∙ ap (λ (l : List ℕ). lines_of (g.rest ++ l)) (drop_all (end_of g) file end) ∙ ap lines_of (append-nil g.rest))

pub rest_short : (g h : HeldLines) → h ≡ record g { lines = g.rest; rest = [] } → end_of g ≤ MOST_BYTES → end_of h ≤ MOST_BYTES
rest_short g h is le = omega (arith, ap (λ (x : HeldLines). x.first) is, ap (λ (x : HeldLines). length x.lines) is, ap (λ (x : HeldLines). length x.rest) is, le)

-- a piece more is held
pub held_end : (g h : HeldLines) (piece : List ℕ) (count : ℕ) → g.lines ≡ [] → h.first ≡ g.first → h.lines ++ h.rest ≡ g.rest ++ piece → length piece ≡ count → end_of h ≡ end_of g + count
held_end g h piece count none first bytes size = omega (arith, first, ap length bytes, length-append h.lines h.rest, length-append g.rest piece, ap length none, size)

pub held_ahead : (file : List ℕ) (g h : HeldLines) (piece : List ℕ) (count : ℕ) → g.lines ≡ [] → h.first ≡ g.first → h.lines ++ h.rest ≡ g.rest ++ piece → IsWhole h.lines
    → length piece ≡ count → piece ≡ take count (drop (end_of g) file) → lines_ahead file h ≡ lines_ahead file g
held_ahead file g h piece count none first bytes whole size is =
    let behind : List ℕ = drop (end_of h) file in
    let rest : piece ++ behind ≡ drop (end_of g) file =
    ap (λ (l : List ℕ). l ++ behind) is ∙ ap (λ (n : ℕ). take count (drop (end_of g) file) ++ drop n file) (held_end g h piece count none first bytes size)
    ∙ ap (λ (l : List ℕ). take count (drop (end_of g) file) ++ l) (sym (drop-drop count (end_of g) file)) ∙ take-append-drop count (drop (end_of g) file) in
    sym (after_whole h.lines (h.rest ++ behind) whole)
    ∙ ap lines_of (sym (append_assoc h.lines h.rest behind) ∙ ap (λ (l : List ℕ). l ++ behind) bytes ∙ append_assoc g.rest piece behind ∙ ap (λ (l : List ℕ). g.rest ++ l) rest)
    ∙ ap (λ (l : List (List ℕ)). l ++ lines_of (g.rest ++ drop (end_of g) file)) (sym (none_of g.lines none))

-- before the first piece
pub all_after : (file : List ℕ) (h : HeldLines) → h.first ≡ 0 → h.lines ≡ [] → h.rest ≡ [] → lines_after file h ≡ lines_of file
all_after file h first lines rest =
    let end : end_of h ≡ 0 = omega (arith, first, ap length lines, ap length rest) in
    ap (λ (l : List ℕ). lines_of (l ++ drop (end_of h) file)) rest ∙ ap (λ (n : ℕ). lines_of (drop n file)) end
