-- Records of pages, one after the other.
use Rattle.std.proofs.Common.{◌≡◌, ℕ, zero, suc, ◌+◌, ◌<◌, Bool, List, [], ◌∷◌, ◌++◌, length, take, sum_by, refl, sym, ◌∙◌, ap, subst, arith, add_comm, Ok, Err, map, inl, inr}
use Rattle.std.specs.Prelude.{◌⊎◌, ◌≤◌, All, IfSome, Option, Some, None, option_to_list}
use Rattle.std.proofs.lemmas.List.Elements.{All-cons, All-pop}
use Rattle.std.proofs.lemmas.List.{reverse-append, length-reverse, length-map}
use Rattle.std.proofs.lemmas.List.Sums.{sum_by-cons, sum_by-append}
use Rattle.wg_params.specs.Parameters.{Parameters}
use Rattle.wg_graph.specs.Digraph.{Digraph, arc_count}
use Rattle.wg_grammar.specs.declared.fault.Fault.{Fault}
use Rattle.wg_grammar.specs.declared.fault.ArchiveFault.TheVariants as faults
use Rattle.wg_grammar.specs.Context.{Known, Context}
use Rattle.wg_grammar.specs.Record.{Whole, ReadsRecord}
use Rattle.wg_grammar.specs.Archive.{Pages, context_of, lists_of, places_of, ReadsGraph}
use Rattle.wg_decoder.specs.Answer.{context_at}
use Rattle.wg_decoder.specs.Remembered.{known_of}
use Rattle.wg_decoder.specs.Spare.{SpareLengths, NoneLonger}
use Rattle.wg_decoder.specs.declared.decoded.Decoded.{Decoded}
use Rattle.wg_stream.specs.Prefix.{PagesRead, AreSound, RecordsStand}

-- a record more after no record
first_page : (p : Parameters) (bits : List Bool) (first last : List Whole) (at mid : ℕ) (w : Whole) → last ≡ first → mid ≡ at
    → length last < p.nodes → ReadsRecord p (context_of p last) bits mid (Ok w) → Pages p bits first at (w ∷ []) (w ∷ last) w.end
first_page p bits first last at mid w same there lt reads = (
  subst (λ (l : List Whole). length l < p.nodes) same lt,
  subst (λ (l : List Whole). ReadsRecord p (context_of p l) bits at (Ok w)) same
      (subst (λ (m : ℕ). ReadsRecord p (context_of p last) bits m (Ok w)) there reads),
  (ap (λ (l : List Whole). w ∷ l) same, refl),
)

-- a record more after some
pub pages_more : (p : Parameters) (bits : List Bool) (first : List Whole) (at : ℕ) (ws last : List Whole) (mid : ℕ) (w : Whole) → Pages p bits first at ws last mid
    → length last < p.nodes → ReadsRecord p (context_of p last) bits mid (Ok w) → Pages p bits first at (ws ++ w ∷ []) (w ∷ last) w.end
pages_more p bits first at [] last mid w pages lt reads = first_page p bits first last at mid w pages.0 pages.1 lt reads
pages_more p bits first at (x ∷ ws) last mid w pages lt reads = (pages.0, pages.1, pages_more p bits (x ∷ first) x.end ws last mid w pages.2 lt reads)

-- the nearest pages after one more
take_nearest : (w : ℕ) (k : Known) (behind : List Known) → take w (k ∷ take w behind) ≡ take w (k ∷ behind)
take_nearest zero k behind = refl
take_nearest (suc w) k behind = ap (λ (l : List Known). k ∷ l) (take_again w behind)
  where
    take_again : (w : ℕ) (xs : List Known) → take w (take (suc w) xs) ≡ take w xs
    take_again zero xs = refl
    take_again (suc w) [] = refl
    take_again (suc w) (x ∷ xs) = ap (λ (l : List Known). x ∷ l) (take_again w xs)

-- the places after one more record
pub places_more : (w : Whole) (behind : List Whole) → places_of (w ∷ behind) ≡ places_of behind ++ w.end ∷ []
places_more w behind = ap (λ (l : List ℕ). 0 ∷ l) (reverse-append (w.end ∷ []) (map (λ (v : Whole). v.end) behind))

-- the lists after one more record
pub lists_more : (w : Whole) (behind : List Whole) → lists_of (w ∷ behind) ≡ lists_of behind ++ w.known.list ∷ []
lists_more w behind = reverse-append (w.known.list ∷ []) (map (λ (v : Whole). v.known.list) behind)

-- how many arcs there are before the first list, and after one more
pub no_arcs : (g : Digraph) → g.lists ≡ [] → arc_count g ≡ 0
no_arcs g none = ap (λ (l : List (List ℕ)). sum_by (λ (s : List ℕ). length s) l) none

pub arcs_more : (g h : Digraph) (list : List ℕ) → h.lists ≡ g.lists ++ list ∷ [] → arc_count h ≡ arc_count g + length list
arcs_more g h list more =
    let all : arc_count h ≡ sum_by (λ (s : List ℕ). length s) (g.lists ++ list ∷ []) = ap (λ (l : List (List ℕ)). sum_by (λ (s : List ℕ). length s) l) more in
    omega (arith, all, sum_by-append (λ (s : List ℕ). length s) g.lists (list ∷ []), sum_by-cons (λ (s : List ℕ). length s) list [])

pub length-lists : (behind : List Whole) → length (lists_of behind) ≡ length behind
length-lists behind = length-reverse (map (λ (v : Whole). v.known.list) behind) ∙ length-map behind (λ (v : Whole). v.known.list)

module _ (p : Parameters) (bits : List Bool) where
  -- the context in which the next record is read
  pub next_context : (pages arcs at : ℕ) (kept : List Known) (behind : List Whole) (h : RecordsStand p bits pages arcs at kept behind) → context_at pages arcs kept ≡ context_of p behind
  next_context pages arcs at kept behind h = λ i. record { page = sym h.count i; arcs_before = sym h.total i; behind = h.nearest i }

  pub one_more : (pages arcs at : ℕ) (kept : List Known) (behind : List Whole) (w : Whole) → RecordsStand p bits pages arcs at kept behind → pages < p.nodes
      → ReadsRecord p (context_at pages arcs kept) bits at (Ok w)
      → RecordsStand p bits (pages + 1) (arcs + length w.known.list) w.end (take p.window (w.known ∷ kept)) (w ∷ behind)
  one_more pages arcs at kept behind w h lt reads = record {
    stood = h.stood ++ w ∷ [];
    records = pages_more p bits [] 0 h.stood behind at w h.records (omega (arith, h.count))
        (subst (λ (c : Context). ReadsRecord p c bits at (Ok w)) (next_context pages arcs at kept behind h) reads);
    count = omega (arith, h.count);
    total = sum_by-cons (λ (v : Whole). length v.known.list) w behind ∙ ap (λ (n : ℕ). length w.known.list + n) h.total ∙ add_comm (length w.known.list) arcs;
    nearest = ap (λ (l : List Known). take p.window (w.known ∷ l)) h.nearest ∙ take_nearest p.window w.known (map (λ (v : Whole). v.known) behind);
  }

  -- the next record is refused, and so is the file
  pub one_refused : (pages arcs at : ℕ) (kept : List Known) (behind : List Whole) (e : Fault) → RecordsStand p bits pages arcs at kept behind → pages < p.nodes
      → ReadsRecord p (context_at pages arcs kept) bits at (Err e) → ReadsGraph p bits (Err (faults.Record e))
  one_refused pages arcs at kept behind e h lt reads = (
    h.stood,
    behind,
    at,
    h.records,
    (omega (arith, h.count), subst (λ (c : Context). ReadsRecord p c bits at (Err e)) (next_context pages arcs at kept behind h) reads),
  )

-- ---- the lists that are held stay short
-- what is kept with one list more, whether or not a list has left
pub kept_short : (most : ℕ) (kept new : List Known) (k : Known) (furthest : Option Decoded) → new ++ map known_of (option_to_list furthest) ≡ k ∷ kept → length k.list ≤ most
    → All (λ (j : Known). length j.list ≤ most) kept → All (λ (j : Known). length j.list ≤ most) new × IfSome furthest (λ d. length d.list ≤ most)
kept_short most kept new k None is le all = ((All-pop (λ (j : Known). length j.list ≤ most) (k ∷ kept) new None (sym is) (All-cons (λ (j : Known). length j.list ≤ most) k kept le all)).0, tt)
kept_short most kept new k (Some d) is le all = All-pop (λ (j : Known). length j.list ≤ most) (k ∷ kept) new (Some (known_of d)) (sym is) (All-cons (λ (j : Known). length j.list ≤ most) k kept le all)

-- a list is taken for later ones
pub taken_short : (most n : ℕ) (s t : SpareLengths) → n ≤ most → NoneLonger most s → (t ≡ s) ⊎ (t ≡ record s { furthest = n }) → NoneLonger most t
taken_short most n s t le h (inl is) = subst (NoneLonger most) (sym is) h
taken_short most n s t le h (inr is) = subst (NoneLonger most) (sym is) (record { copied = h.copied; inside = h.inside; united = h.united; furthest = le })

pub sound_spared : (r : PagesRead) (s : SpareLengths) → AreSound r → NoneLonger r.params.nodes s → AreSound (record r { spares = s })
sound_spared r s h short = record {
  few = h.few;
  within = h.within;
  serves = h.serves;
  ascends = h.ascends;
  below = h.below;
  held = record { near = h.held.near; short = record { kept = h.held.short.kept; spares = short; past = h.held.short.past } };
}
