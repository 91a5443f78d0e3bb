-- The words of a record, as they are read from its beginning on.
use Rattle.std.proofs.Common.{◌≡◌, ℕ, ◌-◌, ◌≤◌, Bool, ltb, ◌&&◌, List, length, Option, Some, None, refl, sym, ap, subst, ◌∙◌, arith}
use Rattle.std.specs.Prelude.{sum, is_some}
use Rattle.wg_params.specs.declared.code.Code.{Code}
use Rattle.wg_params.specs.declared.code.Code.TheVariants.{Gamma}
use Rattle.wg_params.specs.Parameters.{Parameters}
use Rattle.wg_graph.specs.Ascending.{Ascends}
use Rattle.wg_blocks.specs.Stored.{blocks_of}
use Rattle.wg_intervals.specs.Stored.{numbers_inside}
use Rattle.wg_codes.specs.Standing.{IsWord}
use Rattle.wg_decoder.specs.Proper.Laid.{MaybeWord, WordsTo, IntervalsTo, ResidualsTo, list_or_none, length_of, Laid}
use Rattle.wg_decoder.specs.Proper.Headed.{TakesHead}
use Rattle.wg_decoder.proofs.ProperLemmas.Taking.{Takes}
use Rattle.wg_decoder.proofs.ProperLemmas.Counting.{Parts, parts_of, copied_ascend}

-- what the reader of a word that may be there answers
abbrev pub MaybeTakes : Bool → Code → List Bool → List Bool → ℕ → Type 0
MaybeTakes b c old new w = (v : ℕ) (behind : List Bool) → MaybeWord b c v old behind → (v ≡ w) × (behind ≡ new)

same_word : (c e : Code) (v : ℕ) (z y behind : List Bool) → e ≡ c → z ≡ y → IsWord c v z behind → IsWord e v y behind
same_word c e v z y behind code is h = subst (λ (x : List Bool). IsWord e v x behind) is (subst (λ (x : Code). IsWord x v z behind) (sym code) h)

same_maybe : (b q : Bool) (c e : Code) (v : ℕ) (z y behind : List Bool) → q ≡ b → e ≡ c → z ≡ y → MaybeWord b c v z behind → MaybeWord q e v y behind
same_maybe b q c e v z y behind flag code is h =
    subst (λ (x : List Bool). MaybeWord q e v x behind) is (subst (λ (x : Code). MaybeWord q x v z behind) (sym code) (subst (λ (x : Bool). MaybeWord x c v z behind) (sym flag) h))

-- ---- the outdegree

pub outdegree_word : (p : Parameters) (page : ℕ) (below : Option (List ℕ)) (z : List Bool) (list : List ℕ) (code : Code) → code ≡ p.outdegrees → Laid p page below z list → (v : ℕ) × (behind : List Bool) × IsWord code v z behind
outdegree_word p page below z list code is l = (l.outdegree, l.after_outdegree, same_word p.outdegrees code l.outdegree z z l.after_outdegree is refl l.outdegree_stands)

pub outdegree_read : (p : Parameters) (page : ℕ) (below : Option (List ℕ)) (z : List Bool) (list : List ℕ) (code : Code) (z1 : List Bool) (d : ℕ) → code ≡ p.outdegrees → Takes code z z1 d → (l : Laid p page below z list) → (l.outdegree ≡ d) × (l.after_outdegree ≡ z1)
outdegree_read p page below z list code z1 d is takes l = takes l.outdegree l.after_outdegree (same_word p.outdegrees code l.outdegree z z l.after_outdegree is refl l.outdegree_stands)

-- ---- the reference

reference_stands : (p : Parameters) (page : ℕ) (below : Option (List ℕ)) (z : List Bool) (list : List ℕ) (z1 : List Bool) (d w : ℕ) (b : Bool) (code : Code) → b ≡ (ltb 0 d && ltb 0 w) → w ≡ p.window → code ≡ p.references
    → (l : Laid p page below z list) → l.outdegree ≡ d → l.after_outdegree ≡ z1 → MaybeWord b code l.reference z1 l.after_reference
reference_stands p page below z list z1 d w b code flag window is l d_is z1_is =
    same_maybe (ltb 0 l.outdegree && ltb 0 p.window) b p.references code l.reference l.after_outdegree z1 l.after_reference
    (flag ∙ ap (λ (k : ℕ). ltb 0 d && ltb 0 k) window ∙ ap (λ (k : ℕ). ltb 0 k && ltb 0 p.window) (sym d_is)) is z1_is l.reference_stands

pub reference_word : (p : Parameters) (page : ℕ) (below : Option (List ℕ)) (z : List Bool) (list : List ℕ) (z1 : List Bool) (d w : ℕ) (b : Bool) (code : Code) → b ≡ (ltb 0 d && ltb 0 w) → w ≡ p.window → code ≡ p.references
    → (l : Laid p page below z list) → (l.outdegree ≡ d) × (l.after_outdegree ≡ z1) → (v : ℕ) × (behind : List Bool) × MaybeWord b code v z1 behind
reference_word p page below z list z1 d w b code flag window is l e = (l.reference, l.after_reference, reference_stands p page below z list z1 d w b code flag window is l e.0 e.1)

pub reference_value : (p : Parameters) (page : ℕ) (below : Option (List ℕ)) (z : List Bool) (list : List ℕ) (z1 z2 : List Bool) (d w r : ℕ) (b : Bool) (code : Code) → b ≡ (ltb 0 d && ltb 0 w) → w ≡ p.window → code ≡ p.references → MaybeTakes b code z1 z2 r
    → (l : Laid p page below z list) → (l.outdegree ≡ d) × (l.after_outdegree ≡ z1) → l.reference ≡ r
reference_value p page below z list z1 z2 d w r b code flag window is takes l e = (takes l.reference l.after_reference (reference_stands p page below z list z1 d w b code flag window is l e.0 e.1)).0

-- ---- both

pub head_taken : (p : Parameters) (z z1 z2 : List Bool) (d w r : ℕ) (code reference_code : Code) → code ≡ p.outdegrees → w ≡ p.window → reference_code ≡ p.references → Takes code z z1 d → MaybeTakes (ltb 0 d && ltb 0 w) reference_code z1 z2 r → TakesHead p z z2 d r
head_taken p z z1 z2 d w r code reference_code is window reference_is takes then v s mid behind word maybe =
    let e = takes v mid (same_word p.outdegrees code v z z mid is refl word) in
    let flag : (ltb 0 d && ltb 0 w) ≡ (ltb 0 v && ltb 0 p.window) = ap (λ (k : ℕ). ltb 0 d && ltb 0 k) window ∙ ap (λ (k : ℕ). ltb 0 k && ltb 0 p.window) (sym e.0) in
    let f = then s behind (same_maybe (ltb 0 v && ltb 0 p.window) (ltb 0 d && ltb 0 w) p.references reference_code s mid z1 behind flag reference_is e.1 maybe) in
    (e.0, f.0, f.1)

-- ---- the block count

count_stands : (p : Parameters) (page : ℕ) (below : Option (List ℕ)) (z : List Bool) (list : List ℕ) (z2 : List Bool) (b : Bool) (code : Code) → b ≡ is_some below → code ≡ p.block_counts
    → (l : Laid p page below z list) → l.after_reference ≡ z2 → MaybeWord b code (length l.values) z2 l.after_count
count_stands p page below z list z2 b code flag is l z2_is = same_maybe (is_some below) b p.block_counts code (length l.values) l.after_reference z2 l.after_count flag is z2_is l.count_stands

pub count_word : (p : Parameters) (page : ℕ) (below : Option (List ℕ)) (z : List Bool) (list : List ℕ) (z2 : List Bool) (b : Bool) (code : Code) → b ≡ is_some below → code ≡ p.block_counts
    → (l : Laid p page below z list) → l.after_reference ≡ z2 → (v : ℕ) × (behind : List Bool) × MaybeWord b code v z2 behind
count_word p page below z list z2 b code flag is l z2_is = (length l.values, l.after_count, count_stands p page below z list z2 b code flag is l z2_is)

pub count_read : (p : Parameters) (page : ℕ) (below : Option (List ℕ)) (z : List Bool) (list : List ℕ) (z2 z3 : List Bool) (n : ℕ) (b : Bool) (code : Code) → b ≡ is_some below → code ≡ p.block_counts → MaybeTakes b code z2 z3 n
    → (l : Laid p page below z list) → l.after_reference ≡ z2 → (length l.values ≡ n) × (l.after_count ≡ z3)
count_read p page below z list z2 z3 n b code flag is takes l z2_is = takes (length l.values) l.after_count (count_stands p page below z list z2 b code flag is l z2_is)

-- ---- the blocks

pub blocks_words : (p : Parameters) (page : ℕ) (below : Option (List ℕ)) (z : List Bool) (list : List ℕ) (z3 : List Bool) (code : Code) → code ≡ p.blocks → (l : Laid p page below z list) → l.after_count ≡ z3 → WordsTo code l.values z3 l.after_blocks
blocks_words p page below z list z3 code is l z3_is = subst (λ (x : List Bool). WordsTo code l.values x l.after_blocks) z3_is (subst (λ (c : Code). WordsTo c l.values l.after_count l.after_blocks) (sym is) l.blocks_stand)

pub pass_words : (p : Parameters) (page : ℕ) (below : Option (List ℕ)) (z : List Bool) (list : List ℕ) (z3 : List Bool) (n source : ℕ) (code : Code) → code ≡ p.blocks → source ≡ length (list_or_none below) → (l : Laid p page below z list) → (length l.values ≡ n) × (l.after_count ≡ z3)
    → (values : List ℕ) × (behind : List Bool) × (length values ≡ n) × (sum (blocks_of values) ≤ source) × WordsTo code values z3 behind
pass_words p page below z list z3 n source code is long l e = (l.values, l.after_blocks, e.0, omega (arith, l.within, long), blocks_words p page below z list z3 code is l e.1)

pub copied_fits : (p : Parameters) (page : ℕ) (below : Option (List ℕ)) (z : List Bool) (list : List ℕ) (d copied : ℕ) → (l : Laid p page below z list) → l.outdegree ≡ d → length l.copied ≡ copied → copied ≤ d
copied_fits p page below z list d copied l d_is is = omega (arith, l.copied_fit, d_is, is)

-- ---- the interval count

interval_count_stands : (p : Parameters) (page : ℕ) (below : Option (List ℕ)) (z : List Bool) (list : List ℕ) (z4 : List Bool) (d copied w : ℕ) (b : Bool) → b ≡ (ltb 0 (d - copied) && ltb 0 w) → w ≡ p.interval
    → (l : Laid p page below z list) → l.outdegree ≡ d → (length l.copied ≡ copied) × (l.after_blocks ≡ z4) → MaybeWord b Gamma (length l.lefts) z4 l.after_interval_count
interval_count_stands p page below z list z4 d copied w b flag is l d_is e =
    let extra : l.outdegree - length l.copied ≡ d - copied = omega (arith, d_is, e.0) in
    same_maybe (ltb 0 (l.outdegree - length l.copied) && ltb 0 p.interval) b Gamma Gamma (length l.lefts) l.after_blocks z4 l.after_interval_count
    (flag ∙ ap (λ (k : ℕ). ltb 0 (d - copied) && ltb 0 k) is ∙ ap (λ (k : ℕ). ltb 0 k && ltb 0 p.interval) (sym extra)) refl e.1 l.interval_count_stands

pub interval_count_word : (p : Parameters) (page : ℕ) (below : Option (List ℕ)) (z : List Bool) (list : List ℕ) (z4 : List Bool) (d copied w : ℕ) (b : Bool) → b ≡ (ltb 0 (d - copied) && ltb 0 w) → w ≡ p.interval
    → (l : Laid p page below z list) → l.outdegree ≡ d → (length l.copied ≡ copied) × (l.after_blocks ≡ z4) → (v : ℕ) × (behind : List Bool) × MaybeWord b Gamma v z4 behind
interval_count_word p page below z list z4 d copied w b flag is l d_is e = (length l.lefts, l.after_interval_count, interval_count_stands p page below z list z4 d copied w b flag is l d_is e)

pub interval_count_read : (p : Parameters) (page : ℕ) (below : Option (List ℕ)) (z : List Bool) (list : List ℕ) (z4 z5 : List Bool) (d copied w i : ℕ) (b : Bool) → b ≡ (ltb 0 (d - copied) && ltb 0 w) → w ≡ p.interval → MaybeTakes b Gamma z4 z5 i
    → (l : Laid p page below z list) → l.outdegree ≡ d → (length l.copied ≡ copied) × (l.after_blocks ≡ z4) → (length l.lefts ≡ i) × (l.after_interval_count ≡ z5)
interval_count_read p page below z list z4 z5 d copied w i b flag is takes l d_is e = takes (length l.lefts) l.after_interval_count (interval_count_stands p page below z list z4 d copied w b flag is l d_is e)

-- ---- the intervals

pub intervals_words : (p : Parameters) (page : ℕ) (below : Option (List ℕ)) (z : List Bool) (list : List ℕ) (z5 : List Bool) (w : ℕ) → w ≡ p.interval → (l : Laid p page below z list) → l.after_interval_count ≡ z5 → IntervalsTo page w None l.lefts l.lengths z5 l.after_intervals
intervals_words p page below z list z5 w is l z5_is = subst (λ (x : List Bool). IntervalsTo page w None l.lefts l.lengths x l.after_intervals) z5_is (subst (λ (k : ℕ). IntervalsTo page k None l.lefts l.lengths l.after_interval_count l.after_intervals) (sym is) l.intervals_stand)

-- ---- the residuals

pub residuals_given : (p : Parameters) (page : ℕ) (below : Option (List ℕ)) (z : List Bool) (list : List ℕ) (z6 : List Bool) (d copied covered : ℕ) (code : Code) → code ≡ p.residuals → (l : Laid p page below z list) → l.outdegree ≡ d → length l.copied ≡ copied → (sum l.lengths ≡ covered) × (l.after_intervals ≡ z6)
    → (length l.residuals ≡ d - copied - covered) × ResidualsTo code page None l.residuals z6 l.behind
residuals_given p page below z list z6 d copied covered code is l d_is copied_is e =
    (omega (arith, l.residuals_fill, d_is, copied_is, e.0), subst (λ (x : List Bool). ResidualsTo code page None l.residuals x l.behind) e.1 (subst (λ (c : Code). ResidualsTo c page None l.residuals l.after_intervals l.behind) (sym is) l.residuals_stand))

-- ---- the fronts

pub some_source : (source : Option ℕ) (below : Option (List ℕ)) → source ≡ length_of below → is_some source ≡ is_some below
some_source source None is = ap is_some is
some_source source (Some list) is = ap is_some is

pub laid_parts : (p : Parameters) (page : ℕ) (below : Option (List ℕ)) (z : List Bool) (list : List ℕ) → Ascends 0 (list_or_none below) → (l : Laid p page below z list) → Parts l.copied (numbers_inside l.lefts l.lengths) l.residuals list
laid_parts p page below z list up l =
    let up_copied : Ascends 0 l.copied = subst (Ascends 0) (sym l.copied_is) (copied_ascend (blocks_of l.values) (list_or_none below) up) in
    parts_of page p.interval l.outdegree p.nodes l.copied l.lefts l.lengths l.residuals list p.residuals l.after_interval_count l.after_intervals l.behind up_copied l.intervals_stand l.residuals_stand l.copied_fit l.inside_fit l.residuals_fill l.members l.all
