-- The words of a record as an iterator reads them at its beginning, and the fronts that it finds.
use Rattle.std.proofs.Common.{◌≡◌, ℕ, ◌-◌, ◌^◌, ◌≤◌, Bool, ltb, ◌&&◌, List, [], ◌∷◌, length, drop, Option, Some, None, refl, sym, ap, ◌∙◌}
use Rattle.std.specs.Prelude.{unwrap_or, is_some}
use Rattle.wg_params.specs.declared.code.Code.{Code}
use Rattle.wg_params.specs.declared.code.Code.TheVariants.{Gamma}
use Rattle.wg_params.specs.Parameters.{Parameters}
use Rattle.wg_bits.specs.Bits.{Position, rest}
use Rattle.wg_graph.specs.Copied.{copied_members, is_copied, at_positions}
use Rattle.wg_blocks.specs.Stored.{blocks_of, StandAt as WordsStand}
use Rattle.wg_decoder.specs.Proper.{IsRecord}
use Rattle.wg_decoder.specs.Proper.Laid.{MaybeWord, WordsTo, list_or_none, length_of, Laid}
use Rattle.wg_iterators.specs.Fields.{Standing}
use Rattle.wg_iterators.specs.Fronts.{copied_of}
use Rattle.wg_decoder.proofs.ProperLemmas.Beginning.{some_source}
use Rattle.wg_decoder.proofs.ProperLemmas.LaidOut.{laid_with}

pub words_stand : (c : Code) (vs : List ℕ) (z behind : List Bool) → WordsTo c vs z behind → WordsStand c vs z
words_stand c [] z behind h = tt
words_stand c (v ∷ vs) z behind h = (h.1.0, h.0, h.1.1, words_stand c vs h.0 behind h.2)

-- the length of the list below, and the members that a mask copies of it
pub source_long : (source : Option ℕ) (below : Option (List ℕ)) → source ≡ length_of below → unwrap_or source 0 ≡ length (list_or_none below)
source_long source None is = ap (λ (o : Option ℕ). unwrap_or o 0) is
source_long source (Some list) is = ap (λ (o : Option ℕ). unwrap_or o 0) is

all_members : (bs list : List ℕ) → at_positions (is_copied bs) 0 list ≡ copied_members bs list
unfolding copied_members
all_members bs list = refl

-- ---- what was read so far is what stands there

module _ {p : Parameters} {page : ℕ} {below : Option (List ℕ)} {bits : List Bool} {list : List ℕ} (l : Laid p page below bits list) where
  pub count_here : {source : Option ℕ} {b : Bool} {code : Code} {z : List Bool} → b ≡ is_some source → source ≡ length_of below
      → code ≡ p.block_counts → l.after_reference ≡ z → MaybeWord b code (length l.values) z l.after_count
  count_here flag long is on = rw (flag, some_source _ _ long, is, ← on) l.count_stands

  pub copied_front : {mask : List ℕ} → mask ≡ blocks_of l.values → copied_of mask (list_or_none below) ≡ l.copied
  copied_front is = rw is (all_members (blocks_of l.values) (list_or_none below)) ∙ sym l.copied_is

  pub interval_count_here : {extra w : ℕ} {z : List Bool} → l.outdegree - length l.copied ≡ extra → w ≡ p.interval
      → l.after_blocks ≡ z → MaybeWord (ltb 0 extra && ltb 0 w) Gamma (length l.lefts) z l.after_interval_count
  interval_count_here is least on = rw (← is, least, ← on) l.interval_count_stands

module _ {p : Parameters} {page : ℕ} {below : Option (List ℕ)} {position : Position} {list : List ℕ} (few : p.nodes ≤ 2 ^ 62) (h : IsRecord p page below position list) where
  abbrev pub standing_of : Standing p page
  standing_of = record { below = below; bits = rest position; list = list; laid = (laid_with p page below position list few h).laid }

  pub standing_behind : standing_of.laid.behind ≡ drop h.end position.bits
  standing_behind = (laid_with p page below position list few h).behind
