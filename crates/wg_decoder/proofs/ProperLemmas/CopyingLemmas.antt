-- Members that are copied, block by block.
use Rattle.std.proofs.Common.{◌≡◌, ℕ, suc, ◌+◌, ◌%◌, ◌<◌, ◌≤◌, Bool, cond, eqb, List, [], ◌∷◌, ◌++◌, length, take, drop, refl, sym, ap, subst, ◌∙◌, arith}
use Rattle.std.specs.Prelude.{sum}
use Rattle.std.proofs.lemmas.Bool.{eq-eqb}
use Rattle.std.proofs.lemmas.List.{length_push, length-append, append_assoc, append-nil}
use Rattle.std.proofs.lemmas.List.Sums.{sum_by-append}
use Rattle.wg_params.specs.declared.code.Code.{Code}
use Rattle.wg_graph.specs.Copied.{is_copied, at_positions, copied_members}
use Rattle.wg_graph.proofs.Copies.{kept_more, copied_split, sum_push, sum_cons}
use Rattle.wg_blocks.specs.Stored.{blocks_of, blocks_after}
use Rattle.wg_codes.specs.Standing.{IsWord}
use Rattle.wg_decoder.specs.Proper.Joining.{Copying}
use Rattle.wg_decoder.specs.Proper.Laid.{WordsTo}
use Rattle.wg_decoder.proofs.ProperLemmas.Taking.{Takes, word_at, parts_on, fits_on, no_blocks}

pub copying_none : (code : Code) (count : ℕ) (members values : List ℕ) (behind : List Bool) (old : List ℕ) (z : List Bool) → length values ≡ count → WordsTo code values z behind → Copying code count members values behind old 0 0 old z
copying_none code count members values behind old z len stand = record {
  blocks = [];
  todo = values;
  count_done = refl;
  count_todo = omega (arith, len);
  parts = refl;
  stands = stand;
  total = refl;
  added = sym (append-nil old);
}

pub next_block : (code : Code) (count : ℕ) (members values : List ℕ) (behind : List Bool) (old : List ℕ) (index done : ℕ) (row : List ℕ) (z : List Bool) → index < count → Copying code count members values behind old index done row z → (v : ℕ) × (y : List Bool) × IsWord code v z y
next_block code count members values behind old index done row z lt h = word_at code count behind index z h.todo lt h.count_todo h.stands

fits_at : (code : Code) (count most : ℕ) (values : List ℕ) (behind : List Bool) (index : ℕ) (old new : List Bool) (stored b : ℕ) (blocks todo : List ℕ) → Takes code old new stored → b ≡ cond (eqb index 0) stored (stored + 1) → index < count
    → sum (blocks_of values) ≤ most → length todo + index ≡ count → blocks_of values ≡ blocks ++ blocks_after index todo → WordsTo code todo old behind → sum blocks + b ≤ most
fits_at code count most values behind index old new stored b blocks [] takes is lt total more parts stand = absurd (omega (arith, lt, more))
fits_at code count most values behind index old new stored b blocks (v ∷ vs) takes is lt total more parts stand =
    let e = takes v stand.0 stand.1 in
    fits_on values blocks (blocks_after (suc index) vs) most b (parts_on values blocks vs index v stored b parts e.0 is) total

-- it ends within the members
pub block_fits : (code : Code) (count : ℕ) (members values : List ℕ) (behind : List Bool) (old : List ℕ) (index done : ℕ) (row : List ℕ) (z new : List Bool) (stored b : ℕ) → Takes code z new stored → b ≡ cond (eqb index 0) stored (stored + 1) → index < count
    → sum (blocks_of values) ≤ length members → Copying code count members values behind old index done row z → done + b ≤ length members
block_fits code count members values behind old index done row z new stored b takes is lt total h =
    omega (arith, h.total, fits_at code count (length members) values behind index z new stored b h.blocks h.todo takes is lt total h.count_todo h.parts h.stands)

copied_at : (code : Code) (count : ℕ) (members values : List ℕ) (behind : List Bool) (old : List ℕ) (index done : ℕ) (row more : List ℕ) (z new : List Bool) (stored b : ℕ) (blocks todo : List ℕ) → Takes code z new stored → b ≡ cond (eqb index 0) stored (stored + 1) → index < count
    → done + b ≤ length members → more ≡ row ++ cond (eqb (index % 2) 0) (take b (drop done members)) []
    → length blocks ≡ index → length todo + index ≡ count → blocks_of values ≡ blocks ++ blocks_after index todo → WordsTo code todo z behind → sum blocks ≡ done → row ≡ old ++ at_positions (is_copied blocks) 0 (take done members)
    → Copying code count members values behind old (index + 1) (done + b) more new
copied_at code count members values behind old index done row more z new stored b blocks [] takes is lt fits more_is len todo parts stand total added = absurd (omega (arith, lt, todo))
copied_at code count members values behind old index done row more z new stored b blocks (v ∷ vs) takes is lt fits more_is len todo parts stand total added =
    let e = takes v stand.0 stand.1 in
    let parts_now : blocks_of values ≡ blocks ++ (b ∷ blocks_after (suc index) vs) = parts_on values blocks vs index v stored b parts e.0 is in
    let next : suc index ≡ index + 1 = omega arith in
    let run : List ℕ = cond (eqb (index % 2) 0) (take b (drop done members)) [] in
    let grown : at_positions (is_copied (blocks ++ b ∷ [])) 0 (take (done + b) members) ≡ at_positions (is_copied blocks) 0 (take done members) ++ run =
    rw (total, len) at (kept_more blocks members b (omega (arith, total, fits))) in
    record {
      blocks = blocks ++ b ∷ [];
      todo = vs;
      count_done = length_push blocks b ∙ ap (λ (k : ℕ). k + 1) len;
      count_todo = omega (arith, todo);
      parts = parts_now ∙ sym (append_assoc blocks (b ∷ []) (blocks_after (suc index) vs)) ∙ ap (λ (k : ℕ). (blocks ++ b ∷ []) ++ blocks_after k vs) next;
      stands = subst (λ (y : List Bool). WordsTo code vs y behind) e.1 stand.2;
      total = sum_push blocks b ∙ ap (λ (k : ℕ). k + b) total;
      added = more_is ∙ ap (λ (l : List ℕ). l ++ run) added ∙ append_assoc old (at_positions (is_copied blocks) 0 (take done members)) run ∙ ap (λ (l : List ℕ). old ++ l) (sym grown);
    }

-- one block more
pub block_copied : (code : Code) (count : ℕ) (members values : List ℕ) (behind : List Bool) (old : List ℕ) (index done : ℕ) (row more : List ℕ) (z new : List Bool) (stored b : ℕ) → Takes code z new stored → b ≡ cond (eqb index 0) stored (stored + 1) → index < count
    → done + b ≤ length members → more ≡ row ++ cond (eqb (index % 2) 0) (take b (drop done members)) [] → Copying code count members values behind old index done row z → Copying code count members values behind old (index + 1) (done + b) more new
block_copied code count members values behind old index done row more z new stored b takes is lt fits more_is h =
    copied_at code count members values behind old index done row more z new stored b h.blocks h.todo takes is lt fits more_is h.count_done h.count_todo h.parts h.stands h.total h.added

-- what the first blocks copy is the front of what all of them copy
front_fits : (rest blocks members : List ℕ) → sum (blocks ++ rest) ≤ length members → length (at_positions (is_copied blocks) 0 (take (sum blocks) members)) ≤ length (copied_members (blocks ++ rest) members)
front_fits [] blocks members fits =
    let whole : blocks ++ [] ≡ blocks = append-nil blocks in
    let front : List ℕ = at_positions (is_copied blocks) 0 (take (sum blocks) members) in
    let behind : List ℕ = cond (eqb (length blocks % 2) 0) (drop (sum blocks) members) [] in
    let split : copied_members blocks members ≡ front ++ behind = copied_split blocks members (sum blocks) (omega arith) (omega (arith, fits, ap (λ (bs : List ℕ). sum bs) whole)) in
    omega (arith, ap (λ (l : List ℕ). length l) split, length-append front behind, ap (λ (bs : List ℕ). length (copied_members bs members)) whole)
front_fits (b ∷ rest) blocks members fits =
    let more : blocks ++ (b ∷ rest) ≡ (blocks ++ b ∷ []) ++ rest = sym (append_assoc blocks (b ∷ []) rest) in
    let total : sum (blocks ++ b ∷ []) ≡ sum blocks + b = sum_push blocks b in
    let within : sum blocks + b ≤ length members = omega (arith, fits, sum_by-append (λ (e : ℕ). e) blocks (b ∷ rest), sum_cons b rest) in
    let front : List ℕ = at_positions (is_copied blocks) 0 (take (sum blocks) members) in
    let run : List ℕ = cond (eqb (length blocks % 2) 0) (take b (drop (sum blocks) members)) [] in
    let grown : at_positions (is_copied (blocks ++ b ∷ [])) 0 (take (sum blocks + b) members) ≡ front ++ run = kept_more blocks members b within in
    let later = front_fits rest (blocks ++ b ∷ []) members (omega (arith, fits, ap (λ (bs : List ℕ). sum bs) more)) in
    omega (arith, later, ap (λ (k : ℕ). length (at_positions (is_copied (blocks ++ b ∷ [])) 0 (take k members))) total, ap (λ (l : List ℕ). length l) grown, length-append front run, ap (λ (bs : List ℕ). length (copied_members bs members)) more)

-- so it has room
pub copying_fits : (code : Code) (count : ℕ) (members values : List ℕ) (behind : List Bool) (old : List ℕ) (index done : ℕ) (row : List ℕ) (z : List Bool) → sum (blocks_of values) ≤ length members → Copying code count members values behind old index done row z
    → length row ≤ length old + length (copied_members (blocks_of values) members)
copying_fits code count members values behind old index done row z fits h =
    let later = front_fits (blocks_after index h.todo) h.blocks members (omega (arith, fits, ap (λ (bs : List ℕ). sum bs) h.parts)) in
    omega (arith, later, ap (λ (l : List ℕ). length l) h.added, length-append old (at_positions (is_copied h.blocks) 0 (take done members)), ap (λ (k : ℕ). length (at_positions (is_copied h.blocks) 0 (take k members))) h.total, ap (λ (bs : List ℕ). length (copied_members bs members)) h.parts)

-- a run that is kept has its length
pub kept_long : (row run : List ℕ) (index n : ℕ) → length run ≡ n → index % 2 ≡ 0 → length row + n ≡ length (row ++ cond (eqb (index % 2) 0) run [])
kept_long row run index n long even = rw (eq-eqb (index % 2) 0 even) (omega (arith, length-append row run, long))

all_at : (code : Code) (count : ℕ) (members values : List ℕ) (behind : List Bool) (old : List ℕ) (index done : ℕ) (row more : List ℕ) (z : List Bool) (blocks todo : List ℕ) → index ≡ count → done ≤ length members → more ≡ row ++ cond (eqb (count % 2) 0) (drop done members) []
    → length blocks ≡ index → length todo + index ≡ count → blocks_of values ≡ blocks ++ blocks_after index todo → WordsTo code todo z behind → sum blocks ≡ done → row ≡ old ++ at_positions (is_copied blocks) 0 (take done members)
    → (more ≡ old ++ copied_members (blocks_of values) members) × (behind ≡ z)
all_at code count members values behind old index done row more z blocks (v ∷ vs) all fits more_is len todo parts stand total added = absurd (omega (arith, all, todo))
all_at code count members values behind old index done row more z blocks [] all fits more_is len todo parts stand total added =
    let rest : List ℕ = cond (eqb (count % 2) 0) (drop done members) [] in
    let whole : blocks_of values ≡ blocks = parts ∙ ap (λ (l : List ℕ). blocks ++ l) (no_blocks index) ∙ append-nil blocks in
    let split : copied_members blocks members ≡ at_positions (is_copied blocks) 0 (take done members) ++ rest = rw (len ∙ all) at (copied_split blocks members done (omega (arith, total)) fits) in
    (more_is ∙ ap (λ (l : List ℕ). l ++ rest) added ∙ append_assoc old (at_positions (is_copied blocks) 0 (take done members)) rest ∙ ap (λ (l : List ℕ). old ++ l) (sym split) ∙ ap (λ (bs : List ℕ). old ++ copied_members bs members) (sym whole), stand)

-- and what lies past the last
pub all_copied : (code : Code) (count : ℕ) (members values : List ℕ) (behind : List Bool) (old : List ℕ) (index done : ℕ) (row more : List ℕ) (z : List Bool) → index ≡ count → done ≤ length members → more ≡ row ++ cond (eqb (count % 2) 0) (drop done members) []
    → Copying code count members values behind old index done row z → (more ≡ old ++ copied_members (blocks_of values) members) × (behind ≡ z)
all_copied code count members values behind old index done row more z all fits more_is h =
    all_at code count members values behind old index done row more z h.blocks h.todo all fits more_is h.count_done h.count_todo h.parts h.stands h.total h.added
