-- There is one reading, and its records have these places and depths.
use Rattle.std.proofs.Common.{◌≡◌, ℕ, zero, suc, ◌+◌, ◌≤◌, Bool, List, [], ◌∷◌, length, map, Some, Ok, Result, refl, sym, ap, subst, ◌∙◌, arith}
use Rattle.std.specs.Prelude.{get_or}
use Rattle.wg_params.specs.Parameters.{Parameters, IsWithinLimits}
use Rattle.wg_grammar.specs.declared.fault.Fault.{Fault}
use Rattle.wg_grammar.specs.Record.{Whole}
use Rattle.wg_grammar.specs.Archive.{context_of, Pages}
use Rattle.wg_grammar.proofs.OneRecord.{record_one}
use Rattle.wg_grammar.proofs.Depths.{record_limited}
use Rattle.wg_stream.specs.AllRecords.{AllRecords, no_record, known_at, offset_at}
use Rattle.wg_stream.proofs.AllRecords.{all_records}

-- ---- there is one reading

ok_is : (v w : Whole) → (let x : Result Whole Fault = Ok v in x) ≡ Ok w → v ≡ w
ok_is v w e = cc

one_pages : (p : Parameters) → IsWithinLimits p → (bits : List Bool) (ws vs first l m : List Whole) (at e f : ℕ) → length ws ≡ length vs → Pages p bits first at ws l e
    → Pages p bits first at vs m f → ws ≡ vs
one_pages p limits bits [] [] first l m at e f same h k = refl
one_pages p limits bits [] (v ∷ vs) first l m at e f same h k = absurd (omega (arith, same))
one_pages p limits bits (w ∷ ws) [] first l m at e f same h k = absurd (omega (arith, same))
one_pages p limits bits (w ∷ ws) (v ∷ vs) first l m at e f same h k =
    let one : w ≡ v = ok_is w v (record_one p limits (context_of p first) bits at (Ok w) (Ok v) h.1 k.1) in
    let others : Pages p bits (w ∷ first) w.end vs m f = subst (λ (x : Whole). Pages p bits (x ∷ first) x.end vs m f) (sym one) k.2 in
    let rests : ws ≡ vs = one_pages p limits bits ws vs (w ∷ first) l m w.end e f (omega (arith, same)) h.2 others in
    ap (λ (x : Whole). x ∷ ws) one ∙ ap (λ (xs : List Whole). v ∷ xs) rests

pub one_reading : (p : Parameters) (bits : List Bool) → IsWithinLimits p → (r s : AllRecords p bits) → r.records ≡ s.records
one_reading p bits limits r s = one_pages p limits bits r.records s.records [] r.behind s.behind 0 r.end s.end (omega (arith, all_records p bits r, all_records p bits s)) r.pages s.pages

-- ---- how deep a page is

depth_within : (p : Parameters) (bits : List Bool) (first : List Whole) (at : ℕ) (ws last : List Whole) (end x limit : ℕ) → p.chain ≡ Some limit
    → Pages p bits first at ws last end → (known_at ws x).depth ≤ limit
depth_within p bits first at [] last end x limit has h = let none : (known_at [] x).depth ≡ 0 = refl in omega (arith, none)
depth_within p bits first at (w ∷ ws) last end zero limit has h = record_limited p (context_of p first) bits at limit w has h.1
depth_within p bits first at (w ∷ ws) last end (suc x) limit has h = depth_within p bits (w ∷ first) w.end ws last end x limit has h.2

-- no deeper than chains may be
pub depth_limited : (p : Parameters) (bits : List Bool) (r : AllRecords p bits) (x limit : ℕ) → p.chain ≡ Some limit → (known_at r.records x).depth ≤ limit
depth_limited p bits r x limit has = depth_within p bits [] 0 r.records r.behind r.end x limit has r.pages

-- so few records are read if as many are read as its chain has
pub few_opened : (p : Parameters) (bits : List Bool) (x from to : ℕ) → AllRecords p bits → ((r : AllRecords p bits) → to ≤ from + (known_at r.records x).depth + 1)
    → (limit : ℕ) → p.chain ≡ Some limit → to ≤ from + limit + 1
few_opened p bits x from to r most limit has = omega (arith, most r, depth_limited p bits r x limit has)

-- ---- the places

end_at : (ws : List Whole) (x : ℕ) → get_or (map (λ w. w.end) ws) x 0 ≡ (get_or ws x no_record).end
end_at [] x = refl
end_at (w ∷ ws) zero = refl
end_at (w ∷ ws) (suc x) = end_at ws x

places_at : (ws : List Whole) (x : ℕ) → get_or (0 ∷ map (λ w. w.end) ws) x 0 ≡ offset_at ws x
places_at ws zero = refl
places_at ws (suc x) = end_at ws x

pub offset_is : (places : List ℕ) (ws : List Whole) (x : ℕ) → places ≡ 0 ∷ map (λ w. w.end) ws → get_or places x 0 ≡ offset_at ws x
offset_is places ws x e = ap (λ (l : List ℕ). get_or l x 0) e ∙ places_at ws x
