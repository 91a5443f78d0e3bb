-- No record is long: each word but those of the reference and of the block count has at most 2 ^ 8 bits, whatever the
-- value.
use Rattle.std.proofs.Common.{◌≡◌, ℕ, zero, suc, ◌+◌, ◌-◌, ◌*◌, ◌/◌, ◌^◌, ◌<◌, ◌≤◌, ltb, Bool, true, not, ◌&&◌, List, [], ◌∷◌, ◌++◌, length, length-append, map, sum, refl, ap, inl, inr, arith}
use Rattle.std.specs.Prelude.{filter, Option, Some, None}
use Rattle.std.proofs.Math.Nat.{div-mul-le_self, div-le_self}
use Rattle.std.proofs.lemmas.Bool.{cases_Bool}
use Rattle.wg_bits.specs.Bits.{low_bits}
use Rattle.wg_bits.proofs.LowBits.{length-low_bits}
use Rattle.wg_graph.specs.Numbers.{is_in}
use Rattle.wg_graph.specs.Ascending.{Ascends, Below}
use Rattle.wg_params.specs.declared.code.Code.{Code}
use Rattle.wg_params.specs.declared.code.Code.TheVariants.{Gamma}
use Rattle.wg_params.specs.Codes.{is_gamma_or_delta, is_unary_gamma_or_delta, is_residual_code}
use Rattle.wg_params.specs.Parameters.{Parameters, IsWithinLimits}
use Rattle.wg_params.proofs.FieldCodes.{two_codes, three_codes, four_codes}
use Rattle.wg_codes.specs.Words.{highest, gamma, delta, zeta, nibble, digits, shortened, word}
use Rattle.wg_codes.proofs.Highest.{highest_small}
use Rattle.wg_codes.proofs.UnaryWords.{length-unary}
use Rattle.wg_codes.proofs.Lengths.{length-gamma, length-delta}
use Rattle.wg_codes.proofs.ZetaWords.{zeta_span}
use Rattle.wg_blocks.specs.Canonical.{canonical_blocks}
use Rattle.wg_blocks.proofs.Alternate.{AllSome, LaterSome, end_within, later_some}
use Rattle.wg_graph.proofs.Copies.{sum_cons}
use Rattle.wg_intervals.specs.declared.run.Run.{Run}
use Rattle.wg_intervals.specs.Canonical.{runs_of, is_long, intervals_of, residuals_of}
use Rattle.wg_intervals.proofs.Maximal.{cut_of}
use Rattle.wg_intervals.proofs.Divided.{are_once}
use Rattle.wg_grammar.specs.declared.fault.Field.TheVariants as field
use Rattle.wg_greedy.specs.Fields.{Written, written, bits_of_fields, stored_blocks, stored_gap, count_fields, interval_fields}
use Rattle.wg_greedy.specs.Fields.{residual_fields, extras, has_some, extra_fields, reference_fields, copy_fields, list_fields, record_fields}
use Rattle.wg_greedy.proofs.Extra.{ascends-filter}
use Rattle.wg_greedy.proofs.NoReference.{cut_low, cut_few, few_where, short_list}

-- ---- words

pub gamma_short : (v : ℕ) → length (gamma v) ≤ 2 ^ 7
gamma_short v = omega (arith, length-gamma v (highest (v + 1)) refl, highest_small (v + 1))

delta_short : (v : ℕ) → length (delta v) ≤ 2 ^ 8
delta_short v = omega (arith, length-delta v (highest (v + 1)) refl, highest_small (v + 1), gamma_short (highest (v + 1)))

digits_short : (n v : ℕ) → length (digits n v) ≤ 4 * n
unfolding digits
digits_short zero v = omega arith
digits_short (suc zero) v = omega (arith, length-low_bits 3 v)
digits_short (suc (suc n)) v = omega (arith, length-append (low_bits 3 (v / 8 ^ suc n)) (digits (suc n) v), length-low_bits 3 (v / 8 ^ suc n), digits_short (suc n) v)

nibble_short : (v : ℕ) → length (nibble v) ≤ 2 ^ 8
unfolding nibble
nibble_short v = omega (arith, digits_short (highest v / 3 + 1) v, highest_small v)

shortened_short : (k h y : ℕ) → length (shortened k h y) ≤ h * k + k
shortened_short k h y = grind (arith, cases_Bool, length-low_bits)

zeta_short : (k v : ℕ) → k ≤ 31 → length (zeta k v) ≤ 2 ^ 8
zeta_short k v few =
    let h : ℕ = highest (v + 1) / k in
    omega (arith, zeta_span k h v refl, shortened_short k h (v + 1), div-mul-le_self (highest (v + 1)) k, div-le_self (highest (v + 1)) k, highest_small (v + 1))

-- outdegrees and blocks
pub outdegree_short : (code : Code) (v : ℕ) → is_gamma_or_delta code ≡ true → length (word code v) ≤ 2 ^ 8
outdegree_short code v is = two_codes (λ c. length (word c v) ≤ 2 ^ 8) code is (omega (arith, gamma_short v)) (delta_short v)

-- references and block counts
count_short : (code : Code) (v : ℕ) → is_unary_gamma_or_delta code ≡ true → length (word code v) ≤ 2 ^ 8 + v
count_short code v is =
    three_codes (λ c. length (word c v) ≤ 2 ^ 8 + v) code is (omega (arith, length-unary v)) (omega (arith, gamma_short v)) (omega (arith, delta_short v))

residual_short : (zeta : ℕ) (code : Code) (v : ℕ) → zeta ≤ 31 → is_residual_code zeta code ≡ true → length (word code v) ≤ 2 ^ 8
residual_short zeta code v few is =
    four_codes (λ c. length (word c v) ≤ 2 ^ 8) zeta code is (omega (arith, gamma_short v)) (delta_short v) (zeta_short zeta v few) (nibble_short v)

-- ---- fields

pub bits_both : (us vs : List Written) → length (bits_of_fields (us ++ vs)) ≡ length (bits_of_fields us) + length (bits_of_fields vs)
bits_both [] vs = omega arith
bits_both (u ∷ us) vs =
    omega (arith, length-append (word u.code u.value) (bits_of_fields (us ++ vs)), length-append (word u.code u.value) (bits_of_fields us), bits_both us vs)

pub bits_more : (u : Written) (us : List Written) → length (bits_of_fields (u ∷ us)) ≡ length (word u.code u.value) + length (bits_of_fields us)
bits_more u us = length-append (word u.code u.value) (bits_of_fields us)

pub intervals_short : (page least : ℕ) (past : Option ℕ) (rs : List Run) → length (bits_of_fields (interval_fields page least past rs)) ≤ 2 ^ 8 * length rs
intervals_short page least past [] = omega arith
intervals_short page least past (r ∷ rs) =
    let rest : List Written = interval_fields page least (Some (r.left + r.length)) rs in
    let left : Written = written field.Left Gamma (stored_gap page past r.left) in
    let size : Written = written field.Length Gamma (r.length - least) in
    omega (arith, bits_more left (size ∷ rest), bits_more size rest, gamma_short left.value, gamma_short size.value, intervals_short page least (Some (r.left + r.length)) rs)

pub residuals_short : (p : Parameters) (page : ℕ) (last : Option ℕ) (ys : List ℕ) → IsWithinLimits p → length (bits_of_fields (residual_fields p.residuals page last ys)) ≤ 2 ^ 8 * length ys
residuals_short p page last [] within = omega arith
residuals_short p page last (y ∷ ys) within =
    let rest : List Written = residual_fields p.residuals page (Some y) ys in
    omega (
      arith,
      bits_more (written field.Residual p.residuals (stored_gap page last y)) rest,
      residual_short p.zeta p.residuals (stored_gap page last y) within.zeta
          within.residuals,
      residuals_short p page (Some y) ys within,
    )

blocks_short : (p : Parameters) (vs : List ℕ) → IsWithinLimits p → length (bits_of_fields (map (written field.Block p.blocks) vs)) ≤ 2 ^ 8 * length vs
blocks_short p [] within = omega arith
blocks_short p (v ∷ vs) within =
    omega (arith, bits_more (written field.Block p.blocks v) (map (written field.Block p.blocks) vs), outdegree_short p.blocks v within.blocks, blocks_short p vs within)

count_bits : (found : Bool) (least count : ℕ) → length (bits_of_fields (count_fields found least count)) ≤ 2 ^ 8
count_bits found least count =
    elim (cases_Bool (found && ltb 0 least)) [
      | inl h ↦ rw h (omega (arith, bits_more (written field.IntervalCount Gamma count) [], gamma_short count))
      | inr h ↦ rw h (omega arith)
    ]

reference_bits : (p : Parameters) (r : ℕ) → IsWithinLimits p → length (bits_of_fields (reference_fields p r)) ≤ 2 ^ 8 + r
reference_bits p r within =
    elim (cases_Bool (ltb 0 p.window)) [
      | inl h ↦ rw h (omega (arith, bits_more (written field.Reference p.references r) [], count_short p.references r within.references))
      | inr h ↦ rw h (omega arith)
    ]

-- ---- how many there are

few_some : (bs : List ℕ) → AllSome bs → length bs ≤ sum bs
few_some [] some = omega arith
few_some (b ∷ bs) some = omega (arith, sum_cons b bs, some.0, few_some bs some.1)

pub few_blocks : (list referenced : List ℕ) → length (canonical_blocks list referenced) ≤ 1 + length referenced
few_blocks list referenced = grind (arith, end_within, later_some, LaterSome, sum_cons, few_some)

stored_as_many : (bs : List ℕ) → length (stored_blocks bs) ≡ length bs
stored_as_many [] = refl
stored_as_many (b ∷ bs) = ap suc (as_many bs)
  where
    as_many : (bs : List ℕ) → length (map (λ n. n - 1) bs) ≡ length bs
    as_many [] = refl
    as_many (b ∷ bs) = ap suc (as_many bs)

copies_short : (p : Parameters) (r : ℕ) (referenced list : List ℕ) → IsWithinLimits p → length (bits_of_fields (copy_fields p r referenced list)) ≤ 2 ^ 9 * (length referenced + 2)
copies_short p r referenced list within =
    let blocks : List ℕ = canonical_blocks list referenced in
    let stored : List Written = map (written field.Block p.blocks) (stored_blocks blocks) in
    elim (cases_Bool (ltb 0 r)) [
      | inl h ↦ rw h (omega (
        arith,
        bits_more (written field.BlockCount p.block_counts (length blocks)) stored,
        count_short p.block_counts (length blocks)
            within.block_counts,
        blocks_short p (stored_blocks blocks) within,
        stored_as_many blocks,
        few_blocks list referenced,
      ))
      | inr h ↦ rw h (omega arith)
    ]

pub below_filter : (t : ℕ → Bool) (n : ℕ) (xs : List ℕ) → Below n xs → Below n (filter t xs)
below_filter t n [] low = tt
below_filter t n (x ∷ xs) low = let rest = below_filter t n xs low.1 in elim (cases_Bool (t x)) [ inl h ↦ rw h (low.0, rest) | inr h ↦ rw h rest ]

others_short : (p : Parameters) (page n : ℕ) (xs : List ℕ) → IsWithinLimits p → Ascends 0 xs → Below n xs → length (bits_of_fields (extra_fields p page xs)) ≤ 2 ^ 9 * (n + 1)
others_short p page n xs within up low =
    let cut = cut_of 0 xs up in
    let counts : List Written = count_fields (has_some xs) p.interval (length (intervals_of p.interval xs)) in
    let intervals : List Written = interval_fields page p.interval None (intervals_of p.interval xs) in
    omega (
      arith,
      bits_both (counts ++ intervals) (residual_fields p.residuals page None (residuals_of p.interval xs)),
      bits_both counts intervals,
      count_bits (has_some xs) p.interval (length (intervals_of p.interval xs)),
      intervals_short page p.interval None (intervals_of p.interval xs),
      residuals_short p page None (residuals_of p.interval xs) within,
      (cut_few n 0 (runs_of xs) xs cut (cut_low n 0 (runs_of xs) xs cut low)),
      (few_where (is_long p.interval) (runs_of xs)),
      (are_once p.interval xs up),
      (short_list 0 n xs up low),
    )

list_short : (p : Parameters) (page r n : ℕ) (referenced list : List ℕ) → IsWithinLimits p → n ≤ 2 ^ 36 → r ≤ 2 ^ 36 → Ascends 0 list → Below n list
    → Ascends 0 referenced → Below n referenced → length (bits_of_fields (list_fields p page r referenced list)) ≤ 2 ^ 50
list_short p page r n referenced [] within few near up low up' low' = omega arith
list_short p page r n referenced (y ∷ ys) within few near up low up' low' =
    let list : List ℕ = y ∷ ys in
    let missing : ℕ → Bool = λ z. not (is_in z referenced) in
    omega (
      arith,
      bits_both (reference_fields p r ++ copy_fields p r referenced list) (extra_fields p page (extras list referenced)),
      bits_both (reference_fields p r) (copy_fields p r referenced list),
      reference_bits p r within,
      copies_short p r referenced list within,
      others_short p page n (extras list referenced) within (ascends-filter missing 0 list up) (below_filter missing n list low),
      short_list 0 n referenced up' low',
      few,
      near,
    )

pub record_short : (p : Parameters) (page r n : ℕ) (referenced list : List ℕ) → IsWithinLimits p → n ≤ 2 ^ 36 → r ≤ 2 ^ 36 → Ascends 0 list → Below n list → Ascends 0 referenced → Below n referenced
    → length (bits_of_fields (record_fields p page r referenced list)) < 2 ^ 63
unfolding record_fields
record_short p page r n referenced list within few near up low up' low' =
    omega (
      arith,
      bits_more (written field.Outdegree p.outdegrees (length list)) (list_fields p page r referenced list),
      outdegree_short p.outdegrees (length list) within.outdegrees,
      list_short p page r n referenced list within few near up low up' low',
    )
