-- What is known of a list by what it has in common with another.
use Rattle.std.proofs.Common.{◌≡◌, ℕ, false, List, [], ◌∷◌, ◌++◌, length, drop, get_or, refl, sym, ap, ◌∙◌}
use Rattle.std.specs.Prelude.{None}
use Rattle.wg_params.specs.Parameters.{Parameters}
use Rattle.wg_graph.specs.Numbers.{is_in}
use Rattle.wg_blocks.specs.Canonical.{mask_of}
use Rattle.wg_intervals.specs.Canonical.{intervals_of, residuals_of}
use Rattle.wg_marks.specs.Masks.{mask_bits}
use Rattle.wg_marks.specs.Spans.{IsWithoutRows}
use Rattle.wg_greedy.specs.Fields.{has_some, count_fields, interval_fields, residual_fields, extra_fields}
use Rattle.wg_encoder.specs.Sharing.{shares}

-- no bit is set, so no number is shared
pub none_common : (list referenced : List ℕ) → mask_bits (length list) 0 ≡ mask_of referenced list → shares list referenced ≡ false
unfolding mask_bits
none_common [] referenced same = refl
none_common (y ∷ ys) referenced same =
    let here : is_in y referenced ≡ false = sym (ap (λ ms. get_or ms 0 false) same) in
    rw here (none_common ys referenced (ap (drop 1) same))

-- no four numbers follow each other, so all are residuals
pub without_rows : (p : Parameters) (page : ℕ) (xs : List ℕ) → p.interval ≡ 4 → IsWithoutRows xs
    → extra_fields p page xs ≡ (count_fields (has_some xs) 4 0 ++ []) ++ residual_fields p.residuals page None xs
without_rows p page xs is none =
    (λ i. (count_fields (has_some xs) (is i) (length (intervals_of (is i) xs)) ++ interval_fields page (is i) None (intervals_of (is i) xs)) ++ residual_fields p.residuals page None (residuals_of (is i) xs))
    ∙ (λ i. (count_fields (has_some xs) 4 (length (none.intervals i)) ++ interval_fields page 4 None (none.intervals i)) ++ residual_fields p.residuals page None (none.residuals i))
