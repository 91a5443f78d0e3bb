-- Intervals that are spelled bit by bit, and intervals of lists.
use Rattle.std.proofs.Common.{◌≡◌, [], ◌∷◌, drop, refl, lit≤}
use Rattle.std.specs.Prelude.{None}
use Rattle.wg_bits.specs.Bits.{low_bits, bits_of}
use Rattle.wg_codes.specs.Words.{first_where, highest, unary, gamma}
use Rattle.wg_intervals.specs.Stored.{IntervalsStandAt}
use Rattle.wg_intervals.specs.Canonical.{runs_of, intervals_of, residuals_of, ends_and_lengths}

-- 011 1 1 1, and two bits that belong to nothing
pub two_of_the_least_length : IntervalsStandAt 0 2 None 2 (bits_of (124 ∷ []))
unfolding bits_of low_bits gamma highest unary first_where
two_of_the_least_length =
    let bits = bits_of (124 ∷ []) in (
      1 ∷ 4 ∷ [],
      2 ∷ 2 ∷ [],
      refl,
      (
        drop 4 bits,
        record { v = 2; w = 0; between = drop 3 bits; left_word = (lit≤ tt, refl); length_word = (lit≤ tt, refl); left_is = refl; length_is = refl; left_low = lit≤ tt; low = lit≤ tt },
        (
          drop 6 bits,
          record {
            v = 0;
            w = 0;
            between = drop 5 bits;
            left_word = (lit≤ tt, refl);
            length_word = (lit≤ tt, refl);
            left_is = refl;
            length_is = refl;
            left_low = lit≤ tt;
            low = lit≤ tt;
          },
          tt,
        ),
      ),
    )

-- 00110 010
pub one_before_the_page : IntervalsStandAt 10 2 None 1 (bits_of (50 ∷ []))
unfolding bits_of low_bits gamma highest unary first_where
one_before_the_page =
    let bits = bits_of (50 ∷ []) in (
      7 ∷ [],
      3 ∷ [],
      refl,
      (
        drop 8 bits,
        record {
          v = 5;
          w = 1;
          between = drop 5 bits;
          left_word = (lit≤ tt, refl);
          length_word = (lit≤ tt, refl);
          left_is = refl;
          length_is = refl;
          left_low = lit≤ tt;
          low = lit≤ tt;
        },
        tt,
      ),
    )

-- 011 1 1 010 1 1, and six bits that belong to nothing
pub two_empty : IntervalsStandAt 0 0 None 3 (bits_of (122 ∷ 192 ∷ []))
unfolding bits_of low_bits gamma highest unary first_where
two_empty =
    let bits = bits_of (122 ∷ 192 ∷ []) in (
      1 ∷ 2 ∷ 4 ∷ [],
      0 ∷ 1 ∷ 0 ∷ [],
      refl,
      (
        drop 4 bits,
        record { v = 2; w = 0; between = drop 3 bits; left_word = (lit≤ tt, refl); length_word = (lit≤ tt, refl); left_is = refl; length_is = refl; left_low = lit≤ tt; low = lit≤ tt },
        (
          drop 8 bits,
          record { v = 0; w = 1; between = drop 5 bits; left_word = (lit≤ tt, refl); length_word = (lit≤ tt, refl); left_is = refl; length_is = refl; left_low = lit≤ tt; low = lit≤ tt },
          (
            drop 10 bits,
            record {
              v = 0;
              w = 0;
              between = drop 9 bits;
              left_word = (lit≤ tt, refl);
              length_word = (lit≤ tt, refl);
              left_is = refl;
              length_is = refl;
              left_low = lit≤ tt;
              low = lit≤ tt;
            },
            tt,
          ),
        ),
      ),
    )

-- two runs of just the least length
two_intervals : ends_and_lengths (intervals_of 2 (1 ∷ 2 ∷ 4 ∷ 5 ∷ [])) ≡ 1 ∷ 2 ∷ 4 ∷ 2 ∷ []
unfolding runs_of
two_intervals = refl

nothing_left : residuals_of 2 (1 ∷ 2 ∷ 4 ∷ 5 ∷ []) ≡ []
unfolding runs_of
nothing_left = refl

short_run_left : residuals_of 3 (0 ∷ 1 ∷ 2 ∷ 4 ∷ 5 ∷ 9 ∷ []) ≡ 4 ∷ 5 ∷ 9 ∷ []
unfolding runs_of
short_run_left = refl

no_intervals : residuals_of 0 (0 ∷ 1 ∷ 2 ∷ []) ≡ 0 ∷ 1 ∷ 2 ∷ []
unfolding runs_of
no_intervals = refl
