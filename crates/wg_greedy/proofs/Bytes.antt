-- The bits of bytes that were made of bits.
use Rattle.std.proofs.Common.{◌≡◌, ℕ, zero, suc, ◌+◌, ◌-◌, ◌*◌, ◌/◌, ◌%◌, ◌^◌, ◌<◌, ◌≤◌, Bool, true, false, cond}
use Rattle.std.proofs.Common.{List, [], ◌∷◌, ◌++◌, length, length-append, get_or, take, drop, map, replicate, refl, sym, ap, ◌∙◌, arith}
use Rattle.std.specs.Prelude.{fold}
use Rattle.std.specs.List.{range_with_len}
use Rattle.std.proofs.Math.Nat.{pow-suc}
use Rattle.std.proofs.Math.Pow.{pow_mono}
use Rattle.std.proofs.Math.Seq.{take-append-add}
use Rattle.std.proofs.lemmas.List.Elements.{All-map}
use Rattle.std.proofs.lemmas.List.{drop-drop, take-append-drop, take_all, length-take, length-take-le, length-drop, length-replicate}
use Rattle.wg_params.specs.Parameters.{Parameters}
use Rattle.wg_bits.specs.Bits.{low_bits, bits_of}
use Rattle.wg_bits.specs.Written.{padding}
use Rattle.wg_bits.proofs.Numbers.{number_of, number_of-lt, low_bits-number_of}
use Rattle.wg_bits.proofs.Writes.{padded}
use Rattle.wg_greedy.specs.Held.{AreBytes}
use Rattle.wg_greedy.specs.Archive.{graph_bits, offsets_bits, filled, spelled, bytes_of, graph_file, offsets_file}

spelled_from : (a : ℕ) (bits : List Bool) → fold (λ n b. 2 * n + cond b 1 0) a bits ≡ a * 2 ^ length bits + number_of bits
unfolding number_of
spelled_from a [] = omega arith
spelled_from a (true ∷ bs) = let p = pow-suc 2 (length bs) in omega (arith, spelled_from (2 * a + 1) bs, p, ap (λ q. a * q) p)
spelled_from a (false ∷ bs) = let p = pow-suc 2 (length bs) in omega (arith, spelled_from (2 * a + 0) bs, p, ap (λ q. a * q) p)

spelled_is : (bits : List Bool) → spelled bits ≡ number_of bits
spelled_is bits = spelled_from 0 bits ∙ omega arith

-- eight bits, as a byte
one_byte : (bits : List Bool) (n : ℕ) → length bits ≡ n → low_bits n (spelled bits) ≡ bits
one_byte bits n len = ap (λ k. low_bits k (spelled bits)) (sym len) ∙ ap (low_bits (length bits)) (spelled_is bits) ∙ low_bits-number_of bits

take_more_bits : (m n : ℕ) (bits : List Bool) → m ≤ length bits → take (m + n) bits ≡ take m bits ++ take n (drop m bits)
take_more_bits m n bits le =
    let len : length (take m bits) ≡ m = length-take-le m bits le in
    sym (ap (λ z. take (m + n) z) (take-append-drop m bits)) ∙ ap (λ k. take (k + n) (take m bits ++ drop m bits)) (sym len) ∙ take-append-add (take m bits) (drop m bits) n

abbrev byte_at : List Bool → ℕ → ℕ
byte_at bits i = spelled (take 8 (drop (8 * i) bits))

chunks : (n a : ℕ) (bits : List Bool) → 8 * (a + n) ≤ length bits → bits_of (map (byte_at bits) (range_with_len a n)) ≡ take (8 * n) (drop (8 * a) bits)
unfolding bits_of
chunks zero a bits le = refl
chunks (suc n) a bits le =
    let from : List Bool = drop (8 * a) bits in
    let left : length from ≡ length bits - 8 * a = length-drop (8 * a) bits in
    let here : low_bits 8 (byte_at bits a) ≡ take 8 from = one_byte (take 8 from) 8 (length-take-le 8 from (omega (arith, left))) in
    let later : drop (8 * (a + 1)) bits ≡ drop 8 from = ap (λ k. drop k bits) (let e : 8 * (a + 1) ≡ 8 * a + 8 = omega arith in e) ∙ sym (drop-drop 8 (8 * a) bits) in
    let rest : bits_of (map (byte_at bits) (range_with_len (a + 1) n)) ≡ take (8 * n) (drop 8 from) = chunks n (a + 1) bits (omega (arith, le)) ∙ ap (take (8 * n)) later in
    let whole : take (8 * suc n) from ≡ take 8 from ++ take (8 * n) (drop 8 from) =
    ap (λ k. take k from) (let e : 8 * suc n ≡ 8 + 8 * n = omega arith in e) ∙ take_more_bits 8 (8 * n) from (omega (arith, left)) in
    (λ i. here i ++ rest i) ∙ sym whole

filled_length : (bits : List Bool) → length (filled bits) % 8 ≡ 0
filled_length bits =
    ap (λ n. n % 8) (length-append bits (replicate (padding (length bits)) false) ∙ ap (λ k. length bits + k) (length-replicate (padding (length bits)) false)) ∙ padded (length bits)

pub bits_again : (bits : List Bool) → bits_of (bytes_of (filled bits)) ≡ filled bits
bits_again bits = grind (arith, take_all, chunks, filled_length)

low_byte : (bits : List Bool) → length bits ≤ 8 → spelled bits < 2 ^ 8
low_byte bits few = let up : 2 ^ length bits ≤ 2 ^ 8 = pow_mono few in omega (arith, spelled_is bits, number_of-lt bits, up)

byte_low : (bits : List Bool) (i : ℕ) → byte_at bits i < 2 ^ 8
byte_low bits i = low_byte (take 8 (drop (8 * i) bits)) (omega (arith, length-take 8 (drop (8 * i) bits)))

are_bytes : (bits : List Bool) → AreBytes (bytes_of bits)
are_bytes bits = All-map (λ b. b < 2 ^ 8) (byte_at bits) (range_with_len 0 (length bits / 8)) (λ k d lt. byte_low bits (get_or (range_with_len 0 (length bits / 8)) k d))

pub graph_again : (p : Parameters) (lists : List (List ℕ)) → bits_of (graph_file p lists) ≡ filled (graph_bits p lists)
unfolding graph_file
graph_again p lists = bits_again (graph_bits p lists)

pub offsets_again : (p : Parameters) (lists : List (List ℕ)) → bits_of (offsets_file p lists) ≡ filled (offsets_bits p lists)
unfolding offsets_file
offsets_again p lists = bits_again (offsets_bits p lists)

pub graph_bytes : (p : Parameters) (lists : List (List ℕ)) → AreBytes (graph_file p lists)
unfolding graph_file
graph_bytes p lists = are_bytes (filled (graph_bits p lists))

pub offsets_bytes : (p : Parameters) (lists : List (List ℕ)) → AreBytes (offsets_file p lists)
unfolding offsets_file
offsets_bytes p lists = are_bytes (filled (offsets_bits p lists))
