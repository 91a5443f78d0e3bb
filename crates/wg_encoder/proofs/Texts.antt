-- A text is known by its bits, and a front of it by a front of these.
use Rattle.std.proofs.Common.{◌≡◌, ℕ, ◌^◌, ◌<◌, ◌≤◌, Bool, List, [], ◌∷◌, ◌++◌, length, length-append, append_assoc, take, drop, refl, sym, ap, ◌∙◌, arith}
use Rattle.std.specs.Prelude.{Option, Some}
use Rattle.std.proofs.lemmas.List.{take_all}
use Rattle.std.proofs.lemmas.List.Elements.{All-head, All-tail}
use Rattle.wg_bits.specs.Bits.{low_bits, bits_of}
use Rattle.wg_bits.proofs.LowBits.{length-low_bits, low_bits-injective}
use Rattle.wg_bits.proofs.Words.{length-bits_of}
use Rattle.wg_greedy.specs.Held.{AreBytes, HoldsFront, HoldsLess}
use Rattle.wg_encoder.specs.Gone.{HasSent}

first_eight : (x t : ℕ) (u v : List Bool) → low_bits 8 t ++ u ≡ low_bits 8 x ++ v → (low_bits 8 t ≡ low_bits 8 x) × (u ≡ v)
unfolding low_bits
first_eight x t u v e = (ap (take 8) e, ap (drop 8) e)

front_is : (xs text : List ℕ) (zs : List Bool) → AreBytes xs → AreBytes text → bits_of text ≡ bits_of xs ++ zs → xs ≡ take (length xs) text
unfolding bits_of
front_is [] text zs low all e = refl
front_is (x ∷ xs) [] zs low all e =
    absurd (omega (arith, ap length e, length-append (low_bits 8 x ++ bits_of xs) zs, length-append (low_bits 8 x) (bits_of xs), length-low_bits 8 x))
front_is (x ∷ xs) (t ∷ ts) zs low all e =
    let both = first_eight x t (bits_of ts) (bits_of xs ++ zs) (e ∙ append_assoc (low_bits 8 x) (bits_of xs) zs) in
    let same : x ≡ t = low_bits-injective 8 x t (All-head (λ b. b < 2 ^ 8) x xs low) (All-head (λ b. b < 2 ^ 8) t ts all) (sym both.0) in
    let rest : xs ≡ take (length xs) ts = front_is xs ts zs (All-tail (λ b. b < 2 ^ 8) x xs low) (All-tail (λ b. b < 2 ^ 8) t ts all) both.1 in
    (λ i. same i ∷ rest i)

-- ---- a file, with what waits to go out

ahead : (sent w bits rest text : List Bool) → sent ++ w ≡ bits → text ≡ bits ++ rest → text ≡ sent ++ (w ++ rest)
ahead sent w bits rest text all e = e ∙ ap (λ z. z ++ rest) (sym all) ∙ append_assoc sent w rest

pub sent_front : (file : Option (List ℕ)) (w bits rest : List Bool) (text : List ℕ) → HasSent file w bits → AreBytes text → bits_of text ≡ bits ++ rest → HoldsFront file text
sent_front file w bits rest text s all e =
    (length s.sent, s.there ∙ ap Some (front_is s.sent text (w ++ rest) s.bytes all (ahead (bits_of s.sent) w bits rest (bits_of text) s.all e)))

pub sent_less : (file : Option (List ℕ)) (w bits rest : List Bool) (text : List ℕ) → HasSent file w bits → AreBytes text → bits_of text ≡ bits ++ rest → 0 < length rest → HoldsLess file text
sent_less file w bits rest text s all e some =
    let whole : bits_of text ≡ bits_of s.sent ++ (w ++ rest) = ahead (bits_of s.sent) w bits rest (bits_of text) s.all e in
    let short : length s.sent < length text =
    omega (arith, ap length whole, length-append (bits_of s.sent) (w ++ rest), length-append w rest, length-bits_of s.sent, length-bits_of text) in
    (length s.sent, short, s.there ∙ ap Some (front_is s.sent text (w ++ rest) s.bytes all whole))

pub sent_whole : (file : Option (List ℕ)) (bits : List Bool) (text : List ℕ) → HasSent file [] bits → AreBytes text → bits_of text ≡ bits → file ≡ Some text
sent_whole file bits text s all e =
    let whole : bits_of text ≡ bits_of s.sent ++ [] = e ∙ sym s.all in
    let long : length text ≤ length s.sent = omega (arith, ap length whole, length-append {A = Bool} (bits_of s.sent) [], length-bits_of s.sent, length-bits_of text) in
    s.there ∙ ap Some (front_is s.sent text [] s.bytes all whole ∙ take_all (length s.sent) text long)
