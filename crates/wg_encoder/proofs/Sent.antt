-- What a call of a writer leaves of its file, and of the others.
use Rattle.std.proofs.Common.{◌≡◌, ◌≢◌, ℕ, ◌^◌, ◌<◌, Bool, List, [], ◌++◌, length-append, append_assoc, sym, ap, ◌∙◌, arith}
use Rattle.std.specs.FinMap as fin
use Rattle.std.proofs.lemmas.List.{append-nil}
use Rattle.std.proofs.lemmas.List.Elements.{All-append}
use Rattle.wg_outside.specs.Outside.{Files}
use Rattle.wg_bits.specs.Bits.{bits_of}
use Rattle.wg_bits.specs.Written.{HasPut, HasPutLess}
use Rattle.wg_bits.proofs.Writes.{bits_of-append}
use Rattle.wg_greedy.specs.Held.{AreBytes, HoldsLess}
use Rattle.wg_greedy.proofs.Appended.{get_more, get_other}
use Rattle.wg_encoder.specs.Gone.{HasSent}
use Rattle.wg_encoder.proofs.Texts.{sent_less}

-- bits that went out between others
went : (sent out w p left bits : List Bool) → sent ++ w ≡ bits → w ++ p ≡ out ++ left → (sent ++ out) ++ left ≡ bits ++ p
went sent out w p left bits all more =
    append_assoc sent out left ∙ ap (λ z. sent ++ z) (sym more) ∙ sym (append_assoc sent w p) ∙ ap (λ z. z ++ p) all

pub sent_put : (a b : Files) (n : List ℕ) (w p x bits : List Bool) → HasPut a b n w p x → HasSent (fin.get a n) w bits → HasSent (fin.get b n) x (bits ++ p)
sent_put a b n w p x bits h s = record {
  sent = s.sent ++ h.out;
  there = ap (λ (f : Files). fin.get f n) h.files ∙ get_more a n s.sent h.out s.there;
  bytes = All-append (λ b. b < 2 ^ 8) s.sent h.out s.bytes h.bytes;
  all = ap (λ z. z ++ x) (bits_of-append s.sent h.out) ∙ went (bits_of s.sent) (bits_of h.out) w p x bits s.all h.bits;
}

-- what is left of the bits counts as waiting
sent_part : (a b : Files) (n : List ℕ) (w p bits : List Bool) → (h : HasPutLess a b n w p) → HasSent (fin.get a n) w bits → HasSent (fin.get b n) h.left (bits ++ p)
sent_part a b n w p bits h s = record {
  sent = s.sent ++ h.out;
  there = ap (λ (f : Files). fin.get f n) h.files ∙ get_more a n s.sent h.out s.there;
  bytes = All-append (λ b. b < 2 ^ 8) s.sent h.out s.bytes h.bytes;
  all = ap (λ z. z ++ h.left) (bits_of-append s.sent h.out) ∙ went (bits_of s.sent) (bits_of h.out) w p h.left bits s.all h.bits;
}

pub put_less : (a b : Files) (n : List ℕ) (w p bits rest : List Bool) (text : List ℕ) → HasPutLess a b n w p → HasSent (fin.get a n) w bits → AreBytes text → bits_of text ≡ (bits ++ p) ++ rest → HoldsLess (fin.get b n) text
put_less a b n w p bits rest text h s all e =
    let part = sent_part a b n w p bits h s in
    let gone : HasSent (fin.get b n) [] (bits_of part.sent) = record { sent = part.sent; there = part.there; bytes = part.bytes; all = append-nil (bits_of part.sent) } in
    sent_less (fin.get b n) [] (bits_of part.sent) (h.left ++ rest) text gone all (e ∙ ap (λ z. z ++ rest) (sym part.all) ∙ append_assoc (bits_of part.sent) h.left rest)
    (omega (arith, h.some, length-append h.left rest))

pub other_put : (a b : Files) (n q : List ℕ) (w p x : List Bool) → HasPut a b n w p x → q ≢ n → fin.get b q ≡ fin.get a q
other_put a b n q w p x h apart = ap (λ (f : Files). fin.get f q) h.files ∙ get_other a n h.out q apart

pub other_less : (a b : Files) (n q : List ℕ) (w p : List Bool) → HasPutLess a b n w p → q ≢ n → fin.get b q ≡ fin.get a q
other_less a b n q w p h apart = ap (λ (f : Files). fin.get f q) h.files ∙ get_other a n h.out q apart

pub sent_along : (a b : Files) (q : List ℕ) (w bits : List Bool) → fin.get b q ≡ fin.get a q → HasSent (fin.get a q) w bits → HasSent (fin.get b q) w bits
sent_along a b q w bits same s = record { sent = s.sent; there = same ∙ s.there; bytes = s.bytes; all = s.all }
