-- The words of a record, put one after the other.
use Rattle.std.proofs.Common.{◌≡◌, ℕ, zero, suc, ◌+◌, ◌<◌, ◌≤◌, Bool, true, List, [], ◌∷◌, ◌++◌, length, map, take, drop, get_or, Ok, Err, sym, ap, ◌∙◌, arith}
use Rattle.std.proofs.lemmas.Bool.{and_parts, leb-true}
use Rattle.std.proofs.lemmas.List.{append-nil, map-append, take_more, take-append-drop}
use Rattle.std.proofs.lemmas.List.Concat.{flat_map-append}
use Rattle.wg_outside.specs.declared.depot.Depot as depot
use Rattle.wg_outside.specs.declared.depot.WriteError.{WriteError}
use Rattle.wg_bits.specs.Written.{Sends}
use Rattle.wg_bits.proofs.Sending.{Sent, sends_as, sends_then, sends_cut}
use Rattle.wg_codes.specs.Words.{word, top}
use Rattle.wg_encoder.specs.declared.held.HeldField.{HeldField}
use Rattle.wg_greedy.specs.Fields.{Written, bits_of_fields, all_have_words}
use Rattle.wg_encoder.specs.InMemory.{as_written}

abbrev pub bits_held : List HeldField → List Bool
bits_held hs = bits_of_fields (map as_written hs)

pub bits-append : (xs ys : List Written) → bits_of_fields (xs ++ ys) ≡ bits_of_fields xs ++ bits_of_fields ys
bits-append xs ys = flat_map-append (λ (f : Written). word f.code f.value) xs ys

bits_held-append : (xs ys : List HeldField) → bits_held (xs ++ ys) ≡ bits_held xs ++ bits_held ys
bits_held-append xs ys = ap bits_of_fields (map-append as_written xs ys) ∙ bits-append (map as_written xs) (map as_written ys)

one_held : (h : HeldField) → bits_held (h ∷ []) ≡ word h.code h.value
one_held h = append-nil (word h.code h.value)

-- one word more
pub one_more : (hs : List HeldField) (i : ℕ) (d : HeldField) → i < length hs → bits_held (take i hs) ++ word (get_or hs i d).code (get_or hs i d).value ≡ bits_held (take (i + 1) hs)
one_more hs i d lt = ap (λ z. bits_held (take i hs) ++ z) (sym (one_held (get_or hs i d))) ∙ sym (bits_held-append (take i hs) (get_or hs i d ∷ [])) ∙ ap bits_held (sym (take_more hs i d lt))

-- and those that follow
pub all_held : (hs : List HeldField) (i : ℕ) (d : HeldField) → i < length hs → (bits_held (take i hs) ++ word (get_or hs i d).code (get_or hs i d).value) ++ bits_held (drop (i + 1) hs) ≡ bits_held hs
all_held hs i d lt = ap (λ z. z ++ bits_held (drop (i + 1) hs)) (one_more hs i d lt) ∙ sym (bits_held-append (take (i + 1) hs) (drop (i + 1) hs)) ∙ ap bits_held (take-append-drop (i + 1) hs)

pub has_word : (hs : List HeldField) (i : ℕ) (d : HeldField) → i < length hs → all_have_words (map as_written hs) ≡ true → (get_or hs i d).value ≤ top (get_or hs i d).code
has_word [] i d lt all = absurd (omega arith)
has_word (h ∷ hs) zero d lt all = leb-true h.value (top h.code) (and_parts _ _ all).0
has_word (h ∷ hs) (suc i) d lt all = has_word hs i d (omega arith) (and_parts _ _ all).1

module _ {D : Type 0} (s : depot.Ghosts D) (a b c : D) (n : List ℕ) (w m x : List Bool) (hs : List HeldField) (i : ℕ) (d : HeldField) (lt : i < length hs) (sent : Sent s a b n w (bits_held (take i hs)) m) where
  -- one word more is on its way
  pub held_on : Sends {A = Unit {0}} s b c n m (word (get_or hs i d).code (get_or hs i d).value) x (Ok tt) → Sent s a c n w (bits_held (take (i + 1) hs)) x
  held_on word = sends_as s a c n w _ _ x _ (one_more hs i d lt) (sends_then s a b c n w _ m _ x tt _ sent word)

  -- a word is cut, and those that follow are missing
  pub held_cut : (e : WriteError) → Sends {A = Unit {0}} s b c n m (word (get_or hs i d).code (get_or hs i d).value) x (Err e) → Sends {A = Unit {0}} s a c n w (bits_held hs) x (Err e)
  held_cut e word = sends_as s a c n w _ _ x _ (all_held hs i d lt) (sends_cut s a c n w _ (bits_held (drop (i + 1) hs)) x x e (sends_then s a b c n w _ m _ x tt _ sent word))
