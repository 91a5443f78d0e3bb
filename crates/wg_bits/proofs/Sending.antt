-- Calls that send bits on their way, one after another.
use Rattle.std.proofs.Common.{◌≡◌, ◌∙◌, ℕ, ◌+◌, ◌-◌, ◌%◌, ◌≤◌, Bool, false, List, [], ◌++◌, length, ap, subst, Result, Ok, Err}
use Rattle.std.specs.Result.{IsErrAnd}
use Rattle.std.proofs.Math.ListN.{replicate}
use Rattle.std.proofs.lemmas.Result.{on_ok_weaker, on_err_weaker}
use Rattle.wg_outside.specs.declared.depot.Depot as depot
use Rattle.wg_outside.specs.declared.depot.WriteError.{WriteError}
use Rattle.wg_outside.proofs.FilesLemmas.{none_falls-refl}
use Rattle.wg_outside.proofs.RefusalLemmas.{file_done, file_after, file_exit}
use Rattle.wg_bits.specs.Bits.{low_bits, bits_of}
use Rattle.wg_bits.specs.Written.{Sends, padding}
use Rattle.wg_bits.proofs.Writes.{put_kept, put_behind, less_behind, put_trans, put_then_less, put_less_more, sent_then, less_then, flushed, less_flushed, finished, finished_less, less_padded, zeros_more, zeros_split}

-- all is on its way
abbrev pub Sent : {D : Type 0} → depot.Ghosts D → D → D → List ℕ → List Bool → List Bool → List Bool → Type 0
Sent d a b n w p x = Sends {A = Unit {0}} d a b n w p x (Ok tt)

pub sent : {D A : Type 0} (d : depot.Ghosts D) (a b : D) (n : List ℕ) (w p x : List Bool) (y : A) → Sends d a b n w p x (Ok y) → Sent d a b n w p x
sent d a b n w p x y h = record { ok = h.ok; err = λ t. tt; refusals = file_done _ _ _ _ h.refusals.later }

-- nothing goes out
pub sends_kept : {D A : Type 0} (d : depot.Ghosts D) (a : D) (n : List ℕ) (w p x : List Bool) (y : A) → x ≡ w ++ p → Sends d a a n w p x (Ok y)
sends_kept d a n w p x y e = record { ok = λ t. put_kept _ _ w p x e; err = λ t. tt; refusals = file_done _ _ _ _ (none_falls-refl _) }

-- what goes out may be named by equal bits
pub sends_as : {D A : Type 0} (d : depot.Ghosts D) (a b : D) (n : List ℕ) (w p q x : List Bool) (r : Result A WriteError) → p ≡ q → Sends d a b n w p x r → Sends d a b n w q x r
sends_as d a b n w p q x r e h = subst (λ (z : List Bool). Sends d a b n w z x r) e h

-- other bits went before
pub sends_then : {D A B : Type 0} (d : depot.Ghosts D) (a b c : D) (n : List ℕ) (w p m q x : List Bool) (y : A) (r : Result B WriteError)
    → Sends d a b n w p m (Ok y) → Sends d b c n m q x r → Sends d a c n w (p ++ q) x r
sends_then d a b c n w p m q x y r h k = record {
  ok = λ t. on_ok_weaker r (put_trans _ _ _ _ _ _ _ _ _ (h.ok t)) (k.ok t);
  err = λ t. on_err_weaker r (put_then_less _ _ _ _ _ _ _ _ (h.ok t)) (k.err t);
  refusals = file_after _ _ _ _ _ h.refusals.later k.refusals;
}

-- other bits would have followed
pub sends_cut : {D A : Type 0} (d : depot.Ghosts D) (a b : D) (n : List ℕ) (w p q m x : List Bool) (e : WriteError) → Sends {A = A} d a b n w p m (Err e) → Sends {A = A} d a b n w (p ++ q) x (Err e)
sends_cut d a b n w p q m x e h = record { ok = λ t. tt; err = λ t. put_less_more _ _ _ _ _ _ (h.err t); refusals = h.refusals }

-- the error that the exit of a `?` hands on
pub sends_exit : {D A B : Type 0} (d : depot.Ghosts D) (a b : D) (n : List ℕ) (w p m x : List Bool) (r : Result B WriteError) (e : WriteError) → IsErrAnd r (λ z. z ≡ e)
    → Sends {A = A} d a b n w p m (Err e) → Sends d a b n w p x r
sends_exit d a b n w p m x (Ok y) e is h = absurd is
sends_exit d a b n w p m x (Err z) e is h = record { ok = λ t. tt; err = h.err; refusals = file_exit _ _ _ _ _ is h.refusals }

-- with bits that stand behind what was put
pub sends_behind : {D A : Type 0} (d : depot.Ghosts D) (a b : D) (n : List ℕ) (w p x more put z : List Bool) (r : Result A WriteError) → more ++ put ≡ (w ++ p) ++ z
    → Sends d a b n w p x r → Sends d a b n more put (x ++ z) r
sends_behind d a b n w p x more put z r e h = record {
  ok = λ t. on_ok_weaker r (λ k. put_behind _ _ _ _ _ _ _ _ _ k e) (h.ok t);
  err = λ t. on_err_weaker r (λ k. less_behind _ _ _ _ _ _ _ _ k e) (h.err t);
  refusals = h.refusals;
}

-- ---- of a buffer

-- all bytes go out, the last of them just put
pub sends_all : {D A : Type 0} (d : depot.Ghosts D) (a b : D) (n old bytes none : List ℕ) (put : List Bool) (r : Result A WriteError) → bits_of bytes ≡ bits_of old ++ put → none ≡ []
    → Sends d a b n (bits_of bytes) [] [] r → Sends d a b n (bits_of old) put (bits_of none) r
sends_all d a b n old bytes none put r e nil h = record {
  ok = λ t. on_ok_weaker r (sent_then _ _ _ _ _ none _ e nil) (h.ok t);
  err = λ t. on_err_weaker r (less_then _ _ _ _ _ _ e) (h.err t);
  refusals = h.refusals;
}

-- all whole bytes go out
pub sends_flushed : {D A : Type 0} (d : depot.Ghosts D) (a b : D) (n bytes none : List ℕ) (fill part : ℕ) (waited : List Bool) (r : Result A WriteError) → bits_of bytes ++ low_bits fill part ≡ waited
    → none ≡ [] → Sends d a b n (bits_of bytes) [] [] r → Sends d a b n waited [] (bits_of none ++ low_bits fill part) r
sends_flushed d a b n bytes none fill part waited r e nil h = record {
  ok = λ t. on_ok_weaker r (flushed _ _ _ _ none _ _ _ e nil) (h.ok t);
  err = λ t. on_err_weaker r (less_flushed _ _ _ _ _ _ _ e) (h.err t);
  refusals = h.refusals;
}

-- ---- zeros

pub sends_zeros : {D A : Type 0} (d : depot.Ghosts D) (a b c : D) (n : List ℕ) (w m x : List Bool) (k s : ℕ) (y : A) → Sent d a b n w (replicate k false) m
    → Sends d b c n m (low_bits s 0) x (Ok y) → Sent d a c n w (replicate (k + s) false) x
sends_zeros d a b c n w m x k s y h g = sends_as d a c n w _ _ x _ (zeros_more k s) (sends_then d a b c n w _ m _ x _ _ h (sent d b c n m _ x y g))

pub sends_some_zeros : {D A : Type 0} (d : depot.Ghosts D) (a b c : D) (n : List ℕ) (w m x z : List Bool) (k s count : ℕ) (e : WriteError) → k + s ≤ count → Sent d a b n w (replicate k false) m
    → Sends {A = A} d b c n m (low_bits s 0) x (Err e) → Sends {A = A} d a c n w (replicate count false) z (Err e)
sends_some_zeros d a b c n w m x z k s count e l h g =
    sends_as d a c n w _ _ z _ (ap (λ z. z ++ replicate (count - (k + s)) false) (zeros_more k s) ∙ zeros_split (k + s) count l)
    (sends_cut d a c n w _ (replicate (count - (k + s)) false) x z e (sends_then d a b c n w _ m _ x _ _ h g))

-- ---- the end

-- the last bits go out, and nothing waits
pub sends_finished : {D A B : Type 0} (d : depot.Ghosts D) (a b c : D) (n : List ℕ) (w m x : List Bool) (pad : ℕ) (y : A) (r : Result B WriteError) → pad ≡ padding (length w)
    → Sends d a b n w (replicate pad false) m (Ok y) → Sends d b c n m [] x r → length x ≡ length m % 8 → Sends d a c n w (replicate (padding (length w)) false) [] r
sends_finished d a b c n w m x pad y r e h k short = record {
  ok = λ t. on_ok_weaker r (λ l. finished _ _ _ _ _ _ _ _ e (h.ok t) l short) (k.ok t);
  err = λ t. on_err_weaker r (finished_less _ _ _ _ _ _ _ e (h.ok t)) (k.err t);
  refusals = file_after _ _ _ _ _ h.refusals.later k.refusals;
}

pub sends_less_padded : {D A : Type 0} (d : depot.Ghosts D) (a b : D) (n : List ℕ) (w m x : List Bool) (pad : ℕ) (e : WriteError) → pad ≡ padding (length w)
    → Sends {A = A} d a b n w (replicate pad false) m (Err e) → Sends {A = A} d a b n w (replicate (padding (length w)) false) x (Err e)
sends_less_padded d a b n w m x pad e is h = record { ok = λ t. tt; err = λ t. less_padded _ _ _ _ _ is (h.err t); refusals = h.refusals }
