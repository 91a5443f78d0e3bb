-- The end of the two files, once all pages are done.
use Rattle.std.proofs.Common.{◌≡◌, ◌≢◌, ℕ, ◌+◌, ◌-◌, ◌*◌, ◌%◌, Bool, false, List, [], ◌++◌, length, length-append, replicate, sym, ap, subst, ◌∙◌, inl, inr, arith}
use Rattle.std.specs.Prelude.{Option}
use Rattle.std.specs.FinMap as fin
use Rattle.std.proofs.lemmas.List.{append-nil}
use Rattle.wg_outside.specs.Outside.{Files}
use Rattle.wg_outside.specs.Suffixes.{graph_name, offsets_name}
use Rattle.wg_outside.proofs.SuffixLemmas.{graph_offsets}
use Rattle.wg_outside.specs.declared.output.Output.TheVariants as output
use Rattle.wg_bits.specs.Bits.{bits_of}
use Rattle.wg_bits.specs.Written.{HasPut, HasPutLess, padding}
use Rattle.wg_bits.proofs.Words.{length-bits_of}
use Rattle.wg_params.specs.Parameters.{Parameters}
use Rattle.wg_encoder.specs.declared.error.EncodeError.{EncodeError}
use Rattle.wg_greedy.specs.Archive.{graph_bits, offsets_bits, filled, graph_file, offsets_file}
use Rattle.wg_encoder.specs.Encoding.{Encoded, HasWritten}
use Rattle.wg_greedy.specs.Held.{HoldsFront, HoldsLess}
use Rattle.wg_encoder.specs.Gone.{HasSent, HasSentAll, HasAll, IsWritten, HasStopped, HasFailedOn}
use Rattle.wg_greedy.proofs.Bytes.{graph_again, offsets_again, graph_bytes, offsets_bytes}
use Rattle.wg_encoder.proofs.Texts.{sent_front, sent_whole}
use Rattle.wg_encoder.proofs.Sent.{sent_put, put_less, other_put, other_less, sent_along}
use Rattle.wg_encoder.proofs.Stopped.{next_word, words_put}

-- all that is missing to a whole byte
abbrev fill : List Bool → List Bool
fill bits = replicate (padding (length bits)) false

same_padding : (m n k : ℕ) → 8 * k + m ≡ n → padding m ≡ padding n
unfolding padding
same_padding m n k e = let r : m % 8 ≡ n % 8 = omega arith in ap (λ x. (8 - x) % 8) r

-- what waits lacks as much as all bits do
same_fill : (file : Option (List ℕ)) (w bits : List Bool) → HasSent file w bits → fill w ≡ fill bits
same_fill file w bits s =
    ap (λ k. replicate k false) (same_padding (length w) (length bits) (length s.sent) (omega (arith, ap length s.all, length-append (bits_of s.sent) w, length-bits_of s.sent)))

pub all_gone : (a b : Files) (base : List ℕ) (e begun view : Encoded) (lists : List (List ℕ)) → begun ≡ record e { offsets_waits = begun.offsets_waits } → view ≡ begun
    → HasPut a b (offsets_name base) e.offsets_waits (next_word e) begun.offsets_waits → HasWritten e lists → HasSentAll a base e lists → HasAll b base e.params lists view.graph_waits view.offsets_waits
all_gone a b base e begun view lists first same offset written h =
    let v : List Bool = begun.offsets_waits in
    subst (λ (x : Encoded). HasAll b base e.params lists x.graph_waits x.offsets_waits) (sym (same ∙ first))
    (record {
      records = sent_along a b (graph_name base) e.graph_waits _ (other_put a b (offsets_name base) (graph_name base) _ _ _ offset (graph_offsets base)) h.records;
      words = words_put a b base e lists v written offset h.words;
    })

-- a file that is filled up
filled_up : (a b : Files) (n : List ℕ) (w bits : List Bool) → HasPut a b n w (fill w) [] → HasSent (fin.get a n) w bits → HasSent (fin.get b n) [] (filled bits)
filled_up a b n w bits h s = subst (HasSent (fin.get b n) []) (ap (λ z. bits ++ z) (same_fill (fin.get a n) w bits s)) (sent_put a b n w (fill w) [] bits h s)

-- what a file lacks that is not filled up
less_filled : (a b : Files) (n : List ℕ) (w bits : List Bool) (text : List ℕ) → HasPutLess a b n w (fill w) → HasSent (fin.get a n) w bits → bits_of text ≡ filled bits → bits_of text ≡ (bits ++ fill w) ++ []
less_filled a b n w bits text h s e = e ∙ ap (λ z. bits ++ z) (sym (same_fill (fin.get a n) w bits s)) ∙ sym (append-nil (bits ++ fill w))

module _ (base : List ℕ) (p : Parameters) (lists : List (List ℕ)) (w v : List Bool) where
  abbrev g : List ℕ
  g = graph_name base

  abbrev o : List ℕ
  o = offsets_name base

  apart : o ≢ g
  apart same = graph_offsets base (sym same)

  pub finished : (b c d : Files) → HasPut b c g w (fill w) [] → HasPut c d o v (fill v) [] → HasAll b base p lists w v → IsWritten d base p lists
  finished b c d graph offsets h = (
    sent_whole (fin.get d g) (filled (graph_bits p lists)) (graph_file p lists)
        (sent_along c d g [] _ (other_put c d o g _ _ _ offsets (graph_offsets base)) (filled_up b c g w (graph_bits p lists) graph h.records)) (graph_bytes p lists) (graph_again p lists),
    sent_whole (fin.get d o) (filled (offsets_bits p lists)) (offsets_file p lists)
        (filled_up c d o v (offsets_bits p lists) offsets (sent_along b c o v _ (other_put b c g o _ _ _ graph apart) h.words)) (offsets_bytes p lists) (offsets_again p lists),
  )

  pub stopped_at_graph : (b c : Files) (old new : ℕ) (why : EncodeError) → HasPutLess b c g w (fill w) → HasFailedOn output.Graph old new why → HasAll b base p lists w v → HasStopped c base p lists why
  stopped_at_graph b c old new why less failed h =
      let graph : HoldsLess (fin.get c g) (graph_file p lists) =
      put_less b c g w (fill w) (graph_bits p lists) [] (graph_file p lists) less h.records (graph_bytes p lists) (less_filled b c g w (graph_bits p lists) (graph_file p lists) less h.records (graph_again p lists)) in
      let offsets : HoldsFront (fin.get c o) (offsets_file p lists) =
      sent_front (fin.get c o) v (offsets_bits p lists) (fill (offsets_bits p lists)) (offsets_file p lists) (sent_along b c o v _ (other_less b c g o _ _ less apart) h.words) (offsets_bytes p lists) (offsets_again p lists) in
      elim failed [
        | inl f ↦ subst (HasStopped c base p lists) (sym f.0) (graph, offsets)
        | inr m ↦ subst (HasStopped c base p lists) (sym m) (let both : HoldsLess (fin.get c g) (graph_file p lists) × HoldsFront (fin.get c o) (offsets_file p lists) = (graph, offsets) in inl both)
      ]

  pub stopped_at_offsets : (b c d : Files) (old new : ℕ) (why : EncodeError) → HasPut b c g w (fill w) [] → HasPutLess c d o v (fill v) → HasFailedOn output.Offsets old new why → HasAll b base p lists w v → HasStopped d base p lists why
  stopped_at_offsets b c d old new why put less failed h =
      let words = sent_along b c o v _ (other_put b c g o _ _ _ put apart) h.words in
      let graph : HoldsFront (fin.get d g) (graph_file p lists) =
      sent_front (fin.get d g) [] (filled (graph_bits p lists)) [] (graph_file p lists)
      (sent_along c d g [] _ (other_less c d o g _ _ less (graph_offsets base)) (filled_up b c g w (graph_bits p lists) put h.records)) (graph_bytes p lists) (graph_again p lists ∙ sym (append-nil (filled (graph_bits p lists)))) in
      let offsets : HoldsLess (fin.get d o) (offsets_file p lists) =
      put_less c d o v (fill v) (offsets_bits p lists) [] (offsets_file p lists) less words (offsets_bytes p lists) (less_filled c d o v (offsets_bits p lists) (offsets_file p lists) less words (offsets_again p lists)) in
      elim failed [
        | inl f ↦ subst (HasStopped d base p lists) (sym f.0) (graph, offsets)
        | inr m ↦ subst (HasStopped d base p lists) (sym m) (let both : HoldsFront (fin.get d g) (graph_file p lists) × HoldsLess (fin.get d o) (offsets_file p lists) = (graph, offsets) in inr both)
      ]
