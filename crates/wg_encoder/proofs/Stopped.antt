-- From list to list: what has gone out, and what stands in the files if the writing stops.
use Rattle.std.proofs.Common.{◌≡◌, ℕ, Bool, List, [], ◌∷◌, ◌++◌, length-append, append_assoc, refl, sym, ap, subst, ◌∙◌, inl, inr, arith}
use Rattle.std.specs.Prelude.{Some}
use Rattle.std.specs.FinMap as fin
use Rattle.std.proofs.lemmas.List.{append-nil}
use Rattle.std.proofs.lemmas.List.Elements.{All-nil}
use Rattle.wg_outside.specs.Outside.{Files}
use Rattle.wg_outside.specs.Suffixes.{graph_name, offsets_name}
use Rattle.wg_outside.proofs.SuffixLemmas.{graph_offsets}
use Rattle.wg_outside.specs.declared.output.Output.TheVariants as output
use Rattle.wg_bits.specs.Bits.{bits_of}
use Rattle.wg_bits.specs.Written.{HasPut, HasPutLess}
use Rattle.wg_codes.specs.Words.{word}
use Rattle.wg_codes.proofs.CodeLaws.{word_some}
use Rattle.wg_params.specs.Parameters.{Parameters}
use Rattle.wg_grammar.specs.Context.{Context}
use Rattle.wg_encoder.specs.declared.error.EncodeError.{EncodeError}
use Rattle.wg_encoder.specs.declared.error.EncodeError.TheVariants as error
use Rattle.wg_encoder.specs.declared.choice.Choice.{Choice}
use Rattle.wg_greedy.specs.Fields.{Written, bits_of_fields}
use Rattle.wg_greedy.specs.Greedy.{canonical, chosen}
use Rattle.wg_greedy.specs.Archive.{graph_bits, graph_file, offsets_bits, offsets_file}
use Rattle.wg_encoder.specs.Encoding.{Encoded, due_offset, encoded_on, words_before, HasWritten, IsChosen}
use Rattle.wg_greedy.specs.Held.{HoldsFront, HoldsLess}
use Rattle.wg_encoder.specs.Gone.{HasSent, HasSentLists, HasSentAll, HasStopped, HasFailedOn}
use Rattle.wg_greedy.proofs.Bytes.{graph_bytes, offsets_bytes}
use Rattle.wg_encoder.proofs.Texts.{sent_front, sent_less}
use Rattle.wg_encoder.proofs.Sent.{sent_put, put_less, other_put, other_less, sent_along}
use Rattle.wg_encoder.proofs.Pages.{graph_more, words_whole, words_more, graph_rest, offsets_rest, graph_from, offsets_from}

-- before the first list, over empty files
begun_empty : (p : Parameters) (files : Files) (base : List ℕ) → fin.get files (graph_name base) ≡ Some [] → fin.get files (offsets_name base) ≡ Some [] → HasSentLists files base p [] [] []
unfolding bits_of
begun_empty p files base graph offsets = record {
  records = record { sent = []; there = graph; bytes = All-nil _; all = refl };
  words = record { sent = []; there = offsets; bytes = All-nil _; all = refl };
}

pub begun : (p : Parameters) (files : Files) (base : List ℕ) (w v : List Bool) → w ≡ [] → v ≡ [] → fin.get files (graph_name base) ≡ Some [] → fin.get files (offsets_name base) ≡ Some [] → HasSentLists files base p [] w v
begun p files base w v none none' graph offsets =
    subst (λ x. HasSentLists files base p [] w x) (sym none') (subst (λ x. HasSentLists files base p [] x []) (sym none) (begun_empty p files base graph offsets))

-- the word of the offsets file that is put with the next record
abbrev pub next_word : Encoded → List Bool
next_word e = word e.params.offsets e.last

-- the next word is put, by the name that a call has of the file, and by the encoder as it was
pub word_put : (a b : Files) (base name : List ℕ) (e v : Encoded) (x : List Bool) → v ≡ e → name ≡ offsets_name base → HasPut a b name v.offsets_waits (next_word v) x → HasPut a b (offsets_name base) e.offsets_waits (next_word e) x
word_put a b base name e v x same is h =
    subst (λ (y : Encoded). HasPut a b (offsets_name base) y.offsets_waits (next_word y) x) same (subst (λ n. HasPut a b n v.offsets_waits (next_word v) x) is h)

pub word_less : (a b : Files) (base name : List ℕ) (e v : Encoded) → v ≡ e → name ≡ offsets_name base → HasPutLess a b name v.offsets_waits (next_word v) → HasPutLess a b (offsets_name base) e.offsets_waits (next_word e)
word_less a b base name e v same is h =
    subst (λ (y : Encoded). HasPutLess a b (offsets_name base) y.offsets_waits (next_word y)) same (subst (λ n. HasPutLess a b n v.offsets_waits (next_word v)) is h)

-- with it all words of these lists are there
words_here : (e : Encoded) (lists : List (List ℕ)) → HasWritten e lists → words_before e.params lists ++ next_word e ≡ offsets_bits e.params lists
words_here e lists written = ap (λ n. words_before e.params lists ++ word e.params.offsets n) written.is_last ∙ sym (words_whole e.params lists)

pub words_put : (a b : Files) (base : List ℕ) (e : Encoded) (lists : List (List ℕ)) (v : List Bool) → HasWritten e lists → HasPut a b (offsets_name base) e.offsets_waits (next_word e) v
    → HasSent (fin.get a (offsets_name base)) e.offsets_waits (words_before e.params lists) → HasSent (fin.get b (offsets_name base)) v (offsets_bits e.params lists)
words_put a b base e lists v written offset h = subst (HasSent (fin.get b (offsets_name base)) v) (words_here e lists written) (sent_put a b (offsets_name base) e.offsets_waits (next_word e) v _ offset h)

-- the record that was made of a list
abbrev pub IsMade : Encoded → List ℕ → Choice → List Written → Type 0
IsMade e list choice made = made ≡ canonical e.params e.next list choice.reference

made_bits : (e : Encoded) (lists : List (List ℕ)) (list : List ℕ) (choice : Choice) (made : List Written) → HasWritten e lists → IsChosen e.params e.next list choice → IsMade e list choice made
    → graph_bits e.params lists ++ bits_of_fields made ≡ graph_bits e.params (lists ++ list ∷ [])
made_bits e lists list choice made written is makes =
    ap (λ (fields : List Written). graph_bits e.params lists ++ bits_of_fields fields) (makes ∙ ap (canonical e.params e.next list) is.0 ∙ ap (λ (c : Context). chosen_fields c) written.context)
    ∙ sym (graph_more e.params lists list)
  where
    chosen_fields : Context → List Written
    chosen_fields c = canonical e.params c list (chosen e.params c list)

-- ---- the next list

-- the word that is due went out, and then the record of the list
module _ (a b c : Files) (base : List ℕ) (e : Encoded) (lists : List (List ℕ)) (list : List ℕ) (choice : Choice) (made : List Written) (v : List Bool)
    (written : HasWritten e lists) (is : IsChosen e.params e.next list choice) (makes : IsMade e list choice made) (offset : HasPut a b (offsets_name base) e.offsets_waits (next_word e) v) (h : HasSentAll a base e lists) where
  words_there : HasSent (fin.get b (offsets_name base)) v (offsets_bits e.params lists)
  words_there = words_put a b base e lists v written offset h.words

  records_there : HasSent (fin.get b (graph_name base)) e.graph_waits (graph_bits e.params lists)
  records_there = sent_along a b (graph_name base) e.graph_waits _ (other_put a b (offsets_name base) (graph_name base) _ _ _ offset (graph_offsets base)) h.records

  pub gone_on : (w : List Bool) → HasPut b c (graph_name base) e.graph_waits (bits_of_fields made) w → HasSentLists c base e.params (lists ++ list ∷ []) w v
  gone_on w put = record {
    records = subst (HasSent (fin.get c (graph_name base)) w) (made_bits e lists list choice made written is makes) (sent_put b c (graph_name base) e.graph_waits (bits_of_fields made) w _ put records_there);
    words = subst (HasSent (fin.get c (offsets_name base)) v) (sym (words_more e.params lists list)) (sent_along b c (offsets_name base) v _ (other_put b c (graph_name base) (offsets_name base) _ _ _ put (λ same. graph_offsets base (sym same))) words_there);
  }

  pub stopped_on_graph : (more : List (List ℕ)) (old new : ℕ) (why : EncodeError) → HasPutLess b c (graph_name base) e.graph_waits (bits_of_fields made) → HasFailedOn output.Graph old new why → HasStopped c base e.params (lists ++ list ∷ more) why
  stopped_on_graph more old new why less failed =
      let p : Parameters = e.params in
      let all : List (List ℕ) = lists ++ list ∷ more in
      let offsets : HoldsFront (fin.get c (offsets_name base)) (offsets_file p all) =
      sent_front _ _ _ (offsets_rest p lists (list ∷ more)) (offsets_file p all) (sent_along b c (offsets_name base) v _ (other_less b c (graph_name base) (offsets_name base) _ _ less (λ same. graph_offsets base (sym same))) words_there) (offsets_bytes p all) (offsets_from p lists (list ∷ more)) in
      let here : bits_of (graph_file p all) ≡ (graph_bits p lists ++ bits_of_fields made) ++ graph_rest p (lists ++ list ∷ []) more =
      ap (λ ls. bits_of (graph_file p ls)) (sym (append_assoc lists (list ∷ []) more)) ∙ graph_from p (lists ++ list ∷ []) more
      ∙ ap (λ z. z ++ graph_rest p (lists ++ list ∷ []) more) (sym (made_bits e lists list choice made written is makes)) in
      let graph : HoldsLess (fin.get c (graph_name base)) (graph_file p all) =
      put_less b c (graph_name base) e.graph_waits (bits_of_fields made) _ (graph_rest p (lists ++ list ∷ []) more) (graph_file p all) less records_there (graph_bytes p all) here in
      elim failed [
        | inl f ↦ subst (HasStopped c base p all) (sym f.0) (graph, offsets)
        | inr m ↦
            subst (HasStopped c base p all) (sym m) (let both : HoldsLess (fin.get c (graph_name base)) (graph_file p all) × HoldsFront (fin.get c (offsets_name base)) (offsets_file p all) = (graph, offsets) in inl both)
      ]

-- ---- step after step

waits_same : (e begun : Encoded) → begun ≡ record e { offsets_waits = begun.offsets_waits } → begun.graph_waits ≡ e.graph_waits
waits_same e begun same = ap (λ (x : Encoded). x.graph_waits) same

pub next_on : (e begun put done : Encoded) (list : List ℕ) → begun ≡ record e { offsets_waits = begun.offsets_waits } → put ≡ record begun { graph_waits = put.graph_waits } → done ≡ encoded_on put list put.graph_waits put.offsets_waits
    → done ≡ encoded_on e list done.graph_waits done.offsets_waits
next_on e begun put done list first second third =
    let w : List Bool = put.graph_waits in
    let v : List Bool = begun.offsets_waits in
    let is : put ≡ record e { graph_waits = w; offsets_waits = v } = second ∙ ap (λ (x : Encoded). record x { graph_waits = w }) first in
    let on : done ≡ encoded_on e list w v = third ∙ ap (λ (x : Encoded). encoded_on x list x.graph_waits x.offsets_waits) is in
    on ∙ (λ i. encoded_on e list (sym on i).graph_waits (sym on i).offsets_waits)

pub next_gone : (a b c : Files) (base : List ℕ) (e begun put done : Encoded) (lists : List (List ℕ)) (list : List ℕ) (choice : Choice) (made : List Written) → IsChosen e.params e.next list choice → IsMade e list choice made
    → begun ≡ record e { offsets_waits = begun.offsets_waits } → put ≡ record begun { graph_waits = put.graph_waits } → done ≡ encoded_on put list put.graph_waits put.offsets_waits
    → HasPut a b (offsets_name base) e.offsets_waits (next_word e) begun.offsets_waits → HasPut b c (graph_name base) begun.graph_waits (bits_of_fields made) put.graph_waits → HasWritten e lists → HasSentAll a base e lists
    → HasSentAll c base done (lists ++ list ∷ [])
next_gone a b c base e begun put done lists list choice made is makes first second third offset record_put written h =
    let w : List Bool = put.graph_waits in
    let v : List Bool = begun.offsets_waits in
    let on : put ≡ record e { graph_waits = w; offsets_waits = v } = second ∙ ap (λ (x : Encoded). record x { graph_waits = w }) first in
    subst (λ (x : Encoded). HasSentAll c base x (lists ++ list ∷ [])) (sym (third ∙ ap (λ (x : Encoded). encoded_on x list x.graph_waits x.offsets_waits) on))
    (gone_on a b c base e lists list choice made v written is makes offset h w (subst (λ ws. HasPut b c (graph_name base) ws (bits_of_fields made) w) (waits_same e begun first) record_put))

pub next_stopped_on_graph : (a b c : Files) (base : List ℕ) (e begun : Encoded) (lists more : List (List ℕ)) (list : List ℕ) (choice : Choice) (made : List Written) (old new : ℕ) (why : EncodeError) → IsChosen e.params e.next list choice → IsMade e list choice made
    → begun ≡ record e { offsets_waits = begun.offsets_waits } → HasPut a b (offsets_name base) e.offsets_waits (next_word e) begun.offsets_waits
    → HasPutLess b c (graph_name base) begun.graph_waits (bits_of_fields made) → HasFailedOn output.Graph old new why → HasWritten e lists → HasSentAll a base e lists → HasStopped c base e.params (lists ++ list ∷ more) why
next_stopped_on_graph a b c base e begun lists more list choice made old new why is makes first offset less failed written h =
    stopped_on_graph a b c base e lists list choice made begun.offsets_waits written is makes offset h more old new why (subst (λ ws. HasPutLess b c (graph_name base) ws (bits_of_fields made)) (waits_same e begun first) less) failed

-- ---- where the writing stops

-- the word that is due is missing
pub stands : (files : Files) (base : List ℕ) (p : Parameters) (lists more : List (List ℕ)) (w v : List Bool) → HasSentLists files base p lists w v
    → HoldsFront (fin.get files (graph_name base)) (graph_file p (lists ++ more)) × HoldsLess (fin.get files (offsets_name base)) (offsets_file p (lists ++ more))
stands files base p lists more w v h =
    let due : List Bool = word p.offsets (due_offset p lists) in
    let rest : List Bool = offsets_rest p lists more in (
      sent_front _ _ _ (graph_rest p lists more) (graph_file p (lists ++ more)) h.records (graph_bytes p (lists ++ more)) (graph_from p lists more),
      sent_less _ _ _ (due ++ rest) (offsets_file p (lists ++ more)) h.words (offsets_bytes p (lists ++ more))
          (offsets_from p lists more ∙ ap (λ z. z ++ rest) (words_whole p lists) ∙ append_assoc (words_before p lists) due rest) (omega (arith, word_some p.offsets (due_offset p lists), length-append due rest)),
    )

pub stopped_there : (files : Files) (base : List ℕ) (p : Parameters) (lists more : List (List ℕ)) (w v : List Bool) (why : EncodeError) → HasSentLists files base p lists w v → why ≡ error.Memory → HasStopped files base p (lists ++ more) why
stopped_there files base p lists more w v why h is = subst (HasStopped files base p (lists ++ more)) (sym is) (let both = stands files base p lists more w v h in inr both)

pub stopped_by_memory : (files : Files) (base : List ℕ) (e : Encoded) (lists more : List (List ℕ)) (why : EncodeError) → HasSentAll files base e lists → why ≡ error.Memory → HasStopped files base e.params (lists ++ more) why
stopped_by_memory files base e lists more why h is = stopped_there files base e.params lists more e.graph_waits e.offsets_waits why h is

pub next_stopped_by_memory : (a b c : Files) (base : List ℕ) (e begun put : Encoded) (lists more : List (List ℕ)) (list : List ℕ) (choice : Choice) (made : List Written) (why : EncodeError) → IsChosen e.params e.next list choice → IsMade e list choice made
    → begun ≡ record e { offsets_waits = begun.offsets_waits } → HasPut a b (offsets_name base) e.offsets_waits (next_word e) begun.offsets_waits → HasPut b c (graph_name base) begun.graph_waits (bits_of_fields made) put.graph_waits
    → HasWritten e lists → HasSentAll a base e lists → why ≡ error.Memory → HasStopped c base e.params (lists ++ list ∷ more) why
next_stopped_by_memory a b c base e begun put lists more list choice made why is makes first offset record_put written h memory =
    let w : List Bool = put.graph_waits in
    subst (λ ls. HasStopped c base e.params ls why) (append_assoc lists (list ∷ []) more)
    (stopped_there c base e.params (lists ++ list ∷ []) more w begun.offsets_waits why
    (gone_on a b c base e lists list choice made begun.offsets_waits written is makes offset h w (subst (λ ws. HasPut b c (graph_name base) ws (bits_of_fields made) w) (waits_same e begun first) record_put)) memory)

pub stopped_on_offsets : (a b : Files) (base : List ℕ) (e : Encoded) (lists more : List (List ℕ)) (old new : ℕ) (why : EncodeError) → HasPutLess a b (offsets_name base) e.offsets_waits (next_word e) → HasFailedOn output.Offsets old new why
    → HasWritten e lists → HasSentAll a base e lists → HasStopped b base e.params (lists ++ more) why
stopped_on_offsets a b base e lists more old new why less failed written h =
    let p : Parameters = e.params in
    let all : List (List ℕ) = lists ++ more in
    let graph : HoldsFront (fin.get b (graph_name base)) (graph_file p all) =
    sent_front _ _ _ (graph_rest p lists more) (graph_file p all) (sent_along a b (graph_name base) e.graph_waits _ (other_less a b (offsets_name base) (graph_name base) _ _ less (graph_offsets base)) h.records) (graph_bytes p all) (graph_from p lists more) in
    let offsets : HoldsLess (fin.get b (offsets_name base)) (offsets_file p all) =
    put_less a b (offsets_name base) e.offsets_waits (next_word e) _ (offsets_rest p lists more) (offsets_file p all) less h.words (offsets_bytes p all)
    (offsets_from p lists more ∙ ap (λ z. z ++ offsets_rest p lists more) (sym (words_here e lists written))) in
    elim failed [
      | inl f ↦ subst (HasStopped b base p all) (sym f.0) (graph, offsets)
      | inr m ↦
          subst (HasStopped b base p all) (sym m) (let both : HoldsFront (fin.get b (graph_name base)) (graph_file p all) × HoldsLess (fin.get b (offsets_name base)) (offsets_file p all) = (graph, offsets) in inr both)
    ]

-- memory ran out, and no list follows
pub all_stopped_by_memory : (files : Files) (base : List ℕ) (e : Encoded) (lists : List (List ℕ)) (why : EncodeError) → HasSentAll files base e lists → why ≡ error.Memory → HasStopped files base e.params lists why
all_stopped_by_memory files base e lists why h is = subst (λ ls. HasStopped files base e.params ls why) (append-nil lists) (stopped_by_memory files base e lists [] why h is)

pub all_stopped_on_offsets : (a b : Files) (base : List ℕ) (e : Encoded) (lists : List (List ℕ)) (old new : ℕ) (why : EncodeError) → HasPutLess a b (offsets_name base) e.offsets_waits (next_word e) → HasFailedOn output.Offsets old new why
    → HasWritten e lists → HasSentAll a base e lists → HasStopped b base e.params lists why
all_stopped_on_offsets a b base e lists old new why less failed written h =
    subst (λ ls. HasStopped b base e.params ls why) (append-nil lists) (stopped_on_offsets a b base e lists [] old new why less failed written h)
