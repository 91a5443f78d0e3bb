-- The record of a list after those before it, and the words of the offsets.
use Rattle.std.proofs.Common.{◌≡◌, ℕ, zero, suc, ◌+◌, ◌-◌, ◌<◌, Bool, false, cond, List, [], ◌∷◌, ◌++◌, length, length-append, append_assoc, map, take, get_or, replicate, refl, sym, ap, ◌∙◌, arith}
use Rattle.std.specs.List.{flat_map, sum_by, count_by}
use Rattle.std.proofs.lemmas.List.{append-nil, map-append, take_more, take_all, take-take, take-append-le, length-map, get_or-append_right}
use Rattle.std.proofs.lemmas.List.Sums.{sum_by-cons, sum_by-append}
use Rattle.std.proofs.lemmas.List.Concat.{flat_map-append}
use Rattle.wg_bits.specs.Bits.{bits_of}
use Rattle.wg_bits.specs.Written.{padding}
use Rattle.wg_codes.specs.Words.{word}
use Rattle.wg_params.specs.Parameters.{Parameters}
use Rattle.wg_grammar.specs.Context.{Known, Context}
use Rattle.wg_greedy.specs.Fields.{bits_of_fields}
use Rattle.wg_greedy.specs.Greedy.{context_after, canonical, chosen, known_of, known_after, references_of, records_of}
use Rattle.wg_greedy.specs.Archive.{record_bits, graph_bits, refers, referring_pages, offset_values, offsets_bits, graph_file, offsets_file}
use Rattle.wg_encoder.specs.Encoding.{next_context, context_on, due_offset, words_before}
use Rattle.wg_greedy.proofs.Bytes.{graph_again, offsets_again}

-- ---- where a record stands

known_more : (p : Parameters) (behind : List Known) (lists : List (List ℕ)) (list : List ℕ)
    → known_after p behind (lists ++ list ∷ []) ≡ known_of p (context_after p (known_after p behind lists)) list ∷ known_after p behind lists
known_more p behind [] list = refl
known_more p behind (l ∷ ls) list = known_more p (known_of p (context_after p behind) l ∷ behind) ls list

many_known : (p : Parameters) (behind : List Known) (lists : List (List ℕ)) → length (known_after p behind lists) ≡ length behind + length lists
many_known p behind [] = omega arith
many_known p behind (l ∷ ls) = omega (arith, many_known p (known_of p (context_after p behind) l ∷ behind) ls)

arcs_known : (p : Parameters) (behind : List Known) (lists : List (List ℕ)) → sum_by (λ k. length k.list) (known_after p behind lists) ≡ sum_by (λ k. length k.list) behind + sum_by (λ list. length list) lists
arcs_known p behind [] = omega arith
arcs_known p behind (l ∷ ls) =
    let k : Known = known_of p (context_after p behind) l in
    omega (arith, arcs_known p (k ∷ behind) ls, sum_by-cons (λ (x : Known). length x.list) k behind, sum_by-cons (λ (list : List ℕ). length list) l ls)

-- a record stands after the lists that are known
same_context : (p : Parameters) (lists : List (List ℕ)) → next_context p lists ≡ context_after p (known_after p [] lists)
same_context p lists =
    let many : length lists ≡ length (known_after p [] lists) = omega (arith, many_known p [] lists) in
    let arcs : sum_by (λ (list : List ℕ). length list) lists ≡ sum_by (λ (k : Known). length k.list) (known_after p [] lists) = omega (arith, arcs_known p [] lists) in
    λ i. record { page = many i; arcs_before = arcs i; behind = take p.window (known_after p [] lists) }

take_less : {X : Type 0} (w : ℕ) (x : X) (xs : List X) → take w (x ∷ take w xs) ≡ take w (x ∷ xs)
take_less zero x xs = refl
take_less (suc w) x xs = ap (λ ys. x ∷ ys) (take-take w (suc w) xs (omega arith))

pub context_more : (p : Parameters) (lists : List (List ℕ)) (list : List ℕ) → context_on p (next_context p lists) list ≡ next_context p (lists ++ list ∷ [])
context_more p lists list =
    let known : List Known = known_after p [] lists in
    let page : length lists + 1 ≡ length (lists ++ list ∷ []) = omega (arith, length-append lists (list ∷ [])) in
    let arcs : sum_by (λ (l : List ℕ). length l) lists + length list ≡ sum_by (λ (l : List ℕ). length l) (lists ++ list ∷ []) =
    omega (arith, sum_by-append (λ (l : List ℕ). length l) lists (list ∷ []), sum_by-cons (λ (l : List ℕ). length l) list []) in
    let behind : take p.window (known_of p (next_context p lists) list ∷ take p.window known) ≡ take p.window (known_after p [] (lists ++ list ∷ [])) =
    take_less p.window (known_of p (next_context p lists) list) known
    ∙ ap (λ (c : Context). take p.window (known_of p c list ∷ known)) (same_context p lists)
    ∙ ap (take p.window) (sym (known_more p [] lists list)) in
    λ i. record { page = page i; arcs_before = arcs i; behind = behind i }

-- ---- the records of lists that follow

records_more : (p : Parameters) (behind : List Known) (lists more : List (List ℕ)) → records_of p behind (lists ++ more) ≡ records_of p behind lists ++ records_of p (known_after p behind lists) more
records_more p behind [] more = refl
records_more p behind (l ∷ ls) more =
    ap (λ rs. canonical p (context_after p behind) l (chosen p (context_after p behind) l) ∷ rs) (records_more p (known_of p (context_after p behind) l ∷ behind) ls more)

-- the bits of each of the records that follow
abbrev bits_later : Parameters → List (List ℕ) → List (List ℕ) → List (List Bool)
bits_later p lists more = map bits_of_fields (records_of p (known_after p [] lists) more)

bits_more : (p : Parameters) (lists more : List (List ℕ)) → record_bits p (lists ++ more) ≡ record_bits p lists ++ bits_later p lists more
bits_more p lists more = ap (map bits_of_fields) (records_more p [] lists more) ∙ map-append bits_of_fields (records_of p [] lists) (records_of p (known_after p [] lists) more)

-- the record by which a list is written
abbrev pub chosen_bits : Parameters → Context → List ℕ → List Bool
chosen_bits p c list = bits_of_fields (canonical p c list (chosen p c list))

one_later : (p : Parameters) (lists : List (List ℕ)) (list : List ℕ) → bits_later p lists (list ∷ []) ≡ chosen_bits p (next_context p lists) list ∷ []
one_later p lists list = ap (λ (c : Context). chosen_bits p c list ∷ []) (sym (same_context p lists))

pub graph_more : (p : Parameters) (lists : List (List ℕ)) (list : List ℕ) → graph_bits p (lists ++ list ∷ []) ≡ graph_bits p lists ++ chosen_bits p (next_context p lists) list
graph_more p lists list =
    ap (flat_map (λ bits. bits)) (bits_more p lists (list ∷ []) ∙ ap (λ bs. record_bits p lists ++ bs) (one_later p lists list))
    ∙ flat_map-append (λ (bits : List Bool). bits) (record_bits p lists) (chosen_bits p (next_context p lists) list ∷ [])
    ∙ ap (λ z. graph_bits p lists ++ z) (append-nil (chosen_bits p (next_context p lists) list))

-- ---- those that refer to a page before

references_more : (p : Parameters) (behind : List Known) (lists more : List (List ℕ)) → references_of p behind (lists ++ more) ≡ references_of p behind lists ++ references_of p (known_after p behind lists) more
references_more p behind [] more = refl
references_more p behind (l ∷ ls) more = ap (λ rs. chosen p (context_after p behind) l ∷ rs) (references_more p (known_of p (context_after p behind) l ∷ behind) ls more)

pub referring_more : (p : Parameters) (lists : List (List ℕ)) (list : List ℕ) → referring_pages p (lists ++ list ∷ []) ≡ referring_pages p lists + cond (refers (chosen p (next_context p lists) list)) 1 0
referring_more p lists list =
    let one : ℕ → ℕ = λ r. cond (refers r) 1 0 in
    let r : ℕ = chosen p (next_context p lists) list in
    let more : referring_pages p (lists ++ list ∷ []) ≡ referring_pages p lists + count_by refers (r ∷ []) =
    ap (count_by refers) (references_more p [] lists (list ∷ []) ∙ ap (λ (c : Context). references_of p [] lists ++ chosen p c list ∷ []) (sym (same_context p lists)))
    ∙ sum_by-append one (references_of p [] lists) (r ∷ []) in
    omega (arith, more, sum_by-cons one r [])

-- ---- the words of the offsets

many_records : (p : Parameters) (behind : List Known) (lists : List (List ℕ)) → length (records_of p behind lists) ≡ length lists
many_records p behind [] = refl
many_records p behind (l ∷ ls) = ap suc (many_records p (known_of p (context_after p behind) l ∷ behind) ls)

many_bits : (p : Parameters) (lists : List (List ℕ)) → length (record_bits p lists) ≡ length lists
many_bits p lists = length-map (records_of p [] lists) bits_of_fields ∙ many_records p [] lists

many_words : (p : Parameters) (lists : List (List ℕ)) → length (offset_values p lists) ≡ suc (length lists)
many_words p lists = ap suc (length-map (record_bits p lists) (λ (bits : List Bool). length bits) ∙ many_bits p lists)

-- the numbers of the lists that follow
abbrev values_later : Parameters → List (List ℕ) → List (List ℕ) → List ℕ
values_later p lists more = map (λ bits. length bits) (bits_later p lists more)

values_more : (p : Parameters) (lists more : List (List ℕ)) → offset_values p (lists ++ more) ≡ offset_values p lists ++ values_later p lists more
values_more p lists more =
    ap (λ bs. 0 ∷ map (λ (bits : List Bool). length bits) bs) (bits_more p lists more)
    ∙ ap (λ ns. 0 ∷ ns) (map-append (λ (bits : List Bool). length bits) (record_bits p lists) (bits_later p lists more))

-- the next offset is the length of this record
pub due_more : (p : Parameters) (lists : List (List ℕ)) (list : List ℕ) → due_offset p (lists ++ list ∷ []) ≡ length (chosen_bits p (next_context p lists) list)
due_more p lists list =
    let n : ℕ = length (lists ++ list ∷ []) in
    let size : ℕ = length (chosen_bits p (next_context p lists) list) in
    let last : n ≡ suc (length lists) = omega (arith, length-append lists (list ∷ [])) in
    ap (λ vs. get_or vs n 0) (values_more p lists (list ∷ []) ∙ ap (λ bs. offset_values p lists ++ map (λ (bits : List Bool). length bits) bs) (one_later p lists list))
    ∙ get_or-append_right (offset_values p lists) (size ∷ []) (suc (length lists)) n 0 (many_words p lists) (omega (arith, last))
    ∙ ap (λ k. get_or (size ∷ []) k 0) (let e : n - suc (length lists) ≡ 0 = omega (arith, last) in e)

flat_more : {X : Type 0} (f : X → List Bool) (xs : List X) (i : ℕ) (d : X) → i < length xs → flat_map f (take (i + 1) xs) ≡ flat_map f (take i xs) ++ f (get_or xs i d)
flat_more f xs i d lt =
    ap (flat_map f) (take_more xs i d lt) ∙ flat_map-append f (take i xs) (get_or xs i d ∷ []) ∙ ap (λ z. flat_map f (take i xs) ++ z) (append-nil (f (get_or xs i d)))

-- with the word that is due they are all
pub words_whole : (p : Parameters) (lists : List (List ℕ)) → offsets_bits p lists ≡ words_before p lists ++ word p.offsets (due_offset p lists)
words_whole p lists =
    let vs : List ℕ = offset_values p lists in
    ap (flat_map (word p.offsets)) (sym (take_all (length lists + 1) vs (omega (arith, many_words p lists))))
    ∙ flat_more (word p.offsets) vs (length lists) 0 (omega (arith, many_words p lists))

pub words_more : (p : Parameters) (lists : List (List ℕ)) (list : List ℕ) → words_before p (lists ++ list ∷ []) ≡ offsets_bits p lists
words_more p lists list =
    let n : ℕ = length (lists ++ list ∷ []) in
    let vs : List ℕ = offset_values p lists in
    let last : n ≡ suc (length lists) = omega (arith, length-append lists (list ∷ [])) in
    ap (λ ns. flat_map (word p.offsets) (take n ns)) (values_more p lists (list ∷ []))
    ∙ ap (flat_map (word p.offsets)) (take-append-le n vs (values_later p lists (list ∷ [])) (omega (arith, last, many_words p lists)) ∙ take_all n vs (omega (arith, last, many_words p lists)))

-- ---- what stands in the files behind these records and words

abbrev pad_of : List Bool → List Bool
pad_of bits = replicate (padding (length bits)) false

abbrev pub graph_rest : Parameters → List (List ℕ) → List (List ℕ) → List Bool
graph_rest p lists more = flat_map (λ bits. bits) (bits_later p lists more) ++ pad_of (graph_bits p (lists ++ more))

abbrev pub offsets_rest : Parameters → List (List ℕ) → List (List ℕ) → List Bool
offsets_rest p lists more = flat_map (word p.offsets) (values_later p lists more) ++ pad_of (offsets_bits p (lists ++ more))

pub graph_from : (p : Parameters) (lists more : List (List ℕ)) → bits_of (graph_file p (lists ++ more)) ≡ graph_bits p lists ++ graph_rest p lists more
graph_from p lists more =
    let pad : List Bool = pad_of (graph_bits p (lists ++ more)) in
    let later : List (List Bool) = bits_later p lists more in
    graph_again p (lists ++ more)
    ∙ ap (λ bs. flat_map (λ bits. bits) bs ++ pad) (bits_more p lists more)
    ∙ ap (λ z. z ++ pad) (flat_map-append (λ (bits : List Bool). bits) (record_bits p lists) later)
    ∙ append_assoc (graph_bits p lists) (flat_map (λ bits. bits) later) pad

pub offsets_from : (p : Parameters) (lists more : List (List ℕ)) → bits_of (offsets_file p (lists ++ more)) ≡ offsets_bits p lists ++ offsets_rest p lists more
offsets_from p lists more =
    let pad : List Bool = pad_of (offsets_bits p (lists ++ more)) in
    let later : List ℕ = values_later p lists more in
    offsets_again p (lists ++ more)
    ∙ ap (λ vs. flat_map (word p.offsets) vs ++ pad) (values_more p lists more)
    ∙ ap (λ z. z ++ pad) (flat_map-append (word p.offsets) (offset_values p lists) later)
    ∙ append_assoc (offsets_bits p lists) (flat_map (word p.offsets) later) pad
