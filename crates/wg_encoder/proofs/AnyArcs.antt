-- The archive of lists is the same whatever number of arcs its parameters tell.
use Rattle.std.proofs.Common.{◌≡◌, ℕ, ◌+◌, Bool, not, ◌&&◌, ◌||◌, ◌==◌, min, List, [], ◌∷◌, length, map, refl, ap, ◌∙◌}
use Rattle.std.specs.Prelude.{nat_lt, nat_le, find, unwrap_or}
use Rattle.std.specs.List.{flat_map, list_all, count_by}
use Rattle.wg_codes.specs.Words.{word}
use Rattle.wg_graph.specs.Numbers.{numbers_where}
use Rattle.wg_params.specs.Parameters.{Parameters}
use Rattle.wg_grammar.specs.Context.{Known, Context, referenced, depth_of}
use Rattle.wg_grammar.specs.Refusal.{passes}
use Rattle.wg_greedy.specs.Fields.{Written, bits_of_fields, all_have_words, record_fields}
use Rattle.wg_greedy.specs.Greedy.{context_after, canonical, chosen, known_of, references_of, records_of}
use Rattle.wg_greedy.specs.Archive.{refers, filled, bytes_of, graph_file, offsets_file}
use Rattle.wg_encoder.specs.ArchiveInMemory.{summary_of, encoded}

abbrev pub with_arcs : Parameters → ℕ → Parameters
with_arcs p n = record p { arcs = n }

same_fields : (p : Parameters) (n page r : ℕ) (below list : List ℕ) → record_fields (with_arcs p n) page r below list ≡ record_fields p page r below list
unfolding record_fields
same_fields p n page r below [] = refl
same_fields p n page r below (y ∷ ys) = refl

-- the reference that is chosen, by the record for each reference
abbrev chosen_by : Parameters → Context → (ℕ → List Written) → ℕ
chosen_by p c fields =
    let size : ℕ → ℕ = λ r. length (bits_of_fields (fields r)) in
    let may : ℕ → Bool = λ r. r == 0 || (nat_le r (min p.window c.page) && nat_lt 0 (length (referenced c.behind r)) && not (passes p.chain (depth_of c.behind r)) && all_have_words (fields r)) in
    let all : List ℕ = numbers_where may 0 (min p.window c.page + 1) in
    unwrap_or (find (λ r. list_all (λ s. nat_le (size r) (size s)) all) all) 0

same_chosen : (p : Parameters) (n : ℕ) (c : Context) (list : List ℕ) → chosen (with_arcs p n) c list ≡ chosen p c list
unfolding chosen
same_chosen p n c list = λ i. chosen_by p c (λ r. same_fields p n c.page r (referenced c.behind r) list i)

same_record : (p : Parameters) (n : ℕ) (c : Context) (list : List ℕ) → canonical (with_arcs p n) c list (chosen (with_arcs p n) c list) ≡ canonical p c list (chosen p c list)
same_record p n c list =
    λ i. let r : ℕ = same_chosen p n c list i in same_fields p n c.page r (referenced c.behind r) list i

same_known : (p : Parameters) (n : ℕ) (c : Context) (list : List ℕ) → known_of (with_arcs p n) c list ≡ known_of p c list
same_known p n c list = λ i. record { list = list; depth = depth_of c.behind (same_chosen p n c list i) }

same_records : (p : Parameters) (n : ℕ) (behind : List Known) (lists : List (List ℕ)) → records_of (with_arcs p n) behind lists ≡ records_of p behind lists
same_records p n behind [] = refl
same_records p n behind (list ∷ lists) =
    let c : Context = context_after p behind in
    let rest : records_of (with_arcs p n) (known_of (with_arcs p n) c list ∷ behind) lists ≡ records_of p (known_of p c list ∷ behind) lists =
    ap (λ (k : Known). records_of (with_arcs p n) (k ∷ behind) lists) (same_known p n c list) ∙ same_records p n (known_of p c list ∷ behind) lists in
    (λ i. same_record p n c list i ∷ rest i)

same_references : (p : Parameters) (n : ℕ) (behind : List Known) (lists : List (List ℕ)) → references_of (with_arcs p n) behind lists ≡ references_of p behind lists
same_references p n behind [] = refl
same_references p n behind (list ∷ lists) =
    let c : Context = context_after p behind in
    let rest : references_of (with_arcs p n) (known_of (with_arcs p n) c list ∷ behind) lists ≡ references_of p (known_of p c list ∷ behind) lists =
    ap (λ (k : Known). references_of (with_arcs p n) (k ∷ behind) lists) (same_known p n c list) ∙ same_references p n (known_of p c list ∷ behind) lists in
    (λ i. same_chosen p n c list i ∷ rest i)

pub same_graph : (p : Parameters) (n : ℕ) (lists : List (List ℕ)) → graph_file (with_arcs p n) lists ≡ graph_file p lists
unfolding graph_file
same_graph p n lists = λ i. bytes_of (filled (flat_map (λ bits. bits) (map bits_of_fields (same_records p n [] lists i))))

pub same_offsets : (p : Parameters) (n : ℕ) (lists : List (List ℕ)) → offsets_file (with_arcs p n) lists ≡ offsets_file p lists
unfolding offsets_file
same_offsets p n lists = λ i. bytes_of (filled (flat_map (word p.offsets) (0 ∷ map (λ bits. length bits) (map bits_of_fields (same_records p n [] lists i)))))

pub same_summary : (p : Parameters) (n : ℕ) (lists : List (List ℕ)) → summary_of (with_arcs p n) lists ≡ summary_of p lists
same_summary p n lists =
    λ i. record {
      bits = length (flat_map (λ bits. bits) (map bits_of_fields (same_records p n [] lists i)));
      referring = count_by refers (same_references p n [] lists i);
    }

pub same_encoded : (p : Parameters) (n : ℕ) (text : List ℕ) (lists : List (List ℕ)) → encoded (with_arcs p n) text lists ≡ encoded p text lists
same_encoded p n text lists =
    λ i. record {
      files = record { properties = text; graph = same_graph p n lists i; offsets = same_offsets p n lists i };
      summary = same_summary p n lists i;
    }
