-- A text stands for one graph or has one first fault, and what its words are decides which.
use Rattle.std.proofs.Common.{◌≡◌, ℕ, zero, suc, ◌<◌, ◌≤◌, ◌^◌, List, [], ◌∷◌, map, length, drop, get_or, decimal, None, refl, sym, ap, subst, ◌∙◌, arith, inl, inr}
use Rattle.std.proofs.lemmas.Bool.{cases_lt}
use Rattle.std.proofs.lemmas.Option.{none-some, same_Some}
use Rattle.std.proofs.lemmas.List.{ext_get_or, get_or_past}
use Rattle.std.proofs.lemmas.List.Elements.{All-get_or}
use Rattle.wg_lines.proofs.FirstFault.{first_is_one}
use Rattle.wg_num.specs.Decimal.{number_of}
use Rattle.wg_num.specs.Words.{words_of}
use Rattle.wg_num.proofs.Numbers.{number_of-decimal}
use Rattle.wg_graph.specs.Ascending.{Below}
use Rattle.wg_graph.specs.Digraph.{Digraph}
use Rattle.wg_ascii.specs.declared.fault.AsciiKind.{AsciiKind}
use Rattle.wg_ascii.specs.Reading.{StandsFor, fault_after, fault_at, IsFirstFault}
use Rattle.wg_ascii.specs.Laws.{HaveSameWords, TextsAreOne}
use Rattle.wg_ascii.proofs.Pages.{sound_at}
use Rattle.wg_ascii.proofs.Whole.{told_fine, told_pages, blank_sound}

-- ---- one graph

same_number : (m n : ℕ) → m < 2 ^ 64 → n < 2 ^ 64 → decimal m ≡ decimal n → m ≡ n
same_number m n small low e = same_Some m n (sym (number_of-decimal m small) ∙ ap number_of e ∙ number_of-decimal n low)

same_list : (n : ℕ) (vs ws : List ℕ) → n ≤ 2 ^ 64 → Below n vs → Below n ws → map decimal vs ≡ map decimal ws → vs ≡ ws
same_list n [] [] small low below e = refl
same_list n [] (w ∷ ws) small low below e = absurd (omega (arith, ap length e))
same_list n (v ∷ vs) [] small low below e = absurd (omega (arith, ap length e))
same_list n (v ∷ vs) (w ∷ ws) small low below e =
    let one : v ≡ w = same_number v w (omega (arith, low.0)) (omega (arith, below.0)) (ap (λ (l : List (List ℕ)). get_or l 0 []) e) in
    let rest : vs ≡ ws = same_list n vs ws small low.1 below.1 (ap (drop 1) e) in
    λ i. one i ∷ rest i

pub same_words : (lines others : List (List ℕ)) (g h : Digraph) → StandsFor lines g → StandsFor others h → HaveSameWords lines others → g ≡ h
same_words lines others g h a b words =
    let p = a.proper.counted in
    let q = b.proper.counted in
    let small = a.few_pages in
    let few = b.few_pages in
    let nodes : g.nodes ≡ h.nodes = same_number g.nodes h.nodes (omega arith) (omega arith) (ap (λ (l : List (List ℕ)). get_or l 0 []) (sym a.told ∙ words 0 ∙ b.told)) in
    let size : length g.lists ≡ length h.lists = omega arith in
    let lists : g.lists ≡ h.lists = ext_get_or [] g.lists h.lists size (λ i lt.
    same_list g.nodes (get_or g.lists i []) (get_or h.lists i []) (omega arith) (All-get_or (Below g.nodes) g.lists i [] lt a.proper.below)
    (subst (λ (n : ℕ). Below n (get_or h.lists i [])) (sym nodes) (All-get_or (Below h.nodes) h.lists i [] (omega arith) b.proper.below))
    (sym (a.words i) ∙ words (suc i) ∙ b.words i)) in
    λ i. record { nodes = nodes i; lists = lists i }

pub same_graph : (lines : List (List ℕ)) (g h : Digraph) → StandsFor lines g → StandsFor lines h → g ≡ h
same_graph lines g h a b = same_words lines lines g h a b (λ i. refl)

-- ---- no fault

all_fine : (lines : List (List ℕ)) (g : Digraph) → StandsFor lines g → (i : ℕ) → fault_at lines i ≡ None
all_fine [] g a i = absurd (let there = a.there in omega arith)
all_fine (first ∷ lines) g a zero = told_fine (words_of first) g.nodes (record { is = a.told; small = a.few_pages })
all_fine (first ∷ lines) g a (suc x) =
    let p = a.proper in
    let size = p.counted in
    let there = a.there in
    ap (λ (n : ℕ). fault_after n lines x) (told_pages (words_of first) g.nodes (record { is = a.told; small = a.few_pages }))
    ∙ elim (cases_lt x g.nodes) [
      | inl low ↦ sound_at g.nodes lines g.lists x a.few_pages (omega arith) (omega arith) (omega arith) (λ y lt. a.words y) p.ascending p.below a.few_arcs
      | inr high ↦ blank_sound lines g.nodes x high (a.words x ∙ ap (map decimal) (get_or_past g.lists x [] (omega arith)))
    ]

not_both : (lines : List (List ℕ)) (g : Digraph) (line : ℕ) (kind : AsciiKind) → StandsFor lines g → IsFirstFault lines line kind → ⊥
not_both lines g line kind a f = none-some kind (sym (all_fine lines g a f.index) ∙ f.fault)

same_fault : (lines : List (List ℕ)) (line line1 : ℕ) (kind kind1 : AsciiKind) → IsFirstFault lines line kind → IsFirstFault lines line1 kind1 → (line ≡ line1) × (kind ≡ kind1)
same_fault lines line line1 kind kind1 f g =
    let same = first_is_one (fault_at lines) f.index g.index kind kind1 f.fault g.fault f.sound g.sound in
    (omega (arith, f.counted, g.counted, same.0), same.1)

pub texts_are_one : TextsAreOne
texts_are_one = record { graph = same_graph; never_both = not_both; fault = same_fault }
