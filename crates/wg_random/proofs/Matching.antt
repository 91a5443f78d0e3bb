-- Places that agree, and the list of a page.
use Rattle.std.proofs.Common.{◌≡◌, ℕ, zero, suc, ◌+◌, ◌<◌, ◌≤◌, List, [], length, Ok, sym, ap, ◌∙◌, arith}
use Rattle.std.specs.Prelude.{get_or}
use Rattle.std.proofs.lemmas.List.{ext_get_or}
use Rattle.wg_grammar.specs.Archive.{Accepted, ReadsGraph}
use Rattle.wg_grammar.specs.Context.{Known}
use Rattle.wg_iterators.specs.Coming.{Coming}
use Rattle.wg_offsets.specs.Places.{ArePlaces, AgreeInLengths}
use Rattle.wg_random.specs.Answer.{IsReadOf, list_in}
use Rattle.wg_random.specs.declared.reading.Page.{Page}
use Rattle.wg_random.specs.declared.reading.Page.TheVariants.{Opened, Listed}
use Rattle.wg_random.specs.Checked.{CheckedRecords}
use Rattle.wg_stream.specs.AllRecords.{AllRecords, known_at}
use Rattle.wg_stream.proofs.AcceptedRecords.{read_of, list_at}

-- ---- places that agree in all lengths

place_same : (here there : List ℕ) → ArePlaces here → ArePlaces there → length here ≡ length there → AgreeInLengths here there → (x : ℕ) → x < length here → get_or here x 0 ≡ get_or there x 0
place_same here there h k len agree zero lt = h.first ∙ sym k.first
place_same here there h k len agree (suc x) lt =
    let next : suc x ≡ x + 1 = omega arith in
    let up : get_or here x 0 ≤ get_or here (x + 1) 0 = h.never_fall x (x + 1) 0 (omega arith) (omega (arith, lt)) in
    let up_there : get_or there x 0 ≤ get_or there (x + 1) 0 = k.never_fall x (x + 1) 0 (omega arith) (omega (arith, lt, len)) in
    let same = place_same here there h k len agree x (omega (arith, lt)) in
    let e : get_or here (x + 1) 0 ≡ get_or there (x + 1) 0 = omega (arith, up, up_there, same, agree x (omega (arith, lt))) in
    ap (λ (j : ℕ). get_or here j 0) next ∙ e ∙ ap (λ (j : ℕ). get_or there j 0) (sym next)

pub same_places : (here there : List ℕ) → ArePlaces here → ArePlaces there → length here ≡ length there → AgreeInLengths here there → here ≡ there
same_places here there h k len agree = ext_get_or 0 here there len (place_same here there h k len agree)

-- ---- the list of a page in the graph

-- a list that is the page's in each reading is the list of the graph
pub graph_list : (v : CheckedRecords) (x : ℕ) (list : List ℕ) → ((r : AllRecords v.params v.bits) → list ≡ (known_at r.records x).list) → (a : Accepted) → ReadsGraph v.params v.bits (Ok a)
    → list ≡ get_or a.graph x []
graph_list v x list is a h =
    let g = read_of v.params v.bits a h in
    is g.reading ∙ sym (list_at g.reading.records x) ∙ ap (λ (ls : List (List ℕ)). get_or ls x []) (sym g.graph)

-- a page that was read has the list of the page
pub list_read : (k : Known) (page : Page) → IsReadOf k page → list_in page ≡ k.list
list_read k (Opened s) h = ap (λ (x : Coming). x.list) h.1
list_read k (Listed list) h = h.1
