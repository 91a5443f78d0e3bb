-- A page of an archive that is accepted has its list of the graph, by its chain alone.
use Rattle.std.proofs.Common.{◌≡◌, ◌∙◌, ℕ, zero, suc, ◌+◌, ◌-◌, ◌<◌, ◌≤◌, Bool, List, [], ◌∷◌, length, Ok, refl, sym, ap, subst, arith}
use Rattle.std.specs.Prelude.{get_or}
use Rattle.wg_params.specs.Parameters.{Parameters}
use Rattle.wg_grammar.specs.Archive.{Accepted, ReadsGraph, context_of}
use Rattle.wg_grammar.specs.Context.{Known, no_page}
use Rattle.wg_grammar.specs.Record.{Whole, ReadsRecord}
use Rattle.wg_decoder.specs.Apart.{page_over, HeadStands}
use Rattle.wg_stream.specs.AllRecords.{no_record, known_at}
use Rattle.wg_decoder.specs.Chains.{endless, start_of, HeadReads, RecordReads, SpotReads}
use Rattle.wg_stream.proofs.AcceptedRecords.{Read, read_of, list_at}
use Rattle.wg_stream.proofs.AllRecords.{all_records, earlier, start_at, record_at, earlier_length, start_is, behind_get}
use Rattle.wg_random.proofs.Readings.{offset_is}
use Rattle.wg_random.proofs.SpotMoves.{Apart, apart_of, named_page}

abbrev below_page : List Whole → ℕ → ℕ → Known
below_page ws x zero = no_page
below_page ws x (suc r) = known_at ws (x - suc r)

-- the record of a page, on its own
record OfPage (p : Parameters) (bits : List Bool) (offsets : List ℕ) (ws : List Whole) (x : ℕ) : Type 0 where
  r : ℕ
  near : r ≤ x
  head : HeadReads p bits offsets x (Ok r)
  reads : RecordReads p bits offsets x (below_page ws x r) (Ok (known_at ws x))

names : (p : Parameters) (ws : List Whole) (x r : ℕ) → r ≤ x → r ≤ p.window → x ≤ length ws → named_page (context_of p (earlier x ws [])) r ≡ below_page ws x r
unfolding named_page
names p ws x zero near reach le = refl
names p ws x (suc r) near reach le = behind_get p ws x r near reach le

abbrev ReadsAt : Parameters → List Bool → ℕ → Known → ℕ → Known → ℕ → Type 0
ReadsAt p bits x below at k end = ReadsRecord p (page_over p x below) bits at (Ok (record { known = k; end = end }))

abbrev HeadAt : Parameters → List Bool → ℕ → ℕ → ℕ → Type 0
HeadAt p bits x at r = (d : ℕ) × (end : ℕ) × HeadStands (endless p) (page_over p x no_page) bits at d r end

of_page : (p : Parameters) (bits : List Bool) (offsets : List ℕ) (ws : List Whole) (x at : ℕ) → x < length ws → at ≡ start_of offsets x → (get_or ws x no_record).end ≡ start_of offsets (x + 1)
    → Apart p (context_of p (earlier x ws [])) bits at (get_or ws x no_record) → OfPage p bits offsets ws x
of_page p bits offsets ws x at lt begins ends a =
    let page : length (earlier x ws []) ≡ x = omega (arith, earlier_length ws [] x (omega (arith, lt))) in
    let k = known_at ws x in
    let near : a.r ≤ x = omega (arith, a.near, page) in
    let below = names p ws x a.r near (omega (arith, a.near)) (omega (arith, lt)) in
    let one : ReadsAt p bits (length (earlier x ws [])) (named_page (context_of p (earlier x ws [])) a.r) at k (get_or ws x no_record).end = a.reads in
    let two = subst (λ (n : ℕ). ReadsAt p bits n (named_page (context_of p (earlier x ws [])) a.r) at k (get_or ws x no_record).end) page one in
    let three = subst (λ (b : Known). ReadsAt p bits x b at k (get_or ws x no_record).end) below two in
    let four = subst (λ (n : ℕ). ReadsAt p bits x (below_page ws x a.r) n k (get_or ws x no_record).end) begins three in
    record {
      r = a.r;
      near = near;
      head = subst (λ (n : ℕ). HeadAt p bits x n a.r) begins (subst (λ (n : ℕ). HeadAt p bits n at a.r) page a.head);
      reads = subst (λ (n : ℕ). ReadsAt p bits x (below_page ws x a.r) (start_of offsets x) k n) ends four;
    }

module _ (p : Parameters) (bits : List Bool) (a : Accepted) (g : Read p bits a) where
  abbrev ws : List Whole
  ws = g.reading.records

  end_is : (x : ℕ) → (get_or ws x no_record).end ≡ start_of a.places (x + 1)
  end_is x = let next : suc x ≡ x + 1 = omega arith in sym (offset_is a.places ws (suc x) g.places) ∙ ap (λ (n : ℕ). get_or a.places n 0) next

  page_of : (x : ℕ) → x < p.nodes → OfPage p bits a.places ws x
  page_of x lt =
      let there : x < length ws = omega (arith, lt, all_records p bits g.reading) in
      of_page p bits a.places ws x (start_at 0 ws x) there (start_is ws x ∙ sym (offset_is a.places ws x g.places)) (end_is x)
      (apart_of p (context_of p (earlier x ws [])) bits (start_at 0 ws x) (get_or ws x no_record) (record_at p bits [] 0 ws g.reading.behind g.reading.end x g.reading.pages there))

  abbrev Stands : ℕ → Type 0
  Stands x = SpotReads p bits a.places x (Ok (known_at ws x))

  page_on : (x r : ℕ) → r ≤ x → HeadReads p bits a.places x (Ok r) → RecordReads p bits a.places x (below_page ws x r) (Ok (known_at ws x)) → (0 < r → Stands (x - r)) → Stands x
  page_on x zero near head reads below = ([], (Ok 0, head, reads))
  page_on x (suc r) near head reads below =
      let some : 0 < suc r = omega arith in
      let y = x - suc r in
      let h = below some in
      (y ∷ h.0, ((suc r, some, head, refl), Ok (known_at ws y), h.1, reads))

  up_to : (n x : ℕ) → x < n → x < p.nodes → Stands x
  up_to zero x lt page = absurd (omega (arith, lt))
  up_to (suc n) x lt page =
      let h = page_of x page in
      page_on x h.r h.near h.head h.reads (λ some. up_to n (x - h.r) (omega (arith, lt, some, h.near)) (omega (arith, page)))

pub agrees : (p : Parameters) (bits : List Bool) (a : Accepted) (x : ℕ) → ReadsGraph p bits (Ok a) → x < p.nodes → (k : Known) × (k.list ≡ get_or a.graph x []) × SpotReads p bits a.places x (Ok k)
agrees p bits a x h lt =
    let g = read_of p bits a h in
    let ws = g.reading.records in
    (known_at ws x, sym (list_at ws x) ∙ ap (λ (ls : List (List ℕ)). get_or ls x []) (sym g.graph), up_to p bits a g (suc x) x (omega arith) lt)
