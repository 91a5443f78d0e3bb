-- What an archive keeps, and what contracts see of it.
use Rattle.std.proofs.Common.{◌≡◌, ℕ, ◌<◌, Bool, List, ◌∷◌, length, map, Option, sym, ap, subst, ◌∙◌}
use Rattle.std.specs.Prelude.{get_or}
use Rattle.wg_params.specs.Parameters.{Parameters, IsWithinLimits}
use Rattle.wg_bits.specs.Bits.{Position}
use Rattle.wg_grammar.specs.SoFar.{value_or_0}
use Rattle.wg_grammar.specs.Record.{Whole}
use Rattle.wg_iterators.specs.Coming.{Coming}
use Rattle.wg_decoder.specs.Proper.{IsRecord}
use Rattle.wg_random.specs.Checked.{CheckedRecords}
use Rattle.wg_stream.specs.AllRecords.{AllRecords, known_at, offset_at}
use Rattle.wg_stream.specs.References.{StandsOn, below_at, Refers}
use Rattle.wg_random.proofs.Readings.{one_reading, offset_is}
use Rattle.wg_stream.proofs.AllRecords.{Found, found_of}
use Rattle.wg_stream.proofs.SweepLemmas.{ReadsReference}

-- the cursor stands where the record begins, in each reading
abbrev pub StandsAt : CheckedRecords → ℕ → Position → Type 0
StandsAt v page c = (r : AllRecords v.params v.bits) → c ≡ record { bits = v.bits; at = offset_at r.records page }

module _ (h v : CheckedRecords) (e : h ≡ v) where
  pub cursor_is : (page : ℕ) → IsWithinLimits h.params → (q : AllRecords h.params h.bits) → (places : List ℕ) → places ≡ 0 ∷ map (λ w. w.end) q.records → (at : ℕ)
      → at ≡ get_or places page 0 → (c : Position)
      → c ≡ (let x : Position = record { bits = h.bits; at = at } in x) → StandsAt v page c
  cursor_is page limits q places are at is c c_is =
      subst (λ (v : CheckedRecords). StandsAt v page c) e
      (λ r. c_is ∙ ap (λ (k : ℕ). record { bits = h.bits; at = k }) (is ∙ offset_is places q.records page are ∙ ap (λ (ws : List Whole). offset_at ws page) (one_reading h.params h.bits limits q r)))

  pub stands_back : (page : ℕ) (c : Position) → StandsAt v page c → StandsAt h page c
  stands_back page c f = subst (λ (v : CheckedRecords). StandsAt v page c) (sym e) f

abbrev pub WithReference : Parameters → ℕ → Option (List ℕ) → Position → List ℕ → ℕ → Type 0
WithReference p page below place list r = (h : IsRecord p page below place list) × (value_or_0 h.whole.reference ≡ r)

found_here : (p : Parameters) (bits : List Bool) (q : AllRecords p bits) (page : ℕ) (c : Position) → (f : Found p bits q.records page)
    → c ≡ (let x : Position = record { bits = bits; at = offset_at q.records page } in x)
    → WithReference p page (below_at q.records page f.r) c (known_at q.records page).list f.r
found_here p bits q page c f is = subst (λ (x : Position). WithReference p page (below_at q.records page f.r) x (known_at q.records page).list f.r) (sym is) (f.refers.proper, f.reference)

pub record_here : (h : CheckedRecords) (page : ℕ) (c : Position) → page < h.params.nodes → AllRecords h.params h.bits → StandsAt h page c
    → (page : ℕ) × (below : Option (List ℕ)) × (list : List ℕ) × IsRecord h.params page below c list
record_here h page c lt q f =
    let g = found_of h.params h.bits q page lt in
    (page, below_at q.records page g.r, (known_at q.records page).list, (found_here h.params h.bits q page c g (f q)).0)

pub refers_here : (h : CheckedRecords) (page : ℕ) (c : Position) (result : ℕ) → page < h.params.nodes → StandsAt h page c → ReadsReference h.params c result
    → (q : AllRecords h.params h.bits) → Refers h.params h.bits q.records page result
refers_here h page c result lt f reads q =
    let g = found_of h.params h.bits q page lt in
    let k = found_here h.params h.bits q page c g (f q) in
    let same : g.r ≡ result = sym (reads page (below_at q.records page g.r) (known_at q.records page).list k.0 ∙ k.1) in
    subst (λ (r : ℕ). Refers h.params h.bits q.records page r) same g.refers

abbrev pub RefersBack : CheckedRecords → ℕ → ℕ → Type 0
RefersBack v page result = (r : AllRecords v.params v.bits) → Refers v.params v.bits r.records page result

module _ (h v : CheckedRecords) (e : h ≡ v) where
  pub refers_back : (page : ℕ) (c : Position) (result : ℕ) → page < h.params.nodes → StandsAt v page c → ReadsReference h.params c result → RefersBack v page result
  refers_back page c result lt f reads = subst (λ (v : CheckedRecords). RefersBack v page result) e (refers_here h page c result lt (stands_back h v e page c f) reads)

  pub same_nodes : (page : ℕ) → page < v.params.nodes → page < h.params.nodes
  same_nodes page lt = subst (λ (v : CheckedRecords). page < v.params.nodes) (sym e) lt

-- ---- a page that an iterator stands on

abbrev pub IsReady : CheckedRecords → ℕ → Option (List ℕ) → Type 0
IsReady v page below = (r : AllRecords v.params v.bits) → StandsOn v.params v.bits r.records page below

proper_here : (h : CheckedRecords) (page : ℕ) (c : Position) (below : Option (List ℕ)) → StandsAt h page c → IsReady h page below → (q : AllRecords h.params h.bits)
    → IsRecord h.params page below c (known_at q.records page).list
proper_here h page c below f ready q = subst (λ (x : Position). IsRecord h.params page below x (known_at q.records page).list) (sym (f q)) (ready q)

pub proper_back : (h v : CheckedRecords) (e : h ≡ v) → (page : ℕ) (c : Position) (below : Option (List ℕ)) → StandsAt v page c → IsReady v page below
    → AllRecords h.params h.bits → (list : List ℕ) × IsRecord h.params page below c list
proper_back h v e page c below f ready q =
    let back : IsReady h page below = subst (λ (v : CheckedRecords). IsReady v page below) (sym e) ready in
    ((known_at q.records page).list, proper_here h page c below (stands_back h v e page c f) back q)

-- what the beginning of an iterator answers
abbrev pub Begins : Parameters → ℕ → Option (List ℕ) → Position → ℕ → Coming → Type 0
Begins p page below c depth result = (list : List ℕ) → IsRecord p page below c list → result ≡ record { outdegree = length list; depth = depth; list = list }

abbrev pub IsWhole : CheckedRecords → ℕ → ℕ → Coming → Type 0
IsWhole v page depth result = (r : AllRecords v.params v.bits) → result ≡ record { outdegree = length (known_at r.records page).list; depth = depth; list = (known_at r.records page).list }

module _ (h v : CheckedRecords) (e : h ≡ v) where
  pub whole_back : (page : ℕ) (c : Position) (below : Option (List ℕ)) (depth : ℕ) (result : Coming) → StandsAt v page c → IsReady v page below
      → Begins h.params page below c depth result → IsWhole v page depth result
  whole_back page c below depth result f ready begins =
      let back : IsReady h page below = subst (λ (v : CheckedRecords). IsReady v page below) (sym e) ready in
      subst (λ (v : CheckedRecords). IsWhole v page depth result) e (λ q. begins (known_at q.records page).list (proper_here h page c below (stands_back h v e page c f) back q))

  pub fresh_back : (page : ℕ) (c : Position) (below : Option (List ℕ)) (depth : ℕ) (result : Coming) → StandsAt v page c → IsReady v page below
      → Begins h.params page below c depth result → AllRecords h.params h.bits → length result.list ≡ result.outdegree
  fresh_back page c below depth result f ready begins q =
      let g = proper_back h v e page c below f ready q in
      let is = begins g.0 g.1 in
      ap (λ (x : Coming). length x.list) is ∙ sym (ap (λ (x : Coming). x.outdegree) is)

  pub depth_back : (page : ℕ) (c : Position) (below : Option (List ℕ)) (depth : ℕ) (result : Coming) → StandsAt v page c → IsReady v page below
      → Begins h.params page below c depth result → AllRecords h.params h.bits → result.depth ≡ depth
  depth_back page c below depth result f ready begins q =
      let g = proper_back h v e page c below f ready q in
      ap (λ (x : Coming). x.depth) (begins g.0 g.1)
