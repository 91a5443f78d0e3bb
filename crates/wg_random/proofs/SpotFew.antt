-- A page that is known by its chain has no more pages behind it than chains may have.
use Rattle.std.proofs.Common.{◌≡◌, ◌∙◌, ℕ, zero, suc, ◌+◌, ◌<◌, ◌≤◌, Bool, List, [], ◌∷◌, length, replicate, Some, Result, Ok, Err, ap, arith}
use Rattle.std.proofs.lemmas.List.{get_or-replicate}
use Rattle.std.specs.Prelude.{OnOk}
use Rattle.wg_params.specs.Parameters.{Parameters, IsWithinLimits}
use Rattle.wg_grammar.specs.declared.fault.ArchiveFault.{ArchiveFault}
use Rattle.wg_grammar.specs.Context.{Known, no_page, depth_of}
use Rattle.wg_decoder.specs.Apart.{page_over}
use Rattle.wg_decoder.specs.Chains.{start_of, HeadReads, RecordReads, RefersTo, OverReads, ChainReads}
use Rattle.wg_random.specs.declared.error.SpotError.{SpotError}
use Rattle.wg_random.specs.Spot.{SpotAnswers}
use Rattle.wg_grammar.proofs.Depths.{record_limited}
use Rattle.wg_random.proofs.SpotMoves.{Apart, apart_of}
use Rattle.wg_stream.proofs.SpotOne.{same_reference}

deep_over : (n r : ℕ) (k : Known) → 0 < r → r ≤ n → depth_of (replicate n k) r ≡ suc k.depth
deep_over n zero k some near = absurd (omega (arith, some))
deep_over n (suc r) k some near = ap (λ (j : Known). suc j.depth) (get_or-replicate n r k no_page (omega (arith, near)))

module _ (p : Parameters) (limits : IsWithinLimits p) (bits : List Bool) (offsets : List ℕ) where
  -- a page is one deeper than the one that it refers to
  one_deeper : (y r : ℕ) (below k : Known) → 0 < r → HeadReads p bits offsets y (Ok r) → RecordReads p bits offsets y below (Ok k) → k.depth ≡ suc below.depth
  one_deeper y r below k some head reads =
      let a : Apart p (page_over p y below) bits (start_of offsets y) (record { known = k; end = start_of offsets (y + 1) }) = apart_of p (page_over p y below) bits (start_of offsets y) _ reads in
      let same : r ≡ a.r = same_reference p limits bits offsets y r a.r head a.head in
      a.depth ∙ deep_over p.window a.r below (omega (arith, some, same)) (omega (arith, a.near))

  over_deep : (y z : ℕ) (zs : List ℕ) (k : Known) → RefersTo p bits offsets y z → (v : Result Known ArchiveFault) → ChainReads p bits offsets z zs v
      → ((below : Known) → ChainReads p bits offsets z zs (Ok below) → length zs ≤ below.depth) → OverReads p bits offsets y v (Ok k) → length (z ∷ zs) ≤ k.depth
  over_deep y z zs k refers (Ok below) reads lower over = omega (arith, lower below reads, one_deeper y refers.0 below k refers.1 refers.2 over)
  over_deep y z zs k refers (Err f) reads lower over = absurd (let bad : (let x : Result Known ArchiveFault = Ok k in x) ≡ Err f = over in cc)

  -- as deep as there are pages behind it
  chain_deep : (y : ℕ) (zs : List ℕ) (k : Known) → ChainReads p bits offsets y zs (Ok k) → length zs ≤ k.depth
  chain_deep y [] k h = omega arith
  chain_deep y (z ∷ zs) k h = over_deep y z zs k h.0 h.1 h.2 (λ below reads. chain_deep z zs below reads) h.3

  over_limited : (y limit : ℕ) (k : Known) → p.chain ≡ Some limit → (v : Result Known ArchiveFault) → OverReads p bits offsets y v (Ok k) → k.depth ≤ limit
  over_limited y limit k has (Ok below) over = record_limited p (page_over p y below) bits (start_of offsets y) limit (record { known = k; end = start_of offsets (y + 1) }) has over
  over_limited y limit k has (Err f) over = absurd (let bad : (let x : Result Known ArchiveFault = Ok k in x) ≡ Err f = over in cc)

  chain_few : (y limit : ℕ) (zs : List ℕ) (k : Known) → p.chain ≡ Some limit → ChainReads p bits offsets y zs (Ok k) → length zs ≤ limit
  chain_few y limit [] k has h = omega arith
  chain_few y limit (z ∷ zs) k has h = omega (arith, chain_deep y (z ∷ zs) k h, over_limited y limit k has h.1 h.3)

  pub few_spotted : (x from to limit : ℕ) (result : Result (List ℕ) SpotError) → p.chain ≡ Some limit → SpotAnswers p bits offsets x from to result → OnOk result (to ≤ from + limit + 1)
  few_spotted x from to limit (Ok list) has h = omega (arith, chain_few x limit h.1 h.2 has h.3, h.5)
  few_spotted x from to limit (Err e) has h = tt
