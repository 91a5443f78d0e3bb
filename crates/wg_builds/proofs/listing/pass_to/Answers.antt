use Rattle.std.proofs.Common.{◌≡◌, ◌+◌, ◌++◌, ◌∷◌, [], List, ℕ, length, ap, sym, subst, ◌∙◌, arith}
use Rattle.std.proofs.lemmas.List.{length_push}
use Rattle.wg_params.specs.Parameters.{Parameters}
use Rattle.wg_graph.specs.Growing.{padded}
use Rattle.wg_encoder.specs.ArchiveInMemory.{HasEncoded}
use Rattle.wg_builds.proofs.ListingLemmas.{padded_all, padded_more}
use Rattle.wg_builds.proofs.listing.pass_to.Goals as goal

pub loop-encoder-init : goal.loop-encoder-init
loop-encoder-init c =
    let e = c.in_ok-encoder.ensures in
    let f = c.in_ok-encoder.encoder in
    let list = c.args.list.now in
    record {
      params = e.params;
      page = omega (arith, e.page);
      within = omega (arith, e.page, c.requires.page);
      arcs = omega (arith, e.arcs, c.requires.arcs, ap (λ (p : Parameters). p.arcs) e.params, ap (λ (l : List ℕ). length l) c.as_slice.ensures);
      encoded = λ done h.
          let here = subst (λ (l : List ℕ). HasEncoded f (done ++ l ∷ [])) c.as_slice.ensures (e.encoded done h) in
          subst (HasEncoded f) (padded_all f.page (done ++ list ∷ []) (length_push done list ∙ ap (λ (n : ℕ). n + 1) (sym h.page) ∙ sym e.page)) here;
    }

pub loop-encoder-preserved : goal.loop-encoder-preserved
loop-encoder-preserved c =
    let e = c.in_ok-encoder-2.ensures in
    let f = c.in_ok-encoder-2.encoder in
    let i = c.loop-encoder.invariant in
    let k = c.loop-encoder.encoder.page in
    record {
      params = e.params ∙ i.params;
      page = omega (arith, e.page, i.page);
      within = omega (arith, e.page, c.page.ensures.value, c.loop-encoder-test.true);
      arcs = omega (arith, e.arcs, i.arcs, ap (λ (p : Parameters). p.arcs) e.params);
      encoded = λ done h.
          let all : List (List ℕ) = done ++ c.args.list.now ∷ [] in
          let more = padded_more k all (omega (arith, length_push done c.args.list.now, h.page, i.page)) in
          subst (HasEncoded f) (more ∙ ap (λ (n : ℕ). padded n all) (sym e.page)) (e.encoded (padded k all) (i.encoded done h));
    }

pub returns-clause-encoded : goal.returns-clause-encoded
returns-clause-encoded c = λ done h.
    let i = c.loop-encoder.invariant in
    let end : c.loop-encoder.encoder.page ≡ c.args.page = omega (arith, i.within, c.page.ensures.value, c.loop-encoder-test.false) in
    subst (λ (n : ℕ). HasEncoded c.loop-encoder.encoder (padded n (done ++ c.args.list.now ∷ []))) end (i.encoded done h)
