use Rattle.std.proofs.Common.{◌≡◌, ◌+◌, ◌<◌, ◌∙◌, ℕ, List, ◌∷◌, length, take, Err, refl, sym, ap, subst, arith}
use Rattle.wg_grammar.specs.Context.{Known}
use Rattle.wg_grammar.specs.Record.{Whole}
use Rattle.wg_decoder.specs.Remembered.{known_of}
use Rattle.wg_stream.specs.Prefix.{PagesRead, RecordsStand}
use Rattle.wg_outside.proofs.PutsLemmas.{is_that_err}
use Rattle.std.proofs.lemmas.Result.{err_from_is_err_and}
use Rattle.wg_grammar.specs.Archive.{ReadsGraph}
use Rattle.wg_grammar.specs.declared.fault.ArchiveFault.TheVariants as archive
use Rattle.wg_decoder.proofs.Lists.{short_below}
use Rattle.wg_decoder.proofs.Serving.{serves_next}
use Rattle.wg_grammar.proofs.ErrorLemmas.{record_fault, record_refusal}
use Rattle.wg_stream.proofs.ErrorLemmas.{record_of_graph}
use Rattle.wg_stream.proofs.PrefixLemmas.{one_more, one_refused, sound_spared}
use Rattle.wg_stream.proofs.pages.Pages.next.Goals as goal

pub returns-clause-reads : goal.returns-clause-reads
returns-clause-reads g c = λ bits behind r h.
    let i = c.self.inside in
    let at = g.S.Source.offset c.args.source.now in
    let end = g.S.Source.offset c.decode_from.new.source in
    let d = c.in_ok-decoded.decoded in
    let w : Whole = record { known = known_of d; end = end } in
    let here = subst (λ (s : PagesRead). RecordsStand s.params bits s.page s.arcs at s.kept behind) (sym c.self.view_is) h in
    let next = subst (λ (s : PagesRead). s.page < s.params.nodes) (sym c.self.view_is) c.requires.more in
    let more = one_more i.params bits i.page i.arcs at i.window.behind behind w here next (c.in_ok-decoded.ensures.reads bits r) in
    let counted : i.arcs + length d.list ≡ i.arcs + length c.as_slice.result.now = ap (λ (s : List ℕ). i.arcs + length s) (sym c.as_slice.ensures) in
    let nearest : take i.params.window (w.known ∷ i.window.behind) ≡ c.keep.new.window.behind =
    ap (λ (n : ℕ). take n (w.known ∷ i.window.behind)) (sym c.self.invariant.0) ∙ sym c.in_ok-keep.ensures.ok in (
      w,
      sym c.in_ok-keep.ensures.list,
      refl,
      subst (λ (kept : List Known). RecordsStand i.params bits (i.page + 1) (i.arcs + length c.as_slice.result.now) end kept (w ∷ behind)) nearest
          (subst (λ (n : ℕ). RecordsStand i.params bits (i.page + 1) n end (take i.params.window (w.known ∷ i.window.behind)) (w ∷ behind)) counted more),
    )

pub decode_from-requires : goal.decode_from-requires
decode_from-requires g c = record {
  page = subst (λ (s : PagesRead). s.page < s.params.nodes) (sym c.self.view_is) c.requires.more;
  before = c.self.invariant.1.within;
  serves = c.self.invariant.1.serves;
}

pub invariant_of-self : goal.invariant_of-self
invariant_of-self g c =
    let v = c.self.invariant in
    (v.0, sound_spared _ c.decode_from.new.spares v.1 (c.in_err-decoded.ensures.short v.1.held.short.spares))

pub returns-in_err-decoded : goal.returns-in_err-decoded
returns-in_err-decoded g c =
    let i = c.self.inside in
    let n = c.in_err-decoded.ensures in
    let at = g.S.Source.offset c.args.source.now in
    let next = subst (λ (s : PagesRead). s.page < s.params.nodes) (sym c.self.view_is) c.requires.more in
    rw (is_that_err c.from_residual.result _ c.from_residual.ensures.1) record {
      params = ap (λ (s : PagesRead). s.params) c.self.view_is;
      page = tt;
      arcs = tt;
      err = ap (λ (s : PagesRead). record s { spares = c.decode_from.new.spares }) c.self.view_is;
      graph = record_of_graph c.in_err-decoded.field-0.0;
      later = n.later;
      refused = record_refusal c.in_err-decoded.field-0.0 _ n.refused;
      reads = λ bits behind r h. tt;
      fault = λ bits behind r h.
          let here = subst (λ (s : PagesRead). RecordsStand s.params bits s.page s.arcs at s.kept behind) (sym c.self.view_is) h in
          record_fault c.in_err-decoded.field-0.0 _ _
          (λ f refused. subst (λ (s : PagesRead). ReadsGraph s.params bits (Err (archive.Record f))) c.self.view_is (one_refused i.params bits i.page i.arcs at i.window.behind behind f here next refused))
          (n.fault bits r);
      few = (sound_spared _ c.decode_from.new.spares c.self.invariant.1 (n.short c.self.invariant.1.held.short.spares)).held;
    }

pub invariant_of-self-in_err-keep : goal.invariant_of-self-in_err-keep
invariant_of-self-in_err-keep g c =
    let v = c.self.invariant in
    let n = c.in_ok-decoded.ensures in
    let k = c.in_err-keep.ensures in
    let h = v.1.held.short in
    let le = short_below _ _ n.ascends n.below in
    let short = k.short c.self.inside.params.nodes (record { kept = h.kept; spares = n.short h.spares; past = h.past }) le in
    rw (k.err, k.same) (v.0, sound_spared _ c.keep.new.spares v.1 short.spares)

pub returns-in_err-keep : goal.returns-in_err-keep
returns-in_err-keep g c =
    let e = err_from_is_err_and c.from_residual-in_err-keep.result c.from_residual-in_err-keep.ensures.1 in
    rw (e.1, e.2, c.in_err-keep.ensures.err, c.in_err-keep.ensures.same) record {
      params = ap (λ (s : PagesRead). s.params) c.self.view_is;
      page = tt;
      arcs = tt;
      err = ap (λ (s : PagesRead). record s { spares = c.keep.new.spares }) c.self.view_is;
      graph = tt;
      later = c.in_ok-decoded.ensures.later;
      refused = tt;
      reads = λ bits behind r h. tt;
      fault = λ bits behind r h. tt;
      few =
          let v = c.self.invariant.1 in
          let n = c.in_ok-decoded.ensures in
          let h = v.held.short in
          let short = c.in_err-keep.ensures.short c.self.inside.params.nodes (record { kept = h.kept; spares = n.short h.spares; past = h.past }) (short_below _ _ n.ascends n.below) in
          (sound_spared _ c.keep.new.spares v short.spares).held;
    }

pub invariant_of-self-2 : goal.invariant_of-self-2
invariant_of-self-2 g c =
    let v = c.self.invariant in
    let n = c.in_ok-decoded.ensures in
    let k = c.in_ok-keep.ensures in
    let h = v.1.held.short in
    let short = k.short c.self.inside.params.nodes (record { kept = h.kept; spares = n.short h.spares; past = h.past }) (short_below _ _ n.ascends n.below) in
    let next = subst (λ (s : PagesRead). s.page < s.params.nodes) (sym c.self.view_is) c.requires.more in (
      k.window ∙ v.0,
      rw (k.list, k.ok, v.0, c.as_slice.ensures) record {
        few = omega (arith, next);
        within = n.total;
        serves = serves_next _ _ _ (known_of c.in_ok-decoded.decoded) v.1.serves n.ascends n.below n.depth;
        ascends = n.ascends;
        below = n.below;
        held = record { near = rw (k.ok, k.window, v.0) at k.few; short = rw (k.ok, v.0) at short };
      },
    )

pub returns-clause-few : goal.returns-clause-few
returns-clause-few g c =
    let v = c.self.invariant in
    let n = c.in_ok-decoded.ensures in
    let k = c.in_ok-keep.ensures in
    let h = v.1.held.short in
    record {
      near = omega (arith, k.few, k.window, v.0);
      short = k.short c.self.inside.params.nodes (record { kept = h.kept; spares = n.short h.spares; past = h.past }) (short_below _ _ n.ascends n.below);
    }
