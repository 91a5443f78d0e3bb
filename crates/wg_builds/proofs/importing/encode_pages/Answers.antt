use Rattle.std.proofs.Common.{◌++◌, ◌∙◌, ℕ, List, Ok, Err, length, ap, refl, sym, subst, arith}
use Rattle.std.specs.FinMap as map
use Rattle.std.proofs.lemmas.Result.{err_from_is_err_and}
use Rattle.wg_outside.specs.Outside.{Files}
use Rattle.wg_outside.proofs.FilesLemmas.{none_falls-trans}
use Rattle.wg_num.specs.Lines.{lines_of}
use Rattle.wg_lines.specs.Reading.{IsReadable, lines_after}
use Rattle.wg_params.specs.{Parameters.params_of, declared.limits.TheConstants.MOST_ARCS}
use Rattle.wg_ascii.specs.Growing.{IsFirst, IsUpTo}
use Rattle.wg_outcomes.specs.Names.{text_named}
use Rattle.wg_readings.proofs.LoadLemmas.{text_unloaded}
use Rattle.wg_builds.proofs.{ImportJobs.text_after, ImportJobs.text_stops, ImportingLemmas.no_later, TextJobs.still}
use Rattle.wg_builds.proofs.importing.encode_pages.Goals as goal

pub returns-in_err-reader : goal.returns-in_err-reader
returns-in_err-reader g c =
    let name = c.args.name.now in
    let q = err_from_is_err_and c.from_residual.result c.from_residual.ensures.1 in
    rw (q.1, q.2) record {
      params = tt;
      few_pages = tt;
      few_arcs = tt;
      encodes = tt;
      ends = text_unloaded name _ _ _ _ _ c.in_err-reader.field-0.0 (c.in_err-reader.ensures.ends (text_named name) refl);
    }

pub returns-in_err-_some : goal.returns-in_err-_some
returns-in_err-_some g c =
    let o = c.in_ok-reader.ensures in
    let name = c.args.name.now in
    let q = err_from_is_err_and c.from_residual-in_err-_some.result c.from_residual-in_err-_some.ensures.1 in
    rw (q.1, q.2) record {
      params = tt;
      few_pages = tt;
      few_arcs = tt;
      encodes = tt;
      ends = text_after name _ _ _ _ _ _ _ _ o.same o.later (text_unloaded name _ _ _ _ _ c.in_err-_some.field-0.0 (c.in_err-_some.ensures.ends (text_named name) refl));
    }

pub returns-in-Err-clause-ends : goal.returns-in-Err-clause-ends
returns-in-Err-clause-ends g c =
    let o = c.in_ok-reader.ensures in
    let r = c.in_ok-_some.ensures in
    let x = c.in-Err.error in
    let name = c.args.name.now in
    let new = c.next_lines.new.reader in
    text_stops name _ _ _ _ _ (r.same ∙ o.same) (none_falls-trans _ _ _ o.later r.later) c.text_ending.result x c.text_ending.ensures (λ t.
    let f = still name _ _ o.same (o.readable t) in
    let later = lines_after f.0 new in
    let next = r.lines t f.0 f.3 in
    let all = sym (o.all f.0) ∙ next ∙ ap (λ (l : List ℕ). lines_of l ++ later) (sym c.lines.ensures.value) in
    let end = no_later c.in_ok-_some._some _ later new.lines r.some (r.end t f.0 f.3) next in
    (f.0, f.1, f.2, subst (λ (ls : List (List ℕ)). IsFirst ls x) (sym all) (c.in-Err.ensures.fault later (λ none. end (ap (λ (l : List ℕ). length l) (sym c.lines.ensures.value) ∙ none)))))

pub encode_rest-requires : goal.encode_rest-requires
encode_rest-requires g c =
    let o = c.in_ok-reader.ensures in
    let r = c.in_ok-_some.ensures in
    let b = c.in-Ok.ensures.begins in
    let new = c.next_lines.new.reader in
    let name = c.args.name.now in
    record {
      pace = c.in-Ok.ensures.pace;
      line = omega (arith, c.in-Ok.ensures.line, ap (λ (l : List ℕ). length l) c.lines.ensures.value);
      readable = λ t. subst (λ (d : Files). IsReadable (map.get d name)) (sym (r.same ∙ o.same)) (o.readable t);
      way = (
        b.lists,
        b.encoded,
        λ t file is.
            let later = lines_after file new in
            let there = ap (λ (d : Files). map.get d name) (sym r.same) ∙ is in
            let all = sym (o.all file) ∙ r.lines t file there ∙ ap (λ (l : List ℕ). lines_of l ++ later) (sym c.lines.ensures.value) in
            subst (λ (ls : List (List ℕ)). IsUpTo ls later b.lists c.in-Ok.first.1) (sym all) (b.reads later),
      );
    }

pub returns-in_err-encoder : goal.returns-in_err-encoder
returns-in_err-encoder g c =
    let o = c.in_ok-reader.ensures in
    let r = c.in_ok-_some.ensures in
    let e = c.in_err-encoder.field-0.0 in
    let q = err_from_is_err_and c.from_residual-in_err-encoder.result c.from_residual-in_err-encoder.ensures.1 in
    rw (q.1, q.2) record {
      params = tt;
      few_pages = tt;
      few_arcs = tt;
      encodes = tt;
      ends = text_after c.args.name.now _ _ _ _ _ _ _ (Err e) (r.same ∙ o.same) (none_falls-trans _ _ _ o.later r.later) c.in_err-encoder.ensures.ends;
    }

pub returns : goal.returns
returns g c =
    let o = c.in_ok-reader.ensures in
    let r = c.in_ok-_some.ensures in
    let e = c.in_ok-encoder.ensures in
    let h = e.encodes in
    record {
      params = e.params ∙ c.in-Ok.ensures.params ∙ ap (λ (n : ℕ). params_of c.args.layout.now n MOST_ARCS) (sym e.nodes);
      few_pages = omega (arith, e.nodes, c.in-Ok.ensures.pace.few);
      few_arcs = e.few;
      encodes = record {
        graph = h.graph;
        loads = text_after c.args.name.now _ _ _ _ _ _ _ (Ok h.graph) (r.same ∙ o.same) (none_falls-trans _ _ _ o.later r.later) h.loads;
        encoded = h.encoded;
        nodes = h.nodes;
        arcs = h.arcs;
        page = h.page;
      };
      ends = tt;
    }
