use Rattle.std.proofs.Common.{◌∙◌, [], ℕ, List, None, Ok, length, ap, refl, sym, subst, arith}
use Rattle.std.specs.FinMap as map
use Rattle.std.proofs.lemmas.Result.{err_from_is_err_and}
use Rattle.wg_outside.specs.Outside.{Files}
use Rattle.wg_outside.proofs.FilesLemmas.{none_falls-refl, none_falls-trans}
use Rattle.wg_num.specs.Lines.{lines_of}
use Rattle.wg_lines.specs.Reading.{lines_after}
use Rattle.wg_arcs.specs.{Growing.SoFar, Listing.AreListed, Listing.arcs_on}
use Rattle.wg_arcs.proofs.ListedLemmas.{none_listed}
use Rattle.wg_outcomes.specs.Names.{list_named}
use Rattle.wg_builds.specs.Listed.{IsFault}
use Rattle.wg_builds.proofs.ListedJobs.{lent_now, list_encoded, list_stops, list_unheld, list_unread_after}
use Rattle.wg_builds.proofs.{ListingLemmas.may_take, TextJobs.still}
use Rattle.wg_builds.proofs.listing.encode_lines.Goals as goal

pub returns-in_err-reader : goal.returns-in_err-reader
returns-in_err-reader g c =
    let name = c.args.name.now in
    let q = err_from_is_err_and c.from_residual.result c.from_residual.ensures.1 in
    rw (q.1, q.2) record {
      params = tt;
      few = tt;
      encodes = tt;
      ends = list_unread_after name c.args.nodes _ _ _ _ _ _ _ c.in_err-reader.field-0.0 refl (none_falls-refl _) (c.in_err-reader.ensures.ends (list_named name) refl);
    }

pub returns-in_err-next_lines : goal.returns-in_err-next_lines
returns-in_err-next_lines g c =
    let i = c.loop-list.invariant in
    let name = c.args.name.now in
    let q = err_from_is_err_and c.from_residual-in_err-next_lines.result c.from_residual-in_err-next_lines.ensures.1 in
    rw (q.1, q.2) record {
      params = tt;
      few = tt;
      encodes = tt;
      ends = list_unread_after name c.args.nodes _ _ _ _ _ _ _ c.in_err-next_lines.field-0.0 i.same i.later (c.in_err-next_lines.ensures.ends (list_named name) refl);
    }

pub returns-in-Err : goal.returns-in-Err
returns-in-Err g c =
    let i = c.loop-list.invariant in
    let r = c.in_ok-next_lines.ensures in
    let name = c.args.name.now in
    let n = c.args.nodes in
    record {
      params = tt;
      few = tt;
      encodes = tt;
      ends =
          list_stops name n _ _ _ _ _ (r.same ∙ i.same) (none_falls-trans _ _ _ i.later r.later) c.list_ending.result c.in-Err.error c.list_ending.ensures (λ t.
          let f = still name _ _ i.same (i.readable t) in
          let later = lines_after f.0 c.next_lines.new.reader in
          let here = lent_now n c.loop-list.lines.nodes (lines_of f.0) _ later c.lines.result.now c.next_lines.new.reader.lines c.loop-list.lines.line _ i.nodes (r.lines t f.0 f.3) c.lines.ensures.value (i.way.2 t f.0 f.1) in
          (f.0, f.1, f.2, subst (λ (m : ℕ). IsFault m (lines_of f.0) c.in-Err.error) i.nodes (c.in-Err.ensures.fault i.way.0 (lines_of f.0) later i.way.1 here)));
    }

pub loop-list-init : goal.loop-list-init
loop-list-init g c =
    let s = c.new-lines.result in
    let l = c.new-lines.ensures in
    let o = c.in_ok-reader.ensures in
    let empty = sym c.new-list.ensures in
    let listed = subst (λ (list : List ℕ). AreListed [] list None s) empty (none_listed s (sym (l.none []).last) (sym (l.none []).count)) in
    record {
      params = refl;
      nodes = l.nodes;
      line = omega (arith, l.line);
      way = (
        [],
        record { encoded = c.requires.none; listed = listed; nodes = c.requires.nodes ∙ sym l.nodes; most = c.requires.arcs },
        λ t file is.
            let all = lines_of file in
            let here = subst (λ (n : ℕ). SoFar n all all s.line []) l.nodes (l.none all).lines in
            subst (λ (list : List ℕ). SoFar c.args.nodes all (lines_after file c.in_ok-reader.reader) s.line (arcs_on [] list)) empty
            (subst (λ (next : List (List ℕ)). SoFar c.args.nodes all next s.line []) (sym (o.all file)) here),
      );
      readable = o.readable;
      same = o.same;
      later = o.later;
    }

pub loop-list-preserved : goal.loop-list-preserved
loop-list-preserved g c =
    let i = c.loop-list.invariant in
    let r = c.in_ok-next_lines.ensures in
    let e = c.in-Ok.ensures in
    let name = c.args.name.now in
    let n = c.args.nodes in
    let s = c.loop-list.lines in
    let new = c.next_lines.new.reader in
    let go = e.goes_on i.way.0 i.way.1 in
    record {
      params = e.params ∙ i.params;
      nodes = e.nodes ∙ i.nodes;
      line = omega (arith, e.line, i.line, r.first, ap (λ (l : List ℕ). length l) c.lines.ensures.value);
      way = (
        go.done,
        go.way,
        λ t file is.
            let there = ap (λ (d : Files). map.get d name) i.same ∙ is in
            let later = lines_after file new in
            let here = lent_now n s.nodes (lines_of file) _ later c.lines.result.now new.lines s.line _ i.nodes (r.lines t file there) c.lines.ensures.value (i.way.2 t file is) in
            subst (λ (m : ℕ). SoFar m (lines_of file) later c.take_lines.new.lines.line (arcs_on go.done c.take_lines.new.list)) i.nodes (go.reads (lines_of file) later here),
      );
      readable = i.readable;
      same = r.same ∙ i.same;
      later = none_falls-trans _ _ _ i.later r.later;
    }

pub end_pages-requires-clause-list : goal.end_pages-requires-clause-list
end_pages-requires-clause-list g c =
    let w = c.loop-list.invariant.way in
    may_take c.loop-list.encoder w.0 c.loop-list.list None c.loop-list.lines w.1.encoded w.1.nodes w.1.most w.1.listed

pub returns-in_err-encoder : goal.returns-in_err-encoder
returns-in_err-encoder g c =
    let i = c.loop-list.invariant in
    let r = c.in_ok-next_lines.ensures in
    let q = err_from_is_err_and c.from_residual-in_err-encoder.result c.from_residual-in_err-encoder.ensures.1 in
    rw (q.1, q.2) record {
      params = tt;
      few = tt;
      encodes = tt;
      ends = list_unheld c.args.name.now c.args.nodes _ _ _ _ _ (r.same ∙ i.same) (none_falls-trans _ _ _ i.later r.later);
    }

pub returns-clause-params : goal.returns-clause-params
returns-clause-params g c = c.in_ok-encoder.ensures.params ∙ c.loop-list.invariant.params

pub returns-clause-encodes : goal.returns-clause-encodes
returns-clause-encodes g c =
    let i = c.loop-list.invariant in
    let r = c.in_ok-next_lines.ensures in
    let e = c.in_ok-encoder.ensures in
    let name = c.args.name.now in
    rw c.arcs.ensures (list_encoded name c.args.nodes _ _ _ _ _ (r.same ∙ i.same) (none_falls-trans _ _ _ i.later r.later) c.loop-list.lines i.way.0 c.loop-list.list i.nodes i.way.1.listed (λ t.
    let f = still name _ _ i.same (i.readable t) in
    (f.0, f.1, f.2, subst (λ (next : List (List ℕ)). SoFar c.args.nodes (lines_of f.0) next c.loop-list.lines.line (arcs_on i.way.0 c.loop-list.list)) (r.end t f.0 f.3 (ap (λ b. Ok b) c.if-branch.false)) (i.way.2 t f.0 f.1)))
    c.in_ok-encoder.encoder (e.encoded i.way.0 i.way.1.encoded) e.page)
