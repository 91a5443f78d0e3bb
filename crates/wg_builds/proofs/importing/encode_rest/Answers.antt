use Rattle.std.proofs.Common.{◌∙◌, ℕ, List, Ok, refl, length, ap, sym, subst, arith}
use Rattle.std.specs.FinMap as map
use Rattle.std.proofs.lemmas.Result.{err_from_is_err_and}
use Rattle.wg_outside.specs.Outside.{Files}
use Rattle.wg_outside.proofs.FilesLemmas.{none_falls-trans}
use Rattle.wg_num.specs.Lines.{lines_of}
use Rattle.wg_lines.specs.Reading.{lines_after}
use Rattle.wg_ascii.specs.Growing.{IsUpTo}
use Rattle.wg_outcomes.specs.Names.{text_named}
use Rattle.wg_readings.proofs.LoadLemmas.{text_unloaded}
use Rattle.wg_builds.proofs.{ImportJobs.text_after, ImportJobs.text_read, ImportJobs.text_stops, ImportingLemmas.lent}
use Rattle.wg_builds.proofs.TextJobs.{still}
use Rattle.wg_builds.proofs.importing.encode_rest.Goals as goal

pub returns-in_err-next_lines : goal.returns-in_err-next_lines
returns-in_err-next_lines g c =
    let i = c.loop-encoder.invariant in
    let name = c.args.name.now in
    let q = err_from_is_err_and c.from_residual.result c.from_residual.ensures.1 in
    rw (q.1, q.2) record {
      params = tt;
      nodes = tt;
      few = tt;
      encodes = tt;
      ends = text_after name _ _ _ _ _ _ _ _ i.same i.later (text_unloaded name _ _ _ _ _ c.in_err-next_lines.field-0.0 (c.in_err-next_lines.ensures.ends (text_named name) refl));
    }

pub returns-in-Err : goal.returns-in-Err
returns-in-Err g c =
    let i = c.loop-encoder.invariant in
    let r = c.in_ok-next_lines.ensures in
    let name = c.args.name.now in
    let new = c.next_lines.new.reader in
    record {
      params = tt;
      nodes = tt;
      few = tt;
      encodes = tt;
      ends =
          text_stops name _ _ _ _ _ (r.same ∙ i.same) (none_falls-trans _ _ _ i.later r.later) c.text_ending.result c.in-Err.error c.text_ending.ensures (λ t.
          let f = still name _ _ i.same (c.requires.readable t) in
          let up = lent (lines_of f.0) _ (lines_after f.0 new) i.way.0 c.lines.result.now new.lines c.loop-encoder.lines (r.lines t f.0 f.3) c.lines.ensures.value (i.way.2 t f.0 f.1) in
          (f.0, f.1, f.2, c.in-Err.ensures.fault (lines_of f.0) (lines_after f.0 new) i.way.0 i.way.1 up));
    }

pub loop-encoder-preserved : goal.loop-encoder-preserved
loop-encoder-preserved g c =
    let i = c.loop-encoder.invariant in
    let r = c.in_ok-next_lines.ensures in
    let e = c.in-Ok.ensures in
    let name = c.args.name.now in
    let new = c.next_lines.new.reader in
    let go = e.goes_on i.way.0 i.way.1 in
    record {
      params = e.params ∙ i.params;
      nodes = e.nodes ∙ i.nodes;
      line = omega (arith, e.line, i.line, r.first, ap (λ (l : List ℕ). length l) c.lines.ensures.value);
      pace = e.pace;
      way = (
        go.lists,
        go.encoded,
        λ t file is.
            let there = ap (λ (d : Files). map.get d name) i.same ∙ is in
            go.reads (lines_of file) (lines_after file new)
            (lent (lines_of file) _ (lines_after file new) i.way.0 c.lines.result.now new.lines c.loop-encoder.lines (r.lines t file there) c.lines.ensures.value (i.way.2 t file is)),
      );
      same = r.same ∙ i.same;
      later = none_falls-trans _ _ _ i.later r.later;
    }

pub returns-in-Ok-end-clause-encodes : goal.returns-in-Ok-end-clause-encodes
returns-in-Ok-end-clause-encodes g c =
    let i = c.loop-encoder.invariant in
    let r = c.in_ok-next_lines.ensures in
    let e = c.in-Ok-end.ensures in
    let name = c.args.name.now in
    let s = c.loop-encoder.lines in
    let lists = i.way.0 in
    record {
      graph = record { nodes = s.nodes; lists = lists };
      loads = text_read name _ _ _ _ _ (r.same ∙ i.same) (none_falls-trans _ _ _ i.later r.later) (record { nodes = s.nodes; lists = lists }) (λ t.
          let f = still name _ _ i.same (c.requires.readable t) in
          (f.0, f.1, f.2, e.read (lines_of f.0) lists (subst (λ (ls : List (List ℕ)). IsUpTo (lines_of f.0) ls lists s) (r.end t f.0 f.3 (ap (λ b. Ok b) c.if-branch.false)) (i.way.2 t f.0 f.1))));
      encoded = i.way.1;
      nodes = refl;
      arcs = sym i.way.1.arcs ∙ i.pace.arcs;
      page = i.pace.over e.over;
    }

pub returns-in-Err-end : goal.returns-in-Err-end
returns-in-Err-end g c =
    let i = c.loop-encoder.invariant in
    let r = c.in_ok-next_lines.ensures in
    let name = c.args.name.now in
    let s = c.loop-encoder.lines in
    let lists = i.way.0 in
    record {
      params = tt;
      nodes = tt;
      few = tt;
      encodes = tt;
      ends =
          text_stops name _ _ _ _ _ (r.same ∙ i.same) (none_falls-trans _ _ _ i.later r.later) c.text_ending-in-Err-end.result c.in-Err-end.error c.text_ending-in-Err-end.ensures (λ t.
          let f = still name _ _ i.same (c.requires.readable t) in
          (f.0, f.1, f.2, c.in-Err-end.ensures.fault (lines_of f.0) lists (subst (λ (ls : List (List ℕ)). IsUpTo (lines_of f.0) ls lists s) (r.end t f.0 f.3 (ap (λ b. Ok b) c.if-branch.false)) (i.way.2 t f.0 f.1))));
    }
