use Rattle.std.proofs.Common.{◌≡◌, ◌+◌, ◌<◌, ◌≤◌, ◌∙◌, ap, refl, sym, subst, length, take, List, ℕ, Option, Ok, Err, vec_len}
use Rattle.std.proofs.lemmas.List.{length-take-le}
use Rattle.std.proofs.lemmas.Result.{err_from_is_err_and}
use Rattle.std.specs.FinMap as map
use Rattle.wg_outside.specs.declared.limits.TheConstants.{MOST_BYTES}
use Rattle.wg_outside.specs.Outside.{Files}
use Rattle.wg_outside.specs.Reads.{Reads, IsPieceOf}
use Rattle.wg_outside.proofs.FilesLemmas.{none_falls-trans}
use Rattle.wg_outside.proofs.LoadLemmas.{held_not_absent, held_not_failed, long_not_absent, long_not_failed, no_error, no_rise, past_limit, risen, unheld, unread, was_absent, was_failed}
use Rattle.wg_outside.proofs.PieceLemmas.{probed, loaded, longer, grown}
use Rattle.wg_outside.proofs.whole.read_whole.Goals as goal

pub returns-in_err-read : goal.returns-in_err-read
returns-in_err-read g c =
    let r = c.in_err-read.ensures in
    let e = err_from_is_err_and c.from_residual.result c.from_residual.ensures.1 in
    rw (e.1, e.2) record {
      bytes = λ t. unread _ _ _ _ _ refl (r.bytes t);
      same = r.same;
      absent = λ e. r.absent (was_absent _ _ _ refl refl e);
      failed = λ e. r.failed (was_failed _ _ _ refl refl e);
      later = r.later;
      short = tt;
    }

pub returns-then-branch-gt0 : goal.returns-then-branch-gt0
returns-then-branch-gt0 g c =
    let r = c.in_ok-read.ensures in
    record {
      bytes = λ t. probed _ c.read.new.buf c.in_ok-read.field-0 (r.bytes t) c.if-branch-gt0.true;
      same = r.same;
      absent = λ e. no_rise _ _ (long_not_absent e);
      failed = λ e. no_rise _ _ (long_not_failed e);
      later = r.later;
      short = tt;
    }

pub returns-in_err-count : goal.returns-in_err-count
returns-in_err-count g c =
    let v = c.loop-bytes.invariant in
    let r = c.in_err-count.ensures in
    let name = c.args.name.now in
    let e = err_from_is_err_and c.from_residual-in_err-count.result c.from_residual-in_err-count.ensures.1 in
    rw (e.1, e.2) record {
      bytes = λ t. unread _ _ _ _ _ refl (subst (λ (f : Files). Reads (map.get f name) c.len.result c.read-in-loop-bytes.new.buf (Err c.in_err-count.field-0.0)) v.same (r.bytes t));
      same = r.same ∙ v.same;
      absent = λ e. risen _ _ _ (v.later.absences name) (r.absent (was_absent _ _ _ refl refl e));
      failed = λ e. risen _ _ _ (v.later.read_faults name) (r.failed (was_failed _ _ _ refl refl e));
      later = none_falls-trans _ _ _ v.later r.later;
      short = tt;
    }

pub returns-in_err-extend_from_slice : goal.returns-in_err-extend_from_slice
returns-in_err-extend_from_slice g c =
    let v = c.loop-bytes.invariant in
    let r = c.in_ok-count.ensures in
    let e = err_from_is_err_and c.from_residual-in_err-extend_from_slice.result c.from_residual-in_err-extend_from_slice.ensures.1 in
    rw (e.1, e.2) record {
      bytes = λ t. unheld _ _ _ _ _ refl (subst (λ (f : Files). Reads (map.get f c.args.name.now) c.len.result c.read-in-loop-bytes.new.buf (Ok c.in_ok-count.count)) v.same (r.bytes t));
      same = r.same ∙ v.same;
      absent = λ e. no_rise _ _ (held_not_absent e);
      failed = λ e. no_rise _ _ (held_not_failed e);
      later = none_falls-trans _ _ _ v.later r.later;
      short = tt;
    }

pub returns-then-len-count : goal.returns-then-len-count
returns-then-len-count g c =
    let v = c.loop-bytes.invariant in
    let r = c.in_ok-count.ensures in
    let at = vec_len c.loop-bytes.bytes in
    let count = c.in_ok-count.count in
    record {
      bytes = λ t.
          let told = subst (λ (f : Files). Reads (map.get f c.args.name.now) c.len.result c.read-in-loop-bytes.new.buf (Ok count)) v.same (r.bytes t) in
          past_limit _ at c.read-in-loop-bytes.new.buf count (subst (λ (n : ℕ). Reads (map.get (g.D.Depot.files c.args.depot.now) c.args.name.now) n c.read-in-loop-bytes.new.buf (Ok count)) c.len.ensures told)
          c.if-count-eq0.false (subst (λ (n : ℕ). MOST_BYTES < n + count) c.len-in-loop-bytes.ensures c.if-len-count.true);
      same = r.same ∙ v.same;
      absent = λ e. no_rise _ _ (long_not_absent e);
      failed = λ e. no_rise _ _ (long_not_failed e);
      later = none_falls-trans _ _ _ v.later r.later;
      short = tt;
    }

pub returns : goal.returns
returns g c =
    let v = c.loop-bytes.invariant in
    let r = c.in_ok-count.ensures in
    let buf = c.read-in-loop-bytes.new.buf in
    let at = vec_len c.loop-bytes.bytes in
    let count = c.in_ok-count.count in
    record {
      bytes = λ t.
          let told = subst (λ (f : Files). Reads (map.get f c.args.name.now) c.len.result buf (Ok count)) v.same (r.bytes t) in
          loaded _ c.loop-bytes.bytes.items buf at count (subst (λ (n : ℕ). Reads (map.get (g.D.Depot.files c.args.depot.now) c.args.name.now) n buf (Ok count)) c.len.ensures told) c.if-count-eq0.true (v.front t);
      same = r.same ∙ v.same;
      absent = λ e. no_rise _ _ (no_error _ _ e);
      failed = λ e. no_rise _ _ (no_error _ _ e);
      later = none_falls-trans _ _ _ v.later r.later;
      short = subst (λ (n : ℕ). n ≤ MOST_BYTES) c.loop-bytes.bytes.ok.0 v.short;
    }

pub loop-bytes-preserved : goal.loop-bytes-preserved
loop-bytes-preserved g c =
    let buf = c.read-in-loop-bytes.new.buf in
    let at = vec_len c.loop-bytes.bytes in
    let count = c.in_ok-count.count in
    let name = c.args.name.now in
    let few : count ≤ length buf = c.in_ok-count.ensures.count in
    let long : vec_len c.extend_from_slice.new.self ≡ at + count = ◌∙◌ {b = at + length (take count buf)} c.in_ok-extend_from_slice.ensures.len (ap (λ (n : ℕ). at + n) (length-take-le count buf few)) in
    record {
      short = subst (λ (n : ℕ). n ≤ MOST_BYTES) (sym long) (subst (λ (n : ℕ). n + count ≤ MOST_BYTES) c.len-in-loop-bytes.ensures c.if-len-count.false);
      same = c.in_ok-count.ensures.same ∙ c.loop-bytes.invariant.same;
      front = λ t file is.
          let told = subst (λ (f : Files). Reads (map.get f name) c.len.result buf (Ok count)) c.loop-bytes.invariant.same (c.in_ok-count.ensures.bytes t) in
          let front = c.loop-bytes.invariant.front t file is in
          let piece_of : IsPieceOf file at buf count = subst (λ (n : ℕ). IsPieceOf file n buf count) c.len.ensures (subst (λ (o : Option (List ℕ)). Reads o c.len.result buf (Ok count)) is told) in
          let more = grown file _ c.loop-bytes.bytes.items buf at count _ c.in_ok-extend_from_slice.ensures.items long (longer file c.loop-bytes.bytes.items buf at count piece_of front.0 front.1) in
          (more.0, more.1, front.2);
      later = none_falls-trans _ _ _ c.loop-bytes.invariant.later c.in_ok-count.ensures.later;
    }
