use Rattle.std.proofs.Common.{◌≡◌, ◌≤◌, ℕ, take, drop, refl, ap, subst}
use Rattle.std.proofs.lemmas.List.{length-take-le}
use Rattle.std.proofs.lemmas.Result.{err_from_is_err_and}
use Rattle.wg_outside.specs.declared.limits.TheConstants.{MOST_BYTES}
use Rattle.wg_outside.proofs.LoadLemmas.{held_not_absent, held_not_failed, long_not_absent, long_not_failed, no_error, no_rise, past_limit, unheld, unread, was_absent, was_failed}
use Rattle.wg_lines.specs.Reading.{HeldLines}
use Rattle.wg_lines.proofs.LineLemmas.{held_ahead, held_end, rest_ahead, rest_lent, rest_short}
use Rattle.wg_lines.proofs.ReadingLemmas.{more_read, no_answer, not_ended, not_false, not_true, piece_of, read_out, short_read}
use Rattle.wg_lines.proofs.reading.LineReader.read_piece.Goals as goal

pub returns-in_err-count : goal.returns-in_err-count
returns-in_err-count g c =
    let r = c.in_err-count.ensures in
    let e = err_from_is_err_and c.from_residual.result c.from_residual.ensures.1 in
    rw (e.1, e.2) record {
      lines = λ t file is. refl;
      ended = λ t file is ok. not_ended file _ (no_answer _ _ ok);
      more = λ ok. absurd (no_answer _ _ ok);
      first = refl;
      short = subst (λ (n : ℕ). n ≤ MOST_BYTES) c.end-end.ensures.offset c.end-end.ensures.short;
      refused = λ t. unread _ _ _ _ _ refl (r.bytes t);
      same = r.same;
      absent = λ e. r.absent (was_absent _ _ _ refl refl e);
      failed = λ e. r.failed (was_failed _ _ _ refl refl e);
      later = r.later;
    }

pub returns-in_err-hold : goal.returns-in_err-hold
returns-in_err-hold g c =
    let r = c.in_ok-count.ensures in
    let e = err_from_is_err_and c.from_residual-in_err-hold.result c.from_residual-in_err-hold.ensures.1 in
    rw (e.1, e.2, c.in_err-hold.ensures.err) record {
      lines = λ t file is. refl;
      ended = λ t file is ok. not_ended file _ (no_answer _ _ ok);
      more = λ ok. absurd (no_answer _ _ ok);
      first = refl;
      short = subst (λ (n : ℕ). n ≤ MOST_BYTES) c.end-end.ensures.offset c.end-end.ensures.short;
      refused = λ t. unheld _ _ _ _ _ refl (r.bytes t);
      same = r.same;
      absent = λ e. no_rise _ _ (held_not_absent e);
      failed = λ e. no_rise _ _ (held_not_failed e);
      later = r.later;
    }

pub returns-then-end-count-gt-MOST_BYTES : goal.returns-then-end-count-gt-MOST_BYTES
returns-then-end-count-gt-MOST_BYTES g c =
    let r = c.in_ok-count.ensures in
    record {
      lines = λ t file is. refl;
      ended = λ t file is ok. not_ended file _ (no_answer _ _ ok);
      more = λ ok. absurd (no_answer _ _ ok);
      first = refl;
      short = subst (λ (n : ℕ). n ≤ MOST_BYTES) c.end-end.ensures.offset c.end-end.ensures.short;
      refused = λ t. past_limit _ _ _ _ (r.bytes t) c.if-count-eq0.false c.if-end-count-gt-MOST_BYTES.true;
      same = r.same;
      absent = λ e. no_rise _ _ (long_not_absent e);
      failed = λ e. no_rise _ _ (long_not_failed e);
      later = r.later;
    }

pub returns-then-count-eq0 : goal.returns-then-count-eq0
returns-then-count-eq0 g c =
    let r = c.in_ok-count.ensures in
    let lent = c.lend_rest.ensures in
    record {
      lines = λ t file is.
          let p = piece_of _ file c.end-end.result _ c.in_ok-count.count is (r.bytes t) in
          rest_ahead file c.args.self.now c.lend_rest.new.self c.requires (read_out _ _ _ (p.end c.if-count-eq0.true) c.end-end.ensures.offset) lent;
      ended = λ t file is ok.
          let p = piece_of _ file c.end-end.result _ c.in_ok-count.count is (r.bytes t) in
          rest_lent file c.args.self.now c.lend_rest.new.self c.requires (read_out _ _ _ (p.end c.if-count-eq0.true) c.end-end.ensures.offset) lent;
      more = λ ok. absurd (not_false ok);
      first = ap (λ (h : HeldLines). h.first) lent;
      short = rest_short c.args.self.now c.lend_rest.new.self lent (subst (λ (n : ℕ). n ≤ MOST_BYTES) c.end-end.ensures.offset c.end-end.ensures.short);
      refused = λ t. tt;
      same = r.same;
      absent = λ e. no_rise _ _ (no_error _ _ e);
      failed = λ e. no_rise _ _ (no_error _ _ e);
      later = r.later;
    }

pub returns : goal.returns
returns g c =
    let r = c.in_ok-count.ensures in
    let h = c.in_ok-hold.ensures in
    let count = c.in_ok-count.count in
    let buf = c.read.new.buf in
    let few = length-take-le count buf r.count in
    let end = held_end c.args.self.now c.hold.new.self (take count buf) count c.requires h.first h.bytes few in
    record {
      lines = λ t file is.
          let p = piece_of _ file c.end-end.result _ count is (r.bytes t) in
          held_ahead file c.args.self.now c.hold.new.self (take count buf) count c.requires h.first h.bytes h.whole
          few (subst (λ (n : ℕ). take count buf ≡ take count (drop n file)) c.end-end.ensures.offset p.bytes);
      ended = λ t file is ok. not_ended file _ (not_true ok);
      more = λ ok. more_read _ _ count end c.if-count-eq0.false;
      first = h.first;
      short = short_read _ _ _ count end c.end-end.ensures.offset c.if-end-count-gt-MOST_BYTES.false;
      refused = λ t. tt;
      same = r.same;
      absent = λ e. no_rise _ _ (no_error _ _ e);
      failed = λ e. no_rise _ _ (no_error _ _ e);
      later = r.later;
    }
