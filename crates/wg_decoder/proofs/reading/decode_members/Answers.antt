use Rattle.std.proofs.Common.{length, refl, sym, ap, arith}
use Rattle.std.proofs.lemmas.Result.{err_from_is_err_and}
use Rattle.wg_decoder.specs.Answer.{context_at}
use Rattle.wg_grammar.proofs.ErrorLemmas.{fault_weaker}
use Rattle.wg_decoder.proofs.Orders.{above_0, from_0, up_to_itself}
use Rattle.wg_decoder.proofs.SpareLemmas.{none_lent}
use Rattle.wg_decoder.proofs.HeadLemmas.{to_empty, to_head}
use Rattle.wg_decoder.proofs.WholeLemmas.{empty_reads, whole_reads, whole_twice}
use Rattle.wg_decoder.proofs.reading.decode_members.Goals as goal

pub returns-then-head-eq0 : goal.returns-then-head-eq0
returns-then-head-eq0 g c =
    let none = c.if-head-eq0.true in
    let q = c.args.params.now.nodes in
    rw c.lend-list.ensures.none record {
      later = g.met.S.Source.stays _;
      refused = tt;
      reads = λ bits r arcs behind named deep stands.
          empty_reads c.args.params.now (context_at c.args.page arcs behind) bits c.args.start c.args.head.outdegree (g.S.Source.offset c.args.source.now) none (to_empty c.args.params.now (context_at c.args.page arcs behind) bits c.args.start c.args.head.outdegree c.args.head.reference (g.S.Source.offset c.args.source.now) none stands);
      fault = λ bits r. tt;
      depth = from_0 _;
      ascends = tt;
      below = tt;
      few = from_0 _;
      short = λ h. none_lent q c.spares.inside.copied c.spares.inside.inside c.spares.inside.united c.spares.inside.furthest c.lend-list.new.furthest c.args.spares.now c.spares.view_is c.lend-list.ensures.lent h;
    }

pub returns-in_err-members : goal.returns-in_err-members
returns-in_err-members g c =
    let n = c.in_err-members.ensures in
    let q = c.args.params.now.nodes in
    let some = above_0 c.args.head.outdegree c.if-head-eq0.false in
    let p = err_from_is_err_and c.from_residual.result c.from_residual.ensures.1 in
    rw (p.1, p.2) record {
      later = n.later;
      refused = n.refused;
      reads = λ bits r. tt;
      fault = λ bits r.
          fault_weaker c.in_err-members.field-0.0 _ _
          (λ e not_so arcs behind named deep stands. not_so arcs c.args.start behind named (to_head c.args.params.now (context_at c.args.page arcs behind) bits c.args.start c.args.head.outdegree c.args.head.reference (g.S.Source.offset c.args.source.now) some stands))
          (n.fault bits r);
      depth = tt;
      ascends = tt;
      below = tt;
      few = tt;
      short = λ h. n.short (none_lent q c.spares.inside.copied c.spares.inside.inside c.spares.inside.united c.spares.inside.furthest c.lend-list.new.furthest c.args.spares.now c.spares.view_is c.lend-list.ensures.lent h);
    }

pub returns-then-as_slice-head : goal.returns-then-as_slice-head
returns-then-as_slice-head g c =
    let n = c.in_ok-members.ensures in
    let q = c.args.params.now.nodes in
    let h = c.args.head in
    let some = above_0 h.outdegree c.if-head-eq0.false in
    record {
      later = n.later;
      refused = tt;
      reads = λ bits r. tt;
      fault = λ bits r arcs behind named deep stands.
          whole_twice c.args.params.now (context_at c.args.page arcs behind) bits c.args.start h.outdegree h.reference c.args.start c.members.new.list
          (g.S.Source.offset c.members.new.source) (n.reads bits r arcs c.args.start behind named (to_head c.args.params.now (context_at c.args.page arcs behind) bits c.args.start c.args.head.outdegree c.args.head.reference (g.S.Source.offset c.args.source.now) some stands)) (omega (arith, ap length c.as_slice.ensures)) refl;
      depth = tt;
      ascends = tt;
      below = tt;
      few = tt;
      short = λ h. n.short (none_lent q c.spares.inside.copied c.spares.inside.inside c.spares.inside.united c.spares.inside.furthest c.lend-list.new.furthest c.args.spares.now c.spares.view_is c.lend-list.ensures.lent h);
    }

pub returns : goal.returns
returns g c =
    let n = c.in_ok-members.ensures in
    let q = c.args.params.now.nodes in
    let h = c.args.head in
    let some = above_0 h.outdegree c.if-head-eq0.false in
    record {
      later = n.later;
      refused = tt;
      reads = λ bits r arcs behind named deep stands.
          whole_reads c.args.params.now (context_at c.args.page arcs behind) bits c.args.start h.outdegree h.reference c.args.depth c.members.new.list
          (g.S.Source.offset c.members.new.source) (n.reads bits r arcs c.args.start behind named (to_head c.args.params.now (context_at c.args.page arcs behind) bits c.args.start c.args.head.outdegree c.args.head.reference (g.S.Source.offset c.args.source.now) some stands)) (omega (arith, ap length c.as_slice.ensures)) (sym deep);
      fault = λ bits r. tt;
      depth = up_to_itself _;
      ascends = n.ascends;
      below = n.below;
      few = n.few;
      short = λ h. n.short (none_lent q c.spares.inside.copied c.spares.inside.inside c.spares.inside.united c.spares.inside.furthest c.lend-list.new.furthest c.args.spares.now c.spares.view_is c.lend-list.ensures.lent h);
    }
