use Rattle.std.proofs.Common.{rules, ◌≡◌, ◌∙◌, max, refl, sym, subst, arith}
use Rattle.wg_outside.proofs.PutsLemmas.{is_that_err}
use Rattle.wg_encoder.specs.ArchiveInMemory.{HasEncoded}
use Rattle.wg_shape.specs.Graphs.{lists_of}
use Rattle.wg_transforms.proofs.uniting.add_lists.Goals as goal

pub pages-init : goal.pages-init
pages-init g c =
    let r = c.requires in
    record {
      first = c.begin.ensures.graph;
      second = c.begin-2.ensures.graph;
      params = refl;
      way = record {
        first = c.nodes.ensures.proper;
        second = c.nodes-2.ensures.proper;
        nodes = r.nodes;
        most = r.most;
        place = search (rules, r.none, c.begin.ensures.place, c.begin-2.ensures.place);
        encoded = subst (λ n. HasEncoded c.args.encoder (lists_of (g.A.Lists.graph c.args.first.now) (g.B.Lists.graph c.args.second.now) n)) (sym r.none) r.encoded;
      };
    }

pub add_next-requires-clause-way : goal.add_next-requires-clause-way
add_next-requires-clause-way g c = rw (c.pages.invariant.first, c.pages.invariant.second) c.pages.invariant.way

pub pages-preserved : goal.pages-preserved
pages-preserved g c =
    let i = c.pages.invariant in
    let n = c.in_ok-encoder.ensures in
    record {
      first = n.first ∙ i.first;
      second = n.second ∙ i.second;
      params = n.params ∙ i.params;
      way = rw (i.first, i.second) at n.way;
    }

pub returns-in_err-encoder : goal.returns-in_err-encoder
returns-in_err-encoder g c =
    let i = c.pages.invariant in
    rw (is_that_err c.from_residual.result _ c.from_residual.ensures.1) record {
      params = tt;
      all = tt;
      encoded = tt;
      too_many = rw (i.first, i.second) at c.in_err-encoder.ensures.too_many;
    }

pub returns : goal.returns
returns g c =
    let first = g.A.Lists.graph c.args.first.now in
    let second = g.B.Lists.graph c.args.second.now in
    let i = c.pages.invariant in
    let all : c.pages.encoder.page ≡ max first.nodes second.nodes = omega arith in
    record {
      params = i.params;
      all = all ∙ sym i.way.nodes;
      encoded = subst (λ n. HasEncoded c.pages.encoder (lists_of first second n)) all i.way.encoded;
      too_many = tt;
    }
