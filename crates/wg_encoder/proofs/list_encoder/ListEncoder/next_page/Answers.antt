use Rattle.std.proofs.Common.{◌∙◌, ◌∷◌, take, sym, ap, subst, arith}
use Rattle.wg_decoder.specs.Remembered.{Remembered}
use Rattle.wg_greedy.specs.Laws.{IsList}
use Rattle.wg_encoder.specs.Encoding.{Encoded}
use Rattle.wg_encoder.proofs.Going.{ones_few, serves_on}
use Rattle.wg_encoder.proofs.Chosen.{chosen_reach, stays_few_at}
use Rattle.wg_encoder.proofs.list_encoder.ListEncoder.next_page.Goals as goal

pub depth-depth-requires : goal.depth-depth-requires
depth-depth-requires c = chosen_reach c.args.self.params c.args.self.next c.args.list.now c.args.ready.choice c.requires.chosen

pub overflow_add-self-3 : goal.overflow_add-self-3
overflow_add-self-3 c =
    let s = stays_few_at c.args.self _ c.args.list.now c.args.ready.choice c.self.view_is c.limits.ensures.within c.requires.page c.requires.list c.requires.arcs c.requires.chosen c.self.invariant.7 in
    omega (arith, s.room)

pub invariant_of-self : goal.invariant_of-self
invariant_of-self c =
    let s = stays_few_at c.args.self _ c.args.list.now c.args.ready.choice c.self.view_is c.limits.ensures.within c.requires.page c.requires.list c.requires.arcs c.requires.chosen c.self.invariant.7 in
    let page = ap (λ (e : Encoded). e.next.page) c.self.view_is in
    let nodes = ap (λ (e : Encoded). e.params.nodes) c.self.view_is in
    let arcs = ap (λ (e : Encoded). e.next.arcs_before) c.self.view_is in
    let most = ap (λ (e : Encoded). e.params.arcs) c.self.view_is in
    let list = subst (λ (e : Encoded). IsList e.params c.args.list.now) (sym c.self.view_is) c.requires.list in (
      c.keep.ensures.window ∙ ap (λ (k : Remembered). k.window) c.deref_mut.ensures.value ∙ c.self.invariant.0,
      omega (arith, page, nodes, c.requires.page),
      omega (arith, arcs, most, c.requires.arcs),
      serves_on c.self.inside.params.value c.self.inside.page c.depth-depth.result c.args.list.now c.self.inside.kept.value.behind _ c.self.invariant.3 list (omega (arith, page, c.depth-depth.ensures.within))
          (c.in_ok-keep.ensures.behind
          ∙ ap (λ (k : Remembered). take k.window (record { list = c.args.list.now; depth = c.depth-depth.result } ∷ k.behind)) c.deref_mut.ensures.value
          ∙ ap (λ w. take w (record { list = c.args.list.now; depth = c.depth-depth.result } ∷ c.self.inside.kept.value.behind)) c.self.invariant.0),
      c.self.invariant.4,
      c.self.invariant.5,
      s.last,
      s.total,
      omega (arith, c.self.invariant.8, ones_few c.args.ready.choice.reference, c.ones.ensures),
    )
