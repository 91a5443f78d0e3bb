use Rattle.std.proofs.Common.{sym, ap, subst, arith}
use Rattle.wg_graph.specs.Ascending.{Ascends}
use Rattle.wg_vectors.specs.Generated.{Drafted}
use Rattle.wg_vectors.proofs.Placed.{goes, stays, ascends-with_number}
use Rattle.wg_vectors.proofs.drafting.Draft.add.Goals as goal

pub returns-in-Err-clause-after : goal.returns-in-Err-clause-after
returns-in-Err-clause-after c =
    let up = subst (λ (d : Drafted). Ascends 0 d.list) (sym c.self.view_is) c.requires.ascends in
    let e = goes c.args.successor c.self.inside.list.items c.as_slice.result.now c.insert.new.self.items c.in-Err.place up c.as_slice.ensures.value c.in-Err.ensures.position c.insert.ensures.items in
    rw (← c.self.view_is) (ap (λ l. record { list = l; state = c.self.inside.state }) e)

pub returns-in-Err-clause-ascends : goal.returns-in-Err-clause-ascends
returns-in-Err-clause-ascends c =
    let up = subst (λ (d : Drafted). Ascends 0 d.list) (sym c.self.view_is) c.requires.ascends in
    let e = goes c.args.successor c.self.inside.list.items c.as_slice.result.now c.insert.new.self.items c.in-Err.place up c.as_slice.ensures.value c.in-Err.ensures.position c.insert.ensures.items in
    subst (Ascends 0) (sym e) (ascends-with_number 0 c.args.successor c.self.inside.list.items (omega arith) up)

pub returns-in_default-clause-after : goal.returns-in_default-clause-after
returns-in_default-clause-after c =
    let up = subst (λ (d : Drafted). Ascends 0 d.list) (sym c.self.view_is) c.requires.ascends in
    let e = stays c.args.successor c.self.inside.list.items c.as_slice.result.now c.in_default.field-0 up c.as_slice.ensures.value c.in_default.ensures.position in
    rw (← c.self.view_is) (ap (λ l. record { list = l; state = c.self.inside.state }) (sym e))
