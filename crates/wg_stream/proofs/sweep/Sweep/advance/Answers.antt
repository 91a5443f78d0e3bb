use Rattle.std.proofs.Common.{rules, ◌≡◌, ◌+◌, ◌-◌, ◌<◌, ◌≤◌, ℕ, List, length, sym, ap, subst, ◌∙◌, arith}
use Rattle.std.specs.Prelude.{All}
use Rattle.wg_graph.specs.Filled.{Filled}
use Rattle.wg_stream.specs.AllRecords.{known_at}
use Rattle.wg_stream.specs.Sweeping.{AreKept, IsNext}
use Rattle.wg_stream.proofs.SweepLemmas.{written, fits_room}
use Rattle.wg_stream.proofs.sweep.Sweep.advance.Goals as goal

pub decode_page-self-inside-requires-clause-next : goal.decode_page-self-inside-requires-clause-next
decode_page-self-inside-requires-clause-next c =
    let h = c.self.invariant in
    let lists = c.as_mut_slice.ensures.value in
    let rows : c.as_slice.result.now ≡ c.keep-self-inside.new.kept =
    c.as_slice.ensures.value ∙ written _ c.keep-self-inside.new.kept _ (c.keep-self-inside.ensures.count ∙ ap (λ (l : List Filled). length l) lists) (sym c.as_mut_slice.ensures.len ∙ ap (λ (l : List Filled). length l) lists) in
    let lt : c.self.inside.page < c.self.inside.archive.params.nodes = search rules in (
      h.reading,
      record {
        begins = h.begins;
        enough = omega (arith, h.count, c.keep-self-inside.ensures.count, ap (λ (l : List Filled). length l) rows, ap (λ (l : List Filled). length l) lists);
        before = subst (λ (l : List Filled). AreKept h.reading.records c.self.inside.page l c.keep-self-inside.result) (sym rows)
            (c.keep-self-inside.ensures.kept h.reading.records c.self.inside.page (subst (λ (l : List Filled). AreKept h.reading.records (c.self.inside.page - 1) l c.self.inside.turn) (sym lists) h.before) h.last);
      },
      omega (arith, fits_room _ _ h.reading _ _ c.self.inside.page h.graph_is lt h.room, c.keep-self-inside.ensures.room),
    )

pub invariant_of-self : goal.invariant_of-self
invariant_of-self c =
    let h = c.self.invariant in
    let lists = c.as_mut_slice.ensures.value in
    let rows = written c.self.inside.kept.len c.keep-self-inside.new.kept c.self.inside.kept.items (c.keep-self-inside.ensures.count ∙ ap (λ (l : List Filled). length l) lists) (sym c.as_mut_slice.ensures.len ∙ ap (λ (l : List Filled). length l) lists) in
    let lent : c.as_slice.result.now ≡ c.keep-self-inside.new.kept = c.as_slice.ensures.value ∙ rows in
    let lt : c.self.inside.page < c.self.inside.archive.params.nodes = search rules in
    let kept : AreKept h.reading.records c.self.inside.page c.keep-self-inside.new.kept c.keep-self-inside.result =
    c.keep-self-inside.ensures.kept h.reading.records c.self.inside.page (subst (λ (l : List Filled). AreKept h.reading.records (c.self.inside.page - 1) l c.self.inside.turn) (sym lists) h.before) h.last in
    let next : IsNext _ _ h.reading c.self.inside.page c.self.inside.at c.as_slice.result.now c.keep-self-inside.result = record {
      begins = h.begins;
      enough = omega (arith, h.count, c.keep-self-inside.ensures.count, ap (λ (l : List Filled). length l) lent, ap (λ (l : List Filled). length l) lists);
      before = subst (λ (l : List Filled). AreKept h.reading.records c.self.inside.page l c.keep-self-inside.result) (sym lent) kept;
    } in
    let same : c.decode_page-self-inside.new.list.room ≡ c.self.inside.list.room = c.decode_page-self-inside.ensures.room ∙ c.keep-self-inside.ensures.room in
    let page : c.self.inside.page ≡ c.self.inside.page + 1 - 1 = omega arith in
    record {
      short = h.short;
      reading = h.reading;
      graph_is = h.graph_is;
      proper = h.proper;
      few = omega (arith, lt);
      begins = c.decode_page-self-inside.ensures.end h.reading next;
      count = ap (λ (l : List Filled). length l) rows ∙ c.keep-self-inside.ensures.count ∙ ap (λ (l : List Filled). length l) lists ∙ h.count;
      room = subst (λ (k : ℕ). All (λ s. length s ≤ k) c.self.inside.archive.graph.0) (sym same) h.room;
      rooms = subst (λ (l : List Filled). All (λ r. r.room ≡ c.decode_page-self-inside.new.list.room) l) (sym rows) (subst (λ (k : ℕ). All (λ r. r.room ≡ k) c.keep-self-inside.new.kept) (sym same) c.keep-self-inside.ensures.rooms);
      last = λ _. c.decode_page-self-inside.ensures.list h.reading next ∙ ap (λ (k : ℕ). (known_at h.reading.records k).list) page;
      turns = λ some. omega (arith, ap (λ (l : List Filled). length l) rows, c.keep-self-inside.ensures.count, c.keep-self-inside.ensures.turn (omega (arith, some, ap (λ (l : List Filled). length l) rows, c.keep-self-inside.ensures.count)));
      before = subst (λ (l : List Filled). AreKept h.reading.records (c.self.inside.page + 1 - 1) l c.keep-self-inside.result) (sym rows) (subst (λ (k : ℕ). AreKept h.reading.records k c.keep-self-inside.new.kept c.keep-self-inside.result) page kept);
    }
