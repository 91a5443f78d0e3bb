use Rattle.std.proofs.Common.{◌++◌, ◌≤◌, ◌∙◌, ℕ, [], sym, subst, refl}
use Rattle.wg_params.specs.declared.limits.TheConstants.{MOST_PAGES}
use Rattle.std.proofs.lemmas.Result.{err_from_is_err_and}
use Rattle.wg_num.specs.Lines.{lines_of}
use Rattle.wg_ascii.specs.Growing.{IsUpTo}
use Rattle.wg_ascii.proofs.PageLemmas.{read_of_first, stands_alone}
use Rattle.wg_ascii.proofs.reading.read.Goals as goal

pub new-requires : goal.new-requires
new-requires c = subst (λ (n : ℕ). n ≤ MOST_PAGES) (sym c.nodes.ensures) c.in_ok-lines.ensures.few

pub read_lists-requires : goal.read_lists-requires
read_lists-requires c =
    let n = c.in_ok-lines.ensures in
    let b = c.in_ok-builder.ensures in
    record { nodes = sym (b.nodes ∙ c.nodes.ensures); few = n.few; none = b.lists; first = n.line; arcs = n.arcs }

pub returns-in_err-lines : goal.returns-in_err-lines
returns-in_err-lines c =
    let p = err_from_is_err_and c.from_residual.result c.from_residual.ensures.1 in
    rw (p.1, p.2) (read_of_first c.args.bytes.now c.in_err-lines.field-0.0 (c.in_err-lines.ensures.fault [] (λ none. refl)))

pub returns-in_err-rest : goal.returns-in_err-rest
returns-in_err-rest c =
    let all = lines_of c.args.bytes.now ++ [] in
    let p = err_from_is_err_and c.from_residual-in_err-rest.result c.from_residual-in_err-rest.ensures.1 in
    rw (p.1, p.2) (read_of_first c.args.bytes.now c.in_err-rest.field-0.0 (c.in_err-rest.ensures.fault all [] (c.in_ok-lines.ensures.read [])))

pub returns-in_err-refuse_words : goal.returns-in_err-refuse_words
returns-in_err-refuse_words c =
    let all = lines_of c.args.bytes.now ++ [] in
    let p = err_from_is_err_and c.from_residual-in_err-refuse_words.result c.from_residual-in_err-refuse_words.ensures.1 in
    rw (p.1, p.2)
    (read_of_first c.args.bytes.now c.in_err-refuse_words.field-0.0 (c.in_err-refuse_words.ensures.fault all [] c.read_lists.new.builder.lists (c.in_ok-rest.ensures.read all [] (c.in_ok-lines.ensures.read []))))

pub returns-in_err-end : goal.returns-in_err-end
returns-in_err-end c =
    let all = lines_of c.args.bytes.now ++ [] in
    let lists = c.read_lists.new.builder.lists in
    let up = c.in_ok-refuse_words.ensures.read all [] lists (c.in_ok-rest.ensures.read all [] (c.in_ok-lines.ensures.read [])) in
    let p = err_from_is_err_and c.from_residual-in_err-end.result c.from_residual-in_err-end.ensures.1 in
    rw (p.1, p.2) (read_of_first c.args.bytes.now c.in_err-end.field-0.0 (c.in_err-end.ensures.fault all lists up))

pub returns : goal.returns
returns c =
    let all = lines_of c.args.bytes.now ++ [] in
    let lists = c.read_lists.new.builder.lists in
    let s = c.refuse_words.new.self in
    let up : IsUpTo all [] lists s = c.in_ok-refuse_words.ensures.read all [] lists (c.in_ok-rest.ensures.read all [] (c.in_ok-lines.ensures.read [])) in
    let f = c.in_ok-finish.ensures in
    let e = c.in_ok-rest.ensures in
    let room = c.in_ok-builder.ensures.nodes ∙ c.nodes.ensures in
    let here = c.in_ok-refuse_words.ensures.nodes ∙ e.nodes in
    stands_alone c.args.bytes.now lists s c.in_ok-finish.field-0 c.read_lists.new.builder.nodes (f.nodes ∙ e.same ∙ room ∙ sym here) (e.same ∙ room ∙ sym here) f.lists c.in_ok-end.ensures.over up
