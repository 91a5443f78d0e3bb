use Rattle.std.proofs.Common.{◌∙◌, ap, subst, ℕ, List, refl, All, Result, Ok, Err, OnOk, OnErr}
use Rattle.std.specs.FinMap.{insert}
use Rattle.wg_io.specs.Held.{files_of, IsAt, IsOther}
use Rattle.wg_io.specs.declared.held.Held.{Held}
use Rattle.wg_io.proofs.HeldLemmas.{extended_at, unchanged_at, appended_new, content_nowhere}
use Rattle.wg_io.proofs.held.extend.Goals as goal

on_err : {B E P : Type 0} (r : Result B E) → P → OnErr r P
on_err (Ok b) p = tt
on_err (Err e) p = p

on_ok : {B E P Q : Type 0} (r : Result B E) → (P → Q) → OnOk r P → OnOk r Q
on_ok (Ok b) f p = f p
on_ok (Err e) f p = tt

pub returns-in_err-extend_from_slice-in-Some-clause-err :
    goal.returns-in_err-extend_from_slice-in-Some-clause-err
returns-in_err-extend_from_slice-in-Some-clause-err c =
    let at = subst (λ (hs : List Held). IsAt hs c.args.name.now c.in-Some.index) c.as_slice.ensures.value c.in-Some.ensures.found in
    let old = c.index_mut-held.result.now in
    on_err c.from_residual.result
    (unchanged_at c.args.helds.now.items c.in-Some.index c.args.name.now old record { name = old.name; bytes = c.extend_from_slice.new.self } at c.index_mut-held.ensures.value refl c.in_err-extend_from_slice-in-Some.ensures.items)

pub returns-in_ok-extend_from_slice-in-Some-clause-ok :
    goal.returns-in_ok-extend_from_slice-in-Some-clause-ok
returns-in_ok-extend_from_slice-in-Some-clause-ok c =
    let at = subst (λ (hs : List Held). IsAt hs c.args.name.now c.in-Some.index) c.as_slice.ensures.value c.in-Some.ensures.found in
    extended_at c.args.helds.now.items c.in-Some.index c.args.name.now c.args.piece.now c.index_mut-held.result.now _ at c.index_mut-held.ensures.value refl c.in_ok-extend_from_slice-in-Some.ensures.items c.requires

pub returns-in_ok-copy_of-in-None-clause-ok : goal.returns-in_ok-copy_of-in-None-clause-ok
returns-in_ok-copy_of-in-None-clause-ok c =
    let hs = c.args.helds.now.items in
    let name = c.args.name.now in
    let none = subst (λ (hs : List Held). All (IsOther name) hs) c.as_slice.ensures.value c.in-None.ensures.missing in
    on_ok c.put.result
    (λ put. put ∙ ap (λ (l : List ℕ). insert (files_of hs) name l) c.in_ok-copy_of-in-None.ensures ∙ appended_new (files_of hs) name c.args.piece.now c.requires (content_nowhere hs name none))
    c.put.ensures.ok
