use Rattle.std.proofs.Common.{◌∙◌, ℕ, List, [], refl, sym, ap, subst}
use Rattle.wg_io.specs.Memory.{SteadyFiles}
use Rattle.wg_encoder.specs.Gone.{HasSentAll}
use Rattle.wg_encoder.specs.ArchiveInMemory.{encoded, EncodedSoFar, so_far, HasEncoded, HoldsArchive}
use Rattle.wg_encoder.proofs.InMemory.{as_sent, whole_archive, there, answered}
use Rattle.wg_encoder.proofs.archive_encoder.ArchiveEncoder.end.Goals as goal

files_are : (c : goal.In_ok-put_file-in-Ok) (lists : List (List ℕ)) → HasEncoded (so_far c.self.inside.lists c.self.inside.files.value.files) lists
    → HoldsArchive c.put_file.new.self.files [] (encoded c.self.inside.lists.params c.args.properties.now lists).files
files_are c lists h =
    let s = c.self.inside in
    let sent = subst (λ (d : SteadyFiles). HasSentAll d.files [] s.lists lists) (sym c.into_inner-depot.ensures) (as_sent s.lists s.files.value.files lists h) in
    subst (λ (d : SteadyFiles). HoldsArchive d.files [] (encoded s.lists.params c.args.properties.now lists).files) (sym c.in_ok-put_file-in-Ok.ensures.ok)
    (whole_archive c.finish.new.depot.files c.args.properties.now s.lists.params lists (c.in-Ok.ensures.ok lists h.written refl sent))

pub invariant_of-result : goal.invariant_of-result
invariant_of-result c = there _ [] _ (files_are c c.self.invariant.0 c.self.invariant.1)

pub returns-in_ok-put_file-in-Ok : goal.returns-in_ok-put_file-in-Ok
returns-in_ok-put_file-in-Ok c lists p h same =
    let here = subst (λ (e : EncodedSoFar). HasEncoded e lists) (sym c.self.view_is) h in
    let is = same ∙ ap (λ (e : EncodedSoFar). record e.params { arcs = p.arcs }) (sym c.self.view_is) in
    answered p c.self.inside.lists.params c.put_file.new.self.files c.args.properties.now lists _ _ (files_are c lists here)
    (c.in-Ok.ensures.bits ∙ here.written.is_total) (c.referring-referring.ensures.value ∙ here.written.is_referring) is
