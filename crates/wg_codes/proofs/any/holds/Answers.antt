use Rattle.std.proofs.Common.{◌≤◌, ◌*◌, ◌%◌, ◌^◌, sym, subst, ap, ◌∙◌}
use Rattle.std.proofs.lemmas.Nat.{one_shl}
use Rattle.wg_codes.proofs.Lengths.{top_above}
use Rattle.wg_codes.proofs.any.holds.Goals as goal

pub overflow_sub-result-in-Zeta : goal.overflow_sub-result-in-Zeta
overflow_sub-result-in-Zeta c =
    let r = rw c.in-Zeta.is at c.requires in
    let t = top_above c.in-Zeta.k r.0 r.1 in
    subst (λ m. 2 ≤ m) (sym (ap (λ q. (1 * 2 ^ (c.in-Zeta.k * q)) % 2 ^ 64) c.over.ensures ∙ one_shl _ 64 t.0)) t.1
