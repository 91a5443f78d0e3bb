use Rattle.std.proofs.Common.{rules, ap}
use Rattle.wg_rank.specs.Claims.{claim_of_bounds}
use Rattle.wg_rank.specs.CertificateText.{text_of_claim}
use Rattle.wg_rank.specs.declared.limits.TheConstants.{UNITS}
use Rattle.wg_rank.proofs.Printed.{put_all, put_less}
use Rattle.wg_rank.proofs.Rounds.{all_within_total}
use Rattle.wg_rank.proofs.writing.write_certificate.Goals as goal

pub write_claim-requires : goal.write_claim-requires
write_claim-requires g c = rw c.lower.ensures.value (all_within_total UNITS c.args.bounds.now.low c.lower.ensures.within)

pub returns-clause-ok : goal.returns-clause-ok
returns-clause-ok g c t =
    put_all _ _ _ _ c.args.name.now _ _ (text_of_claim (claim_of_bounds c.args.bounds.now)) (ap (λ d. g.D.Depot.files d.now) c.new.ensures.depot) c.new.ensures.name
    c.write_claim.ensures.later.1 (search rules) (c.write_claim.ensures.later.2.added t) c.write_claim.result (rw (c.damping.ensures.value, c.lower.ensures.value) at (c.write_claim.ensures.puts t))

pub returns-clause-err : goal.returns-clause-err
returns-clause-err g c t =
    put_less _ _ _ _ c.args.name.now _ _ (text_of_claim (claim_of_bounds c.args.bounds.now)) (ap (λ d. g.D.Depot.files d.now) c.new.ensures.depot) c.new.ensures.name
    c.write_claim.ensures.later.1 (search rules) (c.write_claim.ensures.later.2.added t) c.write_claim.result (rw (c.damping.ensures.value, c.lower.ensures.value) at (c.write_claim.ensures.puts t))
