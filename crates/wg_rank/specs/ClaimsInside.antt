-- What is true of the fields of all certificates.
use Rattle.wg_rank.specs.Claims.{Claim, IsClaim}
use Rattle.wg_rank.specs.declared.certificate.Certificate.TheInside.{Inside}

abbrev pub claim_inside : Inside → Claim
claim_inside c = record { damping = c.damping; low = c.low.items }

abbrev pub IsKept : Inside → Type 0
IsKept c = IsClaim (claim_inside c)
