use Rattle.wg_codes.proofs.any.read_in_steps.Goals.{in-Unary, in-Gamma, in-Delta, in-Zeta, in-Nibble}
use Rattle.wg_codes.proofs.any.read_in_steps.Goals as goal

pub returns-clause-found : goal.returns-clause-found
returns-clause-found c =
    elim c.match-code.branch [
      | in-Unary w ↦ rw w.in-Unary.is (rw w.read-is w.read-read.ensures.found)
      | in-Gamma w ↦ rw w.in-Gamma.is (rw w.read-is w.read-read-in-Gamma.ensures.found)
      | in-Delta w ↦ rw w.in-Delta.is (rw w.read-is w.read-read-in-Delta.ensures.found)
      | in-Zeta w ↦ rw w.in-Zeta.is (rw w.read-is w.read-read-in-Zeta.ensures.found)
      | in-Nibble w ↦ rw w.in-Nibble.is (rw w.read-is w.read-read-in-Nibble.ensures.found)
    ]
