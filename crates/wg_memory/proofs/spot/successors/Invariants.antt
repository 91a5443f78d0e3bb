use Rattle.wg_memory.proofs.spot.successors.Given as goal

-- the ledger of the records that are read
abbrev pub ghosts-counted : goal.ghosts-counted
ghosts-counted a = record { name = a.blank.name; parts = a.blank.parts }
