use Rattle.wg_lookups.proofs.spot.spot.Given as goal

-- the ledger of the records that are opened
abbrev pub ghosts-uncounted : goal.ghosts-uncounted
ghosts-uncounted g a = record { name = a.blank.name; parts = a.blank.parts }
