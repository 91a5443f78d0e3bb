use Rattle.wg_tests.proofs.tables.records.records_and_their_offsets.Given as goal

-- the ledger of the records that are read
abbrev pub ghosts-counted : goal.ghosts-counted
ghosts-counted g a = record { name = a.blank.name; parts = a.blank.parts }
