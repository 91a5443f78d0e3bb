use Rattle.wg_tests.proofs.callers.reading.successors_of_an_opened_page.Given as goal

-- the ledger of the records that are read
abbrev pub ghosts-counted : goal.ghosts-counted
ghosts-counted g a = record { name = a.blank.name; parts = a.blank.parts }
