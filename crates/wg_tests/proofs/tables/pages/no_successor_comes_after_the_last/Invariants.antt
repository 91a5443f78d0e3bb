use Rattle.wg_tests.proofs.tables.pages.no_successor_comes_after_the_last.Given as goal

-- the ledger of the records that are read
abbrev pub ghosts-opened_to_the_end : goal.ghosts-opened_to_the_end
ghosts-opened_to_the_end g a = record { name = a.blank.name; parts = a.blank.parts }
