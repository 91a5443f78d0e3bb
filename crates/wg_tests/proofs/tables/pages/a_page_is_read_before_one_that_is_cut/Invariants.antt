use Rattle.wg_tests.proofs.tables.pages.a_page_is_read_before_one_that_is_cut.Given as goal

-- the ledger of the records that are read
abbrev pub ghosts-spotted : goal.ghosts-spotted
ghosts-spotted g a = record { name = a.blank.name; parts = a.blank.parts }
