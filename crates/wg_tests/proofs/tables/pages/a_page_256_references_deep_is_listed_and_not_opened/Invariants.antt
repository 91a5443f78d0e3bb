use Rattle.wg_tests.proofs.tables.pages.a_page_256_references_deep_is_listed_and_not_opened.Given as goal

-- the ledger of the records that are read
abbrev pub ghosts-long_chain : goal.ghosts-long_chain
ghosts-long_chain g a = record { name = a.blank.name; parts = a.blank.parts }
