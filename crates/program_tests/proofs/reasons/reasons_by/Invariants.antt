use Rattle.program_tests.proofs.reasons.reasons_by.Given as goal

abbrev pub ghosts-reasons_counted : goal.ghosts-reasons_counted
ghosts-reasons_counted a = record { name = a.blank.name; parts = a.blank.parts }
