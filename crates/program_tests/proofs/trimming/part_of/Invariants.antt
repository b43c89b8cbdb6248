use Rattle.program_tests.proofs.trimming.part_of.Given as goal

abbrev pub ghosts-walk_counted : goal.ghosts-walk_counted
ghosts-walk_counted a = record { name = a.blank.name; parts = a.blank.parts }
