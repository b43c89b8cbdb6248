use Rattle.accept_tests.proofs.walks.walk.Given as goal

abbrev pub ghosts-walk_counted : goal.ghosts-walk_counted
ghosts-walk_counted a = record { name = a.blank.name; parts = a.blank.parts }
