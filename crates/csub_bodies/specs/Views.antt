-- What the code's records stand for, and a block that is left. No definition of the rules needs this file.
use Rattle.std.specs.Prelude.{ℕ, ◌-◌, drop, length}
use Rattle.csub_scopes.specs.Meanings.{scope_of}
use Rattle.csub_check.specs.Seen.{the_use}
use Rattle.csub_rules.specs.Here as heres
use Rattle.csub_rules.specs.StmtFaults as statements
use Rattle.csub_bodies.specs.declared.here.Here.{Here}
use Rattle.csub_bodies.specs.declared.surroundings.Surroundings.{Surroundings}

abbrev pub here_of : Here → heres.Here
here_of h = record { scope = scope_of h.scope; depth = h.depth; before = h.before }

-- of the names in scope the first ones stay, as many as there were when the block was entered
abbrev pub closed : heres.Here → ℕ → ℕ → heres.Here
closed h depth mark = record {
  scope = record h.scope { names = drop (length h.scope.names - mark) h.scope.names };
  depth = depth;
  before = h.before;
}

abbrev pub the_surroundings : Surroundings → statements.Surroundings
the_surroundings a = record {
  result = a.result;
  labels = a.labels.now;
  statement = the_use a.statement;
  can_break = a.can_break;
  can_continue = a.can_continue;
}
