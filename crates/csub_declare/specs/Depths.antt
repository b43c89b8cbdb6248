-- A measure of initialisers, by which a walk over them ends.
use Rattle.std.specs.Prelude.{ℕ, ◌+◌}
use Rattle.csub_tree.specs.Declarations.{Init, Inits, One, Listed, NoInits, MoreInits}

abbrev mutual
  pub init_size : Init → ℕ
  init_size (One e) = 1
  init_size (Listed xs s) = 1 + inits_size xs

  pub inits_size : Inits → ℕ
  inits_size NoInits = 1
  inits_size (MoreInits x rest) = init_size x + inits_size rest
