-- Names that no text spells.
use Rattle.std.specs.Prelude.{IsTrue, not}
use Rattle.csub_tree.specs.Units.{Source}
use Rattle.csub_semantics.specs.Flows.{start_name}
use Rattle.csub_rules.specs.Labels.{stands_in}
use Rattle.csub_rules.specs.Units.{all_defined}

-- no function of a source has the name `#start`, which is no identifier (C11 6.4.2.1)
abbrev pub NoneIsStart : Source → Type 0
NoneIsStart u = IsTrue (not (stands_in start_name (all_defined u.items)))
