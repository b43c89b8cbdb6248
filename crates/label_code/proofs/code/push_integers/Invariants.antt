use Rattle.std.proofs.Common.{◌≡◌, ◌++◌, drop}
use Rattle.std.specs.List.{flat_map}
use Rattle.label_code.specs.Codes.{integer_code, list_code}
use Rattle.label_code.proofs.code.push_integers.Given as goal

-- what is written and the codes of what is left are the code
abbrev pub invariant-loop-value : goal.invariant-loop-value
invariant-loop-value l = l.out.items ++ flat_map integer_code (drop l.value-index l.values) ≡ l.fn.out.items ++ list_code integer_code l.values
