use Rattle.std.proofs.Common.{◌≡◌, ◌++◌, drop}
use Rattle.label_code.specs.Codes.{name_code}
use Rattle.label_code.proofs.code.push_name.Given as goal

-- what is written and what is left are the code
abbrev pub invariant-loop-byte : goal.invariant-loop-byte
invariant-loop-byte l = l.out.items ++ drop l.byte-index l.name ≡ l.fn.out.items ++ name_code l.name
