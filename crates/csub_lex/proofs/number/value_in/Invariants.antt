use Rattle.std.proofs.Common.{◌≡◌, ◌≤◌, take}
use Rattle.csub_lex.specs.Numbers.{value_in}
use Rattle.csub_lex.proofs.number.value_in.Given as goal

abbrev pub invariant-loop-digit : goal.invariant-loop-digit
invariant-loop-digit l = record {
  small : l.value ≤ 4294967295;
  so_far : l.value ≡ value_in l.base (take l.digit-index l.digits);
}
