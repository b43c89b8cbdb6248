-- Enum constants one after the other.
use Rattle.std.proofs.Common.{◌≡◌, refl, ℕ, ℤ, ◌+◌, ◌<◌, List, length, map, drop, get_or, Option}
use Rattle.csub_tree.specs.declared.unit.Constant.{Constant as CodeConstant}
use Rattle.csub_tree.specs.Units.{Constant, constant_tree}
use Rattle.csub_scopes.specs.Scopes.{Scope}
use Rattle.csub_rules.specs.declared.fault.Fault.{Fault}
use Rattle.csub_rules.specs.Faults.{◌or_earlier◌}
use Rattle.csub_rules.specs.Constants.{enum_value}
use Rattle.csub_rules.specs.Enums.{value_after, past_constant, past_constants, constant_fault, constants_fault}
use Rattle.csub_units.proofs.Loops.{one_more, one_fault_more}

-- what is declared so far, and the value of the next constant without an expression
abbrev State : Type 0
State = Scope × ℤ

abbrev behind_one : State → Constant → State
behind_one s c = (past_constant s.0 s.1 c, value_after s.1 (enum_value s.0 s.1 c.value))

module _ (s k : Scope) (next after : ℤ) (xs : List CodeConstant) (i : ℕ) (x : CodeConstant) (h : i < length xs) (e : x ≡ get_or xs i x)
    (p : k ≡ past_constant s next (constant_tree x)) (q : after ≡ value_after next (enum_value s next (constant_tree x).value)) where
  abbrev now : State
  now = (k, after)

  abbrev before : State
  before = (s, next)

  same : now ≡ behind_one before (constant_tree x)
  same = rw (p, q) refl

  pub constants_past_more : past_constants k after (map constant_tree (drop (i + 1) xs)) ≡ past_constants s next (map constant_tree (drop i xs))
  constants_past_more =
      one_more constant_tree behind_one (λ (t : State) cs. past_constants t.0 t.1 cs) (λ t c cs. refl) before now xs i x h e same

  pub constants_fault_more : (least this told : Option Fault) → this ≡ constant_fault s next (constant_tree x) → told ≡ (least or_earlier this)
      → (told or_earlier constants_fault k after (map constant_tree (drop (i + 1) xs)))
      ≡ (least or_earlier constants_fault s next (map constant_tree (drop i xs)))
  constants_fault_more least this told f n =
      one_fault_more constant_tree behind_one (λ (t : State) c. constant_fault t.0 t.1 c) (λ (t : State) cs. constants_fault t.0 t.1 cs)
      (λ t c cs. refl) before now xs i x least this told h e same f n
