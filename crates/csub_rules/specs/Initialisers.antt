-- Initialisers (C11 6.7.9) of objects of a type, and the rules on them.
use Rattle.std.specs.Prelude.{ℕ, ◌+◌, Bool, true, Option, Some, None, is_some, not, ◌&&◌, if◌then◌else◌}
use Rattle.csub_tree.specs.Expressions.{Expr, span_of}
use Rattle.csub_tree.specs.Declarations.{Init, Inits, One, Listed, NoInits, MoreInits}
use Rattle.csub_objects.specs.Types.{TypeTree}
use Rattle.csub_objects.specs.Parts.{part_type, has_parts}
use Rattle.csub_scopes.specs.Scopes.{Scope}
use Rattle.csub_rules.specs.declared.fault.Fault.{Fault}
use Rattle.csub_rules.specs.Faults.{fault_if, ◌or_earlier◌}
use Rattle.csub_rules.specs.Sorts.{lacks, kind_of_type}
use Rattle.csub_rules.specs.ExprSorts.{sort_of}
use Rattle.csub_rules.specs.Uses.{Use, as_number, as_constant, use_fault}

-- each entry has a part, the first one that of number i (C11 6.7.9p2)
abbrev pub fills : TypeTree → ℕ → Inits → Bool
fills t i NoInits = true
fills t i (MoreInits x rest) = is_some (part_type t i) && fills t (i + 1) rest

-- M11: a list initialises what is no array and no struct, or has too many entries
abbrev pub list_misfits : TypeTree → Inits → Bool
list_misfits t xs = not (has_parts t && fills t 0 xs)

-- M11: an expression, and no list, initialises an array or a struct (C11 6.7.9p16)
abbrev pub lacks_list : Scope → TypeTree → Expr → Bool
lacks_list scope t e = lacks (sort_of scope e) (is_some (kind_of_type t))

-- M9: at file scope each expression is a constant (C11 6.7.9p4)
abbrev pub use_at : Bool → Use
use_at file = if file then as_constant else as_number

abbrev pub value_fault : Scope → Bool → Option TypeTree → Expr → Option Fault
value_fault scope file None e = None
value_fault scope file (Some t) e = use_fault scope (use_at file) e or_earlier fault_if (lacks_list scope t e) 11 (span_of e)

-- The earliest fault of an initialiser at file scope or not, for an object of a type. Nothing is said of what has no type: an
-- entry too many, which its list tells.
abbrev mutual
  pub init_fault : Scope → Bool → Option TypeTree → Init → Option Fault
  init_fault scope file o (One e) = value_fault scope file o e
  init_fault scope file None (Listed xs s) = None
  init_fault scope file (Some t) (Listed xs s) = fault_if (list_misfits t xs) 11 s or_earlier entries_fault scope file t 0 xs

  -- entries of a list, the first one for part number i
  pub entries_fault : Scope → Bool → TypeTree → ℕ → Inits → Option Fault
  entries_fault scope file t i NoInits = None
  entries_fault scope file t i (MoreInits x rest) =
      init_fault scope file (part_type t i) x or_earlier entries_fault scope file t (i + 1) rest
