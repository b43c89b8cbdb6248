-- What the code's sorts, standings and uses stand for.
use Rattle.std.specs.Prelude.{[], ◌∷◌, map}
use Rattle.csub_types.specs.declared.kind.IntKind.TheVariants.{Int}
use Rattle.csub_objects.specs.Meaning.{type_tree}
use Rattle.csub_objects.specs.Types.{number_type}
use Rattle.csub_rules.specs.ExprFaults as standings
use Rattle.csub_rules.specs.Formats as formats
use Rattle.csub_rules.specs.Sorts as sorts
use Rattle.csub_rules.specs.Uses as uses
use Rattle.csub_check.specs.Arguments as arguments
use Rattle.csub_check.specs.declared.arguments.Wanted.{Wanted}
use Rattle.csub_check.specs.declared.arguments.Wanted.TheVariants as wants
use Rattle.csub_check.specs.declared.format.Literal.{Literal}
use Rattle.csub_check.specs.declared.sort.Sort.{Sort}
use Rattle.csub_check.specs.declared.sort.Sort.TheVariants.{Place, Value, Void, Unknown}
use Rattle.csub_check.specs.declared.standing.Standing.{Standing}
use Rattle.csub_check.specs.declared.standing.Standing.TheVariants.{Whole, Operand, Later}
use Rattle.csub_check.specs.declared.uses.Use.{Use}
use Rattle.csub_check.specs.declared.uses.Use.TheVariants.{Statement, Part, Number, Constant}

abbrev pub the_sort : Sort → sorts.Sort
the_sort (Place t) = sorts.a_place (type_tree t.now)
the_sort (Value k) = sorts.a_value k
the_sort Void = sorts.a_void
the_sort Unknown = sorts.no_sort

abbrev pub the_standing : Standing → standings.Standing
the_standing Whole = standings.whole_statement
the_standing Operand = standings.operand
the_standing Later = standings.later_operand

abbrev pub the_wanted : Wanted → arguments.Wanted
the_wanted (wants.Types ts) = arguments.for_types (map type_tree ts.now)
the_wanted wants.OneInt = arguments.for_types (number_type Int ∷ [])
the_wanted wants.Nothing = arguments.for_types []
the_wanted wants.Format = arguments.a_format
the_wanted wants.Numbers = arguments.numbers

abbrev pub the_literal : Literal → formats.Literal
the_literal l = record { bytes = l.bytes.now; span = l.span }

abbrev pub the_use : Use → uses.Use
the_use Statement = uses.as_statement
the_use Part = uses.as_part
the_use Number = uses.as_number
the_use Constant = uses.as_constant
