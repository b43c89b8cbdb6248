-- Closed facts of faults.
use Rattle.std.specs.Prelude.{◌≡◌, ℕ, pos, List, [], ◌∷◌, true, false, Option, Some, None, codes, refl}
use Rattle.csub_text.specs.declared.operator.BinOp.TheVariants.{Add}
use Rattle.csub_types.specs.declared.kind.IntKind.TheVariants as kinds
use Rattle.csub_tree.specs.declared.name.TypeName.TheVariants as names
use Rattle.csub_tree.specs.Expressions.{Paren, Binary, And}
use Rattle.csub_tree.specs.Expressions.{Member, NoExprs, MoreExprs}
use Rattle.csub_objects.specs.Types.{TypeTree, number_type, array_type}
use Rattle.csub_rules.specs.ExprFaults.{operand, fault}
use Rattle.csub_rules.specs.Uses.{as_statement, as_number, as_constant, use_fault, enum_fault}
use Rattle.csub_rules.specs.Declarators.{base_type, base_fault, declared_type, slot_fault}
use Rattle.csub_rules.specs.Params.{param_fault}
use Rattle.csub_rules.specs.Initialisers.{init_fault}
use Rattle.csub_tree.specs.declared.name.TypeName.{TypeName}
use Rattle.csub_tree.specs.Declarations.{One, Listed, NoInits, MoreInits}
use Rattle.csub_rules.proofs.RowTerms.{at, named, e, num, name, call, one, string, breaks, here}

-- faults
unknown : fault here operand (e (Binary Add (e (Member (name (codes "y")) (named (codes "m") 8))) (num 1))) ≡ breaks 1 7
unknown = refl

no_member : fault here operand (e (Member (name (codes "x")) (named (codes "m") 8))) ≡ breaks 5 8
no_member = refl

array_asked : use_fault here as_statement (name (codes "c")) ≡ breaks 7 7
array_asked = refl

void_stands : use_fault here as_statement (call (codes "g") NoExprs) ≡ None
void_stands = refl

void_asked : use_fault here as_number (call (codes "g") NoExprs) ≡ breaks 7 3
void_asked = refl

too_many : fault here operand (call (codes "g") (one (num 1))) ≡ breaks 13 3
too_many = refl

late : fault here operand (e (And (num 1) (call (codes "f") (one (num 1))))) ≡ breaks 14 3
late = refl

exits : use_fault here as_statement (e (Paren (call (codes "exit") (one (num 1))))) ≡ None
exits = refl

exit_asked : use_fault here as_number (call (codes "exit") (one (num 1))) ≡ breaks 20 3
exit_asked = refl

prints : use_fault here as_number (call (codes "printf") (MoreExprs (e (Paren (string (codes "%d")))) (one (num 1)))) ≡ None
prints = refl

prints_array : fault here operand (call (codes "printf") (MoreExprs (string (codes "%d")) (one (name (codes "c"))))) ≡ breaks 7 7
prints_array = refl

prints_fewer : fault here operand (call (codes "printf") (one (string (codes "%d")))) ≡ breaks 20 5
prints_fewer = refl

prints_no_string : fault here operand (call (codes "printf") (one (num 1))) ≡ breaks 20 3
prints_no_string = refl

odd_string : fault here operand (call (codes "putchar") (one (string (codes "x")))) ≡ breaks 20 5
odd_string = refl

no_constant : use_fault here as_constant (e (Binary Add (num 1) (name (codes "y")))) ≡ breaks 9 0
no_constant = refl

unknown_constant : use_fault here as_constant (name (codes "y")) ≡ breaks 1 7
unknown_constant = refl

-- types, parameters and initialisers
abbrev struct : List ℕ → TypeName
struct x = names.Struct (named x 2)

abbrev chars : Option TypeTree
chars = Some (array_type (number_type kinds.Char) 2)

two_dimensions : declared_type here (base_type here names.Int) (num 2 ∷ num 3 ∷ []) ≡ Some (array_type (array_type (number_type kinds.Int) 3) 2)
two_dimensions = refl

no_tag : base_fault here (struct (codes "s")) ≡ breaks 4 2
no_tag = refl

no_length : slot_fault here (base_type here names.Int) (at 4) (num 0 ∷ []) ≡ breaks 10 4
no_length = refl

long : slot_fault here (base_type here names.Int) (at 4) (num 65536 ∷ []) ≡ None
long = refl

too_long : slot_fault here (base_type here names.Int) (at 4) (num 65537 ∷ []) ≡ breaks 10 4
too_long = refl

too_many_cells : slot_fault here (base_type here names.Int) (at 4) (num 256 ∷ num 257 ∷ []) ≡ breaks 10 4
too_many_cells = refl

four_dimensions : slot_fault here (base_type here names.Int) (at 4) (num 1 ∷ num 1 ∷ num 1 ∷ num 1 ∷ []) ≡ breaks 10 4
four_dimensions = refl

no_constant_length : slot_fault here (base_type here names.Int) (at 4) (name (codes "x") ∷ []) ≡ breaks 9 7
no_constant_length = refl

struct_parameter : param_fault here (record { base = struct (codes "s"); name = None; array = false; length = None; span = at 1 }) ≡ breaks 4 2
struct_parameter = refl

fits : init_fault here true chars (Listed (MoreInits (One (num 1)) (MoreInits (One (num 2)) NoInits)) (at 5)) ≡ None
fits = refl

an_entry_more : init_fault here true chars (Listed (MoreInits (One (num 1)) (MoreInits (One (num 2)) (MoreInits (One (num 3)) NoInits))) (at 5)) ≡ breaks 11 5
an_entry_more = refl

no_list : init_fault here false chars (One (num 1)) ≡ breaks 11 0
no_list = refl

list_for_number : init_fault here false (Some (number_type kinds.Int)) (Listed NoInits (at 5)) ≡ breaks 11 5
list_for_number = refl

at_file_scope : init_fault here true (Some (number_type kinds.Int)) (One (name (codes "x"))) ≡ breaks 9 7
at_file_scope = refl

in_a_block : init_fault here false (Some (number_type kinds.Int)) (One (name (codes "x"))) ≡ None
in_a_block = refl

an_enum_constant : enum_fault here (pos 2147483648) (at 6) None ≡ breaks 9 6
an_enum_constant = refl
