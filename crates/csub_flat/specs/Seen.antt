-- What flat labels of the code stand for.
use Rattle.std.specs.Prelude.{map}
use Rattle.csub_semantics.specs.Trees.{variable, element_place, member_place, constant, reading, unary_operation, conversion, stepping, operation}
use Rattle.csub_semantics.specs.Trees.{conjunction, disjunction, choice, assignment, update, input_byte, output_byte, formatted, no_expr, more_exprs}
use Rattle.csub_flat.specs.Trees as the
use Rattle.csub_flat.specs.declared.flat.Form.{Form}
use Rattle.csub_flat.specs.declared.flat.FlatVariable.{FlatVariable}
use Rattle.csub_flat.specs.declared.flat.FlatVariable.TheVariants.{Frame, Global, Referring}
use Rattle.csub_flat.specs.declared.flat.FlatLocal.{FlatLocal}
use Rattle.csub_flat.specs.declared.flat.FlatPart.{FlatPart}
use Rattle.csub_flat.specs.declared.flat.FlatPlace.{FlatPlace, Variable, Element', Member'}
use Rattle.csub_flat.specs.declared.flat.FlatExpr.{FlatExpr, Const, Read, Unary', Cast', Step, Binary', And', Or', Choose', Assign', Update', Getchar, Putchar'}
use Rattle.csub_flat.specs.declared.flat.FlatExpr.{Local, StepLocal, AssignLocal', BinaryConst', BinaryLocal', BinaryLocalConst}
use Rattle.csub_flat.specs.declared.flat.FlatExpr.{Printf', Row_of-FlatExpr, end_of-FlatExpr, more_of-FlatExpr}
use Rattle.csub_flat.specs.declared.flat.FlatGiven.{FlatGiven}
use Rattle.csub_flat.specs.declared.flat.FlatGiven.TheVariants.{Number, Array}
use Rattle.csub_flat.specs.declared.flat.FlatArg.{FlatArg}
use Rattle.csub_flat.specs.declared.flat.FlatWrite.{FlatWrite}
use Rattle.csub_flat.specs.declared.flat.FlatWrite.TheVariants.{Value, Zeros}
use Rattle.csub_flat.specs.declared.flat.FlatCall.{FlatCall}
use Rattle.csub_flat.specs.declared.flat.FlatLabel.{FlatLabel}
use Rattle.csub_flat.specs.declared.flat.FlatLabel.TheVariants.{Next, Exit, Eval, Init, Branch, Switch, Return, Halt, Call}

abbrev pub form_seen : Form → the.Form
form_seen f = record { kind = f.kind; length = f.length }

abbrev pub variable_seen : FlatVariable → the.FlatVariable
variable_seen (Frame s f) = the.frame_slot s (form_seen f)
variable_seen (Global s f) = the.global_slot s (form_seen f)
variable_seen (Referring s f) = the.referring_slot s (form_seen f)

abbrev pub part_seen : FlatPart → the.FlatPart
part_seen p = record { slots = p.slots; form = form_seen p.form }

-- a variable of the frame
abbrev pub local_seen : FlatLocal → the.FlatVariable
local_seen l = the.frame_slot l.slot (form_seen l.form)

abbrev mutual
  pub place_seen : FlatPlace → the.FlatPlace
  place_seen (Variable v) = variable (variable_seen v)
  place_seen (Element' part p a q i) = element_place (part_seen part) (place_seen a) (expr_seen i)
  place_seen (Member' part p a) = member_place (part_seen part) (place_seen a)

  pub expr_seen : FlatExpr → the.FlatExpr
  expr_seen (Const k v) = constant k v
  expr_seen (Read p) = reading (place_seen p)
  expr_seen (Unary' op k p a) = unary_operation op k (expr_seen a)
  expr_seen (Cast' k p a) = conversion k (expr_seen a)
  expr_seen (Step op p) = stepping op (place_seen p)
  expr_seen (Binary' op k p a q b) = operation op k (expr_seen a) (expr_seen b)
  expr_seen (And' p a q b) = conjunction (expr_seen a) (expr_seen b)
  expr_seen (Or' p a q b) = disjunction (expr_seen a) (expr_seen b)
  expr_seen (Choose' k p c q a r b) = choice k (expr_seen c) (expr_seen a) (expr_seen b)
  expr_seen (Assign' p q e) = assignment (place_seen p) (expr_seen e)
  expr_seen (Update' p op k q e) = update (place_seen p) op k (expr_seen e)
  expr_seen Getchar = input_byte
  expr_seen (Putchar' p e) = output_byte (expr_seen e)
  expr_seen (Printf' pieces shape row) = formatted pieces.items (row_seen row)
  -- a form of its own stands for the tree of its parts
  expr_seen (Local l) = reading (variable (local_seen l))
  expr_seen (StepLocal op l) = stepping op (variable (local_seen l))
  expr_seen (AssignLocal' l p e) = assignment (variable (local_seen l)) (expr_seen e)
  expr_seen (BinaryConst' op k p a c) = operation op k (expr_seen a) (constant c.kind c.value)
  expr_seen (BinaryLocal' op k l p b) = operation op k (reading (variable (local_seen l))) (expr_seen b)
  expr_seen (BinaryLocalConst op k l c) = operation op k (reading (variable (local_seen l))) (constant c.kind c.value)

  pub row_seen : {m : _} → Row_of-FlatExpr m → the.FlatExprs
  row_seen end_of-FlatExpr = no_expr
  row_seen (more_of-FlatExpr e rest) = more_exprs (expr_seen e) (row_seen rest)

abbrev pub given_seen : FlatGiven → the.FlatGiven
given_seen (Number k e) = the.number_of k (expr_seen e)
given_seen (Array p) = the.array_at (place_seen p)

abbrev pub arg_seen : FlatArg → the.FlatArg
arg_seen a = record { slot = a.slot; given = given_seen a.given }

abbrev pub write_seen : FlatWrite → the.FlatWrite
write_seen (Value s k e) = the.writes s k (expr_seen e)
write_seen (Zeros s n) = the.clears s n

abbrev pub call_seen : FlatCall → the.FlatCall
call_seen c = record { entry = c.entry; size = c.size; args = map arg_seen c.args.items; temp = c.temp }

abbrev pub label_seen : FlatLabel → the.FlatLabel
label_seen Next = the.goes_on
label_seen (Exit rule v) = the.leaves_by rule (variable_seen v)
label_seen (Eval e) = the.does (expr_seen e)
label_seen (Init ws) = the.begins (map write_seen ws.items)
label_seen (Branch e) = the.tests (expr_seen e)
label_seen (Switch e) = the.chooses (expr_seen e)
label_seen (Return k e) = the.answers k (expr_seen e)
label_seen (Halt e) = the.halts (expr_seen e)
label_seen (Call c) = the.enters_callee (call_seen c)
