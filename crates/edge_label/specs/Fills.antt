-- Types put back into a bare label, from left to right.
use Rattle.std.specs.Prelude.{List, [], ◌∷◌, Option, Some, None, drop}
use Rattle.std.proofs.Common.{get_or}
use Rattle.csub_objects.specs.Types.{TypeTree, number_type, array_type, struct_type, loose_type, MemberTree, MemberTrees, no_member, more_members}
use Rattle.csub_semantics.specs.Trees.{Variable, object, temporary, NamedPlace, variable, element_place, member_place, NamedExpr}
use Rattle.csub_semantics.specs.Trees.{constant}
use Rattle.csub_semantics.specs.Trees.{reading, unary_operation, conversion, stepping, operation, conjunction, disjunction, choice, assignment}
use Rattle.csub_semantics.specs.Trees.{update, input_byte, output_byte, formatted, NamedExprs, no_expr, more_exprs, NamedArg, value_argument, array_argument}
use Rattle.csub_semantics.specs.Labels.{LabelTree, enters, exits, evaluates, initialises, branches, switches, returns, jumps, halts, calls}
use Rattle.csub_semantics.specs.Labels.{AnswerTree, CallTree, InitTree, one_value, listed, InitTrees, no_init, more_inits}
use Rattle.label_code.specs.Bare.{no_type}
use Rattle.label_code.specs.Readers.{Taker, just, then}

-- the types are taken off the front of a list
abbrev pub Filler : Type 0 → Type 0
Filler A = Taker TypeTree A

abbrev pub take_type : Filler TypeTree
take_type types = (get_or types 0 no_type, drop 1 types)

-- the members of a struct
abbrev pub list_of : MemberTrees → List MemberTree
list_of no_member = []
list_of (more_members x t rest) = record { name = x; ctype = t } ∷ list_of rest

abbrev pub parameters_of : TypeTree → List MemberTree
parameters_of (number_type k) = []
parameters_of (array_type t n) = []
parameters_of (struct_type tag ms) = list_of ms
parameters_of (loose_type t) = []

abbrev pub fill_variable : Variable → Filler Variable
fill_variable (object owner t) = then take_type (λ u. just (object owner u))
fill_variable (temporary n k) = just (temporary n k)

abbrev mutual
  pub fill_place : NamedPlace → Filler NamedPlace
  fill_place (variable v) = then (fill_variable v) (λ w. just (variable w))
  fill_place (element_place u p e) = then (fill_place p) (λ q. then (fill_expr e) (λ i. just (element_place u q i)))
  fill_place (member_place a p) = then (fill_place p) (λ q. just (member_place a q))

  pub fill_expr : NamedExpr → Filler NamedExpr
  fill_expr (constant k v) = just (constant k v)
  fill_expr (reading p) = then (fill_place p) (λ q. just (reading q))
  fill_expr (unary_operation op k a) = then (fill_expr a) (λ x. just (unary_operation op k x))
  fill_expr (conversion k a) = then (fill_expr a) (λ x. just (conversion k x))
  fill_expr (stepping op p) = then (fill_place p) (λ q. just (stepping op q))
  fill_expr (operation op k a b) = then (fill_expr a) (λ x. then (fill_expr b) (λ y. just (operation op k x y)))
  fill_expr (conjunction a b) = then (fill_expr a) (λ x. then (fill_expr b) (λ y. just (conjunction x y)))
  fill_expr (disjunction a b) = then (fill_expr a) (λ x. then (fill_expr b) (λ y. just (disjunction x y)))
  fill_expr (choice k c a b) = then (fill_expr c) (λ z. then (fill_expr a) (λ x. then (fill_expr b) (λ y. just (choice k z x y))))
  fill_expr (assignment p e) = then (fill_place p) (λ q. then (fill_expr e) (λ x. just (assignment q x)))
  fill_expr (update p op k e) = then (fill_place p) (λ q. then (fill_expr e) (λ x. just (update q op k x)))
  fill_expr input_byte = just input_byte
  fill_expr (output_byte e) = then (fill_expr e) (λ x. just (output_byte x))
  fill_expr (formatted pieces es) = then (fill_exprs es) (λ xs. just (formatted pieces xs))

  pub fill_exprs : NamedExprs → Filler NamedExprs
  fill_exprs no_expr = just no_expr
  fill_exprs (more_exprs e rest) = then (fill_expr e) (λ x. then (fill_exprs rest) (λ xs. just (more_exprs x xs)))

abbrev pub fill_arg : NamedArg → Filler NamedArg
fill_arg (value_argument e) = then (fill_expr e) (λ x. just (value_argument x))
fill_arg (array_argument p) = then (fill_place p) (λ q. just (array_argument q))

abbrev pub fill_args : List NamedArg → Filler (List NamedArg)
fill_args [] = just []
fill_args (a ∷ args) = then (fill_arg a) (λ x. then (fill_args args) (λ xs. just (x ∷ xs)))

abbrev mutual
  pub fill_init : InitTree → Filler InitTree
  fill_init (one_value e) = then (fill_expr e) (λ x. just (one_value x))
  fill_init (listed xs) = then (fill_inits xs) (λ ys. just (listed ys))

  pub fill_inits : InitTrees → Filler InitTrees
  fill_inits no_init = just no_init
  fill_inits (more_inits x rest) = then (fill_init x) (λ y. then (fill_inits rest) (λ ys. just (more_inits y ys)))

abbrev pub fill_answer : Option AnswerTree → Filler (Option AnswerTree)
fill_answer None = just None
fill_answer (Some a) = then (fill_expr a.value) (λ x. just (Some (record { kind = a.kind; value = x })))

abbrev pub fill_call : CallTree → Filler CallTree
fill_call c =
    then take_type (λ t. then (fill_args c.args) (λ args.
    just (record { callee = c.callee; params = parameters_of t; result = c.result; args = args; temp = c.temp })))

abbrev pub fill_label : LabelTree → Filler LabelTree
fill_label enters = just enters
fill_label (exits rule) = just (exits rule)
fill_label (evaluates e) = then (fill_expr e) (λ x. just (evaluates x))
fill_label (initialises owner t init) = then take_type (λ u. then (fill_init init) (λ x. just (initialises owner u x)))
fill_label (branches e) = then (fill_expr e) (λ x. just (branches x))
fill_label (switches e) = then (fill_expr e) (λ x. just (switches x))
fill_label (returns answer) = then (fill_answer answer) (λ x. just (returns x))
fill_label jumps = just jumps
fill_label (halts e) = then (fill_expr e) (λ x. just (halts x))
fill_label (calls c) = then (fill_call c) (λ d. just (calls d))
