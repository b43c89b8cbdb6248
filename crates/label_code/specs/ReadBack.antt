-- A label can be read back from its code, whatever follows the code. This is a proof, and nothing in it has to be believed.
use Rattle.std.proofs.Common.{◌≡◌, ◌<◌, ◌+◌, ℕ, zero, suc, ℤ, pos, negsuc, List, [], ◌∷◌, ◌++◌, length, take, drop}
use Rattle.std.proofs.Common.{Option, Some, None, refl, sym, ap, ap₂, ◌∙◌, append_assoc, append-nil, arith, length-append}
use Rattle.std.specs.List.{flat_map}
use Rattle.csub_text.specs.declared.operator.UnaryOp.{UnaryOp}
use Rattle.csub_text.specs.declared.operator.UnaryOp.TheVariants.{Plus, Minus, Not, Flip}
use Rattle.csub_text.specs.declared.operator.StepOp.{StepOp}
use Rattle.csub_text.specs.declared.operator.StepOp.TheVariants.{PreUp, PreDown, PostUp, PostDown}
use Rattle.csub_text.specs.declared.operator.BinOp.{BinOp}
use Rattle.csub_text.specs.declared.operator.BinOp.TheVariants.{Mul, Div, Rem, Add, Sub, Shl, Shr, Lt, Gt, Le, Ge, Eq, Ne, BitAnd, BitXor, BitOr}
use Rattle.csub_types.specs.declared.kind.IntKind.{IntKind}
use Rattle.csub_types.specs.declared.kind.IntKind.TheVariants.{Char, Int, Unsigned}
use Rattle.csub_semantics.specs.declared.expression.Piece.{Piece}
use Rattle.csub_semantics.specs.declared.expression.Piece.TheVariants.{Byte, Signed, Plain, Letter}
use Rattle.csub_semantics.specs.declared.label.EndRule.{EndRule}
use Rattle.csub_semantics.specs.declared.label.EndRule.TheVariants as rule
use Rattle.csub_objects.specs.Types.{Name, TypeTree, number_type, array_type, struct_type, loose_type}
use Rattle.csub_objects.specs.Types.{MemberTree, MemberTrees, no_member, more_members}
use Rattle.csub_semantics.specs.Types.{GlobalTree}
use Rattle.csub_semantics.specs.Trees.{variable, element_place, member_place, constant, reading, unary_operation, conversion, stepping, operation}
use Rattle.csub_semantics.specs.Trees.{conjunction, disjunction, choice, assignment, update, input_byte, output_byte, value_argument, array_argument}
use Rattle.csub_semantics.specs.Trees.{formatted, NamedExprs, no_expr, more_exprs}
use Rattle.csub_semantics.specs.Trees.{OwnerTree, global_owner, local_owner, Variable, object, temporary, NamedPlace, NamedExpr, NamedArg}
use Rattle.csub_semantics.specs.Labels.{AnswerTree, CallTree, InitTree, one_value, listed, InitTrees, no_init, more_inits}
use Rattle.csub_semantics.specs.Labels.{LabelTree, enters, exits, evaluates, initialises, branches, switches, returns, jumps, halts, calls, PointLabel}
use Rattle.label_code.specs.Codes.{number_code, integer_code, name_code, list_code, option_code, kind_number, kind_code, unary_number, step_number}
use Rattle.label_code.specs.Codes.{operator_number, piece_code, rule_number, type_code, members_code, member_code, owner_code, variable_code}
use Rattle.label_code.specs.Codes.{place_code, expr_code, exprs_code, arg_code, answer_code, call_code, init_code, inits_code, label_code, global_code}
use Rattle.label_code.specs.Codes.{point_code}
use Rattle.label_code.specs.Readers.{Taker, Reader, then, read_number, read_integer, read_name, read_times, read_list, read_option, read_kind, read_unary}
use Rattle.label_code.specs.Readers.{read_step, read_operator, piece_of, read_piece, read_rule, read_type_levels, read_members_levels, read_type, read_member}
use Rattle.label_code.specs.Readers.{read_owner, read_variable, read_place_levels, read_expr_levels, read_exprs_levels}
use Rattle.label_code.specs.Readers.{read_place, read_expr, read_arg, read_answer, read_call, read_init_levels, read_inits_levels, read_init, read_tree}
use Rattle.label_code.specs.Readers.{read_global, read_label, coded_type, coded_global, label_of}

-- what a reader and the one behind it give
pub then_back : {X A B : Type 0} (read : Taker X A) (next : A → Taker X B) {codes rest : List X} {x : A} {given : B × List X}
    → read codes ≡ (x, rest) → next x rest ≡ given → then read next codes ≡ given
unfolding then
then_back read next first second = ap (λ r. next r.0 r.1) first ∙ second

-- the same where the codes of the two stand one behind the other
pub then_append : {X A B : Type 0} (read : Taker X A) (next : A → Taker X B) (a b s : List X) {x : A} {given : B × List X}
    → ((t : List X) → read (a ++ t) ≡ (x, t)) → next x (b ++ s) ≡ given
    → then read next ((a ++ b) ++ s) ≡ given
then_append read next a b s first second = ap (then read next) (append_assoc a b s) ∙ then_back read next (first (b ++ s)) second

take_back : (bytes s : List ℕ) → take (length bytes) (bytes ++ s) ≡ bytes
take_back [] s = refl
take_back (b ∷ bytes) s = ap (λ xs. b ∷ xs) (take_back bytes s)

drop_back : (bytes s : List ℕ) → drop (length bytes) (bytes ++ s) ≡ s
drop_back [] s = refl
drop_back (b ∷ bytes) s = drop_back bytes s

name_back : (name : Name) (s : List ℕ) → read_name (name_code name ++ s) ≡ (name, s)
name_back name s = then_back _ _ refl (ap₂ (λ x y. (x, y)) (take_back name s) (drop_back name s))

integer_back : (z : ℤ) (s : List ℕ) → read_integer (integer_code z ++ s) ≡ (z, s)
integer_back (pos n) s = then_back _ _ refl refl
integer_back (negsuc n) s = then_back _ _ refl refl

kind_back : (kind : IntKind) (s : List ℕ) → read_kind (kind_number kind ∷ s) ≡ (kind, s)
kind_back Char s = refl
kind_back Int s = refl
kind_back Unsigned s = refl

unary_back : (op : UnaryOp) (s : List ℕ) → read_unary (unary_number op ∷ s) ≡ (op, s)
unary_back Plus s = refl
unary_back Minus s = refl
unary_back Not s = refl
unary_back Flip s = refl

step_back : (op : StepOp) (s : List ℕ) → read_step (step_number op ∷ s) ≡ (op, s)
step_back PreUp s = refl
step_back PreDown s = refl
step_back PostUp s = refl
step_back PostDown s = refl

operator_back : (op : BinOp) (s : List ℕ) → read_operator (operator_number op ∷ s) ≡ (op, s)
operator_back Mul s = refl
operator_back Div s = refl
operator_back Rem s = refl
operator_back Add s = refl
operator_back Sub s = refl
operator_back Shl s = refl
operator_back Shr s = refl
operator_back Lt s = refl
operator_back Gt s = refl
operator_back Le s = refl
operator_back Ge s = refl
operator_back Eq s = refl
operator_back Ne s = refl
operator_back BitAnd s = refl
operator_back BitXor s = refl
operator_back BitOr s = refl

piece_back : (piece : Piece) (s : List ℕ) → read_piece (piece_code piece ++ s) ≡ (piece, s)
piece_back Signed s = then_back _ _ refl refl
piece_back Plain s = then_back _ _ refl refl
piece_back Letter s = then_back _ _ refl refl
piece_back (Byte b) s = then_back _ _ refl (ap (λ n. (piece_of n, s)) three)
  where
    three : b + 3 ≡ suc (suc (suc b))
    three = omega arith

rule_back : (r : EndRule) (s : List ℕ) → read_rule (rule_number r ∷ s) ≡ (r, s)
rule_back rule.Nothing s = refl
rule_back rule.Value s = refl
rule_back rule.Main s = refl
rule_back rule.Start s = refl

module _ {A : Type 0} (code : A → List ℕ) (read : Reader A) (back : (x : A) (s : List ℕ) → read (code x ++ s) ≡ (x, s)) where
  times_back : (xs : List A) (s : List ℕ) → read_times read (length xs) (flat_map code xs ++ s) ≡ (xs, s)
  times_back [] s = refl
  times_back (x ∷ xs) s = then_append _ _ (code x) (flat_map code xs) s (back x) (then_back _ _ (times_back xs s) refl)

  list_back : (xs : List A) (s : List ℕ) → read_list read (list_code code xs ++ s) ≡ (xs, s)
  list_back xs s = then_back _ _ refl (times_back xs s)

  option_back : (x : Option A) (s : List ℕ) → read_option read (option_code code x ++ s) ≡ (x, s)
  option_back None s = refl
  option_back (Some x) s = then_back _ _ (back x s) refl

-- no type and no members have more levels than their code has numbers
mutual
  type_levels_back : (t : TypeTree) (n : ℕ) (s : List ℕ) → length (type_code t) < n
      → read_type_levels n (type_code t ++ s) ≡ (t, s)
  type_levels_back (number_type kind) (suc n) s h = then_back _ _ (kind_back kind s) refl
  type_levels_back (array_type element k) (suc n) s h =
      then_back _ _ refl (then_back _ _ (type_levels_back element n s (omega arith)) refl)
  type_levels_back (struct_type tag members) (suc n) s h =
      let falls : length (members_code members) < n = omega (arith, length-append (name_code tag) (members_code members)) in
      then_append _ _ (name_code tag) (members_code members) s (name_back tag) (then_back _ _ (members_levels_back members n s falls) refl)
  type_levels_back (loose_type element) (suc n) s h = then_back _ _ (type_levels_back element n s (omega arith)) refl
  type_levels_back t zero s h = absurd (omega arith)

  members_levels_back : (ms : MemberTrees) (n : ℕ) (s : List ℕ) → length (members_code ms) < n
      → read_members_levels n (members_code ms ++ s) ≡ (ms, s)
  members_levels_back no_member (suc n) s h = refl
  members_levels_back (more_members name ctype rest) (suc n) s h =
      let all = length-append (name_code name) (type_code ctype ++ members_code rest) in
      let both = length-append (type_code ctype) (members_code rest) in
      then_append _ _ (name_code name) (type_code ctype ++ members_code rest) s (name_back name)
      (then_append _ _ (type_code ctype) (members_code rest) s (λ t. type_levels_back ctype n t (omega (arith, all, both)))
      (then_back _ _ (members_levels_back rest n s (omega (arith, all, both))) refl))
  members_levels_back ms zero s h = absurd (omega arith)

type_back : (t : TypeTree) (s : List ℕ) → read_type (type_code t ++ s) ≡ (t, s)
unfolding read_type
type_back t s = type_levels_back t (length (type_code t ++ s) + 1) s (omega (arith, length-append (type_code t) s))

member_back : (m : MemberTree) (s : List ℕ) → read_member (member_code m ++ s) ≡ (m, s)
member_back m s = then_append _ _ (name_code m.name) (type_code m.ctype) s (name_back m.name) (then_back _ _ (type_back m.ctype s) refl)

owner_back : (owner : OwnerTree) (s : List ℕ) → read_owner (owner_code owner ++ s) ≡ (owner, s)
owner_back (global_owner name) s = then_back _ _ (name_back name s) refl
owner_back (local_owner name k) s = then_back _ _ refl (then_back _ _ (name_back name s) refl)

variable_back : (v : Variable) (s : List ℕ) → read_variable (variable_code v ++ s) ≡ (v, s)
variable_back (object owner ctype) s = then_append _ _ (owner_code owner) (type_code ctype) s (owner_back owner) (then_back _ _ (type_back ctype s) refl)
variable_back (temporary number kind) s = then_back _ _ refl (then_back _ _ (kind_back kind s) refl)

-- no place, no expression and no expressions have more levels than their code has numbers
mutual
  place_levels_back : (p : NamedPlace) (n : ℕ) (s : List ℕ) → length (place_code p) < n
      → read_place_levels n (place_code p ++ s) ≡ (p, s)
  place_levels_back (variable v) (suc n) s h = then_back _ _ (variable_back v s) refl
  place_levels_back (element_place u p e) (suc n) s h =
      let both = length-append (place_code p) (expr_code e) in
      then_append _ _ (place_code p) (expr_code e) s (λ t. place_levels_back p n t (omega (arith, both)))
      (then_back _ _ (expr_levels_back e n s (omega (arith, both))) refl)
  place_levels_back (member_place name p) (suc n) s h =
      let falls : length (place_code p) < n = omega (arith, length-append (name_code name) (place_code p)) in
      then_append _ _ (name_code name) (place_code p) s (name_back name) (then_back _ _ (place_levels_back p n s falls) refl)
  place_levels_back p zero s h = absurd (omega arith)

  expr_levels_back : (e : NamedExpr) (n : ℕ) (s : List ℕ) → length (expr_code e) < n
      → read_expr_levels n (expr_code e ++ s) ≡ (e, s)
  expr_levels_back (constant kind value) (suc n) s h = then_back _ _ (kind_back kind _) (then_back _ _ (integer_back value s) refl)
  expr_levels_back (reading place) (suc n) s h = then_back _ _ (place_levels_back place n s (omega arith)) refl
  expr_levels_back (unary_operation op kind a) (suc n) s h =
      then_back _ _ (unary_back op _) (then_back _ _ (kind_back kind _) (then_back _ _ (expr_levels_back a n s (omega arith)) refl))
  expr_levels_back (conversion kind a) (suc n) s h =
      then_back _ _ (kind_back kind _) (then_back _ _ (expr_levels_back a n s (omega arith)) refl)
  expr_levels_back (operation op kind a b) (suc n) s h =
      let both = length-append (expr_code a) (expr_code b) in
      then_back _ _ (operator_back op _) (then_back _ _ (kind_back kind _)
      (then_append _ _ (expr_code a) (expr_code b) s (λ t. expr_levels_back a n t (omega (arith, both)))
      (then_back _ _ (expr_levels_back b n s (omega (arith, both))) refl)))
  expr_levels_back (conjunction a b) (suc n) s h =
      let both = length-append (expr_code a) (expr_code b) in
      then_append _ _ (expr_code a) (expr_code b) s (λ t. expr_levels_back a n t (omega (arith, both)))
      (then_back _ _ (expr_levels_back b n s (omega (arith, both))) refl)
  expr_levels_back (disjunction a b) (suc n) s h =
      let both = length-append (expr_code a) (expr_code b) in
      then_append _ _ (expr_code a) (expr_code b) s (λ t. expr_levels_back a n t (omega (arith, both)))
      (then_back _ _ (expr_levels_back b n s (omega (arith, both))) refl)
  expr_levels_back (choice kind c a b) (suc n) s h =
      let all = length-append (expr_code c) (expr_code a ++ expr_code b) in
      let both = length-append (expr_code a) (expr_code b) in
      then_back _ _ (kind_back kind _)
      (then_append _ _ (expr_code c) (expr_code a ++ expr_code b) s (λ t. expr_levels_back c n t (omega (arith, all, both)))
      (then_append _ _ (expr_code a) (expr_code b) s (λ t. expr_levels_back a n t (omega (arith, all, both)))
      (then_back _ _ (expr_levels_back b n s (omega (arith, all, both))) refl)))
  expr_levels_back (stepping op place) (suc n) s h =
      then_back _ _ (step_back op _) (then_back _ _ (place_levels_back place n s (omega arith)) refl)
  expr_levels_back (assignment place e) (suc n) s h =
      let both = length-append (place_code place) (expr_code e) in
      then_append _ _ (place_code place) (expr_code e) s (λ t. place_levels_back place n t (omega (arith, both)))
      (then_back _ _ (expr_levels_back e n s (omega (arith, both))) refl)
  expr_levels_back (update place op kind e) (suc n) s h =
      let both = length-append (place_code place) (expr_code e) in
      then_back _ _ (operator_back op _) (then_back _ _ (kind_back kind _)
      (then_append _ _ (place_code place) (expr_code e) s (λ t. place_levels_back place n t (omega (arith, both)))
      (then_back _ _ (expr_levels_back e n s (omega (arith, both))) refl)))
  expr_levels_back input_byte (suc n) s h = refl
  expr_levels_back (output_byte e) (suc n) s h = then_back _ _ (expr_levels_back e n s (omega arith)) refl
  expr_levels_back (formatted pieces es) (suc n) s h =
      let falls : length (exprs_code es) < n = omega (arith, length-append (list_code piece_code pieces) (exprs_code es)) in
      then_append _ _ (list_code piece_code pieces) (exprs_code es) s (list_back piece_code read_piece piece_back pieces)
      (then_back _ _ (exprs_levels_back es n s falls) refl)
  expr_levels_back e zero s h = absurd (omega arith)

  exprs_levels_back : (es : NamedExprs) (n : ℕ) (s : List ℕ) → length (exprs_code es) < n
      → read_exprs_levels n (exprs_code es ++ s) ≡ (es, s)
  exprs_levels_back no_expr (suc n) s h = refl
  exprs_levels_back (more_exprs e rest) (suc n) s h =
      let both = length-append (expr_code e) (exprs_code rest) in
      then_append _ _ (expr_code e) (exprs_code rest) s (λ t. expr_levels_back e n t (omega (arith, both)))
      (then_back _ _ (exprs_levels_back rest n s (omega (arith, both))) refl)
  exprs_levels_back es zero s h = absurd (omega arith)

place_back : (p : NamedPlace) (s : List ℕ) → read_place (place_code p ++ s) ≡ (p, s)
unfolding read_place
place_back p s = place_levels_back p (length (place_code p ++ s) + 1) s (omega (arith, length-append (place_code p) s))

expr_back : (e : NamedExpr) (s : List ℕ) → read_expr (expr_code e ++ s) ≡ (e, s)
unfolding read_expr
expr_back e s = expr_levels_back e (length (expr_code e ++ s) + 1) s (omega (arith, length-append (expr_code e) s))

arg_back : (arg : NamedArg) (s : List ℕ) → read_arg (arg_code arg ++ s) ≡ (arg, s)
arg_back (value_argument e) s = then_back _ _ (expr_back e s) refl
arg_back (array_argument p) s = then_back _ _ (place_back p s) refl

answer_back : (answer : AnswerTree) (s : List ℕ) → read_answer (answer_code answer ++ s) ≡ (answer, s)
answer_back answer s = then_back _ _ (kind_back answer.kind _) (then_back _ _ (expr_back answer.value s) refl)

number_back : (n : ℕ) (s : List ℕ) → read_number (number_code n ++ s) ≡ (n, s)
number_back n s = refl

call_back : (call : CallTree) (s : List ℕ) → read_call (call_code call ++ s) ≡ (call, s)
call_back call s =
    then_append _ _ (name_code call.callee) _ s (name_back call.callee)
    (then_append _ _ (list_code member_code call.params) _ s (list_back member_code read_member member_back call.params)
    (then_append _ _ (option_code kind_code call.result) _ s (option_back kind_code read_kind kind_back call.result)
    (then_append _ _ (list_code arg_code call.args) _ s (list_back arg_code read_arg arg_back call.args)
    (then_back _ _ (option_back number_code read_number number_back call.temp s) refl))))

-- no initialiser and no list of them has more levels than its code has numbers
mutual
  init_levels_back : (init : InitTree) (n : ℕ) (s : List ℕ) → length (init_code init) < n
      → read_init_levels n (init_code init ++ s) ≡ (init, s)
  init_levels_back (one_value e) (suc n) s h = then_back _ _ (expr_back e s) refl
  init_levels_back (listed xs) (suc n) s h = then_back _ _ (inits_levels_back xs n s (omega arith)) refl
  init_levels_back init zero s h = absurd (omega arith)

  inits_levels_back : (xs : InitTrees) (n : ℕ) (s : List ℕ) → length (inits_code xs) < n
      → read_inits_levels n (inits_code xs ++ s) ≡ (xs, s)
  inits_levels_back no_init (suc n) s h = refl
  inits_levels_back (more_inits x rest) (suc n) s h =
      let both = length-append (init_code x) (inits_code rest) in
      then_append _ _ (init_code x) (inits_code rest) s (λ t. init_levels_back x n t (omega (arith, both)))
      (then_back _ _ (inits_levels_back rest n s (omega (arith, both))) refl)
  inits_levels_back xs zero s h = absurd (omega arith)

init_back : (init : InitTree) (s : List ℕ) → read_init (init_code init ++ s) ≡ (init, s)
unfolding read_init
init_back init s = init_levels_back init (length (init_code init ++ s) + 1) s (omega (arith, length-append (init_code init) s))

pub tree_back : (tree : LabelTree) (s : List ℕ) → read_tree (label_code tree ++ s) ≡ (tree, s)
tree_back enters s = refl
tree_back (exits rule) s = then_back _ _ (rule_back rule s) refl
tree_back (evaluates e) s = then_back _ _ (expr_back e s) refl
tree_back (branches e) s = then_back _ _ (expr_back e s) refl
tree_back (returns answer) s = then_back _ _ (option_back answer_code read_answer answer_back answer s) refl
tree_back (calls call) s = then_back _ _ (call_back call s) refl
tree_back (initialises owner ctype init) s =
    then_append _ _ (owner_code owner) (type_code ctype ++ init_code init) s (owner_back owner)
    (then_append _ _ (type_code ctype) (init_code init) s (type_back ctype) (then_back _ _ (init_back init s) refl))
tree_back (switches e) s = then_back _ _ (expr_back e s) refl
tree_back jumps s = refl
tree_back (halts e) s = then_back _ _ (expr_back e s) refl

pub global_back : (global : GlobalTree) (s : List ℕ) → read_global (global_code global ++ s) ≡ (global, s)
global_back global s =
    then_append _ _ (name_code global.name) _ s (name_back global.name)
    (then_append _ _ (type_code global.ctype) _ s (type_back global.ctype)
    (then_back _ _ (list_back integer_code read_integer integer_back global.initial s) refl))

label_back : (label : PointLabel) (s : List ℕ) → read_label (point_code label ++ s) ≡ (label, s)
label_back label s =
    then_append _ _ (label_code label.tree) _ s (tree_back label.tree) (then_back _ _ (list_back global_code read_global global_back label.globals s) refl)

-- a type is read back from its code
pub coded_type-type_code : (t : TypeTree) → coded_type (type_code t) ≡ t
unfolding coded_type
coded_type-type_code t = ap (λ codes. (read_type codes).0) (sym (append-nil (type_code t))) ∙ ap (λ r. r.0) (type_back t [])

-- a global is read back from its code
pub coded_global-global_code : (global : GlobalTree) → coded_global (global_code global) ≡ global
unfolding coded_global
coded_global-global_code global =
    ap (λ codes. (read_global codes).0) (sym (append-nil (global_code global))) ∙ ap (λ r. r.0) (global_back global [])

-- a label is read back from its code
pub label_of-point_code : (label : PointLabel) → label_of (point_code label) ≡ label
unfolding label_of
label_of-point_code label = ap (λ codes. (read_label codes).0) (sym (append-nil (point_code label))) ∙ ap (λ r. r.0) (label_back label [])
