-- Codes read back: what label a list of numbers is the code of. Lists that are no code give some label too.
use Rattle.std.specs.Prelude.{ℕ, ◌+◌, zero, suc, ℤ, pos, negsuc, List, [], ◌∷◌, length, Option, Some, None, take, drop}
use Rattle.std.proofs.Common.{get_or}
use Rattle.csub_text.specs.declared.operator.UnaryOp.{UnaryOp}
use Rattle.csub_text.specs.declared.operator.UnaryOp.TheVariants.{Plus, Minus, Not, Flip}
use Rattle.csub_text.specs.declared.operator.StepOp.{StepOp}
use Rattle.csub_text.specs.declared.operator.StepOp.TheVariants.{PreUp, PreDown, PostUp, PostDown}
use Rattle.csub_text.specs.declared.operator.BinOp.{BinOp}
use Rattle.csub_text.specs.declared.operator.BinOp.TheVariants.{Mul, Div, Rem, Add, Sub, Shl, Shr, Lt, Gt, Le, Ge, Eq, Ne, BitAnd, BitXor, BitOr}
use Rattle.csub_types.specs.declared.kind.IntKind.{IntKind}
use Rattle.csub_types.specs.declared.kind.IntKind.TheVariants.{Char, Int, Unsigned}
use Rattle.csub_semantics.specs.declared.expression.Piece.{Piece}
use Rattle.csub_semantics.specs.declared.expression.Piece.TheVariants.{Byte, Signed, Plain, Letter}
use Rattle.csub_semantics.specs.declared.label.EndRule.{EndRule}
use Rattle.csub_semantics.specs.declared.label.EndRule.TheVariants as rule
use Rattle.csub_objects.specs.Types.{Name, TypeTree, number_type, array_type, struct_type, loose_type}
use Rattle.csub_objects.specs.Types.{MemberTree, MemberTrees, no_member, more_members}
use Rattle.csub_semantics.specs.Types.{GlobalTree}
use Rattle.csub_semantics.specs.Trees.{variable, element_place, member_place, constant, reading, unary_operation, conversion, stepping, operation}
use Rattle.csub_semantics.specs.Trees.{conjunction, disjunction, choice, assignment, update, input_byte, output_byte, value_argument, array_argument}
use Rattle.csub_semantics.specs.Trees.{formatted, NamedExprs, no_expr, more_exprs}
use Rattle.csub_semantics.specs.Trees.{OwnerTree, global_owner, local_owner, Variable, object, temporary, NamedPlace, NamedExpr, NamedArg}
use Rattle.csub_semantics.specs.Labels.{AnswerTree, CallTree, InitTree, one_value, listed, InitTrees, no_init, more_inits}
use Rattle.csub_semantics.specs.Labels.{LabelTree, enters, exits, evaluates, initialises, branches, switches, returns, jumps, halts, calls, PointLabel}

-- a value is taken off the front of a list, which gives what is left
abbrev pub Taker : Type 0 → Type 0 → Type 0
Taker X A = List X → A × List X

-- a reader takes it off a list of numbers
abbrev pub Reader : Type 0 → Type 0
Reader A = Taker ℕ A

-- a value that takes nothing
abbrev pub just : {X A : Type 0} → A → Taker X A
just x codes = (x, codes)

-- a taker, and behind it the one that its value asks for
unfoldable pub then : {X A B : Type 0} → Taker X A → (A → Taker X B) → Taker X B
then read next codes = let r = read codes in next r.0 r.1

abbrev pub read_number : Reader ℕ
read_number codes = (get_or codes 0 0, drop 1 codes)

-- the first number tells which of the readers goes on
abbrev pub by_number : {A : Type 0} → List (Reader A) → A → Reader A
by_number readers other codes = get_or readers (get_or codes 0 0) (just other) (drop 1 codes)

abbrev pub read_integer : Reader ℤ
read_integer = by_number (then read_number (λ n. just (pos n)) ∷ then read_number (λ n. just (negsuc n)) ∷ []) (pos 0)

abbrev pub read_name : Reader Name
read_name = then read_number (λ n codes. (take n codes, drop n codes))

abbrev pub read_times : {A : Type 0} → Reader A → ℕ → Reader (List A)
read_times read zero = just []
read_times read (suc n) = then read (λ x. then (read_times read n) (λ xs. just (x ∷ xs)))

abbrev pub read_list : {A : Type 0} → Reader A → Reader (List A)
read_list read = then read_number (λ n. read_times read n)

abbrev pub read_option : {A : Type 0} → Reader A → Reader (Option A)
read_option read = by_number (just None ∷ then read (λ x. just (Some x)) ∷ []) None

abbrev pub read_kind : Reader IntKind
read_kind = by_number (just Char ∷ just Int ∷ just Unsigned ∷ []) Char

abbrev pub read_unary : Reader UnaryOp
read_unary = by_number (just Plus ∷ just Minus ∷ just Not ∷ just Flip ∷ []) Plus

abbrev pub read_step : Reader StepOp
read_step = by_number (just PreUp ∷ just PreDown ∷ just PostUp ∷ just PostDown ∷ []) PreUp

abbrev pub read_operator : Reader BinOp
read_operator =
    by_number (just Mul ∷ just Div ∷ just Rem ∷ just Add ∷ just Sub ∷ just Shl ∷ just Shr ∷ just Lt ∷ just Gt ∷ just Le ∷ just Ge
    ∷ just Eq ∷ just Ne ∷ just BitAnd ∷ just BitXor ∷ just BitOr ∷ []) Mul

abbrev pub piece_of : ℕ → Piece
piece_of zero = Signed
piece_of (suc zero) = Plain
piece_of (suc (suc zero)) = Letter
piece_of (suc (suc (suc b))) = Byte b

abbrev pub read_piece : Reader Piece
read_piece = then read_number (λ n. just (piece_of n))

abbrev pub read_rule : Reader EndRule
read_rule = by_number (just rule.Nothing ∷ just rule.Value ∷ just rule.Main ∷ just rule.Start ∷ []) rule.Nothing

-- a type of at most so many levels, and so members, where those behind the first are a level below
abbrev mutual
  pub read_type_levels : ℕ → Reader TypeTree
  read_type_levels zero = just (number_type Char)
  read_type_levels (suc n) =
      by_number (then read_kind (λ kind. just (number_type kind))
      ∷ then read_number (λ k. then (read_type_levels n) (λ element. just (array_type element k)))
      ∷ then read_name (λ tag. then (read_members_levels n) (λ members. just (struct_type tag members)))
      ∷ then (read_type_levels n) (λ element. just (loose_type element))
      ∷ []) (number_type Char)

  pub read_members_levels : ℕ → Reader MemberTrees
  read_members_levels zero = just no_member
  read_members_levels (suc n) =
      by_number (just no_member
      ∷ then read_name (λ name. then (read_type_levels n) (λ ctype. then (read_members_levels n) (λ rest. just (more_members name ctype rest))))
      ∷ []) no_member

-- no type has more levels than its code has numbers, so one more is enough
unfoldable pub read_type : Reader TypeTree
read_type codes = read_type_levels (length codes + 1) codes

abbrev pub read_member : Reader MemberTree
read_member = then read_name (λ name. then read_type (λ ctype. just (record { name = name; ctype = ctype })))

abbrev pub read_owner : Reader OwnerTree
read_owner =
    by_number (then read_name (λ name. just (global_owner name))
    ∷ then read_number (λ k. then read_name (λ name. just (local_owner name k)))
    ∷ []) (global_owner [])

abbrev pub read_variable : Reader Variable
read_variable =
    by_number (then read_owner (λ owner. then read_type (λ ctype. just (object owner ctype)))
    ∷ then read_number (λ number. then read_kind (λ kind. just (temporary number kind)))
    ∷ []) (temporary 0 Char)

-- a place and an expression of at most so many levels, and so expressions, where those behind the first are a level below
abbrev mutual
  pub read_place_levels : ℕ → Reader NamedPlace
  read_place_levels zero = just (variable (temporary 0 Char))
  read_place_levels (suc n) =
      by_number (then read_variable (λ v. just (variable v))
      ∷ then (read_place_levels n) (λ place. then (read_expr_levels n) (λ index. just (element_place tt place index)))
      ∷ then read_name (λ name. then (read_place_levels n) (λ place. just (member_place name place)))
      ∷ []) (variable (temporary 0 Char))

  pub read_expr_levels : ℕ → Reader NamedExpr
  read_expr_levels zero = just input_byte
  read_expr_levels (suc n) =
      by_number (then read_kind (λ kind. then read_integer (λ value. just (constant kind value)))
      ∷ then (read_place_levels n) (λ place. just (reading place))
      ∷ then read_operator (λ op. then read_kind (λ kind.
      then (read_expr_levels n) (λ a. then (read_expr_levels n) (λ b. just (operation op kind a b)))))
      ∷ just input_byte
      ∷ then (read_expr_levels n) (λ e. just (output_byte e))
      ∷ then read_unary (λ op. then read_kind (λ kind. then (read_expr_levels n) (λ a. just (unary_operation op kind a))))
      ∷ then read_kind (λ kind. then (read_expr_levels n) (λ a. just (conversion kind a)))
      ∷ then (read_expr_levels n) (λ a. then (read_expr_levels n) (λ b. just (conjunction a b)))
      ∷ then (read_expr_levels n) (λ a. then (read_expr_levels n) (λ b. just (disjunction a b)))
      ∷ then read_kind (λ kind. then (read_expr_levels n) (λ c.
      then (read_expr_levels n) (λ a. then (read_expr_levels n) (λ b. just (choice kind c a b)))))
      ∷ then read_step (λ op. then (read_place_levels n) (λ place. just (stepping op place)))
      ∷ then (read_place_levels n) (λ place. then (read_expr_levels n) (λ e. just (assignment place e)))
      ∷ then read_operator (λ op. then read_kind (λ kind.
      then (read_place_levels n) (λ place. then (read_expr_levels n) (λ e. just (update place op kind e)))))
      ∷ then (read_list read_piece) (λ pieces. then (read_exprs_levels n) (λ es. just (formatted pieces es)))
      ∷ []) input_byte

  pub read_exprs_levels : ℕ → Reader NamedExprs
  read_exprs_levels zero = just no_expr
  read_exprs_levels (suc n) =
      by_number (just no_expr
      ∷ then (read_expr_levels n) (λ e. then (read_exprs_levels n) (λ rest. just (more_exprs e rest)))
      ∷ []) no_expr

-- no place and no expression has more levels than its code has numbers, so one more is enough
unfoldable pub read_place : Reader NamedPlace
read_place codes = read_place_levels (length codes + 1) codes

unfoldable pub read_expr : Reader NamedExpr
read_expr codes = read_expr_levels (length codes + 1) codes

abbrev pub read_arg : Reader NamedArg
read_arg =
    by_number (then read_expr (λ e. just (value_argument e))
    ∷ then read_place (λ p. just (array_argument p))
    ∷ []) (value_argument input_byte)

abbrev pub read_answer : Reader AnswerTree
read_answer = then read_kind (λ kind. then read_expr (λ value. just (record { kind = kind; value = value })))

abbrev pub read_call : Reader CallTree
read_call =
    then read_name (λ callee. then (read_list read_member) (λ params. then (read_option read_kind) (λ result.
    then (read_list read_arg) (λ args. then (read_option read_number) (λ temp.
    just (record { callee = callee; params = params; result = result; args = args; temp = temp }))))))

-- an initialiser of at most so many levels, and so a list of them, where those behind the first are a level below
abbrev mutual
  pub read_init_levels : ℕ → Reader InitTree
  read_init_levels zero = just (listed no_init)
  read_init_levels (suc n) =
      by_number (then read_expr (λ e. just (one_value e))
      ∷ then (read_inits_levels n) (λ xs. just (listed xs))
      ∷ []) (listed no_init)

  pub read_inits_levels : ℕ → Reader InitTrees
  read_inits_levels zero = just no_init
  read_inits_levels (suc n) =
      by_number (just no_init
      ∷ then (read_init_levels n) (λ x. then (read_inits_levels n) (λ rest. just (more_inits x rest)))
      ∷ []) no_init

-- no initialiser has more levels than its code has numbers, so one more is enough
unfoldable pub read_init : Reader InitTree
read_init codes = read_init_levels (length codes + 1) codes

abbrev pub read_tree : Reader LabelTree
read_tree =
    by_number (just enters
    ∷ then read_rule (λ rule. just (exits rule))
    ∷ then read_expr (λ e. just (evaluates e))
    ∷ then read_expr (λ e. just (branches e))
    ∷ then (read_option read_answer) (λ answer. just (returns answer))
    ∷ then read_call (λ call. just (calls call))
    ∷ then read_owner (λ owner. then read_type (λ ctype. then read_init (λ init. just (initialises owner ctype init))))
    ∷ then read_expr (λ e. just (switches e))
    ∷ just jumps
    ∷ then read_expr (λ e. just (halts e))
    ∷ []) enters

abbrev pub read_global : Reader GlobalTree
read_global =
    then read_name (λ name. then read_type (λ ctype. then (read_list read_integer) (λ initial.
    just (record { name = name; ctype = ctype; initial = initial }))))

abbrev pub read_label : Reader PointLabel
read_label = then read_tree (λ tree. then (read_list read_global) (λ globals. just (record { tree = tree; globals = globals })))

-- the type that a list of numbers is the code of
unfoldable pub coded_type : List ℕ → TypeTree
coded_type codes = (read_type codes).0

-- the global that a list of numbers is the code of
unfoldable pub coded_global : List ℕ → GlobalTree
coded_global codes = (read_global codes).0

-- the label that a list of numbers is the code of
unfoldable pub label_of : List ℕ → PointLabel
label_of codes = (read_label codes).0
