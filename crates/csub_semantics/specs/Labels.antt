-- Labels: what is done at a point. Two statements count as the same exactly where their labels are equal.
use Rattle.std.specs.Prelude.{ℕ, List, [], ◌∷◌, map, Option, Some, None}
use Rattle.std.specs.Option.{option_map}
use Rattle.csub_types.specs.declared.kind.IntKind.{IntKind}
use Rattle.csub_objects.specs.Types.{Name, TypeTree, MemberTree}
use Rattle.csub_objects.specs.Meaning.{type_tree, member_tree}
use Rattle.csub_semantics.specs.Types.{GlobalTree}
use Rattle.csub_semantics.specs.Trees.{OwnerTree, NamedExpr, NamedArg, owner_tree, expr_tree, arg_tree}
use Rattle.csub_semantics.specs.declared.label.EndRule.{EndRule}
use Rattle.csub_semantics.specs.declared.label.Answer.{Answer}
use Rattle.csub_semantics.specs.declared.label.CallLabel.{CallLabel}
use Rattle.csub_semantics.specs.declared.label.RInit.{RInit, One, List', Row_of-RInit, end_of-RInit, more_of-RInit}
use Rattle.csub_semantics.specs.declared.label.Label.{Label}
use Rattle.csub_semantics.specs.declared.label.Label.TheVariants.{Entry, Exit, Eval, Init, Branch, Switch, Return, Goto, Halt, Call}

-- a returned value with the function's result type, to which it is converted (C11 6.8.6.4)
pub record AnswerTree : Type 0 where
  pub kind : IntKind
  pub value : NamedExpr

-- a call: the callee's name, its parameters and result type as it is defined, the arguments, and the temporary that takes the result
pub record CallTree : Type 0 where
  pub callee : Name
  pub params : List MemberTree
  pub result : Option IntKind
  pub args : List NamedArg
  pub temp : Option ℕ

mutual
  -- what an object is initialised with: the initial value of a number, or those of the first elements of an array or the
  -- first members of a struct, in order (C11 6.7.9)
  pub data InitTree : Type 0 where
    one_value : NamedExpr → InitTree
    listed : InitTrees → InitTree

  pub data InitTrees : Type 0 where
    no_init : InitTrees
    more_inits : InitTree → InitTrees → InitTrees

abbrev pub inits_of : List InitTree → InitTrees
inits_of [] = no_init
inits_of (x ∷ rest) = more_inits x (inits_of rest)

-- the resolved tree at a point, without spans and parentheses
pub data LabelTree : Type 0 where
  enters : LabelTree
  exits : EndRule → LabelTree
  evaluates : NamedExpr → LabelTree
  initialises : OwnerTree → TypeTree → InitTree → LabelTree
  branches : NamedExpr → LabelTree
  switches : NamedExpr → LabelTree
  returns : Option AnswerTree → LabelTree
  jumps : LabelTree
  halts : NamedExpr → LabelTree
  calls : CallTree → LabelTree

-- the call that a label makes
abbrev pub call_of : LabelTree → Option CallTree
call_of (calls c) = Some c
call_of label = None

-- a label: the tree, and each global that the tree names with its initial contents, in the order of names
pub record PointLabel : Type 0 where
  pub tree : LabelTree
  pub globals : List GlobalTree

abbrev pub answer_tree : Answer → AnswerTree
answer_tree a = record { kind = a.kind; value = expr_tree a.value }

abbrev pub call_tree : CallLabel → CallTree
call_tree c = record {
  callee = c.callee;
  params = map member_tree c.params.items;
  result = c.result;
  args = map arg_tree c.args.items;
  temp = c.temp;
}

abbrev mutual
  pub init_tree : RInit → InitTree
  init_tree (One e) = one_value (expr_tree e)
  init_tree (List' shape row) = listed (row_inits row)

  pub row_inits : {m : _} → Row_of-RInit m → InitTrees
  row_inits end_of-RInit = no_init
  row_inits (more_of-RInit x rest) = more_inits (init_tree x) (row_inits rest)

abbrev pub label_tree : Label → LabelTree
label_tree Entry = enters
label_tree (Exit rule) = exits rule
label_tree (Eval e) = evaluates (expr_tree e)
label_tree (Init owner ctype init) = initialises (owner_tree owner) (type_tree ctype) (init_tree init)
label_tree (Branch e) = branches (expr_tree e)
label_tree (Switch e) = switches (expr_tree e)
label_tree (Return answer) = returns (option_map answer_tree answer)
label_tree Goto = jumps
label_tree (Halt e) = halts (expr_tree e)
label_tree (Call call) = calls (call_tree call)
