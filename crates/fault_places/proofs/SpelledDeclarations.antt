-- Initialisers and declarations lie where the tokens that spell them lie.
use Rattle.std.proofs.Common.{ℕ, List, [], ◌∷◌, ◌++◌, Option, Bool}
use Rattle.csub_lex.specs.declared.token.Token.{Token}
use Rattle.csub_lex.specs.declared.token.Mark.TheVariants as marks
use Rattle.csub_tree.specs.declared.name.Name.{Name}
use Rattle.csub_tree.specs.declared.name.TypeName.{TypeName}
use Rattle.csub_tree.specs.Expressions.{Expr}
use Rattle.csub_tree.specs.Declarations.{Init, Inits, Declarator, Declare, Param, Head}
use Rattle.csub_tree.specs.Tokens.{mark, id}
use Rattle.csub_tree.specs.SpellsExpressions.{assignment, conditional}
use Rattle.csub_tree.specs.SpellsDeclarations.{SpellsInit, SpellsInits, SpellsBase, SpellsLength, SpellsSlot, SpellsVar, SpellsField, SpellsDecl}
use Rattle.csub_tree.specs.SpellsDeclarations.{SpellsBrackets, SpellsName, SpellsParam, SpellsParams, SpellsResult, SpellsHead}
use Rattle.csub_tree.specs.SpellsDeclarations as declarations
use Rattle.fault_places.specs.Within.{WithinEach, WithinMaybe, WithinName, WithinType, WithinExpr, WithinInit, WithinInits, WithinVar}
use Rattle.fault_places.specs.Within.{WithinDeclare, WithinParam, WithinHead}
use Rattle.fault_places.proofs.Rising.{Rising, left_part, right_part, later, behind, at_first, whole}
use Rattle.fault_places.proofs.Lists.{each_within, separated_within, maybe_within}
use Rattle.fault_places.proofs.SpelledExpressions.{number_within, expr_within}

module _ (n : ℕ) where
  mutual
    init_within : (tree : Init) (ts : List Token) → SpellsInit tree ts → Rising n ts → WithinInit n tree
    init_within tree ts (declarations.one {e} {s} p) f = expr_within n assignment e s p f
    init_within tree ts (declarations.listed {is} {s} {t} a b p q) f =
        (inits_within is s p (left_part s t (left_part (s ++ t) (mark marks.CloseBrace b ∷ []) (later f))), whole f)

    inits_within : (trees : Inits) (ts : List Token) → SpellsInits trees ts → Rising n ts → WithinInits n trees
    inits_within trees ts (declarations.last_init {i} {s} p) f = (init_within i s p f, tt)
    inits_within trees ts (declarations.next_init {i} {is} {s} {t} a p q) f =
        (init_within i s p (left_part s (mark marks.Comma a ∷ t) f), inits_within is t q (behind s (mark marks.Comma a) t f))

  base_within : (tree : TypeName) (ts : List Token) → SpellsBase tree ts → Rising n ts → WithinType n tree
  base_within tree ts (declarations.numeric {n = t} {s} p) f = number_within n t s p
  base_within tree ts (declarations.structure a x) f = at_first (later f)

  length_within : (tree : Expr) (ts : List Token) → SpellsLength tree ts → Rising n ts → WithinExpr n tree
  length_within tree ts (declarations.bracketed {e} {s} a b p) f =
      expr_within n conditional e s p (left_part s (mark marks.CloseBracket b ∷ []) (later f))

  -- ---- declared names

  slot_within : (tree : Declarator) (ts : List Token) → SpellsSlot tree ts → Rising n ts → WithinVar n tree
  slot_within tree ts (declarations.slot {es} {s} x p) f = (at_first f, each_within length_within es s p (later f), tt)

  var_within : (tree : Declarator) (ts : List Token) → SpellsVar tree ts → Rising n ts → WithinVar n tree
  var_within tree ts (declarations.no_init {d} {s} p) f = slot_within d s p f
  var_within tree ts (declarations.with_init {i} {n = x} {es} {s} {t} a p q) f =
      let named = slot_within _ s p (left_part s (mark marks.Equal a ∷ t) f) in
      (named.0, named.1, init_within i t q (behind s (mark marks.Equal a) t f))

  pub field_within : (tree : Declare) (ts : List Token) → SpellsField tree ts → Rising n ts → WithinDeclare n tree
  field_within tree ts (declarations.field {b} {ds} {s} {t} a p q) f =
      let inside = left_part (s ++ t) (mark marks.Semicolon a ∷ []) f in
      (base_within b s p (left_part s t inside), separated_within slot_within ds t q (right_part s t inside), whole f)

  pub decl_within : (tree : Declare) (ts : List Token) → SpellsDecl tree ts → Rising n ts → WithinDeclare n tree
  decl_within tree ts (declarations.decl {b} {ds} {s} {t} a p q) f =
      let inside = left_part (s ++ t) (mark marks.Semicolon a ∷ []) f in
      (base_within b s p (left_part s t inside), separated_within var_within ds t q (right_part s t inside), whole f)

  -- ---- heads

  pub name_within : (tree : Name) (ts : List Token) → SpellsName tree ts → Rising n ts → WithinName n tree
  name_within tree ts (declarations.identifier x) f = at_first f

  brackets_within : (array : Bool) (o : Option Expr) (ts : List Token) → SpellsBrackets array o ts → Rising n ts → WithinMaybe (WithinExpr n) o
  brackets_within array o ts declarations.no_brackets f = tt
  brackets_within array o ts (declarations.brackets {e} {s} a b p) f =
      maybe_within (expr_within n conditional) e s p (left_part s (mark marks.CloseBracket b ∷ []) (later f))

  param_within : (tree : Param) (ts : List Token) → SpellsParam tree ts → Rising n ts → WithinParam n tree
  param_within tree ts (declarations.param {b} {n = x} {array} {e} {s} {t} {u} p q r) f =
      let first = left_part (s ++ t) u f in (
        base_within b s p (left_part s t first),
        maybe_within name_within x t q (right_part s t first),
        brackets_within array e u r (right_part (s ++ t) u f),
        whole f,
      )

  params_within : (trees : List Param) (ts : List Token) → SpellsParams trees ts → Rising n ts → WithinEach (WithinParam n) trees
  params_within trees ts declarations.empty f = tt
  params_within trees ts (declarations.void a) f = tt
  params_within trees ts (declarations.params {ps} {s} p) f = separated_within param_within ps s p f

  result_within : (tree : TypeName) (ts : List Token) → SpellsResult tree ts → WithinType n tree
  result_within tree ts (declarations.nothing a) = tt
  result_within tree ts (declarations.value {n = t} {s} p) = number_within n t s p

  pub head_within : (tree : Head) (ts : List Token) → SpellsHead tree ts → Rising n ts → WithinHead n tree
  head_within tree ts (declarations.head {r} {ps} {s} {t} x a b p q) f =
      let named = right_part s (id x ∷ mark marks.OpenParen a ∷ (t ++ mark marks.CloseParen b ∷ [])) f in
      (result_within r s p, at_first named, params_within ps t q (left_part t (mark marks.CloseParen b ∷ []) (later (later named))))
