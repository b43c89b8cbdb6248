-- What a text spells is written as the law of validity asks. Crates above cite these.
use Rattle.std.proofs.Common.{refl, suc, List, [], ◌∷◌, ◌++◌, Option, true, false, IsTrue}
use Rattle.csub_lex.specs.declared.token.Token.{Token}
use Rattle.csub_tree.specs.Expressions.{Expr, Exprs}
use Rattle.csub_tree.specs.Declarations.{Init, Inits, Declarator, Declare}
use Rattle.csub_tree.specs.Statements.{Stmt, StmtKind, Perhaps, Stmts, Line, Declared, Eval, Empty, Block, If, While, Do, For, Switch}
use Rattle.csub_tree.specs.Statements.{Case, Default, Break, Continue, Goto, Label, Return}
use Rattle.csub_tree.specs.Units.{Item, Source}
use Rattle.csub_tree.specs.Lists.{Each, no_more, one_more, Separated, last_one, before, missing, present}
use Rattle.csub_tree.specs.SpellsExpressions.{Rank, Operator, Plain, Both, Either, joined, Prefix, Signed, Counted, applied, SpellsExpr, SpellsArgs, SpellsSome}
use Rattle.csub_tree.specs.SpellsExpressions.{assignment, conditional, binary, postfix, primary, loosest}
use Rattle.csub_tree.specs.Tokens.{mark, key, id}
use Rattle.csub_lex.specs.declared.token.Key.TheVariants as keys
use Rattle.csub_lex.specs.declared.token.Mark.TheVariants as marks
use Rattle.csub_tree.specs.SpellsExpressions as expressions
use Rattle.csub_tree.specs.SpellsDeclarations.{braced, SpellsInit, SpellsInits, SpellsSlot, SpellsVar, SpellsDecl}
use Rattle.csub_tree.specs.SpellsDeclarations as declarations
use Rattle.csub_tree.specs.SpellsStatements.{SpellsMaybe, SpellsFirst, SpellsLabel, SpellsStmt, SpellsKind, SpellsLine, SpellsLines, SpellsSwitchLine, SpellsSwitchLines}
use Rattle.csub_tree.specs.SpellsStatements as statements
use Rattle.csub_tree.specs.Spells.{SpellsItem, Spells}
use Rattle.csub_tree.specs.Spells as units
use Rattle.program_validity.specs.Written.{WrittenExpr, WrittenKind, WrittenExprs, WrittenMaybe, WrittenInit, WrittenInits, WrittenValue, WrittenVars}
use Rattle.program_validity.specs.Written.{WrittenStmt, WrittenLine, WrittenFirst, WrittenLines, WrittenItem, WrittenItems, IsWritten, has_entry}
use Rattle.program_validity.proofs.Fitting.{Fit, left_fit, right_fit}

-- ---- expressions

joined_written : (o : Operator) (a b : Expr) → WrittenExpr a → WrittenExpr b → WrittenKind (joined o a b)
joined_written (Plain o) a b x y = (x, y)
joined_written Both a b x y = (x, y)
joined_written Either a b x y = (x, y)

applied_written : (o : Prefix) (e : Expr) → WrittenExpr e → WrittenKind (applied o e)
applied_written (Signed o) e x = x
applied_written (Counted o) e x = x

mutual
  expr_written : (rank : Rank) (tree : Expr) (ts : List Token) → SpellsExpr rank tree ts → Fit ts → WrittenExpr tree
  expr_written rank tree ts (expressions.no_assignment {e} {s} p) f = expr_written conditional e s p f
  expr_written rank tree ts (expressions.assigned {o} {l} {r} {s} {t} m a is p q) f =
      (expr_written (binary 0) l s p (left_fit s (mark m a ∷ t) f), expr_written assignment r t q (right_fit s (mark m a ∷ t) f).1)
  expr_written rank tree ts (expressions.no_choice {e} {s} p) f = expr_written (binary loosest) e s p f
  expr_written rank tree ts (expressions.choice {e} {x} {y} {s} {t} {u} a b p q k) f =
      let behind = (right_fit s (mark marks.Question a ∷ (t ++ mark marks.Colon b ∷ u)) f).1 in (
        expr_written (binary loosest) e s p (left_fit s (mark marks.Question a ∷ (t ++ mark marks.Colon b ∷ u)) f),
        expr_written assignment x t q (left_fit t (mark marks.Colon b ∷ u) behind),
        expr_written conditional y u k (right_fit t (mark marks.Colon b ∷ u) behind).1,
      )
  expr_written rank tree ts (expressions.tighter {k} {e} {s} p) f = expr_written (binary k) e s p f
  expr_written rank tree ts (expressions.operated {k} {o} {l} {r} {s} {t} m a is level p q) f =
      joined_written o l r (expr_written (binary (suc k)) l s p (left_fit s (mark m a ∷ t) f)) (expr_written (binary k) r t q (right_fit s (mark m a ∷ t) f).1)
  expr_written rank tree ts (expressions.prefixed {o} {e} {s} m a is p) f = applied_written o e (expr_written (binary 0) e s p f.1)
  expr_written rank tree ts (expressions.cast {n} {e} {s} {t} a b number p) f =
      expr_written (binary 0) e t p (right_fit s (mark marks.CloseParen b ∷ t) f.1).1
  expr_written rank tree ts (expressions.no_prefix {e} {s} p) f = expr_written postfix e s p f
  expr_written rank tree ts (expressions.no_postfix {e} {s} p) f = expr_written primary e s p f
  expr_written rank tree ts (expressions.indexed {e} {i} {s} {t} a b p q) f =
      let behind = (right_fit s (mark marks.OpenBracket a ∷ (t ++ mark marks.CloseBracket b ∷ [])) f).1 in (
        expr_written postfix e s p (left_fit s (mark marks.OpenBracket a ∷ (t ++ mark marks.CloseBracket b ∷ [])) f),
        expr_written assignment i t q (left_fit t (mark marks.CloseBracket b ∷ []) behind),
      )
  expr_written rank tree ts (expressions.member {e} {s} a n p) f = expr_written postfix e s p (left_fit s (mark marks.Dot a ∷ id n ∷ []) f)
  expr_written rank tree ts (expressions.stepped {o} {e} {s} m a is p) f = expr_written postfix e s p (left_fit s (mark m a ∷ []) f)
  expr_written rank tree ts (expressions.named n) f = tt
  expr_written rank tree ts (expressions.called {es} {s} n a b p) f = args_written es s p (left_fit s (mark marks.CloseParen b ∷ []) f.1.1)
  expr_written rank tree ts (expressions.number n u a) f = f.0
  expr_written rank tree ts (expressions.character b a) f = f.0
  expr_written rank tree ts (expressions.string t a) f = tt
  expr_written rank tree ts (expressions.enclosed {e} {s} a b p) f = expr_written assignment e s p (left_fit s (mark marks.CloseParen b ∷ []) f.1)

  args_written : (trees : Exprs) (ts : List Token) → SpellsArgs trees ts → Fit ts → WrittenExprs trees
  args_written trees ts expressions.no_args f = tt
  args_written trees ts (expressions.some_args {es} {s} p) f = some_written es s p f

  some_written : (trees : Exprs) (ts : List Token) → SpellsSome trees ts → Fit ts → WrittenExprs trees
  some_written trees ts (expressions.last_arg {e} {s} p) f = (expr_written assignment e s p f, tt)
  some_written trees ts (expressions.next_arg {e} {es} {s} {t} a p q) f =
      (expr_written assignment e s p (left_fit s (mark marks.Comma a ∷ t) f), some_written es t q (right_fit s (mark marks.Comma a ∷ t) f).1)

maybe_written : (o : Option Expr) (ts : List Token) → SpellsMaybe o ts → Fit ts → WrittenMaybe o
maybe_written o ts missing f = tt
maybe_written o ts (present {x} {s} p) f = expr_written assignment x s p f

-- ---- declarations

some_entry : (xs : Inits) (ts : List Token) → SpellsInits xs ts → IsTrue (has_entry xs)
some_entry xs ts (declarations.last_init p) = refl
some_entry xs ts (declarations.next_init a p q) = refl

mutual
  init_written : (tree : Init) (ts : List Token) → SpellsInit tree ts → Fit ts → WrittenInit tree
  init_written tree ts (declarations.one {e} {s} p) f = expr_written assignment e s p f
  init_written tree ts (declarations.listed {is} {s} {t} a b p q) f =
      (some_entry is s p, inits_written is s p (left_fit s t (left_fit (s ++ t) (mark marks.CloseBrace b ∷ []) f.1)))

  inits_written : (trees : Inits) (ts : List Token) → SpellsInits trees ts → Fit ts → WrittenInits trees
  inits_written trees ts (declarations.last_init {i} {s} p) f = (init_written i s p f, tt)
  inits_written trees ts (declarations.next_init {i} {is} {s} {t} a p q) f =
      (init_written i s p (left_fit s (mark marks.Comma a ∷ t) f), inits_written is t q (right_fit s (mark marks.Comma a ∷ t) f).1)

-- a declared name without an initialiser has none
slot_none : (tree : Declarator) (ts : List Token) → SpellsSlot tree ts → WrittenValue tree.init
slot_none tree ts (declarations.slot n p) = tt

var_written : (tree : Declarator) (ts : List Token) → SpellsVar tree ts → Fit ts → WrittenValue tree.init
var_written tree ts (declarations.no_init {d} {s} p) f = slot_none d s p
var_written tree ts (declarations.with_init {i} {n} {es} {s} {t} a p q) f = init_written i t q (right_fit s (mark marks.Equal a ∷ t) f).1

vars_written : (trees : List Declarator) (ts : List Token) → Separated Declarator SpellsVar trees ts → Fit ts → WrittenVars trees
vars_written trees ts (last_one {x} {s} p) f = (var_written x s p f, tt)
vars_written trees ts (before {x} {xs} {s} {t} a p q) f =
    (var_written x s p (left_fit s (mark marks.Comma a ∷ t) f), vars_written xs t q (right_fit s (mark marks.Comma a ∷ t) f).1)

decl_written : (tree : Declare) (ts : List Token) → SpellsDecl tree ts → Fit ts → WrittenVars tree.vars
decl_written tree ts (declarations.decl {b} {ds} {s} {t} a p q) f =
    vars_written ds t q (right_fit s t (left_fit (s ++ t) (mark marks.Semicolon a ∷ []) f))

-- ---- statements

-- what stands anywhere may stand among the lines of a `switch`
among : (x : Stmt) → WrittenStmt false x → WrittenStmt true x
among (Line (Declared d) s) h = h
among (Line (Eval e) s) h = h
among (Line Empty s) h = h
among (Line (Block ss) s) h = h
among (Line (If e a b) s) h = h
among (Line (While e a) s) h = h
among (Line (Do a e) s) h = h
among (Line (For b e f a) s) h = h
among (Line (Switch e ss) s) h = h
among (Line (Case e) s) h = refl
among (Line Default s) h = refl
among (Line Break s) h = h
among (Line Continue s) h = h
among (Line (Goto n) s) h = h
among (Line (Label n a) s) h = h
among (Line (Return e) s) h = h

label_written : (kind : StmtKind) (ts : List Token) → SpellsLabel kind ts → WrittenLine true kind
label_written kind ts (statements.case_label a b p) = refl
label_written kind ts (statements.default_label a b) = refl

first_written : (tree : Perhaps) (ts : List Token) → SpellsFirst tree ts → Fit ts → WrittenFirst tree
first_written tree ts (statements.first_declared {d} {s} p) f = decl_written d s p f
first_written tree ts (statements.first_evaluated {e} {s} a p) f = expr_written assignment e s p (left_fit s (mark marks.Semicolon a ∷ []) f)
first_written tree ts (statements.first_empty a) f = tt

mutual
  stmt_written : (tree : Stmt) (ts : List Token) → SpellsStmt tree ts → Fit ts → WrittenStmt false tree
  stmt_written tree ts (statements.placed {k} {s} p) f = kind_written k s p f

  kind_written : (kind : StmtKind) (ts : List Token) → SpellsKind kind ts → Fit ts → WrittenLine false kind
  kind_written kind ts (statements.block {ss} {s} a b p) g = lines_written ss s p (left_fit s (mark marks.CloseBrace b ∷ []) g.1)
  kind_written kind ts (statements.empty a) g = tt
  kind_written kind ts (statements.evaluated {e} {s} a p) g = expr_written assignment e s p (left_fit s (mark marks.Semicolon a ∷ []) g)
  kind_written kind ts (statements.labelled {x} {s} n a p) g = stmt_written x s p g.1.1
  kind_written kind ts (statements.if_alone {e} {x} {s} {t} a b c p q) g =
      (expr_written assignment e s p (left_fit s (mark marks.CloseParen c ∷ t) g.1.1), stmt_written x t q (right_fit s (mark marks.CloseParen c ∷ t) g.1.1).1, tt)
  kind_written kind ts (statements.if_else {e} {x} {y} {s} {t} {u} a b c d p q ended w) g =
      let behind = (right_fit s (mark marks.CloseParen c ∷ (t ++ key keys.Else d ∷ u)) g.1.1).1 in (
        expr_written assignment e s p (left_fit s (mark marks.CloseParen c ∷ (t ++ key keys.Else d ∷ u)) g.1.1),
        stmt_written x t q (left_fit t (key keys.Else d ∷ u) behind),
        stmt_written y u w (right_fit t (key keys.Else d ∷ u) behind).1,
      )
  kind_written kind ts (statements.while_loop {e} {x} {s} {t} a b c p q) g =
      (expr_written assignment e s p (left_fit s (mark marks.CloseParen c ∷ t) g.1.1), stmt_written x t q (right_fit s (mark marks.CloseParen c ∷ t) g.1.1).1)
  kind_written kind ts (statements.do_loop {e} {x} {s} {t} a b c d h p q) g =
      let end : List Token = mark marks.CloseParen d ∷ mark marks.Semicolon h ∷ [] in
      let behind : List Token = key keys.While b ∷ mark marks.OpenParen c ∷ (t ++ end) in
      (stmt_written x s p (left_fit s behind g.1), expr_written assignment e t q (left_fit t end (right_fit s behind g.1).1.1))
  kind_written kind ts (statements.for_loop {p} {e} {f} {x} {s} {t} {u} {v} a b c d h i j k) g =
      let third : List Token = u ++ mark marks.CloseParen d ∷ v in
      let second : List Token = t ++ mark marks.Semicolon c ∷ third in
      let in_second = right_fit s second g.1.1 in
      let in_third = (right_fit t (mark marks.Semicolon c ∷ third) in_second).1 in (
        first_written p s h (left_fit s second g.1.1),
        maybe_written e t i (left_fit t (mark marks.Semicolon c ∷ third) in_second),
        maybe_written f u j (left_fit u (mark marks.CloseParen d ∷ v) in_third),
        stmt_written x v k (right_fit u (mark marks.CloseParen d ∷ v) in_third).1,
      )
  kind_written kind ts (statements.switched {e} {ss} {s} {t} a b c d h p q) g =
      let behind : List Token = mark marks.CloseParen c ∷ mark marks.OpenBrace d ∷ (t ++ mark marks.CloseBrace h ∷ []) in
      (expr_written assignment e s p (left_fit s behind g.1.1), cases_written ss t q (left_fit t (mark marks.CloseBrace h ∷ []) (right_fit s behind g.1.1).1.1))
  kind_written kind ts (statements.broken_off a b) g = tt
  kind_written kind ts (statements.continued a b) g = tt
  kind_written kind ts (statements.gone_to n a b) g = tt
  kind_written kind ts (statements.returned {e} {s} a b p) g = maybe_written e s p (left_fit s (mark marks.Semicolon b ∷ []) g.1)

  line_written : (tree : Stmt) (ts : List Token) → SpellsLine tree ts → Fit ts → WrittenStmt false tree
  line_written tree ts (statements.declaring {d} {s} p) f = decl_written d s p f
  line_written tree ts (statements.stating {x} {s} p) f = stmt_written x s p f

  lines_written : (trees : Stmts) (ts : List Token) → SpellsLines trees ts → Fit ts → WrittenLines false trees
  lines_written trees ts statements.no_lines f = tt
  lines_written trees ts (statements.more_lines {x} {xs} {s} {t} p q) f = (line_written x s p (left_fit s t f), lines_written xs t q (right_fit s t f))

  case_written : (tree : Stmt) (ts : List Token) → SpellsSwitchLine tree ts → Fit ts → WrittenStmt true tree
  case_written tree ts (statements.plain_line {x} {s} p) f = among x (line_written x s p f)
  case_written tree ts (statements.label_line {k} {s} p) f = label_written k s p

  cases_written : (trees : Stmts) (ts : List Token) → SpellsSwitchLines trees ts → Fit ts → WrittenLines true trees
  cases_written trees ts statements.no_switch_lines f = tt
  cases_written trees ts (statements.more_switch_lines {x} {xs} {s} {t} p q) f =
      (case_written x s p (left_fit s t f), cases_written xs t q (right_fit s t f))

-- ---- units

item_written : (item : Item) (ts : List Token) → SpellsItem item ts → Fit ts → WrittenItem item
item_written item ts (units.struct n a b c e p) f = tt
item_written item ts (units.enum a b c d p q w) f = tt
item_written item ts (units.object p) f = tt
item_written item ts (units.prototype a p) f = tt
item_written item ts (units.function {h} {ss} {s} {t} a b p q) f =
    lines_written ss t q (left_fit t (mark marks.CloseBrace b ∷ []) (right_fit s (braced a t b) f).1)

items_written : (items : List Item) (ts : List Token) → Each Item SpellsItem items ts → Fit ts → WrittenItems items
items_written items ts no_more f = tt
items_written items ts (one_more {x} {xs} {s} {t} p q) f = (item_written x s p (left_fit s t f), items_written xs t q (right_fit s t f))

-- what tokens spell is written
pub written : (u : Source) (ts : List Token) → Spells u ts → Fit ts → IsWritten u
written u ts (units.unit {is} {s} p) f = items_written is s p f
