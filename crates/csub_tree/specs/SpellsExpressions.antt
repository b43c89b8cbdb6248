-- Which tokens spell an expression: one case for each production (C11 6.5).
use Rattle.std.specs.Prelude.{◌≡◌, ℕ, suc, Bool, List, [], ◌∷◌, ◌++◌, Option, Some, None}
use Rattle.csub_text.specs.declared.span.Span.{Span}
use Rattle.csub_text.specs.declared.operator.UnaryOp.{UnaryOp}
use Rattle.csub_text.specs.declared.operator.UnaryOp.TheVariants as unaries
use Rattle.csub_text.specs.declared.operator.StepOp.{StepOp}
use Rattle.csub_text.specs.declared.operator.StepOp.TheVariants.{PreUp, PreDown, PostUp, PostDown}
use Rattle.csub_text.specs.declared.operator.BinOp.{BinOp}
use Rattle.csub_text.specs.declared.operator.BinOp.TheVariants.{Mul, Div, Rem, Add, Sub, Shl, Shr, Lt, Gt, Le, Ge, Eq, Ne, BitAnd, BitXor, BitOr}
use Rattle.csub_lex.specs.declared.token.Key.TheVariants as keys
use Rattle.csub_lex.specs.declared.token.Mark.{Mark}
use Rattle.csub_lex.specs.declared.token.Mark.TheVariants as marks
use Rattle.csub_lex.specs.declared.token.Token.{Token}
use Rattle.csub_lex.specs.declared.token.TokenKind.TheVariants as kinds
use Rattle.csub_tree.specs.declared.name.Name.{Name}
use Rattle.csub_tree.specs.declared.name.TypeName.{TypeName}
use Rattle.csub_tree.specs.declared.name.TypeName.TheVariants as types
use Rattle.csub_tree.specs.Expressions.{Expr, Kind, Exprs, Node, Number, Char, Text, Named, Paren, Unary, Cast, Step, Binary, And, Or}
use Rattle.csub_tree.specs.Expressions.{Choose, Assign, Call, Index, Member, NoExprs, MoreExprs}
use Rattle.csub_tree.specs.Tokens.{mark, key, id, runs}

-- what a production of expressions is named: `binary 0` is a unary expression, and `binary (suc k)` a chain of the
-- operators of level k, so `binary 10` is a logical OR expression
pub data Rank : Type 0 where
  assignment : Rank
  conditional : Rank
  binary : ℕ → Rank
  postfix : Rank
  primary : Rank

-- the operators between two operands
pub data Operator : Type 0 where
  Plain : BinOp → Operator
  Both : Operator
  Either : Operator

abbrev pub joined : Operator → Expr → Expr → Kind
joined (Plain o) a b = Binary o a b
joined Both a b = And a b
joined Either a b = Or a b

-- how each is written (6.5.5 to 6.5.14)
abbrev pub operator_of : Mark → Option Operator
operator_of marks.Star = Some (Plain Mul)
operator_of marks.Slash = Some (Plain Div)
operator_of marks.Percent = Some (Plain Rem)
operator_of marks.Plus = Some (Plain Add)
operator_of marks.Minus = Some (Plain Sub)
operator_of marks.ShiftLeft = Some (Plain Shl)
operator_of marks.ShiftRight = Some (Plain Shr)
operator_of marks.Less = Some (Plain Lt)
operator_of marks.Greater = Some (Plain Gt)
operator_of marks.LessEqual = Some (Plain Le)
operator_of marks.GreaterEqual = Some (Plain Ge)
operator_of marks.EqualEqual = Some (Plain Eq)
operator_of marks.BangEqual = Some (Plain Ne)
operator_of marks.Ampersand = Some (Plain BitAnd)
operator_of marks.Caret = Some (Plain BitXor)
operator_of marks.Bar = Some (Plain BitOr)
operator_of marks.AndAnd = Some Both
operator_of marks.BarBar = Some Either
operator_of _ = None

-- its level, the tightest first (6.5.5 to 6.5.14)
abbrev pub level_of : Operator → ℕ
level_of (Plain Mul) = 0
level_of (Plain Div) = 0
level_of (Plain Rem) = 0
level_of (Plain Add) = 1
level_of (Plain Sub) = 1
level_of (Plain Shl) = 2
level_of (Plain Shr) = 2
level_of (Plain Lt) = 3
level_of (Plain Gt) = 3
level_of (Plain Le) = 3
level_of (Plain Ge) = 3
level_of (Plain Eq) = 4
level_of (Plain Ne) = 4
level_of (Plain BitAnd) = 5
level_of (Plain BitXor) = 6
level_of (Plain BitOr) = 7
level_of Both = 8
level_of Either = 9

abbrev pub loosest : ℕ
loosest = 10

-- the assignment operators, and what each computes before it writes (6.5.16)
abbrev pub assignment_of : Mark → Option (Option BinOp)
assignment_of marks.Equal = Some None
assignment_of marks.PlusEqual = Some (Some Add)
assignment_of marks.MinusEqual = Some (Some Sub)
assignment_of marks.StarEqual = Some (Some Mul)
assignment_of marks.SlashEqual = Some (Some Div)
assignment_of marks.PercentEqual = Some (Some Rem)
assignment_of marks.AmpersandEqual = Some (Some BitAnd)
assignment_of marks.BarEqual = Some (Some BitOr)
assignment_of marks.CaretEqual = Some (Some BitXor)
assignment_of marks.ShiftLeftEqual = Some (Some Shl)
assignment_of marks.ShiftRightEqual = Some (Some Shr)
assignment_of _ = None

-- the operators before one operand
pub data Prefix : Type 0 where
  Signed : UnaryOp → Prefix
  Counted : StepOp → Prefix

abbrev pub applied : Prefix → Expr → Kind
applied (Signed o) e = Unary o e
applied (Counted o) e = Step o e

-- how each is written (6.5.3)
abbrev pub prefix_of : Mark → Option Prefix
prefix_of marks.Plus = Some (Signed unaries.Plus)
prefix_of marks.Minus = Some (Signed unaries.Minus)
prefix_of marks.Bang = Some (Signed unaries.Not)
prefix_of marks.Tilde = Some (Signed unaries.Flip)
prefix_of marks.PlusPlus = Some (Counted PreUp)
prefix_of marks.MinusMinus = Some (Counted PreDown)
prefix_of _ = None

-- the operators behind one operand (6.5.2.4)
abbrev pub postfix_of : Mark → Option StepOp
postfix_of marks.PlusPlus = Some PostUp
postfix_of marks.MinusMinus = Some PostDown
postfix_of _ = None

-- number = "char" | "int" | "unsigned" ["int"] (6.7.2)
pub data SpellsNumber : TypeName → List Token → Type 0 where
  char : (a : Span) → SpellsNumber types.Char (key keys.Char a ∷ [])
  int : (a : Span) → SpellsNumber types.Int (key keys.Int a ∷ [])
  unsigned : (a : Span) → SpellsNumber types.Unsigned (key keys.Unsigned a ∷ [])
  unsigned_int : (a b : Span) → SpellsNumber types.Unsigned (key keys.Unsigned a ∷ key keys.Int b ∷ [])

mutual
  pub data SpellsExpr : Rank → Expr → List Token → Type 0 where
    -- assign = cond | unary ("=" | "+=" | ..) assign (6.5.16)
    no_assignment : {e : Expr} {s : List Token} → SpellsExpr conditional e s → SpellsExpr assignment e s
    assigned : {o : Option BinOp} {l r : Expr} {s t : List Token} (m : Mark) (a : Span) → assignment_of m ≡ Some o
        → SpellsExpr (binary 0) l s → SpellsExpr assignment r t
        → SpellsExpr assignment (Node (Assign o l r) (runs (s ++ mark m a ∷ t))) (s ++ mark m a ∷ t)
    -- cond = or ["?" assign ":" cond] (6.5.15)
    no_choice : {e : Expr} {s : List Token} → SpellsExpr (binary loosest) e s → SpellsExpr conditional e s
    choice : {e x y : Expr} {s t u : List Token} (a b : Span) → SpellsExpr (binary loosest) e s → SpellsExpr assignment x t
        → SpellsExpr conditional y u
        → SpellsExpr conditional (Node (Choose e x y) (runs (s ++ mark marks.Question a ∷ (t ++ mark marks.Colon b ∷ u))))
        (s ++ mark marks.Question a ∷ (t ++ mark marks.Colon b ∷ u))
    -- the binary levels, left-associative (6.5.5 to 6.5.14): an operand of a tighter level, or one of this level with an
    -- operator and an operand of a tighter one
    tighter : {k : ℕ} {e : Expr} {s : List Token} → SpellsExpr (binary k) e s → SpellsExpr (binary (suc k)) e s
    operated : {k : ℕ} {o : Operator} {l r : Expr} {s t : List Token} (m : Mark) (a : Span) → operator_of m ≡ Some o → level_of o ≡ k
        → SpellsExpr (binary (suc k)) l s → SpellsExpr (binary k) r t
        → SpellsExpr (binary (suc k)) (Node (joined o l r) (runs (s ++ mark m a ∷ t))) (s ++ mark m a ∷ t)
    -- unary = ("+" | "-" | "!" | "~" | "++" | "--") unary (6.5.3). C allows only a unary expression behind `++`; `++(int)x`
    -- is spelled here too, and refused by the rule that a number place stands there (6.5.3.1)
    prefixed : {o : Prefix} {e : Expr} {s : List Token} (m : Mark) (a : Span) → prefix_of m ≡ Some o → SpellsExpr (binary 0) e s
        → SpellsExpr (binary 0) (Node (applied o e) (runs (mark m a ∷ s))) (mark m a ∷ s)
    -- | "(" number ")" unary (6.5.4)
    cast : {n : TypeName} {e : Expr} {s t : List Token} (a b : Span) → SpellsNumber n s → SpellsExpr (binary 0) e t
        → SpellsExpr (binary 0) (Node (Cast n e) (runs (mark marks.OpenParen a ∷ (s ++ mark marks.CloseParen b ∷ t))))
        (mark marks.OpenParen a ∷ (s ++ mark marks.CloseParen b ∷ t))
    -- | postfix
    no_prefix : {e : Expr} {s : List Token} → SpellsExpr postfix e s → SpellsExpr (binary 0) e s
    -- postfix = primary ("[" assign "]" | "." ID | "++" | "--")* (6.5.2)
    no_postfix : {e : Expr} {s : List Token} → SpellsExpr primary e s → SpellsExpr postfix e s
    indexed : {e i : Expr} {s t : List Token} (a b : Span) → SpellsExpr postfix e s → SpellsExpr assignment i t
        → SpellsExpr postfix (Node (Index e i) (runs (s ++ mark marks.OpenBracket a ∷ (t ++ mark marks.CloseBracket b ∷ []))))
        (s ++ mark marks.OpenBracket a ∷ (t ++ mark marks.CloseBracket b ∷ []))
    member : {e : Expr} {s : List Token} (a : Span) (n : Name) → SpellsExpr postfix e s
        → SpellsExpr postfix (Node (Member e n) (runs (s ++ mark marks.Dot a ∷ id n ∷ []))) (s ++ mark marks.Dot a ∷ id n ∷ [])
    stepped : {o : StepOp} {e : Expr} {s : List Token} (m : Mark) (a : Span) → postfix_of m ≡ Some o → SpellsExpr postfix e s
        → SpellsExpr postfix (Node (Step o e) (runs (s ++ mark m a ∷ []))) (s ++ mark m a ∷ [])
    -- primary = ID | ID "(" [assign ("," assign)*] ")" | NUMBER | CHAR | STRING | "(" assign ")" (6.5.1, 6.5.2.2)
    named : (n : Name) → SpellsExpr primary (Node (Named n) n.span) (id n ∷ [])
    called : {es : Exprs} {s : List Token} (n : Name) (a b : Span) → SpellsArgs es s
        → SpellsExpr primary (Node (Call n es) (runs (id n ∷ mark marks.OpenParen a ∷ (s ++ mark marks.CloseParen b ∷ []))))
        (id n ∷ mark marks.OpenParen a ∷ (s ++ mark marks.CloseParen b ∷ []))
    number : (n : ℕ) (u : Bool) (a : Span) → SpellsExpr primary (Node (Number n u) a) (record { kind = kinds.Number n u; span = a } ∷ [])
    character : (b : ℕ) (a : Span) → SpellsExpr primary (Node (Char b) a) (record { kind = kinds.Char b; span = a } ∷ [])
    string : (t : List ℕ) (a : Span) → SpellsExpr primary (Node (Text t) a) (record { kind = kinds.Text t; span = a } ∷ [])
    enclosed : {e : Expr} {s : List Token} (a b : Span) → SpellsExpr assignment e s
        → SpellsExpr primary (Node (Paren e) (runs (mark marks.OpenParen a ∷ (s ++ mark marks.CloseParen b ∷ []))))
        (mark marks.OpenParen a ∷ (s ++ mark marks.CloseParen b ∷ []))

  -- [assign ("," assign)*]
  pub data SpellsArgs : Exprs → List Token → Type 0 where
    no_args : SpellsArgs NoExprs []
    some_args : {es : Exprs} {s : List Token} → SpellsSome es s → SpellsArgs es s

  -- assign ("," assign)*
  pub data SpellsSome : Exprs → List Token → Type 0 where
    last_arg : {e : Expr} {s : List Token} → SpellsExpr assignment e s → SpellsSome (MoreExprs e NoExprs) s
    next_arg : {e : Expr} {es : Exprs} {s t : List Token} (a : Span) → SpellsExpr assignment e s → SpellsSome es t
        → SpellsSome (MoreExprs e es) (s ++ mark marks.Comma a ∷ t)
