-- The places in an expression, and what is asked for there.
use Rattle.std.specs.Prelude.{Option, IsTrue, not}
use Rattle.csub_text.specs.declared.span.Span.{Span}
use Rattle.csub_text.specs.declared.operator.UnaryOp.{UnaryOp}
use Rattle.csub_text.specs.declared.operator.StepOp.{StepOp}
use Rattle.csub_text.specs.declared.operator.BinOp.{BinOp}
use Rattle.csub_tree.specs.declared.name.Name.{Name}
use Rattle.csub_tree.specs.declared.name.TypeName.{TypeName}
use Rattle.csub_tree.specs.Expressions.{Expr, Exprs, Node, Paren, Unary, Cast, Step, Binary, And, Or}
use Rattle.csub_tree.specs.Expressions.{Choose, Assign, Call, Index, Member, MoreExprs}
use Rattle.csub_scopes.specs.Scopes.{Scope}
use Rattle.csub_rules.specs.Callees.{callee_of, is_printf}
use Rattle.csub_rules.specs.Formats.{is_literal}
use Rattle.csub_rules.specs.ExprFaults.{Standing, later_operand, below}

-- x stands in e, one constructor for each place; each expression with how it stands. A string as the first argument of
-- `printf` is a format, and no expression that stands there.
mutual
  pub data Within (scope : Scope) : Standing → Expr → Standing → Expr → Type 0 where
    itself : {h : Standing} {x : Expr} → Within scope h x h x
    in_paren : {h m : Standing} {a x : Expr} (s : Span) → Within scope h a m x → Within scope h (Node (Paren a) s) m x
    in_unary : {h m : Standing} {a x : Expr} (o : UnaryOp) (s : Span) → Within scope (below h) a m x → Within scope h (Node (Unary o a) s) m x
    in_cast : {h m : Standing} {a x : Expr} (t : TypeName) (s : Span) → Within scope (below h) a m x → Within scope h (Node (Cast t a) s) m x
    in_step : {h m : Standing} {a x : Expr} (o : StepOp) (s : Span) → Within scope (below h) a m x → Within scope h (Node (Step o a) s) m x
    in_left : {h m : Standing} {a x : Expr} (o : BinOp) (b : Expr) (s : Span) → Within scope (below h) a m x
        → Within scope h (Node (Binary o a b) s) m x
    in_right : {h m : Standing} {b x : Expr} (o : BinOp) (a : Expr) (s : Span) → Within scope (below h) b m x
        → Within scope h (Node (Binary o a b) s) m x
    in_and_left : {h m : Standing} {a x : Expr} (b : Expr) (s : Span) → Within scope (below h) a m x → Within scope h (Node (And a b) s) m x
    in_and_right : {h m : Standing} {b x : Expr} (a : Expr) (s : Span) → Within scope later_operand b m x
        → Within scope h (Node (And a b) s) m x
    in_or_left : {h m : Standing} {a x : Expr} (b : Expr) (s : Span) → Within scope (below h) a m x → Within scope h (Node (Or a b) s) m x
    in_or_right : {h m : Standing} {b x : Expr} (a : Expr) (s : Span) → Within scope later_operand b m x
        → Within scope h (Node (Or a b) s) m x
    in_test : {h m : Standing} {c x : Expr} (a b : Expr) (s : Span) → Within scope (below h) c m x
        → Within scope h (Node (Choose c a b) s) m x
    in_then : {h m : Standing} {a x : Expr} (c b : Expr) (s : Span) → Within scope later_operand a m x
        → Within scope h (Node (Choose c a b) s) m x
    in_else : {h m : Standing} {b x : Expr} (c a : Expr) (s : Span) → Within scope later_operand b m x
        → Within scope h (Node (Choose c a b) s) m x
    in_target : {h m : Standing} {a x : Expr} (o : Option BinOp) (b : Expr) (s : Span) → Within scope (below h) a m x
        → Within scope h (Node (Assign o a b) s) m x
    in_source : {h m : Standing} {b x : Expr} (o : Option BinOp) (a : Expr) (s : Span) → Within scope (below h) b m x
        → Within scope h (Node (Assign o a b) s) m x
    in_array : {h m : Standing} {a x : Expr} (i : Expr) (s : Span) → Within scope (below h) a m x → Within scope h (Node (Index a i) s) m x
    in_index : {h m : Standing} {i x : Expr} (a : Expr) (s : Span) → Within scope (below h) i m x → Within scope h (Node (Index a i) s) m x
    in_struct : {h m : Standing} {a x : Expr} (n : Name) (s : Span) → Within scope (below h) a m x → Within scope h (Node (Member a n) s) m x
    in_args : {h m : Standing} {args : Exprs} {x : Expr} (f : Name) (s : Span) → IsTrue (not (is_printf (callee_of scope f.text)))
        → Among scope (below h) args m x → Within scope h (Node (Call f args) s) m x
    in_first : {h m : Standing} {e x : Expr} (f : Name) (rest : Exprs) (s : Span) → IsTrue (is_printf (callee_of scope f.text))
        → IsTrue (not (is_literal e)) → Within scope (below h) e m x → Within scope h (Node (Call f (MoreExprs e rest)) s) m x
    in_printed : {h m : Standing} {rest : Exprs} {x : Expr} (f : Name) (e : Expr) (s : Span) → IsTrue (is_printf (callee_of scope f.text))
        → Among scope (below h) rest m x → Within scope h (Node (Call f (MoreExprs e rest)) s) m x

  pub data Among (scope : Scope) : Standing → Exprs → Standing → Expr → Type 0 where
    this : {h m : Standing} {e x : Expr} (rest : Exprs) → Within scope h e m x → Among scope h (MoreExprs e rest) m x
    next : {h m : Standing} {rest : Exprs} {x : Expr} (e : Expr) → Among scope h rest m x → Among scope h (MoreExprs e rest) m x

-- an argument of a call
pub data IsArg : Expr → Exprs → Type 0 where
  this_arg : {e : Expr} (rest : Exprs) → IsArg e (MoreExprs e rest)
  next_arg : {e : Expr} {rest : Exprs} (first : Expr) → IsArg e rest → IsArg e (MoreExprs first rest)

-- a number is asked for of x, a part of e
pub data NumberAsked (scope : Scope) : Expr → Expr → Type 0 where
  of_unary : (o : UnaryOp) (a : Expr) (s : Span) → NumberAsked scope a (Node (Unary o a) s)
  of_cast : (t : TypeName) (a : Expr) (s : Span) → NumberAsked scope a (Node (Cast t a) s)
  of_left : (o : BinOp) (a b : Expr) (s : Span) → NumberAsked scope a (Node (Binary o a b) s)
  of_right : (o : BinOp) (a b : Expr) (s : Span) → NumberAsked scope b (Node (Binary o a b) s)
  of_and_left : (a b : Expr) (s : Span) → NumberAsked scope a (Node (And a b) s)
  of_and_right : (a b : Expr) (s : Span) → NumberAsked scope b (Node (And a b) s)
  of_or_left : (a b : Expr) (s : Span) → NumberAsked scope a (Node (Or a b) s)
  of_or_right : (a b : Expr) (s : Span) → NumberAsked scope b (Node (Or a b) s)
  of_test : (c a b : Expr) (s : Span) → NumberAsked scope c (Node (Choose c a b) s)
  of_then : (c a b : Expr) (s : Span) → NumberAsked scope a (Node (Choose c a b) s)
  of_else : (c a b : Expr) (s : Span) → NumberAsked scope b (Node (Choose c a b) s)
  of_stepped : (o : StepOp) (a : Expr) (s : Span) → NumberAsked scope a (Node (Step o a) s)
  of_assigned : (o : Option BinOp) (a b : Expr) (s : Span) → NumberAsked scope a (Node (Assign o a b) s)
  of_source : (o : Option BinOp) (a b : Expr) (s : Span) → NumberAsked scope b (Node (Assign o a b) s)
  of_printed : {x : Expr} (f : Name) (args : Exprs) (s : Span) → IsTrue (is_printf (callee_of scope f.text)) → IsArg x args
      → NumberAsked scope x (Node (Call f args) s)

-- a place of a number, and so a number, is asked for of x, a part of e
pub data PlaceAsked : Expr → Expr → Type 0 where
  of_step : (o : StepOp) (a : Expr) (s : Span) → PlaceAsked a (Node (Step o a) s)
  of_target : (o : Option BinOp) (a b : Expr) (s : Span) → PlaceAsked a (Node (Assign o a b) s)
