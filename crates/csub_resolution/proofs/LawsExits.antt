-- Whole statements, as far as `exit` goes.
use Rattle.std.proofs.Common.{◌≡◌, subst, Some, None, Bool, true, false, IsTrue}
use Rattle.csub_tree.specs.Expressions.{Expr, Exprs, Node, Number, Char, Text, Named, Paren, Unary, Cast, Step, Binary, And, Or}
use Rattle.csub_tree.specs.Expressions.{Choose, Assign, Call, Index, Member, NoExprs, MoreExprs}
use Rattle.csub_scopes.specs.Scopes.{Scope}
use Rattle.csub_rules.specs.Sorts.{is_number}
use Rattle.csub_rules.specs.Callees.{Callee, no_function, user_function, getchar_function, putchar_function, printf_function, exit_function}
use Rattle.csub_rules.specs.Callees.{callee_of, fixed_params}
use Rattle.csub_rules.specs.ExprSorts.{sort_of}
use Rattle.csub_rules.specs.Fine.{Fine, FineCall, FineArgs, FinePrint}
use Rattle.csub_resolution.specs.Lines.{exits_with, exit_argument}

module _ (scope : Scope) where
  abbrev FineBy : Bool → Exprs → Callee → Type 0
  FineBy whole es c = FineCall whole c (FineArgs scope (fixed_params c) es) (FinePrint scope es)

  call_operand : (c : Callee) (es : Exprs) → FineBy true es c → exit_argument c es ≡ None → FineBy false es c
  call_operand no_function es h e = h
  call_operand (user_function ps r) es h e = h
  call_operand getchar_function es h e = h
  call_operand putchar_function es h e = h
  call_operand printf_function es h e = h
  call_operand exit_function NoExprs h e = absurd h.1
  call_operand exit_function (MoreExprs a rest) h e = absurd (cc)

  -- a whole statement that is no call of `exit` may be an operand as well
  pub fine_operand : (e : Expr) → Fine scope true e → exits_with scope e ≡ None → Fine scope false e
  fine_operand (Node (Paren a) s) h e = fine_operand a h e
  fine_operand (Node (Call f args) s) h e = call_operand (callee_of scope f.text) args h e
  fine_operand (Node (Number n u) s) h e = h
  fine_operand (Node (Char b) s) h e = h
  fine_operand (Node (Text t) s) h e = h
  fine_operand (Node (Named x) s) h e = h
  fine_operand (Node (Unary o a) s) h e = h
  fine_operand (Node (Cast t a) s) h e = h
  fine_operand (Node (Step o a) s) h e = h
  fine_operand (Node (Binary o a b) s) h e = h
  fine_operand (Node (And a b) s) h e = h
  fine_operand (Node (Or a b) s) h e = h
  fine_operand (Node (Choose c a b) s) h e = h
  fine_operand (Node (Assign o a b) s) h e = h
  fine_operand (Node (Index a i) s) h e = h
  fine_operand (Node (Member a m) s) h e = h

  -- the status of an `exit` is a number
  pub record IsStatus (status : Expr) : Type 0 where
    pub fine : Fine scope false status
    pub number : IsTrue (is_number (sort_of scope status))

  same_status : (a status : Expr) → Some a ≡ Some status → IsStatus a → IsStatus status
  same_status a status e h = let same : a ≡ status = cc in subst (λ x. IsStatus x) same h

  call_status : (c : Callee) (es : Exprs) (status : Expr) → FineBy true es c → exit_argument c es ≡ Some status → IsStatus status
  call_status no_function es status h e = absurd (cc)
  call_status (user_function ps r) es status h e = absurd (cc)
  call_status getchar_function es status h e = absurd (cc)
  call_status putchar_function es status h e = absurd (cc)
  call_status printf_function es status h e = absurd (cc)
  call_status exit_function NoExprs status h e = absurd (cc)
  call_status exit_function (MoreExprs a rest) status h e = same_status a status e (record { fine = h.1.0; number = h.1.1 })

  -- and so it may be resolved, where the call is a whole statement
  pub fine_status : (e status : Expr) → Fine scope true e → exits_with scope e ≡ Some status → IsStatus status
  fine_status (Node (Paren a) s) status h e = fine_status a status h e
  fine_status (Node (Call f args) s) status h e = call_status (callee_of scope f.text) args status h e
  fine_status (Node (Number n u) s) status h e = absurd (cc)
  fine_status (Node (Char b) s) status h e = absurd (cc)
  fine_status (Node (Text t) s) status h e = absurd (cc)
  fine_status (Node (Named x) s) status h e = absurd (cc)
  fine_status (Node (Unary o a) s) status h e = absurd (cc)
  fine_status (Node (Cast t a) s) status h e = absurd (cc)
  fine_status (Node (Step o a) s) status h e = absurd (cc)
  fine_status (Node (Binary o a b) s) status h e = absurd (cc)
  fine_status (Node (And a b) s) status h e = absurd (cc)
  fine_status (Node (Or a b) s) status h e = absurd (cc)
  fine_status (Node (Choose c a b) s) status h e = absurd (cc)
  fine_status (Node (Assign o a b) s) status h e = absurd (cc)
  fine_status (Node (Index a i) s) status h e = absurd (cc)
  fine_status (Node (Member a m) s) status h e = absurd (cc)
