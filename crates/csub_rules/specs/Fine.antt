-- Expressions whose parts are what is asked of them: those that can be resolved. It computes to a product along the tree.
use Rattle.std.specs.Prelude.{List, [], ◌∷◌, Bool, false, IsTrue}
use Rattle.csub_tree.specs.Expressions.{Expr, Kind, Exprs, Node, Number, Char, Text, Named, Paren, Unary, Cast, Step, Binary, And, Or}
use Rattle.csub_tree.specs.Expressions.{Choose, Assign, Call, Index, Member, NoExprs, MoreExprs}
use Rattle.csub_objects.specs.Types.{TypeTree}
use Rattle.csub_scopes.specs.Scopes.{Scope}
use Rattle.csub_rules.specs.Sorts.{is_sorted, is_number, is_number_place, is_array, has_member}
use Rattle.csub_rules.specs.Callees.{Callee, no_function, user_function, getchar_function, putchar_function, printf_function, exit_function}
use Rattle.csub_rules.specs.Callees.{callee_of, fixed_params, takes}
use Rattle.csub_rules.specs.Formats.{literal_of, is_format}
use Rattle.csub_rules.specs.ExprSorts.{sort_of, sort_of_name}

-- A call is fine where its arguments are, which is one of two things: they fit parameters, or they are printed. `exit` is fine
-- as a whole statement alone.
abbrev pub FineCall : Bool → Callee → Type 0 → Type 0 → Type 0
FineCall whole no_function fit print = ⊥
FineCall whole (user_function params result) fit print = fit
FineCall whole getchar_function fit print = fit
FineCall whole putchar_function fit print = fit
FineCall whole printf_function fit print = print
FineCall whole exit_function fit print = IsTrue whole × fit

-- an expression, which is a whole statement or not
abbrev mutual
  pub Fine : Scope → Bool → Expr → Type 0
  Fine scope whole (Node k s) = FineKind scope whole k

  pub FineKind : Scope → Bool → Kind → Type 0
  FineKind scope whole (Number n u) = Unit {0}
  FineKind scope whole (Char b) = Unit {0}
  FineKind scope whole (Text t) = ⊥
  FineKind scope whole (Named x) = IsTrue (is_sorted (sort_of_name scope x.text))
  FineKind scope whole (Paren e) = Fine scope whole e
  FineKind scope whole (Unary o a) = Fine scope false a × IsTrue (is_number (sort_of scope a))
  FineKind scope whole (Cast t a) = Fine scope false a × IsTrue (is_number (sort_of scope a))
  FineKind scope whole (Step o a) = Fine scope false a × IsTrue (is_number_place (sort_of scope a))
  FineKind scope whole (Binary o a b) =
      Fine scope false a × Fine scope false b × IsTrue (is_number (sort_of scope a)) × IsTrue (is_number (sort_of scope b))
  FineKind scope whole (And a b) =
      Fine scope false a × Fine scope false b × IsTrue (is_number (sort_of scope a)) × IsTrue (is_number (sort_of scope b))
  FineKind scope whole (Or a b) =
      Fine scope false a × Fine scope false b × IsTrue (is_number (sort_of scope a)) × IsTrue (is_number (sort_of scope b))
  FineKind scope whole (Choose c a b) =
      Fine scope false c × Fine scope false a × Fine scope false b
      × IsTrue (is_number (sort_of scope c)) × IsTrue (is_number (sort_of scope a)) × IsTrue (is_number (sort_of scope b))
  FineKind scope whole (Assign o a b) =
      Fine scope false a × Fine scope false b × IsTrue (is_number_place (sort_of scope a)) × IsTrue (is_number (sort_of scope b))
  FineKind scope whole (Call f args) =
      FineCall whole (callee_of scope f.text) (FineArgs scope (fixed_params (callee_of scope f.text)) args) (FinePrint scope args)
  FineKind scope whole (Index a i) =
      Fine scope false a × Fine scope false i × IsTrue (is_array (sort_of scope a)) × IsTrue (is_number (sort_of scope i))
  FineKind scope whole (Member a m) = Fine scope false a × IsTrue (has_member m.text (sort_of scope a))

  -- as many arguments as parameters, each taken
  pub FineArgs : Scope → List TypeTree → Exprs → Type 0
  FineArgs scope [] NoExprs = Unit {0}
  FineArgs scope (p ∷ ps) NoExprs = ⊥
  FineArgs scope [] (MoreExprs e rest) = ⊥
  FineArgs scope (p ∷ ps) (MoreExprs e rest) = Fine scope false e × IsTrue (takes p (sort_of scope e)) × FineArgs scope ps rest

  -- numbers
  pub FineNumbers : Scope → Exprs → Type 0
  FineNumbers scope NoExprs = Unit {0}
  FineNumbers scope (MoreExprs e rest) = Fine scope false e × IsTrue (is_number (sort_of scope e)) × FineNumbers scope rest

  -- a format that asks for the numbers behind it
  pub FinePrint : Scope → Exprs → Type 0
  FinePrint scope NoExprs = ⊥
  FinePrint scope (MoreExprs e rest) = IsTrue (is_format (literal_of e) rest) × FineNumbers scope rest
