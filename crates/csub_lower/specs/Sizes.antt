-- How large expressions are, by which the descent through them ends.
use Rattle.std.specs.Prelude.{ℕ, ◌+◌}
use Rattle.csub_tree.specs.Expressions.{Expr, Kind, Exprs, Node, Number, Char, Text, Named, Paren, Unary, Cast, Step, Binary, And, Or}
use Rattle.csub_tree.specs.Expressions.{Choose, Assign, Call, Index, Member, NoExprs, MoreExprs}

abbrev mutual
  pub size : Expr → ℕ
  size (Node k s) = 1 + kind_size k

  pub kind_size : Kind → ℕ
  kind_size (Number n u) = 0
  kind_size (Char b) = 0
  kind_size (Text t) = 0
  kind_size (Named x) = 0
  kind_size (Paren e) = size e
  kind_size (Unary o e) = size e
  kind_size (Cast t e) = size e
  kind_size (Step o e) = size e
  kind_size (Binary o a b) = size a + size b
  kind_size (And a b) = size a + size b
  kind_size (Or a b) = size a + size b
  kind_size (Choose c a b) = size c + (size a + size b)
  kind_size (Assign o a b) = size a + size b
  kind_size (Call f args) = all_size args
  kind_size (Index a i) = size a + size i
  kind_size (Member a m) = size a

  pub all_size : Exprs → ℕ
  all_size NoExprs = 0
  all_size (MoreExprs e rest) = size e + all_size rest
