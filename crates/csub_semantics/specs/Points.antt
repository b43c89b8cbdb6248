-- Points of a function and the ways out of a point.
use Rattle.std.specs.Prelude.{ℕ, ℤ, List, Bool, true, false, ◌&&◌, nat_eq}
use Rattle.std.specs.Ordering.{int_eq}
use Rattle.std.specs.Cmp.Lexicographic.{pointwise}
use Rattle.csub_semantics.specs.declared.point.Point.{Point}
use Rattle.csub_semantics.specs.declared.point.Point.TheVariants.{Entry, Exit, At}
use Rattle.csub_semantics.specs.declared.label.ExitLabel.{ExitLabel}
use Rattle.csub_semantics.specs.declared.label.ExitLabel.TheVariants.{Next, True, False, Case, Default}

-- a point: a function's entry, its exit, or a stage of a part of the statement at a path in its body
pub data PointTree : Type 0 where
  entry : PointTree
  exit : PointTree
  at : List ℕ → ℕ → ℕ → PointTree

abbrev pub point_tree : Point → PointTree
point_tree Entry = entry
point_tree Exit = exit
point_tree (At p) = at p.path.items p.part p.stage

abbrev pub point_eq : PointTree → PointTree → Bool
point_eq entry entry = true
point_eq exit exit = true
point_eq (at q i k) (at r j l) = pointwise nat_eq q r && (nat_eq i j && nat_eq k l)
point_eq p q = false

-- a way out of a point: the only one, those of a test, and those of a switch (its Default has all its case values)
pub data ExitTree : Type 0 where
  next : ExitTree
  on_true : ExitTree
  on_false : ExitTree
  on_case : ℤ → ExitTree
  on_default : List ℤ → ExitTree

abbrev pub exit_tree : ExitLabel → ExitTree
exit_tree Next = next
exit_tree True = on_true
exit_tree False = on_false
exit_tree (Case v) = on_case v
exit_tree (Default vs) = on_default vs.items

abbrev pub exit_eq : ExitTree → ExitTree → Bool
exit_eq next next = true
exit_eq on_true on_true = true
exit_eq on_false on_false = true
exit_eq (on_case v) (on_case w) = int_eq v w
exit_eq (on_default vs) (on_default ws) = pointwise int_eq vs ws
exit_eq x y = false
