-- Edges have numbers.
use Rattle.std.specs.Prelude.{ℕ, ◌≡◌, Some}
use Rattle.csub_objects.specs.Types.{Name}
use Rattle.csub_semantics.specs.Points.{PointTree, ExitTree}
use Rattle.csub_semantics.specs.Syntax.{ProgramTree}
use Rattle.csub_semantics.specs.Flows.{flow_of}
use Rattle.csub_semantics.specs.Numbers.{edge_at}

-- each way out along which a point of the program leads on is an edge of its list
abbrev pub EdgesHaveNumbers : ProgramTree → Type 0
EdgesHaveNumbers P =
    (f : Name) (p q : PointTree) (x : ExitTree) → (flow_of P).succ f p x ≡ Some q →
    (e : ℕ) × (edge_at P e ≡ Some (record { function = f; from = p; exit = x }))
