-- The test of equality of edges.
use Rattle.std.proofs.Common.{◌≡◌, ◌≢◌, Bool, true, false, ◌&&◌, refl, ap, ◌∙◌, bytes_eq}
use Rattle.std.proofs.lemmas.Bool.{and_parts, and_from}
use Rattle.csub_objects.specs.Types.{Name}
use Rattle.csub_semantics.specs.Points.{PointTree, point_eq, ExitTree, exit_eq}
use Rattle.csub_semantics.specs.Flows.{Edge}
use Rattle.program_laws.proofs.LawsNames.{same_name, name_itself, same_point, point_itself, same_exit, exit_itself}
use Rattle.csub_machine.specs.Crossed.{edge_eq}

pub edge_true : (d e : Edge) → edge_eq d e ≡ true → d ≡ e
edge_true d e h =
    let p = and_parts (bytes_eq d.function e.function) (point_eq d.from e.from && exit_eq d.exit e.exit) h in
    let q = and_parts (point_eq d.from e.from) (exit_eq d.exit e.exit) p.1 in
    let a = same_name d.function e.function p.0 in let b = same_point d.from e.from q.0 in let c = same_exit d.exit e.exit q.1 in
    ap (λ (x : Name). let m : Edge = record { function = x; from = d.from; exit = d.exit } in m) a
    ∙ ap (λ (x : PointTree). let m : Edge = record { function = e.function; from = x; exit = d.exit } in m) b
    ∙ ap (λ (x : ExitTree). let m : Edge = record { function = e.function; from = e.from; exit = x } in m) c

pub edge_same : (d : Edge) → edge_eq d d ≡ true
edge_same d = and_from (bytes_eq d.function d.function) (point_eq d.from d.from && exit_eq d.exit d.exit) (name_itself d.function) (and_from (point_eq d.from d.from) (exit_eq d.exit d.exit) (point_itself d.from) (exit_itself d.exit))

pub edge_other : (d e : Edge) → d ≢ e → edge_eq d e ≡ false
edge_other d e h = step (edge_eq d e) (edge_true d e)
  where
    step : (b : Bool) → (b ≡ true → d ≡ e) → b ≡ false
    step true f = absurd (h (f refl))
    step false f = refl
