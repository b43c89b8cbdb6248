-- The cells of a frame, by the parameters and the locals.
use Rattle.std.proofs.Common.{◌≡◌, ℕ, ◌+◌, List, [], ◌∷◌, ◌++◌, map, sum_by, refl, arith}
use Rattle.std.proofs.lemmas.List.Sums.{sum_by-cons}
use Rattle.csub_objects.specs.declared.types.Member.{Member}
use Rattle.csub_objects.specs.Meaning.{member_tree}
use Rattle.csub_objects.specs.Types.{cells}
use Rattle.csub_semantics.specs.declared.function.LocalVar.{LocalVar}
use Rattle.csub_semantics.specs.declared.function.Function.{Function}
use Rattle.csub_semantics.specs.Syntax.{LocalTree, local_tree, function_tree}
use Rattle.csub_validity.specs.Valid.{parameter_object, frame_cells}
use Rattle.csub_limits.specs.Counts.{param_cells, local_cells}

abbrev object_cells : LocalTree → ℕ
object_cells o = cells o.ctype

locals_sum : (ls : List LocalVar) → sum_by object_cells (map local_tree ls) ≡ sum_by local_cells ls
locals_sum [] = refl
locals_sum (v ∷ ls) =
    let first = sum_by-cons object_cells (local_tree v) (map local_tree ls) in
    let all = sum_by-cons local_cells v ls in
    let rest = locals_sum ls in omega (arith, first, rest, all)

objects_sum : (ps : List Member) (ls : List LocalVar)
    → sum_by object_cells (map parameter_object (map member_tree ps) ++ map local_tree ls) ≡ sum_by param_cells ps + sum_by local_cells ls
objects_sum [] ls = let rest = locals_sum ls in omega (arith, rest)
objects_sum (p ∷ ps) ls =
    let first = sum_by-cons object_cells (parameter_object (member_tree p)) (map parameter_object (map member_tree ps) ++ map local_tree ls) in
    let all = sum_by-cons param_cells p ps in
    let rest = objects_sum ps ls in omega (arith, first, rest, all)

pub frame_sum : (f : Function) → (f.temps + sum_by param_cells f.params.items) + sum_by local_cells f.locals.items ≡ frame_cells (function_tree f)
frame_sum f = let objects = objects_sum f.params.items f.locals.items in omega (arith, objects)
