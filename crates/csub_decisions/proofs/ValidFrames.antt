-- The objects of a function, by its parameters and its locals.
use Rattle.std.proofs.Common.{◌≡◌, ◌↔◌, ◌∙◌, ℕ, ◌+◌, List, [], ◌∷◌, ◌++◌, map, sum_by, All, refl, ap, sym, arith}
use Rattle.std.proofs.lemmas.List.Sums.{sum_by-cons}
use Rattle.csub_objects.specs.declared.types.Member.{Member}
use Rattle.csub_objects.specs.Meaning.{type_tree, member_tree}
use Rattle.csub_objects.specs.Types.{cells, IsSized}
use Rattle.csub_semantics.specs.declared.function.LocalVar.{LocalVar}
use Rattle.csub_semantics.specs.declared.function.Function.{Function}
use Rattle.csub_semantics.specs.Syntax.{LocalTree, local_tree, function_tree}
use Rattle.csub_validity.specs.Valid.{parameter_object, AreDeclared, IsParameter, frame_cells}
use Rattle.csub_validity.proofs.LawsLists.{All-of_map}
use Rattle.csub_limits.specs.Counts.{param_cells, local_cells}

abbrev object_cells : LocalTree → ℕ
object_cells o = cells o.ctype

locals_sum : (ls : List LocalVar) → sum_by object_cells (map local_tree ls) ≡ sum_by local_cells ls
locals_sum [] = refl
locals_sum (v ∷ ls) =
    sum_by-cons object_cells (local_tree v) (map local_tree ls) ∙ ap (λ n. local_cells v + n) (locals_sum ls) ∙ sym (sum_by-cons local_cells v ls)

objects_sum : (ps : List Member) (ls : List LocalVar)
    → sum_by object_cells (map parameter_object (map member_tree ps) ++ map local_tree ls) ≡ sum_by param_cells ps + sum_by local_cells ls
objects_sum [] ls = let rest = locals_sum ls in omega (arith, rest)
objects_sum (p ∷ ps) ls =
    let first = sum_by-cons object_cells (parameter_object (member_tree p)) (map parameter_object (map member_tree ps) ++ map local_tree ls) in
    let rest = objects_sum ps ls in
    let all = sum_by-cons param_cells p ps in omega (arith, first, rest, all)

-- the cells of a frame are those of the parameters and of the locals, and one for each temporary
pub frame_sum : (f : Function) → frame_cells (function_tree f) ≡ (sum_by param_cells f.params.items + sum_by local_cells f.locals.items) + f.temps
frame_sum f = ap (λ n. n + f.temps) (objects_sum f.params.items f.locals.items)

pub AreDeclared-split : (f : Function) → AreDeclared (function_tree f) ↔ (All (λ (p : Member). IsParameter (type_tree p.ctype)) f.params.items × All (λ (v : LocalVar). IsSized (type_tree v.ctype)) f.locals.items)
AreDeclared-split f =
    let params = All-of_map (λ p. IsParameter p.ctype) member_tree f.params.items in
    let locals = All-of_map (λ (v : LocalTree). IsSized v.ctype) local_tree f.locals.items in
    (λ h. (params.0 h.params, locals.0 h.locals), λ h. record { params = params.1 h.0; locals = locals.1 h.1 })
