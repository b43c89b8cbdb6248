-- `main` among functions, as the code has them.
use Rattle.std.proofs.Common.{◌≡◌, ◌∙◌, refl, ap, Bool, true, false, cond, List, [], ◌∷◌, map, Option, Some, find, bytes_eq}
use Rattle.std.specs.Option.{option_map}
use Rattle.csub_semantics.specs.declared.function.Function.{Function as CodeFunction}
use Rattle.csub_objects.specs.Types.{main_name}
use Rattle.csub_semantics.specs.Syntax.{FunctionTree, function_tree}
use Rattle.csub_resolution.specs.Programs.{span_of_main, span_or_none}

either : (b : Bool) (f : CodeFunction) (o : Option CodeFunction) (p : Option FunctionTree) → option_map function_tree o ≡ p
    → option_map function_tree (cond b (Some f) o) ≡ cond b (Some (function_tree f)) p
either true f o p e = refl
either false f o p e = e

found : (fs : List CodeFunction) → option_map function_tree (find (λ (f : CodeFunction). bytes_eq f.name main_name) fs)
    ≡ find (λ (f : FunctionTree). bytes_eq f.name main_name) (map function_tree fs)
found [] = refl
found (f ∷ fs) = either (bytes_eq f.name main_name) f _ _ (found fs)

pub span_found : (fs : List CodeFunction) (o : Option CodeFunction) → o ≡ find (λ (f : CodeFunction). bytes_eq f.name main_name) fs
    → span_or_none (option_map function_tree o) ≡ span_of_main (map function_tree fs)
span_found fs o e = ap (λ p. span_or_none (option_map function_tree p)) e ∙ ap span_or_none (found fs)
