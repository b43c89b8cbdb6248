-- Functions that are found in a graph.
use Rattle.std.proofs.Common.{◌≡◌, ◌<◌, ◌∙◌, ℕ, List, [], ◌∷◌, length, Option, Some, None, Bool, true, false, cond, refl, sym, ap, bytes_eq}
use Rattle.std.specs.Option.{option_map}
use Rattle.std.proofs.lemmas.List.{length-map}
use Rattle.csub_objects.specs.Types.{Name}
use Rattle.csub_semantics.specs.Syntax.{FunctionTree, ProgramTree}
use Rattle.csub_semantics.specs.Flows.{function_in, function_of}
use Rattle.csub_semantics.specs.Numbers.{name_at}
use Rattle.program_laws.proofs.LawsNames.{same_name}
use Rattle.flow_graph.specs.Graph.{Tables, IsGraphOf, function_count, function_at, function_of as graph_function_of}
use Rattle.csub_flat.proofs.LawsSites.{there}

pub functions_counted : (g : Tables) (P : ProgramTree) → IsGraphOf g P → function_count g ≡ length P.functions
functions_counted g P h = sym (length-map g.0 (function_at P)) ∙ ap length h.functions ∙ length-map P.functions graph_function_of

found_name : (fs : List FunctionTree) (f : Name) (g : FunctionTree) → function_in fs f ≡ Some g → g.name ≡ f
found_name [] f g e = absurd cc
found_name (h ∷ rest) f g e = step (bytes_eq h.name f) refl e (found_name rest f g)
  where
    step : (b : Bool) → bytes_eq h.name f ≡ b → cond b (Some h) (function_in rest f) ≡ Some g → (function_in rest f ≡ Some g → g.name ≡ f) → g.name ≡ f
    step true t e later = let same : h ≡ g = cc in ap (λ (x : FunctionTree). x.name) (sym same) ∙ same_name h.name f t
    step false t e later = later e

-- the name of the function that was found
pub found_at : (P : ProgramTree) (f : Name) (n : ℕ) → n < length P.functions → name_at P n ≡ option_map (λ (g : FunctionTree). g.name) (function_of P f) → name_at P n ≡ Some f
found_at P f n h e = step (function_of P f) refl e
  where
    step : (o : Option FunctionTree) → function_of P f ≡ o → name_at P n ≡ option_map (λ (g : FunctionTree). g.name) o → name_at P n ≡ Some f
    step None d e = let m = there P.functions n h in let k = sym (ap (option_map (λ (g : FunctionTree). g.name)) m.1) ∙ e in cc
    step (Some g) d e = e ∙ ap Some (found_name P.functions f g d)
