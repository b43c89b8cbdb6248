-- Functions by their names, and the entries at which they begin.
use Rattle.std.proofs.Common.{◌≡◌, ℕ, ◌<◌, List, length, Option, Some, None, option_map, refl, sym, ap, subst, ◌∙◌}
use Rattle.std.specs.Prelude.{slice_get}
use Rattle.std.proofs.lemmas.List.{length-map}
use Rattle.std.proofs.lemmas.Option.{same_Some}
use Rattle.csub_objects.specs.Types.{Name}
use Rattle.csub_semantics.specs.Points.{PointTree, entry}
use Rattle.csub_semantics.specs.Syntax.{FunctionTree, ProgramTree}
use Rattle.csub_semantics.specs.Flows.{point_list, function_of}
use Rattle.csub_semantics.specs.Numbers.{Site, site, site_of, site_at, name_at}
use Rattle.csub_validity.specs.Valid.{IsValid}
use Rattle.flow_graph.specs.Graph.{Tables, IsGraphOf, function_count, function_at, function_of as named_function}
use Rattle.flow_graph.proofs.LawsLists.{made_of}
use Rattle.flow_graph.proofs.LawsPlaces.{point_placed, function_found}
use Rattle.dual_walk.proofs.LawsLists.{get_some}
use Rattle.dual_walk.proofs.LawsNumbers.{defined_name}

-- no function has a name that no function is found by
pub no_site : (P : ProgramTree) → IsValid P → (name f : Name) → name ≡ f → None ≡ option_map (λ (g : FunctionTree). g.name) (function_of P name)
    → (m : ℕ) (p : PointTree) → site_at P m ≡ Some (site f p) → ⊥
no_site P valid name f is none m p at =
    let x = made_of site_of (slice_get (point_list P) m) (site f p) at in
    let stands = point_placed P.functions m x.value x.is in
    let same : stands.function.name ≡ name = sym stands.name ∙ ap (λ (s : Site). s.function) x.gives ∙ sym is in
    let found : function_of P name ≡ Some stands.function = subst (λ n. function_of P n ≡ Some stands.function) same (function_found P.functions stands.place stands.function valid.distinct stands.there) in
    let both : ◌≡◌ {A = Option Name} None (Some stands.function.name) = none ∙ ap (option_map (λ (g : FunctionTree). g.name)) found in
    absurd cc

-- a function that is found by a name has that name
pub found_name : (g : Tables) (P : ProgramTree) → IsGraphOf g P → (k : ℕ) (name f : Name) → name ≡ f → k < function_count g
    → name_at P k ≡ option_map (λ (g : FunctionTree). g.name) (function_of P name) → name_at P k ≡ Some f
found_name g P ok k name f is within found = pick (function_of P name) refl
  where
    counted : length g.0 ≡ length P.functions
    counted = sym (length-map g.0 (function_at P)) ∙ ap length ok.functions ∙ length-map P.functions named_function

    pick : (o : Option FunctionTree) → function_of P name ≡ o → name_at P k ≡ Some f
    pick None none =
        let x = get_some P.functions k (subst (λ n. k < n) counted within) in
        let both : ◌≡◌ {A = Option Name} (Some x.0.name) None = sym (ap (option_map (λ (g : FunctionTree). g.name)) x.1) ∙ found ∙ ap (option_map (λ (g : FunctionTree). g.name)) none in
        absurd cc
    pick (Some function) some =
        found ∙ ap (option_map (λ (g : FunctionTree). g.name)) some ∙ ap Some (defined_name P name (record { function = function; is = some }) ∙ is)

-- two entries of one number are of one function
pub one_function : (P : ProgramTree) (e k : ℕ) (f h : Name) → e ≡ k → site_at P e ≡ Some (site f entry) → site_at P k ≡ Some (site h entry) → f ≡ h
one_function P e k f h same there here = ap (λ (s : Site). s.function) (same_Some (site f entry) (site h entry) (sym there ∙ ap (site_at P) same ∙ here))
