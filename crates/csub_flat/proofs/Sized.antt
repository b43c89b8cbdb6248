-- What types the objects of valid programs have.
use Rattle.std.proofs.Common.{◌≡◌, List, [], ◌∷◌, ◌++◌, map, get_or, All, Option, Some, None, refl, subst, bytes_eq}
use Rattle.std.specs.Option.{option_map}
use Rattle.std.proofs.lemmas.List.Elements.{All-head, All-tail, All-cons}
use Rattle.csub_objects.specs.Types.{TypeTree, IsSized, MemberTree}
use Rattle.csub_semantics.specs.Types.{GlobalTree}
use Rattle.csub_semantics.specs.Globals.{global_of}
use Rattle.csub_semantics.specs.Trees.{OwnerTree, global_owner, local_owner}
use Rattle.csub_semantics.specs.Syntax.{LocalTree, FunctionTree}
use Rattle.csub_validity.specs.Valid.{objects_of, parameter_object, IsObject, IsParameter, AreDeclared, AreGlobals}
use Rattle.csub_flat.specs.Fits.{MayStand}
use Rattle.csub_flat.proofs.LawsSized.{sized_stands, parameter_stands}
use Rattle.csub_flat.proofs.Objects.{has_found, has_all, type_found}

abbrev StandsThere : LocalTree → Type 0
StandsThere o = MayStand o.ctype

objects_stand : (ps : List MemberTree) (vs : List LocalTree) → All (λ p. IsParameter p.ctype) ps → All (λ v. IsSized v.ctype) vs → All StandsThere (map parameter_object ps ++ vs)
objects_stand [] vs h g = λ k d below. sized_stands (get_or vs k d).ctype (g k d below)
objects_stand (p ∷ ps) vs h g =
    All-cons StandsThere (parameter_object p) (map parameter_object ps ++ vs) (parameter_stands p.ctype (All-head (λ q. IsParameter q.ctype) p ps h))
    (objects_stand ps vs (All-tail (λ q. IsParameter q.ctype) p ps h) g)

-- a local has what the types of all locals have
pub local_has : (Q : TypeTree → Type 0) (vs : List LocalTree) (owner : OwnerTree) (t : TypeTree) → All (λ v. Q v.ctype) vs → IsObject [] vs owner t → Q t
local_has Q vs (global_owner a) t all h = cc
local_has Q vs (local_owner a n) t all h =
    let w = type_found vs a n t h in
    subst Q w.4 (has_all (λ v. Q v.ctype) vs all w.0 w.1)

module _ (globals : List GlobalTree) (f : FunctionTree) (declared : AreDeclared f) where
  pub object_stands : (owner : OwnerTree) (t : TypeTree) → AreGlobals globals → IsObject globals (objects_of f) owner t → MayStand t
  object_stands (global_owner a) t are h = pick (global_of globals a) refl h
    where
      pick : (o : Option GlobalTree) → global_of globals a ≡ o → option_map (λ (g : GlobalTree). g.ctype) o ≡ Some t → MayStand t
      pick None e k = cc
      pick (Some g) e k =
          let found = has_found (λ (u : GlobalTree). bytes_eq u.name a) globals g e in
          let same : g.ctype ≡ t = cc in
          subst MayStand same (sized_stands g.ctype (has_all (λ (u : GlobalTree). IsSized u.ctype) globals are.types g found.0))
  object_stands (local_owner a n) t are h =
      let w = type_found (objects_of f) a n t h in
      subst MayStand w.4 (has_all StandsThere (objects_of f) (objects_stand f.params f.locals declared.params declared.locals) w.0 w.1)
