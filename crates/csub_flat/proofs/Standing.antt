-- The label of each point of a valid program fits the frame of its function.
use Rattle.std.proofs.Common.{◌≡◌, List, [], ◌∷◌, map, AllPairs, Option, Some, None, cond, refl, sym, ◌∙◌, ap, arith, Bool, true, false, bytes_eq}
use Rattle.std.specs.List.{flat_map}
use Rattle.csub_types.specs.declared.kind.IntKind.{IntKind}
use Rattle.csub_types.specs.declared.kind.IntKind.TheVariants.{Int}
use Rattle.csub_semantics.specs.declared.label.EndRule.TheVariants.{Main, Start}
use Rattle.csub_objects.specs.Types.{Name, main_name}
use Rattle.csub_semantics.specs.Types.{GlobalTree}
use Rattle.csub_semantics.specs.Labels.{LabelTree, halts}
use Rattle.csub_semantics.specs.Syntax.{LocalTree, FunctionTree, ProgramTree}
use Rattle.csub_semantics.specs.Points.{PointTree}
use Rattle.csub_semantics.specs.Successors.{Way}
use Rattle.csub_semantics.specs.Flows.{start_name, end_rule, result_rule, function_nodes, function_in, function_of}
use Rattle.csub_validity.specs.declared.role.Role.{Role}
use Rattle.csub_validity.specs.declared.role.Role.TheVariants.{Whole, Test, Switch}
use Rattle.csub_validity.specs.Valid.{objects_of, parameter_object, AreOther, AreDeclared, BeginsWithStart, HasOwnNames, declared_types, IsValid}
use Rattle.program_laws.proofs.LawsNames.{same_name}
use Rattle.program_laws.proofs.LawsNodes.{MayStand, IsNode, begins, ends, goes_on, tests, chooses, jumps_on, halts_there}
use Rattle.program_laws.proofs.LawsStanding.{IsPoint, Stands, name_is, node_is}
use Rattle.csub_flat.specs.Frames.{globals_of}
use Rattle.csub_flat.specs.Fits.{FitsRule, FitsLabel}
use Rattle.csub_flat.proofs.Objects.{Has, has_right, has_map, has_flat_map, all_has, has_all, temporary_has}
use Rattle.csub_flat.proofs.Stages.{HasObjects, result_temp, last_fits}
use Rattle.csub_flat.proofs.LawsSites.{found_has}

module _ (P : ProgramTree) (valid : IsValid P) where
  -- a local's type is declared
  type_declared : (g : FunctionTree) (v : LocalTree) → Has P.functions g → Has g.locals v → Has (declared_types P) v.ctype
  type_declared g v h k =
      has_right (map (λ (x : GlobalTree). x.ctype) P.globals) (flat_map (λ (x : FunctionTree). map (λ (o : LocalTree). o.ctype) (objects_of x)) P.functions) v.ctype
      (has_flat_map (λ (x : FunctionTree). map (λ (o : LocalTree). o.ctype) (objects_of x)) P.functions g v.ctype h
      (has_map (λ (o : LocalTree). o.ctype) (objects_of g) v (has_right (map parameter_object g.params) g.locals v k)))

  objects : (g : FunctionTree) (a : Name) → function_of P a ≡ Some g → HasObjects g
  objects g a e = record {
    pairs = found_has P (λ x. AllPairs AreOther (objects_of x)) a g valid.objects e;
    declared = found_has P AreDeclared a g valid.types e;
    names =
        let there = found_has P (Has P.functions) a g (all_has (Has P.functions) P.functions (λ x h. h)) e in
        all_has (λ v. HasOwnNames v.ctype) g.locals (λ v k. has_all HasOwnNames (declared_types P) valid.names v.ctype (type_declared g v there k));
  }

  -- a label that may stand in a function fits its frame
  standing : (f : FunctionTree) → HasObjects f → (role : Role) (l : LabelTree) → MayStand P f role l → FitsLabel P f l
  standing f own role l m =
      let w = m.within in
      last_fits P f own valid.globals w.part (result_temp P f w.role w.part w.valid) objects role m.stage l m.first m.last

  -- the function of the name of `#start` has a temporary
  first_is : (fs : List FunctionTree) → BeginsWithStart fs → (f : FunctionTree) → function_in fs start_name ≡ Some f → f.temps ≡ 1
  first_is [] h f e = absurd h
  first_is (g ∷ rest) h f e =
      let found : function_in (g ∷ rest) start_name ≡ Some g = ap (λ n. cond (bytes_eq n start_name) (Some g) (function_in rest start_name)) h.name in
      let both : Some g ≡ Some f = sym found ∙ e in
      let same : g ≡ f = cc in
      ap (λ (x : FunctionTree). x.temps) (sym same) ∙ h.temps

  rule_fits : (f : FunctionTree) (g : Name) → function_of P g ≡ Some f → f.name ≡ g → FitsRule (globals_of P) f (end_rule f.name f.result)
  rule_fits f g e same = by_start (bytes_eq f.name start_name) refl
    where
      by_result : (r : Option IntKind) → FitsRule (globals_of P) f (result_rule r)
      by_result None = tt
      by_result (Some k) = tt

      by_main : (b : Bool) → FitsRule (globals_of P) f (cond b Main (result_rule f.result))
      by_main true = tt
      by_main false = by_result f.result

      by_start : (b : Bool) → bytes_eq f.name start_name ≡ b → FitsRule (globals_of P) f (cond b Start (cond (bytes_eq f.name main_name) Main (result_rule f.result)))
      by_start true t =
          let is : f.name ≡ start_name = same_name f.name start_name t in
          let one = first_is P.functions valid.start f (ap (function_of P) (sym is ∙ same) ∙ e) in
          temporary_has P.globals f 1 Int (omega arith) (omega arith)
      by_start false t = by_main (bytes_eq f.name main_name)

  pub label_fits : (g : Name) (p : PointTree) (s : Stands P g p) → FitsLabel P s.function s.node.label
  label_fits g p s = by_node s.node.point s.node.label s.node.ways (node_is P g p valid s)
    where
      by_node : (q : PointTree) (l : LabelTree) (ws : List (Way PointTree)) → IsNode P s.function (IsPoint (function_nodes s.function)) q l ws → FitsLabel P s.function l
      by_node q l ws (begins to h) = tt
      by_node q l ws ends = rule_fits s.function g s.defined (name_is P g p valid s)
      by_node q l ws (goes_on r k to m h) = standing s.function (objects s.function g s.defined) Whole k m
      by_node q l ws (tests r k a b m h i) = standing s.function (objects s.function g s.defined) Test k m
      by_node q l ws (chooses r k stmts name around m cases to) = standing s.function (objects s.function g s.defined) Switch k m
      by_node q l ws (jumps_on r to h) = tt
      by_node q l ws (halts_there r e m) = standing s.function (objects s.function g s.defined) Whole (halts e) m
