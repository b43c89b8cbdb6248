use Rattle.std.proofs.Common.{◌∙◌, refl, map, option_map, Option, [], ◌∷◌}
use Rattle.csub_objects.specs.Meaning.{type_tree}
use Rattle.csub_objects.specs.Types.{TypeTree}
use Rattle.csub_scopes.specs.Meanings.{scope_of}
use Rattle.csub_scopes.specs.Scopes.{Scope}
use Rattle.csub_semantics.specs.Types.{global_tree}
use Rattle.csub_tree.specs.Declarations.{declarator_tree}
use Rattle.csub_rules.specs.Objects.{past_object, past_objects}
use Rattle.csub_resolution.specs.Programs.{global_by, globals_by}
use Rattle.csub_globals.proofs.LawsLists.{past_more, made_more}
use Rattle.csub_globals.proofs.global.lower_objects.Goals as goal

pub loop-d-preserved : goal.loop-d-preserved
loop-d-preserved c =
    let base : Option TypeTree = option_map type_tree c.args.base.now in
    let old : Scope = scope_of c.loop-d.scope in
    let new : Scope = scope_of c.lower_object.new.scope in
    record {
      made = made_more declarator_tree (λ s d. past_object s base d) (λ s d. global_by s base d ∷ []) (λ s ds. globals_by s base ds) (λ s d ds. refl)
          old new c.args.vars.now c.loop-d.d-index c.d-item.result c.loop-d-test.true c.d-item.is c.in_ok-lower_object.ensures.past
          (map global_tree c.loop-d.made.items) (map global_tree c.lower_object.new.made.items) c.in_ok-lower_object.ensures.made
          ∙ c.loop-d.invariant.made;
      past = past_more declarator_tree (λ s d. past_object s base d) (λ s ds. past_objects s base ds) (λ s d ds. refl) old new c.args.vars.now
          c.loop-d.d-index c.d-item.result c.loop-d-test.true c.d-item.is c.in_ok-lower_object.ensures.past ∙ c.loop-d.invariant.past;
    }
