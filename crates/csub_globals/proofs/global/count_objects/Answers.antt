use Rattle.std.proofs.Common.{◌∙◌, refl, sym, ap, ◌+◌, option_map, Option, [], ◌∷◌}
use Rattle.csub_objects.specs.Meaning.{type_tree}
use Rattle.csub_objects.specs.Types.{TypeTree, cells}
use Rattle.csub_scopes.specs.Meanings.{scope_of}
use Rattle.csub_scopes.specs.Scopes.{Scope}
use Rattle.csub_semantics.specs.Types.{GlobalTree}
use Rattle.csub_tree.specs.Declarations.{Declarator, declarator_tree}
use Rattle.csub_rules.specs.Objects.{past_object, past_objects}
use Rattle.csub_resolution.specs.Programs.{global_by, globals_by}
use Rattle.csub_globals.proofs.LawsLists.{past_more, count_more, one_counted}
use Rattle.csub_globals.proofs.global.count_objects.Goals as goal

pub loop-d-preserved : goal.loop-d-preserved
loop-d-preserved c =
    let base : Option TypeTree = option_map type_tree c.args.base.now in
    let old : Scope = scope_of c.loop-d.scope in
    let new : Scope = scope_of c.declare_object.new.scope in
    let d : Declarator = declarator_tree c.d-item.result in
    record {
      count = count_more declarator_tree (λ s d. past_object s base d) (λ s d. global_by s base d ∷ []) (λ s ds. globals_by s base ds) (λ s d ds. refl)
          old new c.args.vars.now c.loop-d.d-index c.d-item.result c.loop-d-test.true c.d-item.is c.in_ok-ctype.ensures.past
          (λ (g : GlobalTree). cells g.ctype) c.loop-d.all c.in_ok-all.all
          (c.in_ok-all.ensures ∙ ap (λ t. c.loop-d.all + cells t) c.in_ok-ctype.ensures.ctype
          ∙ ap (λ n. c.loop-d.all + n) (sym (one_counted (λ (g : GlobalTree). cells g.ctype) (global_by old base d)))) ∙ c.loop-d.invariant.count;
      past = past_more declarator_tree (λ s d. past_object s base d) (λ s ds. past_objects s base ds) (λ s d ds. refl) old new c.args.vars.now
          c.loop-d.d-index c.d-item.result c.loop-d-test.true c.d-item.is c.in_ok-ctype.ensures.past ∙ c.loop-d.invariant.past;
    }
