use Rattle.std.proofs.Common.{◌≡◌, ◌++◌, map, ap, sym, subst, refl, ◌∙◌, append-nil}
use Rattle.csub_semantics.specs.Globals.{globals_of}
use Rattle.edge_label.specs.Tables.{AppendsGlobals}
use Rattle.edge_label.proofs.TableLemmas.{globals_of_next, names_step}
use Rattle.edge_label.proofs.globals.push_numbers.Goals as goal

pub loop-name-preserved : goal.loop-name-preserved
loop-name-preserved c = record {
  names = names_step (λ name. name.now.now) (λ name. name.now) c.loop-name.yielded c.in-Some.name c.in-Some.name.now c.loop-name.name-iterator c.next.new.self c.args.names.now
      c.loop-name.invariant.names c.in-Some.ensures.steps refl;
  numbers = λ tables globals index. globals_of_next (λ name. name.now.now) globals tables c.loop-name.yielded c.in-Some.name c.args.code.now.items
      c.loop-name.code.items c.push_number.new.code.items (c.loop-name.invariant.numbers tables globals index) (c.in_ok-push_number.ensures tables globals index);
}

pub returns : goal.returns
returns c = λ tables globals index.
    let all = map (λ name. name.now.now) c.loop-name.yielded in
    let names : all ≡ c.args.names.now = sym (append-nil all) ∙ ap (λ left. all ++ map (λ name. name.now) left) (sym c.in-None.ensures.steps.0) ∙ c.loop-name.invariant.names in
    subst (λ ns. AppendsGlobals tables (globals_of globals ns) c.args.code.now.items c.loop-name.code.items) names (c.loop-name.invariant.numbers tables globals index)
