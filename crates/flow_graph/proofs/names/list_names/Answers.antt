use Rattle.std.proofs.Common.{◌≡◌, ◌∙◌, ℕ, ◌+◌, ◌-◌, ◌<◌, Bool, cond, length, Option, Some, sym, ap, arith, bytes_eq}
use Rattle.csub_objects.specs.Types.{Name}
use Rattle.flow_graph.specs.declared.node.GraphFunction.{GraphFunction}
use Rattle.flow_graph.specs.Names.{number_of}
use Rattle.flow_graph.proofs.FirstPlaces.{found_more, within_more}
use Rattle.flow_graph.proofs.names.list_names.Goals as goal

abbrev has_name : Name → GraphFunction → Bool
has_name a f = bytes_eq f.name a

pub loop-i-preserved : goal.loop-i-preserved
loop-i-preserved c = record {
  found = found_more has_name c.args.functions.now c.loop-i.i (c.loop-i.i - 1) c.index-functions-i.result next inside c.index-functions-i.is before after taken c.loop-i.invariant.found;
  within = within_more has_name c.args.functions.now c.loop-i.i (c.loop-i.i - 1) c.index-functions-i.result next inside c.index-functions-i.is before after taken c.loop-i.invariant.within;
}
  where
    before : Name → Option ℕ
    before = number_of c.loop-i.names

    after : Name → Option ℕ
    after = number_of c.put_name.new.names

    next : c.loop-i.i - 1 + 1 ≡ c.loop-i.i
    next = let some = c.loop-i-test.true in omega arith

    inside : c.loop-i.i - 1 < length c.args.functions.now
    inside = let some = c.loop-i-test.true in let most = c.loop-i.auto.i in omega arith

    taken : (a : Name) → after a ≡ cond (has_name a c.index-functions-i.result) (Some (c.loop-i.i - 1)) (before a)
    taken a =
        c.in_ok-put_name.ensures a
        ∙ ap (λ (f : GraphFunction). cond (has_name a f) (Some c.in_ok-number.number) (before a)) (sym c.index-functions-i.is)
        ∙ ap (λ (n : ℕ). cond (has_name a c.index-functions-i.result) (Some n) (before a)) c.in_ok-number.ensures
