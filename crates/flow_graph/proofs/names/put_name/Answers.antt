use Rattle.std.proofs.Common.{◌∙◌, Some, cond, ap, sym}
use Rattle.std.specs.Ordering.{nat_cmp}
use Rattle.std.specs.Cmp.Lexicographic.{slice_cmp, texts_ties}
use Rattle.std.specs.BTreeMap.{is_at}
use Rattle.flow_graph.specs.Names.{number_of}
use Rattle.flow_graph.proofs.names.put_name.Goals as goal

pub returns : goal.returns
returns c = λ a.
    let before = number_of c.args.names.now a in
    c.in_ok-insert.ensures.updates.0 a
    ∙ ap (λ name. cond (is_at (slice_cmp nat_cmp name) a) (Some c.args.number) before) c.in_ok-copy.ensures
    ∙ ap (λ t. cond t (Some c.args.number) before) (sym (texts_ties c.args.name.now a))
