use Rattle.std.proofs.Common.{◌∙◌, ap, map}
use Rattle.std.specs.Cmp.Lexicographic.{slice_cmp}
use Rattle.std.specs.Ordering.{nat_cmp}
use Rattle.std.specs.BTreeSet.{insert_key}
use Rattle.label_code.proofs.NameLemmas.{map_insert_key}
use Rattle.label_code.proofs.names.add_name.Goals as goal

pub returns : goal.returns
returns c =
    ap (map (λ name. name.now)) c.in_ok-insert.ensures.keys
    ∙ map_insert_key (λ name. name.now) (slice_cmp nat_cmp) c.set.inside.names.keys c.args.name
    ∙ ap (λ names. insert_key (slice_cmp nat_cmp) names c.args.name.now) c.set.view_is
