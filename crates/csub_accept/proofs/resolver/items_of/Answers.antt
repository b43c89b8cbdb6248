use Rattle.std.proofs.Common.{◌≡◌, map, rules, subst, sym}
use Rattle.csub_tree.specs.Units.{item_tree, unit_tree}
use Rattle.csub_rules.specs.Files.{no_file}
use Rattle.csub_rules.specs.FineItems.{FineItems}
use Rattle.csub_rules.proofs.LawsFineItems.{fine_unit}
use Rattle.csub_accept.proofs.resolver.items_of.Goals as goal

pub returns-clause-fine : goal.returns-clause-fine
returns-clause-fine c =
    let same : c.as_slice.result.now ≡ c.args.unit.now.items.items = search rules in
    subst (λ items. FineItems no_file (map item_tree items)) (sym same) (fine_unit (unit_tree c.args.unit.now) c.requires)
