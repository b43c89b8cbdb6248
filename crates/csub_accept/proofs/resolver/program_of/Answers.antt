use Rattle.std.proofs.Common.{◌≡◌, None, map, rules}
use Rattle.csub_tree.specs.Units.{Source, item_tree}
use Rattle.csub_limits.specs.Limits.{limit_passed}
use Rattle.program_validity.proofs.LawsText.{valid_text}
use Rattle.csub_accept.proofs.resolver.program_of.Goals as goal

pub program_with-requires-clause-valid : goal.program_with-requires-clause-valid
program_with-requires-clause-valid c =
    let source : Source = record { items = map item_tree c.args.items.now } in
    let within : limit_passed source ≡ None = search rules in
    valid_text source c.requires.text c.requires.unbroken within
