use Rattle.std.proofs.Common.{option_map}
use Rattle.csub_tree.specs.Expressions.{expr_tree}
use Rattle.csub_validity.specs.Valid.{most_values}
use Rattle.csub_limits.specs.Limits.{first_above}
use Rattle.csub_limits.specs.Prints.{prints_perhaps}
use Rattle.csub_limits.proofs.Above.{above_append, in_left, in_right}
use Rattle.csub_limits.proofs.prints.wide_in_head.Goals as goal

pub returns-in-Some : goal.returns-in-Some
returns-in-Some c =
    in_left (first_above most_values) (above_append most_values) (prints_perhaps (option_map expr_tree c.args.test.now)) (prints_perhaps (option_map expr_tree c.args.third.now))
    c.wide_if_there.result c.in-Some.values c.wide_if_there.ensures c.in-Some.is

pub returns-in-None : goal.returns-in-None
returns-in-None c =
    in_right (first_above most_values) (above_append most_values) (prints_perhaps (option_map expr_tree c.args.test.now)) (prints_perhaps (option_map expr_tree c.args.third.now))
    c.wide_if_there.result c.wide_if_there-in-None.result c.wide_if_there.ensures c.in-None.is c.wide_if_there-in-None.ensures
