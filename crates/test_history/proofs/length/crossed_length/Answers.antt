use Rattle.std.proofs.Common.{◌≡◌, length, arith}
use Rattle.test_history.specs.declared.version.Version.TheVariants.{Third}
use Rattle.test_history.specs.HistoryTexts.{crossed_line}
use Rattle.test_history.proofs.LengthLemmas.{length-crossed_line}
use Rattle.test_history.proofs.length.crossed_length.Goals as goal

pub returns-in_default-clause-exact : goal.returns-in_default-clause-exact
returns-in_default-clause-exact c =
    let whole : length (crossed_line Third c.args.crossed.now) ≡ _ = length-crossed_line c.args.crossed.now (omega (arith, c.edges.ensures)) in
    omega (arith, whole, c.from.ensures, c.div_ceil.ensures, c.edges.ensures)
