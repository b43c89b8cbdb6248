use Rattle.std.proofs.Common.{◌≡◌, Err, arith, sym}
use Rattle.csub_tree.specs.Units.{unit_tree}
use Rattle.csub_parse.specs.UnitDescent.{read_unit}
use Rattle.csub_parse.proofs.Whole.{whole_spelled, whole_only, refused}
use Rattle.csub_parse.proofs.unit.parse.Goals as goal

pub overflow_sub-at : goal.overflow_sub-at
overflow_sub-at c =
    let stopped : read_unit 256 c.args.tokens.now ≡ Err c.in-Err-At.left = rw c.in-Err-At.field-0-is at c.in-Err-At.ensures in
    (refused 256 c.args.tokens.now c.in-Err-At.left stopped).0

pub returns-in-Ok-clause-unit : goal.returns-in-Ok-clause-unit
returns-in-Ok-clause-unit c = (whole_spelled 256 c.args.tokens.now (unit_tree c.in-Ok.unit) c.in-Ok.field-0-1.now c.in-Ok.ensures).1

pub returns-in-Ok-clause-depth : goal.returns-in-Ok-clause-depth
returns-in-Ok-clause-depth c = (whole_spelled 256 c.args.tokens.now (unit_tree c.in-Ok.unit) c.in-Ok.field-0-1.now c.in-Ok.ensures).0

pub returns-in-Ok-clause-only : goal.returns-in-Ok-clause-only
returns-in-Ok-clause-only c = λ other within. sym (whole_only 256 c.args.tokens.now (unit_tree c.in-Ok.unit) other c.in-Ok.field-0-1.now c.in-Ok.ensures within)

pub returns-in-Err-At-clause-only : goal.returns-in-Err-At-clause-only
returns-in-Err-At-clause-only c =
    let stopped : read_unit 256 c.args.tokens.now ≡ Err c.in-Err-At.left = rw c.in-Err-At.field-0-is at c.in-Err-At.ensures in
    λ other within. absurd ((refused 256 c.args.tokens.now c.in-Err-At.left stopped).2 other within)

pub returns-in-Err-At-clause-cause : goal.returns-in-Err-At-clause-cause
returns-in-Err-At-clause-cause c =
    let stopped : read_unit 256 c.args.tokens.now ≡ Err c.in-Err-At.left = rw c.in-Err-At.field-0-is at c.in-Err-At.ensures in
    let r = refused 256 c.args.tokens.now c.in-Err-At.left stopped in
    (omega arith, r.1, r.2)
