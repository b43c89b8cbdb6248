use Rattle.std.proofs.Common.{sym, subst, ap, ◌∙◌, Ok, of_z, to_z, w64, Fits, ◌*◌, ◌%◌, ◌*ℤ◌}
use Rattle.std.proofs.lemmas.Int.{to_z-of_z}
use Rattle.std.specs.Prelude.{unsigned_abs}
use Rattle.csub_types.specs.Kinds.{IsOf}
use Rattle.csub_types.specs.Settled.{settled}
use Rattle.csub_types.proofs.ProductLemmas.{passed, product_fits, passed_product_fits, unsigned_fits, unsigned_wraps}
use Rattle.csub_types.proofs.arithmetic.multiply.Goals as goal

pub overflow_mul-product : goal.overflow_mul-product
overflow_mul-product c =
    let left = subst (λ k. IsOf k c.args.a) c.in-Unsigned.is c.requires.left in
    let right = subst (λ k. IsOf k c.args.b) c.in-Unsigned.is c.requires.right in
    subst (λ a. Fits w64 (unsigned_abs a * unsigned_abs (to_z w64 (of_z w64 c.args.b)))) (passed c.args.a c.ranges.a)
    (subst (λ b. Fits w64 (unsigned_abs c.args.a * unsigned_abs b)) (passed c.args.b c.ranges.b) (unsigned_fits c.args.a c.args.b left right))

pub overflow_mul-a : goal.overflow_mul-a
overflow_mul-a c =
    let fits = product_fits c.args.kind c.args.a c.args.b c.requires.promoted c.in_default.not-Unsigned c.requires.left c.requires.right in
    passed_product_fits c.args.a c.args.b c.ranges.a c.ranges.b fits

pub returns-in-Unsigned : goal.returns-in-Unsigned
returns-in-Unsigned c =
    let left = subst (λ k. IsOf k c.args.a) c.in-Unsigned.is c.requires.left in
    let right = subst (λ k. IsOf k c.args.b) c.in-Unsigned.is c.requires.right in
    ap (λ a. Ok (to_z w64 ((unsigned_abs a * unsigned_abs (to_z w64 (of_z w64 c.args.b))) % 4294967296))) (to_z-of_z w64 c.args.a c.ranges.a)
    ∙ ap (λ b. Ok (to_z w64 ((unsigned_abs c.args.a * unsigned_abs b) % 4294967296))) (to_z-of_z w64 c.args.b c.ranges.b)
    ∙ ap Ok (unsigned_wraps c.args.a c.args.b left right)
    ∙ ap (λ k. settled k (c.args.a *ℤ c.args.b)) (sym c.in-Unsigned.is)
