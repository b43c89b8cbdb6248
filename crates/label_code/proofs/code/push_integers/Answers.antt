use Rattle.std.proofs.Common.{◌≡◌, ◌++◌, get_or, pos, refl, rules}
use Rattle.std.proofs.lemmas.Int.{ints}
use Rattle.std.specs.List.{flat_map}
use Rattle.label_code.specs.Codes.{integer_code}
use Rattle.label_code.proofs.WriteLemmas.{next_written}
use Rattle.label_code.proofs.code.push_integers.Goals as goal

pub loop-value-preserved : goal.loop-value-preserved
loop-value-preserved c =
    let i = c.loop-value.value-index in
    let old = c.loop-value.out.items in
    let value = get_or c.args.values.now i (pos 0) in
    let written : c.push_integer.new.out.items ≡ old ++ integer_code value = search (ints, rules) in
    next_written (flat_map integer_code) integer_code (λ x rest. refl) c.args.values.now i value (pos 0) old c.push_integer.new.out.items _ c.loop-value-test.true refl written
    c.loop-value.invariant
