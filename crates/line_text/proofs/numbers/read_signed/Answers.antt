use Rattle.std.proofs.Common.{◌∷◌, [], Some}
use Rattle.std.proofs.lemmas.Bool.Decides.{Decides-eqb}
use Rattle.std.proofs.lemmas.Slice.Eq.{strip_prefix_is}
use Rattle.line_text.proofs.NumberLemmas.{minus-refused, minus_zero-refused}
use Rattle.line_text.proofs.numbers.read_signed.Goals as goal

pub returns-in_err-magnitude-in-Some : goal.returns-in_err-magnitude-in-Some
returns-in_err-magnitude-in-Some c =
    let front = strip_prefix_is Decides-eqb c.args.text.now (45 ∷ []) (Some c.in-Some.digits) c.in-Some.ensures.cases in
    let other = c.in_err-magnitude-in-Some.ensures in
    rw c.from_residual-in_err-magnitude-in-Some.ensures (λ z fits. minus-refused c.args.text.now c.in-Some.digits.now z front other fits)

pub returns-then-magnitude-eq0 : goal.returns-then-magnitude-eq0
returns-then-magnitude-eq0 c = λ z fits.
    let front = strip_prefix_is Decides-eqb c.args.text.now (45 ∷ []) (Some c.in-Some.digits) c.in-Some.ensures.cases in
    let read = c.in_ok-magnitude-in-Some.ensures in
    minus_zero-refused c.args.text.now c.in-Some.digits.now c.in_ok-magnitude-in-Some.magnitude z front read.1 c.if-magnitude-eq0.true fits
