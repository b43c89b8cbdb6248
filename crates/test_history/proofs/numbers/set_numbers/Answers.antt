use Rattle.std.proofs.Common.{◌≡◌, ◌≤◌, ◌∙◌, ◌∷◌, [], true, length, length-set, refl, arith, append-nil}
use Rattle.line_text.specs.Words.{pieces}
use Rattle.test_history.proofs.NumbersLemmas.{begins, no_word, no_number, bad_number, next_left, clear_set, said_more, said_first, clear_first}
use Rattle.edge_trace.specs.Rows.{numbers_of}
use Rattle.edge_trace.proofs.LawsOfNumbers.{AreRising-numbers_of}
use Rattle.test_history.proofs.numbers.set_numbers.Goals as goal
use Rattle.test_history.proofs.numbers.set_numbers.Goals.{then-number-least-via-then-number-least, then-number-least-via-else-number-least+then-number-edges}

pub loop-word-init : goal.loop-word-init
loop-word-init c = record {
  edges = refl;
  said = said_first (pieces c.args.words.now) c.args.row.now c.requires.empty;
  clear = clear_first c.args.row.now c.requires.empty;
  left = λ numbers rising is. (numbers, rising, (λ k d within. omega arith), is);
}

pub returns-in_default-clause-numbers : goal.returns-in_default-clause-numbers
returns-in_default-clause-numbers c = λ other size is.
    no_word (length c.args.row.now) c.loop-word.least (pieces c.loop-word.rest.now) c.in_default.ensures.pieces.0 c.requires.bound (c.loop-word.invariant.left (numbers_of other) (AreRising-numbers_of other (length c.args.row.now) size) is) c.in_default.ensures.pieces.1

pub returns-in_default-read_decimal-clause-numbers : goal.returns-in_default-read_decimal-clause-numbers
returns-in_default-read_decimal-clause-numbers c = λ other size is.
    let first = begins (λ rest. rest.now) (pieces c.loop-word.rest.now) c.in-Some.word.bytes.now c.in-Some.word.rest c.in-Some.ensures.pieces in
    no_number (length c.args.row.now) c.loop-word.least (pieces c.loop-word.rest.now) first.0 c.in-Some.word.bytes.now c.requires.bound (c.loop-word.invariant.left (numbers_of other) (AreRising-numbers_of other (length c.args.row.now) size) is) first.1 c.in_default-read_decimal.ensures

pub returns-then-number-least-clause-numbers : goal.returns-then-number-least-clause-numbers
returns-then-number-least-clause-numbers c = λ other size is.
    let first = begins (λ rest. rest.now) (pieces c.loop-word.rest.now) c.in-Some.word.bytes.now c.in-Some.word.rest c.in-Some.ensures.pieces in
    bad_number (length c.args.row.now) c.loop-word.least c.in-Some-read_decimal.number (pieces c.loop-word.rest.now) first.0 c.in-Some.word.bytes.now c.requires.bound (c.loop-word.invariant.left (numbers_of other) (AreRising-numbers_of other (length c.args.row.now) size) is) first.1
    c.in-Some-read_decimal.ensures.1 (omega (arith, c.in-Some-read_decimal.ensures.0))
    (λ low. elim c.then-number-least.branch [
      | then-number-least-via-then-number-least w ↦ absurd (omega (arith, low, w.if-number-least.true))
      | then-number-least-via-else-number-least+then-number-edges w ↦ omega (arith, w.if-number-edges.true, w.edges.ensures, c.loop-word.invariant.edges)
    ])

pub returns-in-None-clause-numbers : goal.returns-in-None-clause-numbers
returns-in-None-clause-numbers c =
    let last : pieces c.loop-word.rest.now ≡ c.in-Some.word.bytes.now ∷ [] = rw c.in-None.is at c.in-Some.ensures.pieces in
    rw c.set.ensures
    (said_more (pieces c.args.words.now) (pieces c.loop-word.rest.now) [] c.loop-word.row c.in-Some-read_decimal.number c.loop-word.least c.in-Some.word.bytes.now c.loop-word.invariant.said last c.in-Some-read_decimal.ensures.1
    c.loop-word.invariant.clear c.if-number-least.false (omega (arith, c.if-number-edges.false, c.edges.ensures)) ∙ append-nil _)

pub loop-word-preserved : goal.loop-word-preserved
loop-word-preserved c =
    let more : pieces c.loop-word.rest.now ≡ c.in-Some.word.bytes.now ∷ pieces c.in-Some-rest.more.now = rw c.in-Some-rest.is at c.in-Some.ensures.pieces in
    let fits : c.in-Some-read_decimal.number ≤ 4294967295 = c.in-Some-read_decimal.ensures.0 in
    rw c.set.ensures (record {
      edges = length-set c.loop-word.row c.in-Some-read_decimal.number true ∙ c.loop-word.invariant.edges;
      said = said_more (pieces c.args.words.now) (pieces c.loop-word.rest.now) (pieces c.in-Some-rest.more.now) c.loop-word.row c.in-Some-read_decimal.number c.loop-word.least c.in-Some.word.bytes.now c.loop-word.invariant.said more c.in-Some-read_decimal.ensures.1
          c.loop-word.invariant.clear c.if-number-least.false (omega (arith, c.if-number-edges.false, c.edges.ensures));
      clear = clear_set c.loop-word.row c.loop-word.least c.in-Some-read_decimal.number c.loop-word.invariant.clear c.if-number-least.false;
      left = λ numbers rising is. next_left (length c.args.row.now) c.loop-word.least c.in-Some-read_decimal.number (pieces c.loop-word.rest.now) (pieces c.in-Some-rest.more.now) c.in-Some.word.bytes.now c.requires.bound
          (c.loop-word.invariant.left numbers rising is) more c.in-Some-read_decimal.ensures.1 (omega arith);
    })
