use Rattle.std.proofs.Common.{◌≡◌, ◌++◌, ℕ, List, length, map}
use Rattle.std.specs.Fmt.{decimal}
use Rattle.line_text.specs.Words.{pieces}
use Rattle.edge_trace.specs.Rows.{numbers_of}
use Rattle.edge_trace.proofs.LawsOfNumbers.{AreRising}
use Rattle.test_history.proofs.NumbersLemmas.{AreLeft, IsClear}
use Rattle.test_history.proofs.numbers.set_numbers.Given as goal

abbrev pub invariant-loop-word : goal.invariant-loop-word
invariant-loop-word l = record {
  edges : length l.row ≡ length l.fn.row;
  said : pieces l.words ≡ map decimal (numbers_of l.row) ++ pieces l.rest;
  clear : IsClear l.row l.least;
  left : (numbers : List ℕ) → AreRising (length l.fn.row) numbers → pieces l.words ≡ map decimal numbers → AreLeft (length l.fn.row) l.least (pieces l.rest);
}

abbrev pub decreases-loop-word : goal.decreases-loop-word
decreases-loop-word l = length l.rest
