use Rattle.std.proofs.Common.{◌≡◌, ◌++◌, ℕ, length}
use Rattle.line_text.specs.Lines.{text_of_lines}
use Rattle.dv_gen.specs.Functions.{functions_of}
use Rattle.dv_gen.specs.Pairs.{function_lines}
use Rattle.dv_gen.proofs.source.push_functions.Given as goal

abbrev pub invariant-loop-place : goal.invariant-loop-place
invariant-loop-place l = (seed : ℕ) → l.functions ≡ functions_of seed (length l.functions) → l.text.items ≡ l.fn.text.items ++ text_of_lines (function_lines seed l.place l.changed)
