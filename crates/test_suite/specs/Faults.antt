-- What the parts of the reader answer of one line and of all.
use Rattle.std.specs.Prelude.{◌<◌, ⊤, ℕ, List, Some}
use Rattle.line_text.specs.Lines.{TextLine}
use Rattle.test_suite.specs.declared.error.SuiteError.{SuiteError}
use Rattle.test_suite.specs.declared.error.SuiteError.TheVariants.{TooLong, Line, TooMany, Twice, Memory}
use Rattle.test_suite.specs.declared.line.LineFault.{LineFault}
use Rattle.test_suite.specs.declared.line.LineFault.TheVariants as line
use Rattle.test_suite.specs.Rules.{IsLeastBroken, IsFirstFault}

-- the fault of a line other than the first: the least rule that it breaks, or want of memory
abbrev pub IsLineFault : TextLine → LineFault → Type 0
IsLineFault text (line.Rule r) = (n : ℕ) → 1 < n → IsLeastBroken (Some text) n r
IsLineFault text line.Memory = ⊤

-- the refusal of a text in which line n has the fault
abbrev pub refusal_at : LineFault → ℕ → SuiteError
refusal_at (line.Rule r) n = Line n r
refusal_at line.Memory n = Memory

-- the fault of a text's lines: the first, or want of memory
abbrev pub IsFaultOf : List ℕ → SuiteError → Type 0
IsFaultOf text (TooLong bytes) = ⊥
IsFaultOf text (Line n r) = IsFirstFault text n r
IsFaultOf text (TooMany count) = ⊥
IsFaultOf text (Twice n) = ⊥
IsFaultOf text Memory = ⊤
