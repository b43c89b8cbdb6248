-- Entries of a list of tests, taken part by part and put together.
use Rattle.std.specs.Prelude.{ℕ, ◌≡◌, ◌<◌, ◌++◌, List, [], ◌∷◌, length, Result, Ok, Err, IfOk, Vec, slice_index_or}
use Rattle.std.specs.Fork.{slice_chunk}
use Rattle.std.specs.List.{AllZip}
use Rattle.std.specs.declared.alloc.Global.{Global}
use Rattle.std.specs.declared.alloc.AllocError.{AllocError}
use Rattle.csub_semantics.specs.Syntax.{ProgramTree}
use Rattle.test_suite.specs.Tests.{TestParts}
use Rattle.test_history.specs.Histories.{EntryParts}
use Rattle.test_history.specs.Entries.{IsEntry}

-- what a worker gives: the entries of its tests, or want of memory
abbrev pub Part : Type 0
Part = Result (Vec EntryParts Global) AllocError

-- part n, where it is no want of memory, has the entries of the tests of chunk n, in their order
abbrev pub ArePartsOf : ProgramTree → List TestParts → ℕ → List Part → Type 0
ArePartsOf P tests size parts = (n : ℕ) (d : Part) → n < length parts
    → IfOk (slice_index_or parts n d) (λ part. AllZip (IsEntry P) (slice_chunk tests size n) part.items)

-- no part is want of memory, and the entries are those of the parts, one part after another
abbrev pub Joins : List Part → List EntryParts → Type 0
Joins [] entries = entries ≡ []
Joins (Ok part ∷ parts) entries = (rest : List EntryParts) × (entries ≡ part.items ++ rest) × Joins parts rest
Joins (Err e ∷ parts) entries = ⊥
