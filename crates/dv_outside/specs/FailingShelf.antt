-- What a shelf in memory shows that fails at chosen calls.
use Rattle.std.specs.Prelude.{ℕ, List, ◌⊎◌, IsNone, Contains}
use Rattle.dv_outside.specs.declared.shelves.FailingShelf.{FailingShelf}
use Rattle.dv_outside.specs.Outside.{Files, Answer, file_at, raised}
use Rattle.dv_outside.specs.Held.{files_of}

abbrev pub shelf_files : FailingShelf → Files
shelf_files shelf = files_of shelf.files.items

-- What each fetch was asked and answered.
abbrev pub shelf_answers : FailingShelf → List Answer
shelf_answers shelf = shelf.log.answers

-- The numbers of the calls that fail. The first call has the number 1.
abbrev pub failing_calls : FailingShelf → List ℕ
failing_calls shelf = shelf.fail_at.items

-- How many fetches were called.
abbrev pub calls_made : FailingShelf → ℕ
calls_made shelf = shelf.calls

-- The next call fails, asked for that name: the name isn't held, or the call's number was chosen.
abbrev pub FailsNext : FailingShelf → List ℕ → Type 0
FailsNext shelf name = IsNone (file_at (shelf_files shelf) name) ⊎ Contains (failing_calls shelf) (raised (calls_made shelf))
