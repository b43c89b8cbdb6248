-- What a shelf in memory shows.
use Rattle.std.specs.Prelude.{List}
use Rattle.dv_outside.specs.declared.shelves.MemoryShelf.{MemoryShelf}
use Rattle.dv_outside.specs.Outside.{Files, Answer}
use Rattle.dv_outside.specs.Held.{files_of}

abbrev pub shelf_files : MemoryShelf → Files
shelf_files shelf = files_of shelf.files.items

-- What each fetch was asked and answered.
abbrev pub shelf_answers : MemoryShelf → List Answer
shelf_answers shelf = shelf.log.answers
