-- What a shelf of the system's files shows.
use Rattle.std.specs.Prelude.{List, Option, None}
use Rattle.dv_outside.specs.declared.disk.DiskShelf.{DiskShelf}
use Rattle.dv_outside.specs.Outside.{Files, Answer}

-- Nothing is told of the files.
abbrev pub shelf_files : {R : Type 0} → DiskShelf R → Option Files
shelf_files shelf = None

-- What each fetch was asked and answered.
abbrev pub shelf_answers : {R : Type 0} → DiskShelf R → List Answer
shelf_answers shelf = shelf.log.answers
