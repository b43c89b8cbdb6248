-- What the code's records stand for. No definition of the rules needs this file.
use Rattle.csub_scopes.specs.Meanings.{scope_of}
use Rattle.csub_units.specs.declared.file.File.{File}
use Rattle.csub_rules.specs.Files as files

abbrev pub file_of : File → files.File
file_of f = record { scope = scope_of f.here.scope; defined = f.defined }
