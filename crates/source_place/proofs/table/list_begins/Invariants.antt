use Rattle.std.proofs.Common.{◌≡◌, ◌++◌, drop}
use Rattle.source_place.specs.Lines.{behind_newlines, line_begins}
use Rattle.source_place.proofs.table.list_begins.Given as goal

-- the beginnings so far, and those in what is left
abbrev pub invariant-loop-place : goal.invariant-loop-place
invariant-loop-place l = l.begins.items ++ behind_newlines l.place (drop l.place l.source) ≡ line_begins l.source
