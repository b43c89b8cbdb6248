-- What a declaration knows of the one that it hides. No definition of what names mean needs this file.
use Rattle.std.specs.Prelude.{◌≡◌, List, [], ◌∷◌, map}
use Rattle.csub_scopes.specs.declared.names.Entry.{Entry}
use Rattle.csub_scopes.specs.Places.{place}

-- each declaration has the place of the latest earlier one of its name
abbrev pub IsChained : List Entry → Type 0
IsChained [] = Unit {0}
IsChained (e ∷ rest) = (e.outer ≡ place e.declared.name (map (λ entry. entry.declared.name) rest)) × IsChained rest
