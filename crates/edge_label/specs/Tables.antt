-- How a book keeps labels: one table has structs, another one types and globals, each once, and the code of a label is that of the
-- bare label, with the numbers behind it that its types and its globals have in the second table. The code of a global has the number
-- of its type there.
use Rattle.std.specs.Prelude.{◌≡◌, ◌-◌, ℕ, List, [], ◌∷◌, ◌++◌, Some, map, length, drop, slice_get}
use Rattle.std.specs.List.{All}
use Rattle.std.proofs.Common.{get_or}
use Rattle.csub_objects.specs.Types.{TypeTree}
use Rattle.csub_semantics.specs.Types.{GlobalTree}
use Rattle.csub_semantics.specs.Labels.{LabelTree, PointLabel}
use Rattle.label_code.specs.Bare.{bare_label}
use Rattle.label_code.specs.Codes.{global_code, label_code, numbered, with_type}
use Rattle.edge_label.specs.Fills.{fill_label}
use Rattle.label_code.specs.Readers.{read_tree, coded_global}
use Rattle.edge_label.specs.Numbers.{HasNumber, KeepsNumbers, AddsOnly, HasEachOnce}
use Rattle.edge_label.specs.Structs.{Table, IsStructTable, IsTypeCode, AreTypeCodes, whole_type, type_in}
use Rattle.edge_label.specs.declared.table.Tables.{Tables}
use Rattle.edge_label.specs.Uses.{TypeUse, label_uses}

-- numbers stay, and there may be more
abbrev pub Extends : Table → Table → Type 0
Extends old new = (more : Table) × (new ≡ old ++ more)

-- these are the numbers of these codes
abbrev pub AreNumbers : Table → List ℕ → List (List ℕ) → Type 0
AreNumbers table numbers codes = map (slice_get table) numbers ≡ map Some codes

-- numbers of these codes stand behind what was there
pub record AppendsNumbers (table : Table) (codes : List (List ℕ)) (old new : List ℕ) : Type 0 where
  pub numbers : List ℕ
  pub appended : new ≡ old ++ numbers
  pub are : AreNumbers table numbers codes

-- so in both tables of a book
pub record Extend (old new : Tables) : Type 0 where
  pub structs : Extends old.structs new.structs
  pub parts : Extends old.parts new.parts

-- the tables of a book: one of structs, and one in which nothing stands twice
pub record AreTables (tables : Tables) : Type 0 where
  pub structs : IsStructTable tables.structs
  pub parts : HasEachOnce tables.parts

-- the type beside a name
abbrev pub use_type : TypeUse → TypeTree
use_type u = u.ctype

-- the types of a label, from left to right
abbrev pub types_of : LabelTree → List TypeTree
types_of tree = map use_type (label_uses tree)

-- this is the number of this type: its code stands there, with numbers in the place of structs
pub record IsTypeNumber (tables : Tables) (number : ℕ) (t : TypeTree) : Type 0 where
  pub code : List ℕ
  pub is : IsTypeCode tables.structs t code
  pub stands : slice_get tables.parts number ≡ Some code

-- these are the numbers of these types
pub record AreTypeNumbers (tables : Tables) (numbers : List ℕ) (types : List TypeTree) : Type 0 where
  pub codes : List (List ℕ)
  pub are : AreTypeCodes tables.structs types codes
  pub stand : AreNumbers tables.parts numbers codes

-- a list is the code of a global: the number of its type stands in the place of the type
pub record IsGlobalCode (tables : Tables) (global : GlobalTree) (code : List ℕ) : Type 0 where
  pub number : ℕ
  pub ctype : IsTypeNumber tables number global.ctype
  pub is : code ≡ global_code (with_type global (numbered number))

-- such codes, each of its global
abbrev pub AreGlobalCodes : Tables → List GlobalTree → List (List ℕ) → Type 0
AreGlobalCodes tables [] codes = codes ≡ []
AreGlobalCodes tables (g ∷ globals) codes =
    (code : List ℕ) × (more : List (List ℕ)) × (codes ≡ code ∷ more) × IsGlobalCode tables g code × AreGlobalCodes tables globals more

-- this is the number of this global: its code stands there
pub record IsGlobalNumber (tables : Tables) (number : ℕ) (global : GlobalTree) : Type 0 where
  pub code : List ℕ
  pub is : IsGlobalCode tables global code
  pub stands : slice_get tables.parts number ≡ Some code

-- numbers of these globals stand behind what was there
abbrev pub AppendsGlobals : Tables → List GlobalTree → List ℕ → List ℕ → Type 0
AppendsGlobals tables globals old new = (codes : List (List ℕ)) × AreGlobalCodes tables globals codes × AppendsNumbers tables.parts codes old new

-- the codes that stand at some numbers
abbrev pub codes_at : Table → List ℕ → List (List ℕ)
codes_at table numbers = map (λ n. get_or table n []) numbers

-- the last n of a list
abbrev pub last_of : {A : Type 0} → ℕ → List A → List A
last_of n xs = drop (length xs - n) xs

-- the global that a code stands for: its type is put back, which has the number there
unfoldable pub global_in : Tables → List ℕ → GlobalTree
global_in tables code =
    let global = coded_global code in
    with_type global (whole_type (λ n. type_in tables.structs (get_or tables.parts n [])) global.ctype)

-- The label that a code stands for. The types are put back into the bare label; what is left of them is read from the codes of its
-- globals, so there are as many of these, at the end.
unfoldable pub label_in : Tables → List ℕ → PointLabel
label_in tables code =
    let read = read_tree code in
    let codes = codes_at tables.parts read.1 in
    let filled = fill_label read.0 (map (type_in tables.structs) codes) in
    record { tree = filled.0; globals = map (global_in tables) (last_of (length filled.1) codes) }

-- a list is the code of a label
pub record IsCode (tables : Tables) (label : PointLabel) (code : List ℕ) : Type 0 where
  pub codes : List (List ℕ)
  pub are : AreTypeCodes tables.structs (types_of label.tree) codes
  pub globals : List (List ℕ)
  pub named : AreGlobalCodes tables label.globals globals
  pub written : AppendsNumbers tables.parts (codes ++ globals) (label_code (bare_label label.tree)) code

-- a book over tables, by the codes of its labels
pub record IsBook (tables : Tables) (codes : List (List ℕ)) : Type 0 where
  pub sound : AreTables tables
  pub written : All (λ code. IsCode tables (label_in tables code) code) codes

-- the label has this number, and no other, among the codes and at most one more
pub record IsInterned (tables : Tables) (codes new : List (List ℕ)) (n : ℕ) (label : PointLabel) : Type 0 where
  pub book : IsBook tables new
  pub number : HasNumber (map (label_in tables) new) n label
  pub only : (m : ℕ) → HasNumber (map (label_in tables) new) m label → m ≡ n
  pub adds_only : AddsOnly (map (label_in tables) codes) (map (label_in tables) new) label

-- the codes are those of a book in which no number has changed its label
pub record Grows (tables : Tables) (codes new : List (List ℕ)) : Type 0 where
  pub book : IsBook tables new
  pub keeps : KeepsNumbers (map (label_in tables) codes) (map (label_in tables) new)
