-- What two runs have in common: the cells of all frames, and those of the globals that both programs declare alike.
use Rattle.std.specs.Prelude.{ℕ, ◌≡◌, ◌&&◌, Bool, true, false, IsTrue, Option, Some}
use Rattle.std.specs.Cmp.Lexicographic.{pointwise}
use Rattle.std.specs.Ordering.{int_eq}
use Rattle.csub_objects.specs.Types.{type_eq}
use Rattle.csub_semantics.specs.Types.{GlobalTree}
use Rattle.csub_semantics.specs.Flows.{Flow}
use Rattle.csub_semantics.specs.Cells.{Root, global_root, local_root, temp_root, Cell, reference, Cells}
use Rattle.csub_semantics.specs.Acts.{Store}

-- a global is declared alike where both programs have one of its name, with the same type and the same initial contents
abbrev pub declared_alike : Option GlobalTree → Option GlobalTree → Bool
declared_alike (Some g) (Some h) = type_eq g.ctype h.ctype && pointwise int_eq g.initial h.initial
declared_alike global other = false

-- whose cells are shared: those of every frame, and of each global that both programs declare alike
abbrev pub shared : Flow → Flow → Root → Bool
shared P P' (global_root a) = declared_alike (P.global a) (P'.global a)
shared P P' (local_root h a n) = true
shared P P' (temp_root h n) = true

-- every reference that a cell holds names a cell of the set
abbrev pub RefersInto : (Root → Bool) → Cells → Type 0
RefersInto S cells = (c d : Cell) (n : ℕ) → cells c ≡ Some (reference d n) → IsTrue (S d.root)

-- two stores agree on a set of roots: its cells are the same, references stay in it, and so are input left and output
pub record Agree (S : Root → Bool) (s s' : Store) : Type 0 where
  pub cells : (c : Cell) → IsTrue (S c.root) → s.cells c ≡ s'.cells c
  pub refers : RefersInto S s.cells
  pub refers' : RefersInto S s'.cells
  pub input : s.input ≡ s'.input
  pub output : s.output ≡ s'.output
