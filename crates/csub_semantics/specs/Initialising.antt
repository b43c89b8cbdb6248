-- What initialisers write into the cells of an object.
use Rattle.std.specs.Prelude.{ℕ, zero, suc, ◌+◌, ◌-◌, pos}
use Rattle.csub_objects.specs.Types.{TypeTree, number_type, array_type, struct_type, loose_type, MemberTrees, no_member, more_members}
use Rattle.csub_objects.specs.Types.{array_length}
use Rattle.csub_semantics.specs.Trees.{OwnerTree, object}
use Rattle.csub_semantics.specs.Labels.{InitTree, one_value, listed, InitTrees, no_init, more_inits}
use Rattle.csub_semantics.specs.Memory.{State, Answer, value, then_do}
use Rattle.csub_semantics.specs.Evaluation.{eval, store}
use Rattle.csub_semantics.specs.Cells.{Cells, number, written, Spot, cell_of, element_spot, member_spot, named}

-- where an object is, for the frame at a height
abbrev pub object_spot : ℕ → OwnerTree → TypeTree → Spot
object_spot h owner t = record { cell = cell_of h (object owner t); ctype = t; length = array_length t }

-- so many parts, from one of a number on
abbrev pub each_from : (ℕ → Cells → Cells) → ℕ → ℕ → Cells → Cells
each_from f zero i cells = cells
each_from f (suc n) i cells = each_from f n (i + 1) (f i cells)

-- 0 in every number of an object (C11 6.7.9p10)
abbrev mutual
  pub zeroed : TypeTree → Spot → Cells → Cells
  zeroed (number_type k) l cells = written cells l.cell (number (pos 0))
  zeroed (array_type t n) l cells = each_from (λ i. zeroed t (element_spot l i)) n 0 cells
  zeroed (struct_type tag ms) l cells = zeroed_members ms l cells
  zeroed (loose_type t) l cells = cells

  pub zeroed_members : MemberTrees → Spot → Cells → Cells
  zeroed_members no_member l cells = cells
  zeroed_members (more_members x t rest) l cells = zeroed_members rest l (zeroed t (member_spot l x) cells)

-- the elements of an array from one on
abbrev pub zeroed_elements : TypeTree → ℕ → ℕ → Spot → Cells → Cells
zeroed_elements t n i l cells = each_from (λ j. zeroed t (element_spot l j)) (n - i) i cells

-- An initialiser of an object, or of a part of one. A number is converted to the declared kind, as by an assignment (C11
-- 6.7.9p11). A list gives its entries to the elements or members in order, each at once (p17; p23 leaves the order open),
-- and then 0 to all others (p21). A list for a number says nothing, and no valid program has it.
abbrev mutual
  pub initialise : ℕ → InitTree → TypeTree → Spot → State Cells → Answer (Unit {0}) (State Cells)
  initialise h (one_value e) t l s =
      then_do (eval (named h) e s) (λ v u. then_do (store (named h) l v u) (λ w x. value tt x))
  initialise h (listed xs) (number_type k) l s = value tt s
  initialise h (listed xs) (array_type t n) l s = initialise_elements h xs t n 0 l s
  initialise h (listed xs) (struct_type tag ms) l s = initialise_members h xs ms l s
  initialise h (listed xs) (loose_type t) l s = value tt s

  pub initialise_elements : ℕ → InitTrees → TypeTree → ℕ → ℕ → Spot → State Cells → Answer (Unit {0}) (State Cells)
  initialise_elements h no_init t n i l s = value tt (record s { cells = zeroed_elements t n i l s.cells })
  initialise_elements h (more_inits x rest) t n i l s =
      then_do (initialise h x t (element_spot l i) s) (λ v u. initialise_elements h rest t n (i + 1) l u)

  pub initialise_members : ℕ → InitTrees → MemberTrees → Spot → State Cells → Answer (Unit {0}) (State Cells)
  initialise_members h no_init ms l s = value tt (record s { cells = zeroed_members ms l s.cells })
  initialise_members h (more_inits x rest) no_member l s = value tt s
  initialise_members h (more_inits x rest) (more_members a t ms) l s =
      then_do (initialise h x t (member_spot l a) s) (λ v u. initialise_members h rest ms l u)
