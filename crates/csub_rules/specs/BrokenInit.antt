-- The rules on initialisers, each by itself, and the laws of their faults.
use Rattle.std.specs.Prelude.{◌≡◌, ℕ, ◌+◌, Bool, false, Option, Some, None, IsTrue, is_some, not}
use Rattle.csub_text.specs.declared.span.Span.{Span}
use Rattle.csub_tree.specs.Expressions.{Expr, span_of}
use Rattle.csub_tree.specs.Declarations.{Init, Inits, One, Listed, NoInits, MoreInits}
use Rattle.csub_objects.specs.Types.{TypeTree}
use Rattle.csub_scopes.specs.Scopes.{Scope, HasTypes}
use Rattle.csub_rules.specs.declared.fault.Fault.{Fault}
use Rattle.csub_rules.specs.Faults.{IsFirst}
use Rattle.csub_rules.specs.Sorts.{kind_of_type, is_number}
use Rattle.csub_rules.specs.ExprSorts.{sort_of}
use Rattle.csub_rules.specs.Fine.{Fine}
use Rattle.csub_rules.specs.Uses.{lacks_constant}
use Rattle.csub_rules.specs.BrokenUse.{BrokenUse}
use Rattle.csub_objects.specs.Parts.{part_type}
use Rattle.csub_rules.specs.Initialisers.{list_misfits, lacks_list, use_at, init_fault}

-- x stands in a list whose first entry has number i, as the one of number n
pub data EntryAt : ℕ → ℕ → Init → Inits → Type 0 where
  this_entry : (i : ℕ) (x : Init) (rest : Inits) → EntryAt i i x (MoreInits x rest)
  next_entry : (i n : ℕ) (x y : Init) (rest : Inits) → EntryAt (i + 1) n x rest → EntryAt i n x (MoreInits y rest)

-- x, which initialises an object of type u, stands in an initialiser of an object of type t
pub data Meets : TypeTree → Init → TypeTree → Init → Type 0 where
  whole : (t : TypeTree) (x : Init) → Meets t x t x
  in_entry : (t u v : TypeTree) (n : ℕ) (x y : Init) (xs : Inits) (s : Span) → EntryAt 0 n y xs → part_type t n ≡ Some u → Meets u y v x
      → Meets t (Listed xs s) v x

-- an initialiser of an object of a type, at file scope or not, breaks a rule by itself, or its expression breaks one
pub data InitBreaks (scope : Scope) (file : Bool) : TypeTree → Init → Fault → Type 0 where
  by_value : (t : TypeTree) (e : Expr) (f : Fault) → BrokenUse scope (use_at file) e f → InitBreaks scope file t (One e) f
  -- an array or a struct has no list
  m11_value : (t : TypeTree) (e : Expr) → IsTrue (lacks_list scope t e) → InitBreaks scope file t (One e) (record { rule = 11; span = span_of e })
  -- a list initialises a number, or has too many entries
  m11_list : (t : TypeTree) (xs : Inits) (s : Span) → IsTrue (list_misfits t xs)
      → InitBreaks scope file t (Listed xs s) (record { rule = 11; span = s })

pub record BrokenInit (scope : Scope) (file : Bool) (t : TypeTree) (x : Init) (f : Fault) : Type 0 where
  pub ctype : TypeTree
  pub node : Init
  pub stands : Meets t x ctype node
  pub breaks : InitBreaks scope file ctype node f

-- An initialiser that fits the type: what can be resolved. It computes to a product along the tree.
abbrev pub FineValue : Scope → Bool → Option TypeTree → Expr → Type 0
FineValue scope file None e = ⊥
FineValue scope file (Some t) e =
    Fine scope false e × IsTrue (is_number (sort_of scope e)) × IsTrue (not (lacks_constant scope (use_at file) e)) × IsTrue (is_some (kind_of_type t))

abbrev mutual
  pub FineInit : Scope → Bool → Option TypeTree → Init → Type 0
  FineInit scope file o (One e) = FineValue scope file o e
  FineInit scope file None (Listed xs s) = ⊥
  FineInit scope file (Some t) (Listed xs s) = FineEntries scope file t 0 xs

  pub FineEntries : Scope → Bool → TypeTree → ℕ → Inits → Type 0
  FineEntries scope file t i NoInits = Unit {0}
  FineEntries scope file t i (MoreInits x rest) =
      IsTrue (is_some (part_type t i)) × FineInit scope file (part_type t i) x × FineEntries scope file t (i + 1) rest

abbrev pub InitFaultsAreBroken : Type 0
InitFaultsAreBroken =
    (scope : Scope) (file : Bool) (t : TypeTree) (x : Init) (f : Fault) → init_fault scope file (Some t) x ≡ Some f → BrokenInit scope file t x f

abbrev pub InitFaultsAreLeast : Type 0
InitFaultsAreLeast =
    (scope : Scope) (file : Bool) (t : TypeTree) (x : Init) (f g : Fault) → init_fault scope file (Some t) x ≡ Some f
    → BrokenInit scope file t x g → IsFirst f g

abbrev pub NoInitFaultNothingBroken : Type 0
NoInitFaultNothingBroken =
    (scope : Scope) (file : Bool) (t : TypeTree) (x : Init) (g : Fault) → init_fault scope file (Some t) x ≡ None → BrokenInit scope file t x g → ⊥

abbrev pub NoInitFaultIsFine : Type 0
NoInitFaultIsFine =
    (scope : Scope) (file : Bool) (t : TypeTree) (x : Init) → HasTypes scope → init_fault scope file (Some t) x ≡ None → FineInit scope file (Some t) x
