-- Initialisers that fit a type have numbers.
use Rattle.std.proofs.Common.{◌≡◌, ◌∙◌, refl, sym, ap, ℕ, ◌+◌, ◌≤◌, List, ◌++◌, length, map, drop, Option, Some, None, false}
use Rattle.std.proofs.lemmas.List.{append-nil}
use Rattle.std.proofs.Math.ListN.{drop_of_length-le}
use Rattle.csub_tree.specs.declared.declaration.Init.{Init as CodeInit}
use Rattle.csub_tree.specs.Declarations.{init_tree, inits_of as tree_inits}
use Rattle.csub_tree.specs.Declarations.{Init, Inits, Declarator, One, Listed, NoInits, MoreInits}
use Rattle.csub_objects.specs.Types.{TypeTree}
use Rattle.csub_objects.specs.Parts.{part_type}
use Rattle.csub_semantics.specs.Labels.{InitTree, more_inits, inits_of}
use Rattle.csub_scopes.specs.Scopes.{Scope}
use Rattle.csub_rules.specs.BrokenInit.{FineInit, FineEntries}
use Rattle.csub_rules.specs.BrokenLocal.{FineValue}
use Rattle.csub_rules.specs.Declarators.{object_type}
use Rattle.csub_rules.specs.Here.{Here, number_of}
use Rattle.csub_rules.specs.Locals.{past_var}
use Rattle.csub_rules.specs.Heads.{sure_type}
use Rattle.csub_resolution.specs.Values.{Defined}
use Rattle.csub_resolution.specs.Contents.{init_count, init_value, init_values}
use Rattle.csub_resolution.specs.Lines.{var_parts}
use Rattle.csub_lines.specs.Numbers.{AreNumbers, AllNumbers, HasNumbers, value_list, parts_of_object}

mutual
  numbers : (scope : Scope) (o : Option TypeTree) (x : Init) → FineInit scope false o x → AreNumbers scope x
  numbers scope None (One e) h = absurd h
  numbers scope (Some t) (One e) h = (h.0, h.1)
  numbers scope None (Listed xs s) h = absurd h
  numbers scope (Some t) (Listed xs s) h = all_numbers scope t 0 xs h

  all_numbers : (scope : Scope) (t : TypeTree) (i : ℕ) (xs : Inits) → FineEntries scope false t i xs → AllNumbers scope xs
  all_numbers scope t i NoInits h = tt
  all_numbers scope t i (MoreInits x rest) h = (numbers scope (part_type t i) x h.1, all_numbers scope t (i + 1) rest h.2)

pub has_numbers : (scope : Scope) (o : Option TypeTree) (i : Option Init) → FineValue scope o i → HasNumbers scope i
has_numbers scope o None h = tt
has_numbers scope o (Some x) h = numbers scope o x h

-- the entries of a list as a whole
pub whole_list : (scope : Scope) (k : ℕ) (xs : Inits) → inits_of (value_list scope k xs) ≡ init_values scope k xs
whole_list scope k NoInits = refl
whole_list scope k (MoreInits x rest) = ap (λ ys. more_inits (init_value scope k x) ys) (whole_list scope (k + init_count scope x) rest)

pub entries_done : (scope : Scope) (k n i : ℕ) (es : List CodeInit) (made : List InitTree) → length es ≤ i
    → made ++ value_list scope n (tree_inits (map init_tree (drop i es))) ≡ value_list scope k (tree_inits (map init_tree es))
    → inits_of made ≡ init_values scope k (tree_inits (map init_tree es))
entries_done scope k n i es made l h =
    let done : made ≡ made ++ value_list scope n (tree_inits (map init_tree (drop i es))) =
    sym (append-nil made) ∙ ap (λ xs. made ++ value_list scope n (tree_inits (map init_tree xs))) (sym (drop_of_length-le es l)) in
    ap inits_of (done ∙ h) ∙ whole_list scope k (tree_inits (map init_tree es))

-- the part of a declared object, by what it sees
pub same_parts : (defined : List Defined) (h : Here) (base : Option TypeTree) (d : Declarator) (o : Option Init)
    → parts_of_object defined (past_var h base d).scope d.name (number_of d.name.text h.before) (sure_type (object_type h.scope base d.dims)) o
    ≡ var_parts defined h base d o
same_parts defined h base d None = refl
same_parts defined h base d (Some x) = refl
