-- Numbers of globals by their names.
use Rattle.std.proofs.Common.{◌≡◌, ℕ, List, [], ◌∷◌, ◌++◌, Bool, true, false, cond, Option, Some, None, Bor, is_some, refl, sym, subst, subst₂, bytes_eq}
use Rattle.std.specs.Option.{option_or}
use Rattle.std.specs.Str.{bytes_eq}
use Rattle.std.specs.Map.{lookup}
use Rattle.std.proofs.lemmas.List.Folds.{find-append}
use Rattle.std.proofs.lemmas.Slice.Eq.{bytes_eq-Decides}
use Rattle.csub_objects.specs.Types.{Name}
use Rattle.csub_semantics.specs.Types.{GlobalTree}
use Rattle.csub_semantics.specs.Globals.{global_of, globals_of, found_first}
use Rattle.edge_label.specs.Indices.{Agree}
use Rattle.edge_label.specs.Tables.{Extend, IsGlobalNumber, AppendsGlobals}
use Rattle.edge_label.specs.declared.table.Tables.{Tables}
use Rattle.edge_label.proofs.TableLemmas.{IsGlobalNumber-extends, one_global}

-- the number of a name among entries
abbrev pub number_of : List (Bor (List ℕ) × ℕ) → Name → Option ℕ
number_of entries name = lookup (λ key. bytes_eq name key.now) entries

module _ {A B : Type 0} (R : A → B → Type 0) where
  -- one more value under a name that has something already, or under another name
  stays : (same : Bool) (o : Option A) (f : Option B) (b : B) → (same ≡ true → is_some o ≡ true) → Agree R o f → Agree R o (option_or f (cond same (Some b) None))
  stays false o None b has h = h
  stays false o (Some c) b has h = h
  stays true None f b has h = absurd (let bad = has refl in cc)
  stays true (Some a) None b has h = absurd h
  stays true (Some a) (Some c) b has h = h

  -- one more value under a name that had nothing, or under another name
  added : (same : Bool) (a : A) (o : Option A) (f : Option B) (b : B) → (same ≡ true → is_some o ≡ false) → R a b → Agree R o f
      → Agree R (cond same (Some a) o) (option_or f (cond same (Some b) None))
  added false a o None b lacks here h = h
  added false a o (Some c) b lacks here h = h
  added true a (Some x) f b lacks here h = absurd (let bad = lacks refl in cc)
  added true a None None b lacks here h = here
  added true a None (Some c) b lacks here h = absurd h

  -- what is related stays so
  weaker : (S : A → B → Type 0) → ((a : A) (b : B) → R a b → S a b) → (o : Option A) (f : Option B) → Agree R o f → Agree S o f
  weaker S still None None h = h
  weaker S still None (Some b) h = h
  weaker S still (Some a) None h = h
  weaker S still (Some a) (Some b) h = still a b h

-- numbers tell the first global of each name
abbrev pub Tells : Tables → (Name → Option ℕ) → List GlobalTree → Type 0
Tells tables numbers globals = (name : Name) → Agree (IsGlobalNumber tables) (numbers name) (global_of globals name)

one_more : (before : List GlobalTree) (g : GlobalTree) (name : Name) → global_of (before ++ g ∷ []) name ≡ option_or (global_of before name) (cond (bytes_eq g.name name) (Some g) None)
one_more before g name = find-append (λ (h : GlobalTree). bytes_eq h.name name) before (g ∷ [])

module _ (before : List GlobalTree) (g : GlobalTree) where
  -- a name that has a number keeps it
  pub first_stays : (tables : Tables) (numbers : Name → Option ℕ) → Tells tables numbers before → is_some (numbers g.name) ≡ true → Tells tables numbers (before ++ g ∷ [])
  first_stays tables numbers tells has name =
      subst (Agree (IsGlobalNumber tables) (numbers name)) (sym (one_more before g name))
      (stays (IsGlobalNumber tables) (bytes_eq g.name name) (numbers name) (global_of before name) g
      (λ same. subst (λ n. is_some (numbers n) ≡ true) ((bytes_eq-Decides g.name name).0 same) has) (tells name))

  -- a name that has none gets this one
  pub first_added : (tables new : Tables) (number : ℕ) (numbers more : Name → Option ℕ) → Extend tables new → IsGlobalNumber new number g
      → Tells tables numbers before → is_some (numbers g.name) ≡ false
      → ((name : Name) → more name ≡ cond (bytes_eq g.name name) (Some number) (numbers name)) → Tells new more (before ++ g ∷ [])
  first_added tables new number numbers more grown has tells lacks puts name =
      subst₂ (Agree (IsGlobalNumber new)) (sym (puts name)) (sym (one_more before g name))
      (added (IsGlobalNumber new) (bytes_eq g.name name) number (numbers name) (global_of before name) g
      (λ same. subst (λ n. is_some (numbers n) ≡ false) ((bytes_eq-Decides g.name name).0 same) lacks) has
      (weaker (IsGlobalNumber tables) (IsGlobalNumber new) (IsGlobalNumber-extends tables new grown) (numbers name) (global_of before name) (tells name)))

-- the number of a name's global behind what was there
pub found_number : (tables : Tables) (globals : List GlobalTree) (name : Name) (n : ℕ) (a b : List ℕ) → Agree (IsGlobalNumber tables) (Some n) (global_of globals name) → b ≡ a ++ n ∷ []
    → AppendsGlobals tables (globals_of globals (name ∷ [])) a b
found_number tables globals name n a b h appended = by (global_of globals name) h where
  by : (o : Option GlobalTree) → Agree (IsGlobalNumber tables) (Some n) o → AppendsGlobals tables (found_first o []) a b
  by None h = absurd h
  by (Some g) h = one_global tables g n a b h appended
