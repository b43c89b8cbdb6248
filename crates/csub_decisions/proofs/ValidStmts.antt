-- Which statements are valid, by the statements and parts of their vectors.
use Rattle.std.proofs.Common.{◌≡◌, ◌↔◌, List, [], ◌∷◌, ◌++◌, ◌||◌, ◌≤◌, map, length, arith, All, Option, Some, None, Bool, true, false, refl, sym, subst}
use Rattle.std.proofs.lemmas.List.Elements.{All-nil, All-cons, All-head, All-tail}
use Rattle.std.specs.declared.vec.Vec.{Vec}
use Rattle.std.specs.declared.alloc.Global.{Global}
use Rattle.csub_text.specs.declared.span.Span.{Span}
use Rattle.csub_semantics.specs.declared.function.RCall.{RCall}
use Rattle.csub_semantics.specs.declared.function.RPart.{RPart}
use Rattle.csub_semantics.specs.Labels.{LabelTree}
use Rattle.csub_semantics.specs.declared.function.RStmt.{RStmt, Block, Switch}
use Rattle.csub_validity.specs.declared.role.Role.{Role}
use Rattle.csub_validity.specs.declared.role.Role.TheVariants.{Effect}
use Rattle.csub_validity.specs.declared.role.Targets.{Targets}
use Rattle.csub_semantics.specs.Syntax.{call_stage, own_stage, part_tree, stmt_tree, stmts_of, FunctionTree, ProgramTree}
use Rattle.csub_validity.specs.Valid.{is_declared, declares, IsPart, IsStmt, AreStmts, further_in, in_switch, switch_kind, stmt_count, most_entries}
use Rattle.csub_decisions.specs.ProgramChecks.{declared_own, IsSwitch}
use Rattle.csub_semantics.proofs.LawsRows.{stmt_tree-Block, stmt_tree-Switch}
use Rattle.csub_validity.proofs.LawsLists.{All-of_map}

module _ (P : ProgramTree) (f : FunctionTree) (to : Targets) where
  pub AreStmts-All : (ss : List RStmt) → AreStmts P f to (stmts_of (map stmt_tree ss)) ↔ All (λ s. IsStmt P f to (stmt_tree s)) ss
  AreStmts-All [] = (λ h. All-nil (λ s. IsStmt P f to (stmt_tree s)), λ h. tt)
  AreStmts-All (s ∷ ss) =
      let rest = AreStmts-All ss in (
        λ h. All-cons (λ t. IsStmt P f to (stmt_tree t)) s ss h.0 (rest.0 h.1),
        λ h. (All-head (λ t. IsStmt P f to (stmt_tree t)) s ss h, rest.1 (All-tail (λ t. IsStmt P f to (stmt_tree t)) s ss h)),
      )

-- a block is a short list of statements
abbrev pub AreFew : List RStmt → Type 0
AreFew ss = stmt_count (stmts_of (map stmt_tree ss)) ≤ most_entries

module _ (P : ProgramTree) (f : FunctionTree) (to : Targets) where
  abbrev pub AreInBlock : List RStmt → Type 0
  AreInBlock ss = AreFew ss × All (λ s. IsStmt P f (further_in to) (stmt_tree s)) ss

  pub IsStmt-Block : (stmts : Vec RStmt Global) → IsStmt P f to (stmt_tree (Block stmts)) ↔ AreInBlock stmts.items
  IsStmt-Block stmts =
      let each = AreStmts-All P f (further_in to) stmts.items in
      subst (λ t. IsStmt P f to t ↔ AreInBlock stmts.items) (sym (stmt_tree-Block stmts))
      (λ h. (h.0, each.0 h.1), λ h. (h.0, each.1 h.1))

  -- a `switch` has an expression, cases that differ, and statements
  abbrev pub AreInSwitch : RPart → List RStmt → Type 0
  AreInSwitch p ss =
      IsSwitch P f (part_tree p) (stmts_of (map stmt_tree ss)) × All (λ s. IsStmt P f (in_switch (switch_kind (part_tree p)) to) (stmt_tree s)) ss

  pub IsStmt-Switch : (p : RPart) (stmts : Vec RStmt Global) → IsStmt P f to (stmt_tree (Switch p stmts)) ↔ AreInSwitch p stmts.items
  IsStmt-Switch p stmts =
      let each = AreStmts-All P f (in_switch (switch_kind (part_tree p)) to) stmts.items in
      subst (λ t. IsStmt P f to t ↔ AreInSwitch p stmts.items) (sym (stmt_tree-Switch p stmts))
      (λ h. ((h.0, h.1), each.0 h.2), λ h. (h.0.0, h.0.1, each.1 h.1))

-- how many statements a list has
pub stmt_count-list : (ss : List RStmt) → stmt_count (stmts_of (map stmt_tree ss)) ≡ length ss
stmt_count-list [] = refl
stmt_count-list (s ∷ ss) = let rest = stmt_count-list ss in omega arith

-- the parts of a list, in a role
pub parts_of_map : (P : ProgramTree) (f : FunctionTree) (role : Role) (ps : List RPart) → All (λ p. IsPart P f role p) (map part_tree ps) ↔ All (λ p. IsPart P f role (part_tree p)) ps
parts_of_map P f role ps = All-of_map (IsPart P f role) part_tree ps

-- each of the parts of a list declares an object
pub declared_of_map : (ps : List RPart) → All (λ p. declares p ≡ true) (map part_tree ps) ↔ All (λ p. declares (part_tree p) ≡ true) ps
declared_of_map ps = All-of_map (λ p. declares p ≡ true) part_tree ps

-- the parts of a list, evaluated for their effects
pub effects_of_map : (P : ProgramTree) (f : FunctionTree) (ps : List RPart) → All (λ p. IsPart P f Effect p) (map part_tree ps) ↔ All (λ p. IsPart P f Effect (part_tree p)) ps
effects_of_map P f ps = All-of_map (IsPart P f Effect) part_tree ps

-- none of the parts of a list declares anything
pub undeclared_of_map : (ps : List RPart) → All (λ p. declares p ≡ false) (map part_tree ps) ↔ All (λ p. declares (part_tree p) ≡ false) ps
undeclared_of_map ps = All-of_map (λ p. declares p ≡ false) part_tree ps

-- a part declares what its own point declares
pub declares_own : (cs : List RCall) (span : Span) (own : Option LabelTree) → declared_own own ≡ declares (map (call_stage span) cs ++ own_stage span own)
declares_own [] span None = refl
declares_own [] span (Some label) = or_none (is_declared label)
  where
    or_none : (b : Bool) → b ≡ (b || false)
    or_none true = refl
    or_none false = refl
declares_own (c ∷ cs) span own = declares_own cs span own
