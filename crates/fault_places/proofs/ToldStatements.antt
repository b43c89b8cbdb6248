-- The first fault of a statement and of a body lies where these lie.
use Rattle.std.proofs.Common.{ℕ, ℤ, List, [], ◌∷◌, ◌++◌, Option, Some, None, option_map}
use Rattle.csub_text.specs.declared.span.Span.{Span}
use Rattle.csub_types.specs.declared.kind.IntKind.{IntKind}
use Rattle.csub_tree.specs.declared.name.Name.{Name as NameAt}
use Rattle.csub_tree.specs.Expressions.{Expr}
use Rattle.csub_tree.specs.Statements.{Stmt, StmtKind, Perhaps, Stmts, Line, Declared, Eval, Empty, Block, If, While, Do, For, Switch}
use Rattle.csub_tree.specs.Statements.{Case, Default, Break, Continue, Goto, Label, Return, NoStmt, OneStmt, NoStmts, MoreStmts}
use Rattle.csub_objects.specs.Types.{Name}
use Rattle.csub_scopes.specs.Scopes.{Scope}
use Rattle.csub_rules.specs.Uses.{Use, as_part, as_number, as_constant}
use Rattle.csub_rules.specs.Constants.{constant}
use Rattle.csub_rules.specs.Here.{Here, entering}
use Rattle.csub_rules.specs.Past.{past, past_perhaps}
use Rattle.csub_rules.specs.CaseLabels.{CaseLabel, LabelAt, switch_kind, label_of, with_label, again_fault, labels_fault}
use Rattle.csub_rules.specs.Labels.{labels_of, labels_of_kind, labels_of_perhaps, labels_of_lines, twice_fault}
use Rattle.csub_rules.specs.StmtFaults.{Surroundings, in_loop, in_switch, in_first_part, part_fault, return_fault}
use Rattle.csub_rules.specs.StmtFaults.{stmt_fault, line_fault, perhaps_fault, lines_fault}
use Rattle.csub_rules.specs.Bodies.{in_body, body_fault}
use Rattle.csub_rules.proofs.LawsSound.{nothing, join}
use Rattle.fault_places.specs.Within.{IsWithin, WithinEach, WithinMaybe, WithinName, WithinExpr, WithinStmt, WithinLine, WithinPerhaps, WithinLines}
use Rattle.fault_places.proofs.Told.{Told, told_if, first_within}
use Rattle.fault_places.proofs.ToldExpressions.{span_within, use_told}
use Rattle.fault_places.proofs.ToldDeclarations.{declare_told}

module _ (n : ℕ) where
  -- ---- parts

  part_told : (scope : Scope) (u : Use) (o : Option Expr) → WithinMaybe (WithinExpr n) o → Told n (part_fault scope u o)
  part_told scope u None w = nothing
  part_told scope u (Some e) w = use_told n scope u e w

  return_told : (around : Surroundings) (scope : Scope) (o : Option Expr) (s : Span) → WithinMaybe (WithinExpr n) o → IsWithin n s
      → Told n (return_fault around scope o s)
  return_told around scope None s w v = told_if _ 15 (first_within 6 s v)
  return_told around scope (Some e) s w v = join (told_if _ 15 (first_within 6 s v)) (use_told n scope as_number e w)

  -- ---- the labels of a `switch`

  valued_within : (f : ℤ → LabelAt) (o : Option ℤ) → ((v : ℤ) → IsWithin n (f v).span)
      → WithinMaybe (λ (l : LabelAt). IsWithin n l.span) (option_map f o)
  valued_within f None w = tt
  valued_within f (Some v) w = w v

  label_within : (k : IntKind) (scope : Scope) (a : Stmt) → WithinStmt n a → WithinMaybe (λ (l : LabelAt). IsWithin n l.span) (label_of k scope a)
  label_within k scope (Line (Case e) s) w = valued_within _ (constant scope e) (λ v. span_within n e w.0)
  label_within k scope (Line Default s) w = first_within 7 s w.1
  label_within k scope (Line line s) w = tt

  again_told : (seen : List CaseLabel) (o : Option LabelAt) → WithinMaybe (λ (l : LabelAt). IsWithin n l.span) o → Told n (again_fault seen o)
  again_told seen None w = nothing
  again_told seen (Some l) w = told_if _ 18 w

  labels_told : (k : IntKind) (here : Here) (seen : List CaseLabel) (ss : Stmts) → WithinLines n ss → Told n (labels_fault k here seen ss)
  labels_told k here seen NoStmts w = nothing
  labels_told k here seen (MoreStmts a rest) w =
      join (again_told seen (label_of k here.scope a) (label_within k here.scope a w.0))
      (labels_told k (past here a) (with_label seen (label_of k here.scope a)) rest w.1)

  -- ---- statements

  mutual
    stmt_told : (around : Surroundings) (here : Here) (a : Stmt) → WithinStmt n a → Told n (stmt_fault around here a)
    stmt_told around here (Line k s) w = line_told around here k s w.0 w.1

    line_told : (around : Surroundings) (here : Here) (k : StmtKind) (s : Span) → WithinLine n k → IsWithin n s → Told n (line_fault around here k s)
    line_told around here (Declared d) s w v = declare_told n here d w
    line_told around here (Eval e) s w v = use_told n here.scope around.statement e w
    line_told around here Empty s w v = nothing
    line_told around here (Block ss) s w v = lines_told around (entering here) ss w
    line_told around here (If e a b) s w v =
        join (join (use_told n here.scope as_number e w.0) (stmt_told around here a w.1)) (perhaps_told around (past here a) b w.2)
    line_told around here (While e a) s w v = join (use_told n here.scope as_number e w.0) (stmt_told (in_loop around) here a w.1)
    line_told around here (Do a e) s w v = join (use_told n here.scope as_number e w.1) (stmt_told (in_loop around) here a w.0)
    line_told around here (For b e f a) s w v =
        join (join (join (perhaps_told (in_first_part around) (entering here) b w.0) (part_told (past_perhaps (entering here) b).scope as_number e w.1))
        (part_told (past_perhaps (entering here) b).scope as_part f w.2)) (stmt_told (in_loop around) (past_perhaps (entering here) b) a w.3)
    line_told around here (Switch e ss) s w v =
        join (join (use_told n here.scope as_number e w.0) (lines_told (in_switch around) (entering here) ss w.1))
        (labels_told (switch_kind here.scope e) (entering here) [] ss w.1)
    line_told around here (Case e) s w v = use_told n here.scope as_constant e w
    line_told around here Default s w v = nothing
    line_told around here Break s w v = told_if _ 16 (first_within 5 s v)
    line_told around here Continue s w v = told_if _ 16 (first_within 8 s v)
    line_told around here (Goto x) s w v = told_if _ 17 w
    line_told around here (Label x a) s w v = join (told_if _ 3 w.0) (stmt_told around here a w.1)
    line_told around here (Return e) s w v = return_told around here.scope e s w v

    perhaps_told : (around : Surroundings) (here : Here) (b : Perhaps) → WithinPerhaps n b → Told n (perhaps_fault around here b)
    perhaps_told around here NoStmt w = nothing
    perhaps_told around here (OneStmt a) w = stmt_told around here a w

    lines_told : (around : Surroundings) (here : Here) (ss : Stmts) → WithinLines n ss → Told n (lines_fault around here ss)
    lines_told around here NoStmts w = nothing
    lines_told around here (MoreStmts a rest) w = join (stmt_told around here a w.0) (lines_told around (past here a) rest w.1)

  -- ---- the labels of a function

  pub both_within : (xs ys : List NameAt) → WithinEach (WithinName n) xs → WithinEach (WithinName n) ys → WithinEach (WithinName n) (xs ++ ys)
  both_within [] ys w v = v
  both_within (x ∷ xs) ys w v = (w.0, both_within xs ys w.1 v)

  pub twice_told : (seen : List Name) (xs : List NameAt) → WithinEach (WithinName n) xs → Told n (twice_fault seen xs)
  twice_told seen [] w = nothing
  twice_told seen (x ∷ xs) w = join (told_if _ 2 w.0) (twice_told (x.text ∷ seen) xs w.1)

  mutual
    labels_within : (a : Stmt) → WithinStmt n a → WithinEach (WithinName n) (labels_of a)
    labels_within (Line k s) w = kind_labels_within k w.0

    kind_labels_within : (k : StmtKind) → WithinLine n k → WithinEach (WithinName n) (labels_of_kind k)
    kind_labels_within (Declared d) w = tt
    kind_labels_within (Eval e) w = tt
    kind_labels_within Empty w = tt
    kind_labels_within (Block ss) w = lines_labels_within ss w
    kind_labels_within (If e a b) w = both_within (labels_of a) (labels_of_perhaps b) (labels_within a w.1) (perhaps_labels_within b w.2)
    kind_labels_within (While e a) w = labels_within a w.1
    kind_labels_within (Do a e) w = labels_within a w.0
    kind_labels_within (For b e f a) w = both_within (labels_of_perhaps b) (labels_of a) (perhaps_labels_within b w.0) (labels_within a w.3)
    kind_labels_within (Switch e ss) w = lines_labels_within ss w.1
    kind_labels_within (Case e) w = tt
    kind_labels_within Default w = tt
    kind_labels_within Break w = tt
    kind_labels_within Continue w = tt
    kind_labels_within (Goto x) w = tt
    kind_labels_within (Label x a) w = (w.0, labels_within a w.1)
    kind_labels_within (Return e) w = tt

    perhaps_labels_within : (b : Perhaps) → WithinPerhaps n b → WithinEach (WithinName n) (labels_of_perhaps b)
    perhaps_labels_within NoStmt w = tt
    perhaps_labels_within (OneStmt a) w = labels_within a w

    lines_labels_within : (ss : Stmts) → WithinLines n ss → WithinEach (WithinName n) (labels_of_lines ss)
    lines_labels_within NoStmts w = tt
    lines_labels_within (MoreStmts a rest) w = both_within (labels_of a) (labels_of_lines rest) (labels_within a w.0) (lines_labels_within rest w.1)

  -- ---- bodies

  pub body_told : (result : Option IntKind) (here : Here) (body : Stmts) → WithinLines n body → Told n (body_fault result here body)
  body_told result here body w =
      join (lines_told (in_body result body) here body w) (twice_told [] (labels_of_lines body) (lines_labels_within body w))
