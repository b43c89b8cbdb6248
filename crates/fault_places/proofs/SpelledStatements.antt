-- Statements lie where the tokens that spell them lie.
use Rattle.std.proofs.Common.{ℕ, List, [], ◌∷◌, ◌++◌, Option}
use Rattle.csub_lex.specs.declared.token.Token.{Token}
use Rattle.csub_lex.specs.declared.token.Key.TheVariants as keys
use Rattle.csub_lex.specs.declared.token.Mark.TheVariants as marks
use Rattle.csub_tree.specs.Expressions.{Expr}
use Rattle.csub_tree.specs.Statements.{Stmt, StmtKind, Perhaps, Stmts}
use Rattle.csub_tree.specs.Tokens.{mark, key}
use Rattle.csub_tree.specs.SpellsExpressions.{assignment, conditional}
use Rattle.csub_tree.specs.SpellsStatements.{SpellsMaybe, SpellsFirst, SpellsLabel, SpellsStmt, SpellsKind, SpellsLine, SpellsLines}
use Rattle.csub_tree.specs.SpellsStatements.{SpellsSwitchLine, SpellsSwitchLines}
use Rattle.csub_tree.specs.SpellsStatements as statements
use Rattle.fault_places.specs.Within.{WithinMaybe, WithinExpr, WithinStmt, WithinLine, WithinPerhaps, WithinLines}
use Rattle.fault_places.proofs.Rising.{Rising, left_part, right_part, later, behind, at_first, whole}
use Rattle.fault_places.proofs.Lists.{maybe_within}
use Rattle.fault_places.proofs.SpelledExpressions.{expr_within}
use Rattle.fault_places.proofs.SpelledDeclarations.{decl_within}

module _ (n : ℕ) where
  part_within : (o : Option Expr) (ts : List Token) → SpellsMaybe o ts → Rising n ts → WithinMaybe (WithinExpr n) o
  part_within o ts p f = maybe_within (expr_within n assignment) o ts p f

  label_within : (kind : StmtKind) (ts : List Token) → SpellsLabel kind ts → Rising n ts → WithinLine n kind
  label_within kind ts (statements.case_label {e} {s} a b p) f = expr_within n conditional e s p (left_part s (mark marks.Colon b ∷ []) (later f))
  label_within kind ts (statements.default_label a b) f = tt

  first_within : (tree : Perhaps) (ts : List Token) → SpellsFirst tree ts → Rising n ts → WithinPerhaps n tree
  first_within tree ts (statements.first_declared {d} {s} p) f = (decl_within n d s p f, whole f)
  first_within tree ts (statements.first_evaluated {e} {s} a p) f =
      (expr_within n assignment e s p (left_part s (mark marks.Semicolon a ∷ []) f), whole f)
  first_within tree ts (statements.first_empty a) f = tt

  mutual
    stmt_within : (tree : Stmt) (ts : List Token) → SpellsStmt tree ts → Rising n ts → WithinStmt n tree
    stmt_within tree ts (statements.placed {k} {s} p) f = (kind_within k s p f, whole f)

    kind_within : (kind : StmtKind) (ts : List Token) → SpellsKind kind ts → Rising n ts → WithinLine n kind
    kind_within kind ts (statements.block {ss} {s} a b p) g = lines_within ss s p (left_part s (mark marks.CloseBrace b ∷ []) (later g))
    kind_within kind ts (statements.empty a) g = tt
    kind_within kind ts (statements.evaluated {e} {s} a p) g = expr_within n assignment e s p (left_part s (mark marks.Semicolon a ∷ []) g)
    kind_within kind ts (statements.labelled {x} {s} l a p) g = (at_first g, stmt_within x s p (later (later g)))
    kind_within kind ts (statements.if_alone {e} {x} {s} {t} a b c p q) g =
        let test = later (later g) in (
          expr_within n assignment e s p (left_part s (mark marks.CloseParen c ∷ t) test),
          stmt_within x t q (behind s (mark marks.CloseParen c) t test),
          tt,
        )
    kind_within kind ts (statements.if_else {e} {x} {y} {s} {t} {u} a b c d p q ended w) g =
        let both : List Token = t ++ key keys.Else d ∷ u in
        let in_both = behind s (mark marks.CloseParen c) both (later (later g)) in (
          expr_within n assignment e s p (left_part s (mark marks.CloseParen c ∷ both) (later (later g))),
          stmt_within x t q (left_part t (key keys.Else d ∷ u) in_both),
          stmt_within y u w (behind t (key keys.Else d) u in_both),
        )
    kind_within kind ts (statements.while_loop {e} {x} {s} {t} a b c p q) g =
        let test = later (later g) in (
          expr_within n assignment e s p (left_part s (mark marks.CloseParen c ∷ t) test),
          stmt_within x t q (behind s (mark marks.CloseParen c) t test),
        )
    kind_within kind ts (statements.do_loop {e} {x} {s} {t} a b c d h p q) g =
        let end : List Token = mark marks.CloseParen d ∷ mark marks.Semicolon h ∷ [] in
        let test : List Token = mark marks.OpenParen c ∷ (t ++ end) in (
          stmt_within x s p (left_part s (key keys.While b ∷ test) (later g)),
          expr_within n assignment e t q (left_part t end (later (behind s (key keys.While b) test (later g)))),
        )
    kind_within kind ts (statements.for_loop {p} {e} {f} {x} {s} {t} {u} {v} a b c d h i j k) g =
        let third : List Token = u ++ mark marks.CloseParen d ∷ v in
        let second : List Token = t ++ mark marks.Semicolon c ∷ third in
        let in_first = later (later g) in
        let in_second = right_part s second in_first in
        let in_third = behind t (mark marks.Semicolon c) third in_second in (
          first_within p s h (left_part s second in_first),
          part_within e t i (left_part t (mark marks.Semicolon c ∷ third) in_second),
          part_within f u j (left_part u (mark marks.CloseParen d ∷ v) in_third),
          stmt_within x v k (behind u (mark marks.CloseParen d) v in_third),
        )
    kind_within kind ts (statements.switched {e} {ss} {s} {t} a b c d h p q) g =
        let lines : List Token = mark marks.OpenBrace d ∷ (t ++ mark marks.CloseBrace h ∷ []) in
        let in_lines = later (behind s (mark marks.CloseParen c) lines (later (later g))) in (
          expr_within n assignment e s p (left_part s (mark marks.CloseParen c ∷ lines) (later (later g))),
          cases_within ss t q (left_part t (mark marks.CloseBrace h ∷ []) in_lines),
        )
    kind_within kind ts (statements.broken_off a b) g = tt
    kind_within kind ts (statements.continued a b) g = tt
    kind_within kind ts (statements.gone_to l a b) g = at_first (later g)
    kind_within kind ts (statements.returned {e} {s} a b p) g = part_within e s p (left_part s (mark marks.Semicolon b ∷ []) (later g))

    line_within : (tree : Stmt) (ts : List Token) → SpellsLine tree ts → Rising n ts → WithinStmt n tree
    line_within tree ts (statements.declaring {d} {s} p) f = (decl_within n d s p f, whole f)
    line_within tree ts (statements.stating {x} {s} p) f = stmt_within x s p f

    pub lines_within : (trees : Stmts) (ts : List Token) → SpellsLines trees ts → Rising n ts → WithinLines n trees
    lines_within trees ts statements.no_lines f = tt
    lines_within trees ts (statements.more_lines {x} {xs} {s} {t} p q) f = (line_within x s p (left_part s t f), lines_within xs t q (right_part s t f))

    case_within : (tree : Stmt) (ts : List Token) → SpellsSwitchLine tree ts → Rising n ts → WithinStmt n tree
    case_within tree ts (statements.plain_line {x} {s} p) f = line_within x s p f
    case_within tree ts (statements.label_line {k} {s} p) f = (label_within k s p f, whole f)

    cases_within : (trees : Stmts) (ts : List Token) → SpellsSwitchLines trees ts → Rising n ts → WithinLines n trees
    cases_within trees ts statements.no_switch_lines f = tt
    cases_within trees ts (statements.more_switch_lines {x} {xs} {s} {t} p q) f =
        (case_within x s p (left_part s t f), cases_within xs t q (right_part s t f))
