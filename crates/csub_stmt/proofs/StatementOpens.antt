-- What a statement, a line and an expression begin with, and what they do not.
use Rattle.std.proofs.Common.{◌≡◌, List, [], ◌∷◌, ◌++◌, Some, true, false, refl, append_assoc}
use Rattle.csub_lex.specs.declared.token.Key.{Key}
use Rattle.csub_lex.specs.declared.token.Key.TheVariants as keys
use Rattle.csub_lex.specs.declared.token.Mark.{Mark}
use Rattle.csub_lex.specs.declared.token.Mark.TheVariants as marks
use Rattle.csub_lex.specs.declared.token.Token.{Token}
use Rattle.csub_tree.specs.Statements.{Stmt, StmtKind, Stmts}
use Rattle.csub_tree.specs.Tokens.{mark}
use Rattle.csub_tree.specs.SpellsExpressions.{Prefix, prefix_of}
use Rattle.csub_tree.specs.SpellsStatements.{SpellsStmt, block, empty, evaluated, labelled, if_alone, if_else, while_loop, do_loop, for_loop, switched, broken_off, continued, gone_to, returned, SpellsLine, declaring, stating, SpellsLines, no_lines, more_lines, SpellsSwitchLine, plain_line, case_label, default_label, SpellsSwitchLines, no_switch_lines, more_switch_lines, label_line, placed, SpellsKind}
use Rattle.csub_stmt.specs.declared.opening.Opening.TheVariants as openings
use Rattle.csub_expr.specs.Looks.{begins, begins_key, begins_number}
use Rattle.csub_expr.proofs.LawsTokens.{begins_is}
use Rattle.csub_expr.proofs.LawsExpressions.{Lead, lead, lead_no_key, lead_no_number, lead_no_mark, by_prefix, by_open, by_name, by_number, by_character, by_string}
use Rattle.csub_stmt.specs.Openings.{begins_base, opening_at, opening_of_mark}
use Rattle.csub_stmt.proofs.DeclarationOpens.{decl_opens}

-- how an expression is looked at where a statement may stand
pub record Plain (ts : List Token) : Type 0 where
  pub opens : opening_at ts ≡ openings.Plain
  pub no_base : begins_base ts ≡ false
  pub no_brace : begins marks.CloseBrace ts ≡ false
  pub no_semicolon : begins marks.Semicolon ts ≡ false
  pub no_paren : begins marks.CloseParen ts ≡ false
  pub no_key : (k : Key) → begins_key k ts ≡ false

prefix_plain : (m : Mark) (o : Prefix) → prefix_of m ≡ Some o → opening_of_mark m ≡ openings.Plain
prefix_plain marks.Plus o e = refl
prefix_plain marks.Minus o e = refl
prefix_plain marks.Bang o e = refl
prefix_plain marks.Tilde o e = refl
prefix_plain marks.PlusPlus o e = refl
prefix_plain marks.MinusMinus o e = refl
prefix_plain _ o e = absurd cc

lead_opens : {ts : List Token} → Lead ts → opening_at ts ≡ openings.Plain
unfolding opening_at
lead_opens (by_prefix m o a ts e) = prefix_plain m o e
lead_opens (by_open a ts) = refl
lead_opens (by_name n a ts) = refl
lead_opens (by_number n u a ts) = refl
lead_opens (by_character b a ts) = refl
lead_opens (by_string t a ts) = refl

pub lead_plain : {ts : List Token} → Lead ts → Plain ts
unfolding begins_base
lead_plain h = record {
  opens = lead_opens h;
  no_base = rw (lead_no_key h keys.Struct, lead_no_number h) refl;
  no_brace = lead_no_mark h marks.CloseBrace refl refl;
  no_semicolon = lead_no_mark h marks.Semicolon refl refl;
  no_paren = lead_no_mark h marks.CloseParen refl refl;
  no_key = λ k. lead_no_key h k;
}

-- what no line begins with: a closing brace and `else`, and what no statement begins with
pub record Opens (ts : List Token) : Type 0 where
  pub no_close : begins marks.CloseBrace ts ≡ false
  pub no_else : begins_key keys.Else ts ≡ false

pub record Words (ts : List Token) : Type 0 where
  pub no_base : begins_base ts ≡ false
  pub no_close : begins marks.CloseBrace ts ≡ false
  pub no_else : begins_key keys.Else ts ≡ false
  pub no_case : begins_key keys.Case ts ≡ false
  pub no_default : begins_key keys.Default ts ≡ false

kind_words : {k : StmtKind} {s : List Token} → SpellsKind k s → (r : List Token) → Words (s ++ r)
unfolding begins begins_key begins_base begins_number
kind_words (block a b h) r = record { no_base = refl; no_close = refl; no_else = refl; no_case = refl; no_default = refl }
kind_words (empty a) r = record { no_base = refl; no_close = refl; no_else = refl; no_case = refl; no_default = refl }
kind_words (evaluated {s = s} a h) r =
    let p = lead_plain (lead h (mark marks.Semicolon a ∷ r)) in
    rw (append_assoc s (mark marks.Semicolon a ∷ []) r) (record { no_base = p.no_base; no_close = p.no_brace; no_else = p.no_key keys.Else; no_case = p.no_key keys.Case; no_default = p.no_key keys.Default })
kind_words (labelled n a h) r = record { no_base = refl; no_close = refl; no_else = refl; no_case = refl; no_default = refl }
kind_words (if_alone a b c h x) r = record { no_base = refl; no_close = refl; no_else = refl; no_case = refl; no_default = refl }
kind_words (if_else a b c d h x o y) r = record { no_base = refl; no_close = refl; no_else = refl; no_case = refl; no_default = refl }
kind_words (while_loop a b c h x) r = record { no_base = refl; no_close = refl; no_else = refl; no_case = refl; no_default = refl }
kind_words (do_loop a b c d f x h) r = record { no_base = refl; no_close = refl; no_else = refl; no_case = refl; no_default = refl }
kind_words (for_loop a b c d p e f x) r = record { no_base = refl; no_close = refl; no_else = refl; no_case = refl; no_default = refl }
kind_words (switched a b c d f h x) r = record { no_base = refl; no_close = refl; no_else = refl; no_case = refl; no_default = refl }
kind_words (broken_off a b) r = record { no_base = refl; no_close = refl; no_else = refl; no_case = refl; no_default = refl }
kind_words (continued a b) r = record { no_base = refl; no_close = refl; no_else = refl; no_case = refl; no_default = refl }
kind_words (gone_to n a b) r = record { no_base = refl; no_close = refl; no_else = refl; no_case = refl; no_default = refl }
kind_words (returned a b h) r = record { no_base = refl; no_close = refl; no_else = refl; no_case = refl; no_default = refl }

pub stmt_words : {x : Stmt} {s : List Token} → SpellsStmt x s → (r : List Token) → Words (s ++ r)
stmt_words (placed h) r = kind_words h r

pub line_opens : {x : Stmt} {s : List Token} → SpellsLine x s → (r : List Token) → Opens (s ++ r)
line_opens (declaring h) r = let b = decl_opens h r in record { no_close = b.no_brace; no_else = b.no_else }
line_opens (stating h) r = let w = stmt_words h r in record { no_close = w.no_close; no_else = w.no_else }

pub switch_line_opens : {x : Stmt} {s : List Token} → SpellsSwitchLine x s → (r : List Token) → Opens (s ++ r)
unfolding begins begins_key
switch_line_opens (plain_line h) r = line_opens h r
switch_line_opens (label_line (case_label a b h)) r = record { no_close = refl; no_else = refl }
switch_line_opens (label_line (default_label a b)) r = record { no_close = refl; no_else = refl }

brace_no_else : (r : List Token) → begins marks.CloseBrace r ≡ true → begins_key keys.Else r ≡ false
unfolding begins_key
brace_no_else r h = rw (begins_is marks.CloseBrace r h) refl

pub lines_no_else : {xs : Stmts} {s : List Token} → SpellsLines xs s → (r : List Token) → begins marks.CloseBrace r ≡ true → begins_key keys.Else (s ++ r) ≡ false
lines_no_else no_lines r h = brace_no_else r h
lines_no_else (more_lines {s = s} {t = t} x xs) r h = rw (append_assoc s t r) (line_opens x (t ++ r)).no_else

pub switch_no_else : {xs : Stmts} {s : List Token} → SpellsSwitchLines xs s → (r : List Token) → begins marks.CloseBrace r ≡ true → begins_key keys.Else (s ++ r) ≡ false
switch_no_else no_switch_lines r h = brace_no_else r h
switch_no_else (more_switch_lines {s = s} {t = t} x xs) r h = rw (append_assoc s t r) (switch_line_opens x (t ++ r)).no_else
