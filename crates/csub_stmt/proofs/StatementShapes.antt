-- What every spelling of a statement has: tokens, their place, and how it begins.
use Rattle.std.proofs.Common.{◌≡◌, ℕ, ◌<◌, max, map, List, [], ◌∷◌, length, Some, refl, ap, subst, arith}
use Rattle.csub_text.specs.declared.span.Span.{Span}
use Rattle.csub_lex.specs.declared.token.Key.{Key}
use Rattle.csub_lex.specs.declared.token.Key.TheVariants as keys
use Rattle.csub_lex.specs.declared.token.Mark.{Mark}
use Rattle.csub_lex.specs.declared.token.Mark.TheVariants as marks
use Rattle.csub_lex.specs.declared.token.TokenKind.{TokenKind}
use Rattle.csub_lex.specs.declared.token.TokenKind.TheVariants as kinds
use Rattle.csub_lex.specs.declared.token.Token.{Token}
use Rattle.csub_tree.specs.declared.name.Name.{Name}
use Rattle.csub_tree.specs.Expressions.{Expr, span_of}
use Rattle.csub_tree.specs.Declarations.{Declare}
use Rattle.csub_tree.specs.Statements.{Stmt, StmtKind, Line, stmts_of}
use Rattle.csub_tree.specs.Depth.{most, stmt_depth, stmts_depth}
use Rattle.csub_tree.specs.Tokens.{mark, key, id, first, last, runs}
use Rattle.csub_tree.specs.Lists.{Each, no_more, one_more}
use Rattle.csub_tree.specs.SpellsExpressions.{SpellsExpr, no_assignment, assigned, no_choice, choice, tighter, operated, prefixed, cast, no_prefix, no_postfix, indexed, member, stepped, named, called, number, character, string, enclosed, Plain, Both, Either, Signed, Counted}
use Rattle.csub_tree.specs.SpellsDeclarations.{SpellsDecl, decl}
use Rattle.csub_tree.specs.SpellsStatements.{SpellsStmt, block, empty, evaluated, labelled, if_alone, if_else, while_loop, do_loop, for_loop, switched, broken_off, continued, gone_to, returned, SpellsLine, declaring, stating, SpellsLines, no_lines, more_lines, SpellsSwitchLine, plain_line, case_label, default_label, SpellsSwitchLines, no_switch_lines, more_switch_lines, label_line, placed, SpellsKind}
use Rattle.csub_stmt.specs.declared.opening.Opening.{Opening}
use Rattle.csub_stmt.specs.declared.opening.Opening.TheVariants as openings
use Rattle.csub_expr.specs.Looks.{rest, head_span}
use Rattle.csub_expr.proofs.LawsTokens.{nonempty_append}
use Rattle.csub_stmt.specs.Openings.{opening_at, opening_of, opening_of_mark, opening_of_key}
use Rattle.csub_stmt.specs.StatementDescent.{stmt_span, line, bare_name}
use Rattle.csub_stmt.proofs.BaseSound.{decl_some, span_from}

kind_some : {k : StmtKind} {s : List Token} → SpellsKind k s → 0 < length s
kind_some (block a b h) = omega arith
kind_some (empty a) = omega arith
kind_some (evaluated {s = s} a h) = nonempty_append s _ []
kind_some (labelled n a h) = omega arith
kind_some (if_alone a b c h x) = omega arith
kind_some (if_else a b c d h x o y) = omega arith
kind_some (while_loop a b c h x) = omega arith
kind_some (do_loop a b c d f x h) = omega arith
kind_some (for_loop a b c d p e f x) = omega arith
kind_some (switched a b c d f h x) = omega arith
kind_some (broken_off a b) = omega arith
kind_some (continued a b) = omega arith
kind_some (gone_to n a b) = omega arith
kind_some (returned a b h) = omega arith

pub stmt_some : {x : Stmt} {s : List Token} → SpellsStmt x s → 0 < length s
stmt_some (placed h) = kind_some h

pub stmt_spanned : {x : Stmt} {s : List Token} → SpellsStmt x s → stmt_span x ≡ runs s
stmt_spanned (placed h) = refl

pub decl_spanned : {x : Declare} {s : List Token} → SpellsDecl x s → x.span ≡ runs s
decl_spanned (decl a b h) = refl

pub line_some : {x : Stmt} {s : List Token} → SpellsLine x s → 0 < length s
line_some (declaring h) = decl_some h
line_some (stating h) = stmt_some h

pub switch_line_some : {x : Stmt} {s : List Token} → SpellsSwitchLine x s → 0 < length s
switch_line_some (plain_line h) = line_some h
switch_line_some (label_line (case_label a b h)) = omega arith
switch_line_some (label_line (default_label a b)) = omega arith

-- a statement from the first token of a list to its last
pub line_runs : (k : StmtKind) (i j : ℕ) (ts : List Token) → i ≡ first ts → j ≡ last ts → line k i j ≡ Line k (runs ts)
line_runs k i j ts hi hj = ap (λ (sp : Span). Line k sp) (span_from i j ts hi hj)

pub end_of : (x : Stmt) (s : List Token) → stmt_span x ≡ runs s → (stmt_span x).end ≡ last s
end_of x s e = ap (λ (y : Span). y.end) e

pub stmt_deep : (x : Stmt) → 0 < stmt_depth x
stmt_deep (Line k s) = omega arith

-- lists of lines as the trees hold them
pub lines_of : {xs : List Stmt} {s : List Token} → Each Stmt SpellsLine xs s → SpellsLines (stmts_of xs) s
lines_of no_more = no_lines
lines_of (one_more h hs) = more_lines h (lines_of hs)

pub switch_lines_of : {xs : List Stmt} {s : List Token} → Each Stmt SpellsSwitchLine xs s → SpellsSwitchLines (stmts_of xs) s
switch_lines_of no_more = no_switch_lines
switch_lines_of (one_more h hs) = more_switch_lines h (switch_lines_of hs)

pub stmts_most : (xs : List Stmt) → stmts_depth (stmts_of xs) ≡ most (map stmt_depth xs)
stmts_most [] = refl
stmts_most (x ∷ xs) = ap (λ (n : ℕ). max (stmt_depth x) n) (stmts_most xs)

-- a name as an expression is its token alone
pub record Bare (e : Expr) (s : List Token) (n : Name) : Type 0 where
  pub token : s ≡ id n ∷ []
  pub place : span_of e ≡ n.span

pub bare_is : {rank : _} {e : Expr} {s : List Token} → SpellsExpr rank e s → (n : Name) → bare_name e ≡ Some n → Bare e s n
bare_is (no_assignment h) n p = bare_is h n p
bare_is (assigned m a e l r) n p = absurd cc
bare_is (no_choice h) n p = bare_is h n p
bare_is (choice a b e x y) n p = absurd cc
bare_is (tighter h) n p = bare_is h n p
bare_is (operated {o = Plain o} m a e k l r) n p = absurd cc
bare_is (operated {o = Both} m a e k l r) n p = absurd cc
bare_is (operated {o = Either} m a e k l r) n p = absurd cc
bare_is (prefixed {o = Signed o} m a e h) n p = absurd cc
bare_is (prefixed {o = Counted o} m a e h) n p = absurd cc
bare_is (cast a b w h) n p = absurd cc
bare_is (no_prefix h) n p = bare_is h n p
bare_is (no_postfix h) n p = bare_is h n p
bare_is (indexed a b h i) n p = absurd cc
bare_is (member a m h) n p = absurd cc
bare_is (stepped m a e h) n p = absurd cc
bare_is (named m) n p =
    let same : m ≡ n = cc in
    record { token = ap (λ (x : Name). id x ∷ []) same; place = ap (λ (x : Name). x.span) same }
bare_is (called m a b h) n p = absurd cc
bare_is (number k u a) n p = absurd cc
bare_is (character b a) n p = absurd cc
bare_is (string t a) n p = absurd cc
bare_is (enclosed a b h) n p = absurd cc

-- the first token by what a statement that begins so is
abbrev pub Means : Opening → List Token → Type 0
Means openings.Brace ts = ts ≡ mark marks.OpenBrace (head_span ts) ∷ rest ts
Means openings.Semicolon ts = ts ≡ mark marks.Semicolon (head_span ts) ∷ rest ts
Means openings.If ts = ts ≡ key keys.If (head_span ts) ∷ rest ts
Means openings.While ts = ts ≡ key keys.While (head_span ts) ∷ rest ts
Means openings.Do ts = ts ≡ key keys.Do (head_span ts) ∷ rest ts
Means openings.For ts = ts ≡ key keys.For (head_span ts) ∷ rest ts
Means openings.Switch ts = ts ≡ key keys.Switch (head_span ts) ∷ rest ts
Means openings.Break ts = ts ≡ key keys.Break (head_span ts) ∷ rest ts
Means openings.Continue ts = ts ≡ key keys.Continue (head_span ts) ∷ rest ts
Means openings.Goto ts = ts ≡ key keys.Goto (head_span ts) ∷ rest ts
Means openings.Return ts = ts ≡ key keys.Return (head_span ts) ∷ rest ts
Means openings.Plain ts = Unit {0}

token_is : (t : Token) (ts : List Token) (k : TokenKind) → t.kind ≡ k → t ∷ ts ≡ record { kind = k; span = t.span } ∷ ts
token_is t ts k e = ap (λ (x : TokenKind). record { kind = x; span = t.span } ∷ ts) e

means_mark : (t : Token) (ts : List Token) (m : Mark) → t.kind ≡ kinds.Mark m → Means (opening_of_mark m) (t ∷ ts)
unfolding head_span rest
means_mark t ts marks.OpenBrace e = token_is t ts (kinds.Mark marks.OpenBrace) e
means_mark t ts marks.Semicolon e = token_is t ts (kinds.Mark marks.Semicolon) e
means_mark t ts _ e = tt

means_key : (t : Token) (ts : List Token) (k : Key) → t.kind ≡ kinds.Key k → Means (opening_of_key k) (t ∷ ts)
unfolding head_span rest
means_key t ts keys.If e = token_is t ts (kinds.Key keys.If) e
means_key t ts keys.While e = token_is t ts (kinds.Key keys.While) e
means_key t ts keys.Do e = token_is t ts (kinds.Key keys.Do) e
means_key t ts keys.For e = token_is t ts (kinds.Key keys.For) e
means_key t ts keys.Switch e = token_is t ts (kinds.Key keys.Switch) e
means_key t ts keys.Break e = token_is t ts (kinds.Key keys.Break) e
means_key t ts keys.Continue e = token_is t ts (kinds.Key keys.Continue) e
means_key t ts keys.Goto e = token_is t ts (kinds.Key keys.Goto) e
means_key t ts keys.Return e = token_is t ts (kinds.Key keys.Return) e
means_key t ts _ e = tt

means_kind : (t : Token) (ts : List Token) (k : TokenKind) → t.kind ≡ k → Means (opening_of k) (t ∷ ts)
means_kind t ts (kinds.Mark m) e = means_mark t ts m e
means_kind t ts (kinds.Key k) e = means_key t ts k e
means_kind t ts (kinds.Name n) e = tt
means_kind t ts (kinds.Number n u) e = tt
means_kind t ts (kinds.Char b) e = tt
means_kind t ts (kinds.Text b) e = tt

means : (ts : List Token) → Means (opening_at ts) ts
unfolding opening_at
means [] = tt
means (t ∷ ts) = means_kind t ts t.kind refl

pub opening_means : (ts : List Token) (o : Opening) → opening_at ts ≡ o → Means o ts
opening_means ts o e = subst (λ (p : Opening). Means p ts) e (means ts)
