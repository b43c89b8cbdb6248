-- What a text spells has short lists: each statement and each part has a token or more of its own. Crates above cite this.
use Rattle.std.proofs.Common.{arith, ℕ, ◌≤◌, List, [], ◌∷◌, ◌++◌, All, length, length-append, Option, Some, None}
use Rattle.std.proofs.Math.Nat.{le_trans}
use Rattle.std.proofs.lemmas.List.Elements.{All-nil, All-cons}
use Rattle.csub_text.specs.declared.span.Span.{Span}
use Rattle.csub_lex.specs.declared.token.Key.TheVariants as keys
use Rattle.csub_lex.specs.declared.token.Mark.TheVariants as marks
use Rattle.csub_lex.specs.declared.token.Token.{Token}
use Rattle.csub_types.specs.declared.kind.IntKind.{IntKind}
use Rattle.csub_types.specs.declared.kind.IntKind.TheVariants.{Int}
use Rattle.csub_tree.specs.Declarations.{Init, Declarator, Declare}
use Rattle.csub_tree.specs.Statements.{Stmt, StmtKind, Perhaps, Stmts}
use Rattle.csub_tree.specs.Units.{Item, Source}
use Rattle.csub_tree.specs.Lists.{Each, no_more, one_more, Separated, last_one, before}
use Rattle.csub_tree.specs.Tokens.{mark, key, id, runs}
use Rattle.csub_tree.specs.SpellsDeclarations.{braced, SpellsSlot, SpellsVar, SpellsDecl}
use Rattle.csub_tree.specs.SpellsDeclarations as declarations
use Rattle.csub_tree.specs.SpellsStatements.{SpellsFirst, SpellsLabel, SpellsStmt, SpellsKind, SpellsLine, SpellsLines, SpellsSwitchLine, SpellsSwitchLines}
use Rattle.csub_tree.specs.SpellsStatements as statements
use Rattle.csub_tree.specs.Spells.{SpellsItem, Spells}
use Rattle.csub_tree.specs.Spells as units
use Rattle.csub_objects.specs.Types.{TypeTree}
use Rattle.csub_semantics.specs.Syntax.{FunctionTree}
use Rattle.csub_validity.specs.Valid.{most_entries, stmt_count}
use Rattle.csub_rules.specs.CaseLabels.{switch_kind}
use Rattle.csub_rules.specs.Declarators.{base_type}
use Rattle.csub_rules.specs.ExprSorts.{number_of}
use Rattle.csub_rules.specs.Here.{Here, entering}
use Rattle.csub_rules.specs.Locals.{past_var}
use Rattle.csub_rules.specs.Past.{past, past_perhaps}
use Rattle.csub_rules.specs.Files.{File, no_file}
use Rattle.csub_rules.specs.Items.{past_item, in_function}
use Rattle.csub_resolution.specs.Values.{Defined}
use Rattle.csub_resolution.specs.Lines.{var_parts, vars_parts, declare_parts, first_parts, line, line_kind, lines}
use Rattle.csub_resolution.specs.Programs.{function_by, functions_by, functions_in, defined_in, start, span_of_main, program_of}
use Rattle.program_validity.specs.Short.{ShortStmt, ShortEach, ShortLines, AreShort}

-- ---- lengths

first_few : {m : ℕ} (s t : List Token) → length (s ++ t) ≤ m → length s ≤ m
first_few s t f = omega (arith, length-append s t)

last_few : {m : ℕ} (s t : List Token) → length (s ++ t) ≤ m → length t ≤ m
last_few s t f = omega (arith, length-append s t)

-- behind a token, and behind some tokens and one
later_few : {m : ℕ} (x : Token) (s : List Token) → length (x ∷ s) ≤ m → length s ≤ m
later_few x s f = omega arith

behind_few : {m : ℕ} (s : List Token) (x : Token) (t : List Token) → length (s ++ x ∷ t) ≤ m → length t ≤ m
behind_few s x t f = omega (arith, length-append s (x ∷ t))

-- lists of no more than the most tokens
abbrev Few : List Token → Type 0
Few ts = length ts ≤ most_entries

-- ---- tokens of their own

some_with : (s : List Token) (x : Token) (t : List Token) → 1 ≤ length (s ++ x ∷ t)
some_with s x t = omega (arith, length-append s (x ∷ t))

slot_some : (tree : Declarator) (ts : List Token) → SpellsSlot tree ts → 1 ≤ length ts
slot_some tree ts (declarations.slot n p) = omega arith

var_some : (tree : Declarator) (ts : List Token) → SpellsVar tree ts → 1 ≤ length ts
var_some tree ts (declarations.no_init {d} {s} p) = slot_some d s p
var_some tree ts (declarations.with_init {i} {n} {es} {s} {t} a p q) = some_with s (mark marks.Equal a) t

decl_some : (tree : Declare) (ts : List Token) → SpellsDecl tree ts → 1 ≤ length ts
decl_some tree ts (declarations.decl {b} {ds} {s} {t} a p q) = some_with (s ++ t) (mark marks.Semicolon a) []

kind_some : (kind : StmtKind) (ts : List Token) → SpellsKind kind ts → 1 ≤ length ts
kind_some kind ts (statements.block a b p) = omega arith
kind_some kind ts (statements.empty a) = omega arith
kind_some kind ts (statements.evaluated {e} {s} a p) = some_with s (mark marks.Semicolon a) []
kind_some kind ts (statements.labelled n a p) = omega arith
kind_some kind ts (statements.if_alone a b c p q) = omega arith
kind_some kind ts (statements.if_else a b c d p q ended r) = omega arith
kind_some kind ts (statements.while_loop a b c p q) = omega arith
kind_some kind ts (statements.do_loop a b c d h p q) = omega arith
kind_some kind ts (statements.for_loop a b c d p q r w) = omega arith
kind_some kind ts (statements.switched a b c d h p q) = omega arith
kind_some kind ts (statements.broken_off a b) = omega arith
kind_some kind ts (statements.continued a b) = omega arith
kind_some kind ts (statements.gone_to n a b) = omega arith
kind_some kind ts (statements.returned a b p) = omega arith

stmt_some : (tree : Stmt) (ts : List Token) → SpellsStmt tree ts → 1 ≤ length ts
stmt_some tree ts (statements.placed {k} {s} p) = kind_some k s p

line_some : (tree : Stmt) (ts : List Token) → SpellsLine tree ts → 1 ≤ length ts
line_some tree ts (statements.declaring {d} {s} p) = decl_some d s p
line_some tree ts (statements.stating {x} {s} p) = stmt_some x s p

label_some : (kind : StmtKind) (ts : List Token) → SpellsLabel kind ts → 1 ≤ length ts
label_some kind ts (statements.case_label a b p) = omega arith
label_some kind ts (statements.default_label a b) = omega arith

case_some : (tree : Stmt) (ts : List Token) → SpellsSwitchLine tree ts → 1 ≤ length ts
case_some tree ts (statements.plain_line {x} {s} p) = line_some x s p
case_some tree ts (statements.label_line {k} {s} p) = label_some k s p

module _ (defined : List Defined) where
  -- ---- declarations

  var_count : (here : Here) (base : Option TypeTree) (d : Declarator) (o : Option Init) → length (var_parts defined here base d o) ≤ 1
  var_count here base d None = omega arith
  var_count here base d (Some x) = omega arith

  vars_count : (here : Here) (base : Option TypeTree) (ds : List Declarator) (ts : List Token) → Separated Declarator SpellsVar ds ts
      → length (vars_parts defined here base ds) ≤ length ts
  vars_count here base ds ts (last_one {x} {s} p) =
      omega (arith, length-append (var_parts defined here base x x.init) [], var_count here base x x.init, var_some x s p)
  vars_count here base ds ts (before {x} {xs} {s} {t} a p q) =
      omega (
        arith,
        length-append (var_parts defined here base x x.init) (vars_parts defined (past_var here base x) base xs),
        length-append s (mark marks.Comma a ∷ t),
        var_count here base x x.init,
        var_some x s p,
        vars_count (past_var here base x) base xs t q,
      )

  decl_count : (here : Here) (d : Declare) (ts : List Token) → SpellsDecl d ts → length (declare_parts defined here d) ≤ length ts
  decl_count here d ts (declarations.decl {b} {ds} {s} {t} a p q) =
      omega (
        arith,
        length-append (s ++ t) (mark marks.Semicolon a ∷ []),
        length-append s t,
        vars_count here (base_type here.scope b) ds t q,
      )

  module _ (result : Option IntKind) where
    -- ---- lists

    first_count : (here : Here) (tree : Perhaps) (ts : List Token) → SpellsFirst tree ts → length (first_parts defined result here tree) ≤ length ts
    first_count here tree ts (statements.first_declared {d} {s} p) = decl_count here d s p
    first_count here tree ts (statements.first_evaluated {e} {s} a p) = some_with s (mark marks.Semicolon a) []
    first_count here tree ts (statements.first_empty a) = omega arith

    lines_count : (kind : IntKind) (here : Here) (trees : Stmts) (ts : List Token) → SpellsLines trees ts
        → stmt_count (lines defined result kind here trees) ≤ length ts
    lines_count kind here trees ts statements.no_lines = omega arith
    lines_count kind here trees ts (statements.more_lines {x} {xs} {s} {t} p q) =
        omega (arith, length-append s t, line_some x s p, lines_count kind (past here x) xs t q)

    cases_count : (kind : IntKind) (here : Here) (trees : Stmts) (ts : List Token) → SpellsSwitchLines trees ts
        → stmt_count (lines defined result kind here trees) ≤ length ts
    cases_count kind here trees ts statements.no_switch_lines = omega arith
    cases_count kind here trees ts (statements.more_switch_lines {x} {xs} {s} {t} p q) =
        omega (arith, length-append s t, case_some x s p, cases_count kind (past here x) xs t q)

    -- ---- statements

    label_short : (kind : IntKind) (here : Here) (k : StmtKind) (at : Span) (ts : List Token) → SpellsLabel k ts
        → ShortStmt (line_kind defined result kind here k at)
    label_short kind here k at ts (statements.case_label a b p) = tt
    label_short kind here k at ts (statements.default_label a b) = tt

    mutual
      stmt_short : (kind : IntKind) (here : Here) (tree : Stmt) (ts : List Token) → SpellsStmt tree ts → Few ts
          → ShortStmt (line defined result kind here tree)
      stmt_short kind here tree ts (statements.placed {k} {s} p) f = kind_short kind here k (runs s) s p f

      kind_short : (kind : IntKind) (here : Here) (k : StmtKind) (at : Span) (ts : List Token) → SpellsKind k ts → Few ts
          → ShortStmt (line_kind defined result kind here k at)
      kind_short kind here k at ts (statements.block {ss} {s} a b p) f =
          let inside = first_few s (mark marks.CloseBrace b ∷ []) (later_few (mark marks.OpenBrace a) (s ++ mark marks.CloseBrace b ∷ []) f) in
          (le_trans (lines_count Int (entering here) ss s p) inside, lines_short Int (entering here) ss s p inside)
      kind_short kind here k at ts (statements.empty a) f = omega arith
      kind_short kind here k at ts (statements.evaluated {e} {s} a p) f = le_trans (some_with s (mark marks.Semicolon a) []) f
      kind_short kind here k at ts (statements.labelled {x} {s} n a p) f =
          stmt_short Int here x s p (behind_few (id n ∷ []) (mark marks.Colon a) s f)
      kind_short kind here k at ts (statements.if_alone {e} {x} {s} {t} a b c p q) f =
          (stmt_short Int here x t q (behind_few (key keys.If a ∷ mark marks.OpenParen b ∷ s) (mark marks.CloseParen c) t f), tt)
      kind_short kind here k at ts (statements.if_else {e} {x} {y} {s} {t} {u} a b c d p q ended w) f =
          let behind = behind_few (key keys.If a ∷ mark marks.OpenParen b ∷ s) (mark marks.CloseParen c) (t ++ key keys.Else d ∷ u) f in (
            stmt_short Int here x t q (first_few t (key keys.Else d ∷ u) behind),
            stmt_short Int (past here x) y u w (behind_few t (key keys.Else d) u behind),
          )
      kind_short kind here k at ts (statements.while_loop {e} {x} {s} {t} a b c p q) f =
          stmt_short Int here x t q (behind_few (key keys.While a ∷ mark marks.OpenParen b ∷ s) (mark marks.CloseParen c) t f)
      kind_short kind here k at ts (statements.do_loop {e} {x} {s} {t} a b c d h p q) f =
          let behind : List Token = key keys.While b ∷ mark marks.OpenParen c ∷ (t ++ mark marks.CloseParen d ∷ mark marks.Semicolon h ∷ []) in
          stmt_short Int here x s p (first_few s behind (later_few (key keys.Do a) (s ++ behind) f))
      kind_short kind here k at ts (statements.for_loop {p} {x} {s} {t} {u} {v} a b c d h i j w) f =
          let third : List Token = u ++ mark marks.CloseParen d ∷ v in
          let second : List Token = t ++ mark marks.Semicolon c ∷ third in
          let in_head = last_few (key keys.For a ∷ mark marks.OpenParen b ∷ []) (s ++ second) f in
          let in_third = behind_few t (mark marks.Semicolon c) third (last_few s second in_head) in (
            le_trans (first_count (entering here) p s h) (first_few s second in_head),
            stmt_short Int (past_perhaps (entering here) p) x v w (behind_few u (mark marks.CloseParen d) v in_third),
          )
      kind_short kind here k at ts (statements.switched {e} {ss} {s} {t} a b c d h p q) f =
          let head : List Token = key keys.Switch a ∷ mark marks.OpenParen b ∷ s in
          let behind : List Token = t ++ mark marks.CloseBrace h ∷ [] in
          let inside = first_few t (mark marks.CloseBrace h ∷ []) (later_few (mark marks.OpenBrace d) behind
          (behind_few head (mark marks.CloseParen c) (mark marks.OpenBrace d ∷ behind) f)) in (
            le_trans (cases_count (switch_kind here.scope e) (entering here) ss t q) inside,
            cases_short (switch_kind here.scope e) (entering here) ss t q inside,
          )
      kind_short kind here k at ts (statements.broken_off a b) f = tt
      kind_short kind here k at ts (statements.continued a b) f = tt
      kind_short kind here k at ts (statements.gone_to n a b) f = tt
      kind_short kind here k at ts (statements.returned {e} {s} a b p) f =
          le_trans (some_with [] (key keys.Return a) (s ++ mark marks.Semicolon b ∷ [])) f

      line_short : (kind : IntKind) (here : Here) (tree : Stmt) (ts : List Token) → SpellsLine tree ts → Few ts
          → ShortStmt (line defined result kind here tree)
      line_short kind here tree ts (statements.declaring {d} {s} p) f = le_trans (decl_count here d s p) f
      line_short kind here tree ts (statements.stating {x} {s} p) f = stmt_short kind here x s p f

      lines_short : (kind : IntKind) (here : Here) (trees : Stmts) (ts : List Token) → SpellsLines trees ts → Few ts
          → ShortEach (lines defined result kind here trees)
      lines_short kind here trees ts statements.no_lines f = tt
      lines_short kind here trees ts (statements.more_lines {x} {xs} {s} {t} p q) f =
          (line_short kind here x s p (first_few s t f), lines_short kind (past here x) xs t q (last_few s t f))

      case_short : (kind : IntKind) (here : Here) (tree : Stmt) (ts : List Token) → SpellsSwitchLine tree ts → Few ts
          → ShortStmt (line defined result kind here tree)
      case_short kind here tree ts (statements.plain_line {x} {s} p) f = line_short kind here x s p f
      case_short kind here tree ts (statements.label_line {k} {s} p) f = label_short kind here k (runs s) s p

      cases_short : (kind : IntKind) (here : Here) (trees : Stmts) (ts : List Token) → SpellsSwitchLines trees ts → Few ts
          → ShortEach (lines defined result kind here trees)
      cases_short kind here trees ts statements.no_switch_lines f = tt
      cases_short kind here trees ts (statements.more_switch_lines {x} {xs} {s} {t} p q) f =
          (case_short kind here x s p (first_few s t f), cases_short kind (past here x) xs t q (last_few s t f))

  -- ---- units

  -- the functions of one item, before others
  before_short : (file : File) (i : Item) (ts : List Token) (fs : List FunctionTree) → SpellsItem i ts → Few ts
      → All (λ (g : FunctionTree). ShortLines g.body) fs → All (λ (g : FunctionTree). ShortLines g.body) (functions_by defined file i ++ fs)
  before_short file i ts fs (units.struct n a b c e p) f rest = rest
  before_short file i ts fs (units.enum a b c d p q w) f rest = rest
  before_short file i ts fs (units.object p) f rest = rest
  before_short file i ts fs (units.prototype a p) f rest = rest
  before_short file i ts fs (units.function {h} {ss} {s} {t} a b p q) f rest =
      let inside = first_few t (mark marks.CloseBrace b ∷ []) (behind_few s (mark marks.OpenBrace a) (t ++ mark marks.CloseBrace b ∷ []) f) in
      let here = in_function file.scope h in
      let result = number_of h.result in
      All-cons (λ (g : FunctionTree). ShortLines g.body) (function_by defined file.scope h ss) fs
      (le_trans (lines_count result Int here ss t q) inside, lines_short result Int here ss t q inside) rest

  functions_short : (file : File) (items : List Item) (ts : List Token) → Each Item SpellsItem items ts → Few ts
      → All (λ (g : FunctionTree). ShortLines g.body) (functions_in defined file items)
  functions_short file items ts no_more f = All-nil (λ (g : FunctionTree). ShortLines g.body)
  functions_short file items ts (one_more {x} {xs} {s} {t} p q) f =
      before_short file x s (functions_in defined (past_item file x) xs) p (first_few s t f)
      (functions_short (past_item file x) xs t q (last_few s t f))

start_short : (at : Span) → ShortLines (start at).body
start_short at = (omega arith, (omega arith, tt))

-- what so few tokens spell has short lists
pub short : (u : Source) (ts : List Token) → Spells u ts → length ts ≤ most_entries → AreShort (program_of u)
short u ts (units.unit {is} {s} p) f =
    let defined = defined_in no_file is in
    let functions = functions_in defined no_file is in
    All-cons (λ (g : FunctionTree). ShortLines g.body) (start (span_of_main functions)) functions (start_short (span_of_main functions))
    (functions_short defined no_file is s p f)
