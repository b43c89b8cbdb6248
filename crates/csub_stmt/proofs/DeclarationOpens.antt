-- What bases, declarations, members and parameters begin with, and what may follow their parts.
use Rattle.std.proofs.Common.{◌≡◌, ℕ, ◌<◌, ◌≤◌, List, [], ◌∷◌, ◌++◌, length, Ok, true, false, refl, ◌∙◌, arith, append_assoc}
use Rattle.csub_text.specs.declared.span.Span.{Span}
use Rattle.csub_lex.specs.declared.token.Key.TheVariants as keys
use Rattle.csub_lex.specs.declared.token.Mark.TheVariants as marks
use Rattle.csub_lex.specs.declared.token.Token.{Token}
use Rattle.csub_tree.specs.declared.name.Name.{Name}
use Rattle.csub_tree.specs.declared.name.TypeName.{TypeName}
use Rattle.csub_tree.specs.Expressions.{Expr}
use Rattle.csub_tree.specs.Declarations.{Init, Inits, Declare, Param}
use Rattle.csub_tree.specs.Depth.{init_depth, inits_depth}
use Rattle.csub_tree.specs.Tokens.{mark, id, first, last, runs}
use Rattle.csub_tree.specs.Lists.{Each, no_more, one_more}
use Rattle.csub_tree.specs.SpellsExpressions.{SpellsNumber, char, int, unsigned, unsigned_int}
use Rattle.csub_tree.specs.SpellsDeclarations.{SpellsInit, SpellsInits, one, listed, last_init, next_init, SpellsBase, numeric, structure, SpellsLength, bracketed, SpellsField, field, SpellsDecl, decl, SpellsParam, param}
use Rattle.csub_expr.specs.Looks.{begins, begins_key, begins_number, rest, head_span}
use Rattle.csub_expr.specs.Answers.{expect_name}
use Rattle.csub_expr.proofs.LawsTokens.{first_append}
use Rattle.csub_expr.proofs.LawsExpressions.{depth_pos}
use Rattle.csub_stmt.specs.Openings.{begins_base}
use Rattle.csub_stmt.specs.DeclarationDescent.{from_to, unsigned_at, numeric_at, tag_at, base_at, var_after, var_at, decl_after, decl_behind}
use Rattle.csub_stmt.proofs.ExpressionEnds.{EndsAssignment, ends_comma, ends_semicolon}
use Rattle.csub_stmt.proofs.BaseSound.{span_from}

pub head_start : (ts : List Token) → (head_span ts).start ≡ first ts
unfolding head_span
head_start [] = refl
head_start (t ∷ ts) = refl

-- the place of a list with more behind it
pub span_again : (a : List Token) (r : List Token) (j : ℕ) → 0 < length a → j ≡ last a → from_to (head_span (a ++ r)).start j ≡ runs a
span_again a r j some e = span_from (head_span (a ++ r)).start j a (head_start (a ++ r) ∙ first_append a r some) e

-- bases
pub numeric_reads : {n : TypeName} {s : List Token} → SpellsNumber n s → (r : List Token) → begins_key keys.Int r ≡ false → numeric_at (s ++ r) ≡ Ok ((n, last s), r)
unfolding numeric_at unsigned_at begins_key rest head_span
numeric_reads (char a) r no_int = refl
numeric_reads (int a) r no_int = refl
numeric_reads (unsigned a) r no_int = rw (begins_key, no_int) refl
numeric_reads (unsigned_int a b) r no_int = refl

-- what a number type begins with
pub record Numeric (ts : List Token) : Type 0 where
  pub no_struct : begins_key keys.Struct ts ≡ false
  pub no_enum : begins_key keys.Enum ts ≡ false
  pub no_void : begins_key keys.Void ts ≡ false
  pub is_number : begins_number ts ≡ true
  pub no_close : begins marks.CloseParen ts ≡ false
  pub no_brace : begins marks.CloseBrace ts ≡ false

pub number_opens : {n : TypeName} {s : List Token} → SpellsNumber n s → (r : List Token) → Numeric (s ++ r)
unfolding begins_key begins_number begins
number_opens (char a) r = record { no_struct = refl; no_enum = refl; no_void = refl; is_number = refl; no_close = refl; no_brace = refl }
number_opens (int a) r = record { no_struct = refl; no_enum = refl; no_void = refl; is_number = refl; no_close = refl; no_brace = refl }
number_opens (unsigned a) r = record { no_struct = refl; no_enum = refl; no_void = refl; is_number = refl; no_close = refl; no_brace = refl }
number_opens (unsigned_int a b) r = record { no_struct = refl; no_enum = refl; no_void = refl; is_number = refl; no_close = refl; no_brace = refl }

pub base_reads : {n : TypeName} {s : List Token} → SpellsBase n s → (r : List Token) → begins_key keys.Int r ≡ false → base_at (s ++ r) ≡ Ok ((n, last s), r)
unfolding base_at tag_at begins_key rest expect_name head_span
base_reads (numeric {n = n} {s = s} h) r no_int = rw (begins_key, (number_opens h r).no_struct, numeric_reads h r no_int) refl
base_reads (structure a n) r no_int = refl

-- what a declaration, a member or a parameter begins with
pub record Based (ts : List Token) : Type 0 where
  pub is_base : begins_base ts ≡ true
  pub no_void : begins_key keys.Void ts ≡ false
  pub no_close : begins marks.CloseParen ts ≡ false
  pub no_brace : begins marks.CloseBrace ts ≡ false
  pub no_semicolon : begins marks.Semicolon ts ≡ false
  pub no_else : begins_key keys.Else ts ≡ false
  pub no_case : begins_key keys.Case ts ≡ false
  pub no_default : begins_key keys.Default ts ≡ false

pub base_opens : {n : TypeName} {s : List Token} → SpellsBase n s → (r : List Token) → Based (s ++ r)
unfolding begins_base begins_key begins_number begins
base_opens (numeric (char a)) r = record { is_base = refl; no_void = refl; no_close = refl; no_brace = refl; no_semicolon = refl; no_else = refl; no_case = refl; no_default = refl }
base_opens (numeric (int a)) r = record { is_base = refl; no_void = refl; no_close = refl; no_brace = refl; no_semicolon = refl; no_else = refl; no_case = refl; no_default = refl }
base_opens (numeric (unsigned a)) r = record { is_base = refl; no_void = refl; no_close = refl; no_brace = refl; no_semicolon = refl; no_else = refl; no_case = refl; no_default = refl }
base_opens (numeric (unsigned_int a b)) r = record { is_base = refl; no_void = refl; no_close = refl; no_brace = refl; no_semicolon = refl; no_else = refl; no_case = refl; no_default = refl }
base_opens (structure a n) r = record { is_base = refl; no_void = refl; no_close = refl; no_brace = refl; no_semicolon = refl; no_else = refl; no_case = refl; no_default = refl }

pub decl_opens : {x : Declare} {s : List Token} → SpellsDecl x s → (r : List Token) → Based (s ++ r)
decl_opens (decl {s = s} {t = t} a b h) r = rw (append_assoc (s ++ t) (mark marks.Semicolon a ∷ []) r, append_assoc s t (mark marks.Semicolon a ∷ r)) (base_opens b (t ++ (mark marks.Semicolon a ∷ r)))

pub field_opens : {x : Declare} {s : List Token} → SpellsField x s → (r : List Token) → Based (s ++ r)
field_opens (field {s = s} {t = t} a b h) r = rw (append_assoc (s ++ t) (mark marks.Semicolon a ∷ []) r, append_assoc s t (mark marks.Semicolon a ∷ r)) (base_opens b (t ++ (mark marks.Semicolon a ∷ r)))

pub param_opens : {x : Param} {s : List Token} → SpellsParam x s → (r : List Token) → Based (s ++ r)
param_opens (param {s = s} {t = t} {u = u} b n h) r = rw (append_assoc (s ++ t) u r, append_assoc s t (u ++ r)) (base_opens b (t ++ (u ++ r)))

-- an initialiser is no shallower than an expression in it
mutual
  pub init_deep : {i : Init} {s : List Token} → SpellsInit i s → 2 ≤ init_depth i
  init_deep (one {e = e} h) = omega (arith, depth_pos e)
  init_deep (listed a b h t) = omega (arith, inits_deep h)

  inits_deep : {is : Inits} {s : List Token} → SpellsInits is s → 2 ≤ inits_depth is
  inits_deep (last_init h) = omega (arith, init_deep h)
  inits_deep (next_init a h hs) = omega (arith, init_deep h)

abbrev pub Any : List Token → Type 0
Any r = Unit {0}

-- what may follow a slot, and a declarator with its value
abbrev pub OkaySlot : List Token → Type 0
OkaySlot r = begins marks.OpenBracket r ≡ false

abbrev pub OkayVar : List Token → Type 0
OkayVar r = (begins marks.OpenBracket r ≡ false) × (begins marks.Equal r ≡ false) × EndsAssignment r

pub okay_comma : (a : Span) (r : List Token) → OkayVar (mark marks.Comma a ∷ r)
unfolding begins
okay_comma a r = (refl, refl, ends_comma a r)

pub okay_semicolon : (a : Span) (r : List Token) → OkayVar (mark marks.Semicolon a ∷ r)
unfolding begins
okay_semicolon a r = (refl, refl, ends_semicolon a r)

pub lengths_no_paren : {es : List Expr} {s : List Token} → Each Expr SpellsLength es s → (r : List Token) → begins marks.OpenParen r ≡ false → begins marks.OpenParen (s ++ r) ≡ false
unfolding begins
lengths_no_paren no_more r none = none
lengths_no_paren (one_more (bracketed a b h) hs) r none = refl

pub equal_no_paren : (b : Span) (r : List Token) → begins marks.OpenParen (mark marks.Equal b ∷ r) ≡ false
unfolding begins
equal_no_paren b r = refl

pub equal_okay : (b : Span) (r : List Token) → OkaySlot (mark marks.Equal b ∷ r)
unfolding begins
equal_okay b r = refl

pub var_at_name : (d : ℕ) (n : Name) (u : List Token) → var_at d (id n ∷ u) ≡ var_after d n u
unfolding var_at expect_name rest head_span
var_at_name d n u = refl

pub decl_behind_name : (d : ℕ) (b : TypeName) (start : ℕ) (n : Name) (u : List Token) → decl_behind d b start (id n ∷ u) ≡ decl_after d b start n u
unfolding decl_behind expect_name rest head_span
decl_behind_name d b start n u = refl
