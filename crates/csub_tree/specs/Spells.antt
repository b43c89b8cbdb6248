-- Which tokens spell a unit: one case for each production (C11 6.9).
use Rattle.std.specs.Prelude.{List, [], ◌∷◌, ◌++◌, Option, Some, None}
use Rattle.csub_text.specs.declared.span.Span.{Span}
use Rattle.csub_lex.specs.declared.token.Key.TheVariants as keys
use Rattle.csub_lex.specs.declared.token.Mark.TheVariants as marks
use Rattle.csub_lex.specs.declared.token.Token.{Token}
use Rattle.csub_tree.specs.declared.name.Name.{Name}
use Rattle.csub_tree.specs.Expressions.{Expr}
use Rattle.csub_tree.specs.Declarations.{Declare, Head}
use Rattle.csub_tree.specs.Statements.{Stmts}
use Rattle.csub_tree.specs.Units.{Constant, Item, Struct, Enum, Object, Prototype, Function, Source}
use Rattle.csub_tree.specs.Tokens.{mark, key, id, runs}
use Rattle.csub_tree.specs.Lists.{Each, Separated, Optional, Trailing}
use Rattle.csub_tree.specs.SpellsExpressions.{SpellsExpr, conditional}
use Rattle.csub_tree.specs.SpellsDeclarations.{braced, SpellsField, SpellsDecl, SpellsHead, SpellsName}
use Rattle.csub_tree.specs.SpellsStatements.{SpellsLines}

-- const = ID ["=" cond] (6.7.2.2)
pub data SpellsConstant : Constant → List Token → Type 0 where
  counted : (n : Name) → SpellsConstant (record { name = n; value = None }) (id n ∷ [])
  valued : {e : Expr} {s : List Token} (n : Name) (a : Span) → SpellsExpr conditional e s
      → SpellsConstant (record { name = n; value = Some e }) (id n ∷ mark marks.Equal a ∷ s)

pub data SpellsItem : Item → List Token → Type 0 where
  -- item = "struct" ID "{" field+ "}" ";" (6.7.2.1)
  struct : {d : Declare} {ds : List Declare} {s : List Token} (n : Name) (a b c e : Span) → Each Declare SpellsField (d ∷ ds) s
      → SpellsItem (Struct n (d ∷ ds))
      (key keys.Struct a ∷ id n ∷ mark marks.OpenBrace b ∷ (s ++ mark marks.CloseBrace c ∷ mark marks.Semicolon e ∷ []))
  -- | "enum" [ID] "{" const ("," const)* [","] "}" ";" (6.7.2.2)
  enum : {n : Option Name} {cs : List Constant} {s t u : List Token} (a b c d : Span) → Optional Name SpellsName n s
      → Separated Constant SpellsConstant cs t → Trailing u
      → SpellsItem (Enum n cs) (key keys.Enum a ∷ (s ++ mark marks.OpenBrace b ∷ (t ++ u ++ mark marks.CloseBrace c ∷ mark marks.Semicolon d ∷ [])))
  -- | decl (6.9.2)
  object : {d : Declare} {s : List Token} → SpellsDecl d s → SpellsItem (Object d) s
  -- | head ";" (6.7.6.3)
  prototype : {h : Head} {s : List Token} (a : Span) → SpellsHead h s → SpellsItem (Prototype h) (s ++ mark marks.Semicolon a ∷ [])
  -- | head block (6.9.1)
  function : {h : Head} {ss : Stmts} {s t : List Token} (a b : Span) → SpellsHead h s → SpellsLines ss t
      → SpellsItem (Function h ss (runs (s ++ braced a t b))) (s ++ braced a t b)

-- unit = item* (6.9)
pub data Spells : Source → List Token → Type 0 where
  unit : {is : List Item} {s : List Token} → Each Item SpellsItem is s → Spells (record { items = is }) s
