-- Which tokens spell initialisers and declarations: one case for each production (C11 6.7).
use Rattle.std.specs.Prelude.{Bool, true, false, List, [], ◌∷◌, ◌++◌, Option, Some, None}
use Rattle.csub_text.specs.declared.span.Span.{Span}
use Rattle.csub_lex.specs.declared.token.Key.TheVariants as keys
use Rattle.csub_lex.specs.declared.token.Mark.TheVariants as marks
use Rattle.csub_lex.specs.declared.token.Token.{Token}
use Rattle.csub_tree.specs.declared.name.Name.{Name}
use Rattle.csub_tree.specs.declared.name.TypeName.{TypeName}
use Rattle.csub_tree.specs.declared.name.TypeName.TheVariants as types
use Rattle.csub_tree.specs.Expressions.{Expr}
use Rattle.csub_tree.specs.Declarations.{Init, Inits, One, Listed, NoInits, MoreInits, Declarator, Declare, Param, Head}
use Rattle.csub_tree.specs.Tokens.{mark, key, id, runs}
use Rattle.csub_tree.specs.Lists.{Each, Separated, Optional, Trailing}
use Rattle.csub_tree.specs.SpellsExpressions.{SpellsExpr, SpellsNumber, assignment, conditional}

-- "{" some tokens "}"
abbrev pub braced : Span → List Token → Span → List Token
braced a s b = mark marks.OpenBrace a ∷ (s ++ mark marks.CloseBrace b ∷ [])

mutual
  -- init = assign | "{" init ("," init)* [","] "}" (6.7.9)
  pub data SpellsInit : Init → List Token → Type 0 where
    one : {e : Expr} {s : List Token} → SpellsExpr assignment e s → SpellsInit (One e) s
    listed : {is : Inits} {s t : List Token} (a b : Span) → SpellsInits is s → Trailing t
        → SpellsInit (Listed is (runs (braced a (s ++ t) b))) (braced a (s ++ t) b)

  -- init ("," init)*
  pub data SpellsInits : Inits → List Token → Type 0 where
    last_init : {i : Init} {s : List Token} → SpellsInit i s → SpellsInits (MoreInits i NoInits) s
    next_init : {i : Init} {is : Inits} {s t : List Token} (a : Span) → SpellsInit i s → SpellsInits is t
        → SpellsInits (MoreInits i is) (s ++ mark marks.Comma a ∷ t)

-- base = number | "struct" ID (6.7.2)
pub data SpellsBase : TypeName → List Token → Type 0 where
  numeric : {n : TypeName} {s : List Token} → SpellsNumber n s → SpellsBase n s
  structure : (a : Span) (n : Name) → SpellsBase (types.Struct n) (key keys.Struct a ∷ id n ∷ [])

-- "[" cond "]"
pub data SpellsLength : Expr → List Token → Type 0 where
  bracketed : {e : Expr} {s : List Token} (a b : Span) → SpellsExpr conditional e s
      → SpellsLength e (mark marks.OpenBracket a ∷ (s ++ mark marks.CloseBracket b ∷ []))

-- slot = ID ("[" cond "]")* (6.7.6): the declarator without an initialiser
pub data SpellsSlot : Declarator → List Token → Type 0 where
  slot : {es : List Expr} {s : List Token} (n : Name) → Each Expr SpellsLength es s → SpellsSlot (record { name = n; dims = es; init = None }) (id n ∷ s)

-- var = slot ["=" init] (6.7.9)
pub data SpellsVar : Declarator → List Token → Type 0 where
  no_init : {d : Declarator} {s : List Token} → SpellsSlot d s → SpellsVar d s
  with_init : {i : Init} {n : Name} {es : List Expr} {s t : List Token} (a : Span)
      → SpellsSlot (record { name = n; dims = es; init = None }) s → SpellsInit i t
      → SpellsVar (record { name = n; dims = es; init = Some i }) (s ++ mark marks.Equal a ∷ t)

-- field = base slot ("," slot)* ";" (6.7.2.1)
pub data SpellsField : Declare → List Token → Type 0 where
  field : {b : TypeName} {ds : List Declarator} {s t : List Token} (a : Span) → SpellsBase b s → Separated Declarator SpellsSlot ds t
      → SpellsField (record { base = b; vars = ds; span = runs (s ++ t ++ mark marks.Semicolon a ∷ []) }) (s ++ t ++ mark marks.Semicolon a ∷ [])

-- decl = base var ("," var)* ";" (6.7)
pub data SpellsDecl : Declare → List Token → Type 0 where
  decl : {b : TypeName} {ds : List Declarator} {s t : List Token} (a : Span) → SpellsBase b s → Separated Declarator SpellsVar ds t
      → SpellsDecl (record { base = b; vars = ds; span = runs (s ++ t ++ mark marks.Semicolon a ∷ []) }) (s ++ t ++ mark marks.Semicolon a ∷ [])

-- ["[" [cond] "]"] of a parameter: whether there are brackets, and the length in them
pub data SpellsBrackets : Bool → Option Expr → List Token → Type 0 where
  no_brackets : SpellsBrackets false None []
  brackets : {e : Option Expr} {s : List Token} (a b : Span) → Optional Expr (SpellsExpr conditional) e s
      → SpellsBrackets true e (mark marks.OpenBracket a ∷ (s ++ mark marks.CloseBracket b ∷ []))

-- ID
pub data SpellsName : Name → List Token → Type 0 where
  identifier : (n : Name) → SpellsName n (id n ∷ [])

-- param = base [ID] ["[" [cond] "]"] (6.7.6.3)
pub data SpellsParam : Param → List Token → Type 0 where
  param : {b : TypeName} {n : Option Name} {array : Bool} {e : Option Expr} {s t u : List Token} → SpellsBase b s
      → Optional Name SpellsName n t → SpellsBrackets array e u
      → SpellsParam (record { base = b; name = n; array = array; length = e; span = runs (s ++ t ++ u) }) (s ++ t ++ u)

-- ["void" | param ("," param)*]: an empty list means no parameters, as `void` does
pub data SpellsParams : List Param → List Token → Type 0 where
  empty : SpellsParams [] []
  void : (a : Span) → SpellsParams [] (key keys.Void a ∷ [])
  params : {ps : List Param} {s : List Token} → Separated Param SpellsParam ps s → SpellsParams ps s

-- "void" | number
pub data SpellsResult : TypeName → List Token → Type 0 where
  nothing : (a : Span) → SpellsResult types.Void (key keys.Void a ∷ [])
  value : {n : TypeName} {s : List Token} → SpellsNumber n s → SpellsResult n s

-- head = ("void" | number) ID "(" ["void" | param ("," param)*] ")" (6.7.6.3)
pub data SpellsHead : Head → List Token → Type 0 where
  head : {r : TypeName} {ps : List Param} {s t : List Token} (n : Name) (a b : Span) → SpellsResult r s → SpellsParams ps t
      → SpellsHead (record { result = r; name = n; params = ps }) (s ++ id n ∷ mark marks.OpenParen a ∷ (t ++ mark marks.CloseParen b ∷ []))
