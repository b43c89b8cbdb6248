-- The names of functions in what the tokens of a text spell begin with a letter or `_`, so none is `#start`.
use Rattle.std.proofs.Common.{◌≢◌, ℕ, Bool, false, List, [], ◌∷◌, ◌++◌, IsTrue, Option, Some, None, subst}
use Rattle.csub_lex.specs.declared.token.Token.{Token}
use Rattle.csub_lex.specs.declared.token.TokenKind.{TokenKind}
use Rattle.csub_lex.specs.declared.token.TokenKind.TheVariants as kinds
use Rattle.csub_lex.specs.Bytes.{is_letter}
use Rattle.csub_lex.specs.Words.{Word, keyword, name}
use Rattle.csub_lex.specs.Pieces.{Piece, blank, line_comment, comment, include_line, word, number, character, string, punctuator}
use Rattle.csub_lex.specs.Tokens.{Tokens, ends, skips, takes}
use Rattle.csub_tree.specs.Declarations.{Head}
use Rattle.csub_tree.specs.Units.{Item, Struct, Enum, Object, Prototype, Function, Source}
use Rattle.csub_tree.specs.Lists.{Each, no_more, one_more}
use Rattle.csub_tree.specs.SpellsDeclarations.{SpellsHead, head}
use Rattle.csub_tree.specs.Spells.{SpellsItem, struct, enum, object, prototype, function, Spells, unit}
use Rattle.csub_semantics.specs.Flows.{start_name}

-- ---- tokens

abbrev begins : List ℕ → Bool
begins [] = false
begins (b ∷ bs) = is_letter b

-- a name begins as names do
abbrev IsNamed : TokenKind → Type 0
IsNamed (kinds.Key k) = Unit {0}
IsNamed (kinds.Name text) = IsTrue (begins text)
IsNamed (kinds.Number n u) = Unit {0}
IsNamed (kinds.Char b) = Unit {0}
IsNamed (kinds.Text t) = Unit {0}
IsNamed (kinds.Mark m) = Unit {0}

abbrev IsNamedMaybe : Option TokenKind → Type 0
IsNamedMaybe None = Unit {0}
IsNamedMaybe (Some kind) = IsNamed kind

abbrev AreNamed : List Token → Type 0
AreNamed [] = Unit {0}
AreNamed (t ∷ ts) = IsNamed t.kind × AreNamed ts

of_word : (text : List ℕ) (kind : TokenKind) → Word text kind → IsTrue (begins text) → IsNamed kind
of_word text kind (keyword k) h = tt
of_word text kind (name t n) h = h

of_piece : (before text after : List ℕ) (o : Option TokenKind) → Piece before text after o → IsNamedMaybe o
of_piece before text after o (blank b a e) = tt
of_piece before text after o (line_comment body a r s) = tt
of_piece before text after o (comment body a n) = tt
of_piece before text after o (include_line g1 g2 h g3 a b r1 r2 d r3 e) = tt
of_piece before text after o (word b bs a kind l r s w) = of_word (b ∷ bs) kind w l
of_piece before text after o (number b bs a v u d r s n) = tt
of_piece before text after o (character t a v c) = tt
of_piece before text after o (string t a bs c) = tt
of_piece before text after o (punctuator m a l n) = tt

of_tokens : (before bytes : List ℕ) (ts : List Token) → Tokens before bytes ts → AreNamed ts
of_tokens before bytes ts ends = tt
of_tokens before bytes ts (skips text after {tokens = more} p rest) = of_tokens (before ++ text) after more rest
of_tokens before bytes ts (takes text after kind {tokens = more} p rest) =
    (of_piece before text after (Some kind) p, of_tokens (before ++ text) after more rest)

left_named : (ss ts : List Token) → AreNamed (ss ++ ts) → AreNamed ss
left_named [] ts h = tt
left_named (s ∷ ss) ts h = (h.0, left_named ss ts h.1)

right_named : (ss ts : List Token) → AreNamed (ss ++ ts) → AreNamed ts
right_named [] ts h = h
right_named (s ∷ ss) ts h = right_named ss ts h.1

-- ---- units

of_head : (h : Head) (ts : List Token) → SpellsHead h ts → AreNamed ts → IsTrue (begins h.name.text)
of_head h ts (head {s = s} {t = t} n a b r ps) named = (right_named s _ named).0

-- no function has the name of `#start`
abbrev pub IsOther : Item → Type 0
IsOther (Struct tag ds) = Unit {0}
IsOther (Enum tag cs) = Unit {0}
IsOther (Object d) = Unit {0}
IsOther (Prototype h) = Unit {0}
IsOther (Function h body s) = h.name.text ≢ start_name

abbrev pub AreOther : List Item → Type 0
AreOther [] = Unit {0}
AreOther (i ∷ rest) = IsOther i × AreOther rest

another : (a : List ℕ) → IsTrue (begins a) → a ≢ start_name
another a h e = let no : IsTrue (begins start_name) = subst (λ b. IsTrue (begins b)) e h in absurd (cc)

of_item : (i : Item) (ts : List Token) → SpellsItem i ts → AreNamed ts → IsOther i
of_item i ts (struct n a b c e ds) named = tt
of_item i ts (enum a b c d n cs t) named = tt
of_item i ts (object d) named = tt
of_item i ts (prototype a h) named = tt
of_item i ts (function {h = h} {s = s} a b spelled lines) named = another h.name.text (of_head h s spelled (left_named s _ named))

of_items : (items : List Item) (ts : List Token) → Each Item SpellsItem items ts → AreNamed ts → AreOther items
of_items items ts no_more named = tt
of_items items ts (one_more {x = i} {xs = rest} {s = s} {t = t} this later) named =
    (of_item i s this (left_named s t named), of_items rest t later (right_named s t named))

of_unit : (u : Source) (ts : List Token) → Spells u ts → AreNamed ts → AreOther u.items
of_unit u ts (unit {is = items} {s = s} each) named = of_items items s each named

-- where the tokens of a text spell the source
pub are_other : (bytes : List ℕ) (ts : List Token) (u : Source) → Tokens [] bytes ts → Spells u ts → AreOther u.items
are_other bytes ts u cut spelled = of_unit u ts spelled (of_tokens [] bytes ts cut)
