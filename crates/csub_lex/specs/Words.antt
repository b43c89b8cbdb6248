-- Keywords and names.
use Rattle.std.specs.Prelude.{ℕ, ◌≢◌, List, codes}
use Rattle.csub_lex.specs.declared.token.Key.{Key}
use Rattle.csub_lex.specs.declared.token.Key.TheVariants as keys
use Rattle.csub_lex.specs.declared.token.TokenKind.{TokenKind}
use Rattle.csub_lex.specs.declared.token.TokenKind.TheVariants as kinds

-- the spelling of a keyword (C11 6.4.1)
abbrev pub key_text : Key → List ℕ
key_text keys.Auto = codes "auto"
key_text keys.Break = codes "break"
key_text keys.Case = codes "case"
key_text keys.Char = codes "char"
key_text keys.Const = codes "const"
key_text keys.Continue = codes "continue"
key_text keys.Default = codes "default"
key_text keys.Do = codes "do"
key_text keys.Double = codes "double"
key_text keys.Else = codes "else"
key_text keys.Enum = codes "enum"
key_text keys.Extern = codes "extern"
key_text keys.Float = codes "float"
key_text keys.For = codes "for"
key_text keys.Goto = codes "goto"
key_text keys.If = codes "if"
key_text keys.Inline = codes "inline"
key_text keys.Int = codes "int"
key_text keys.Long = codes "long"
key_text keys.Register = codes "register"
key_text keys.Restrict = codes "restrict"
key_text keys.Return = codes "return"
key_text keys.Short = codes "short"
key_text keys.Signed = codes "signed"
key_text keys.Sizeof = codes "sizeof"
key_text keys.Static = codes "static"
key_text keys.Struct = codes "struct"
key_text keys.Switch = codes "switch"
key_text keys.Typedef = codes "typedef"
key_text keys.Union = codes "union"
key_text keys.Unsigned = codes "unsigned"
key_text keys.Void = codes "void"
key_text keys.Volatile = codes "volatile"
key_text keys.While = codes "while"
key_text keys.Alignas = codes "_Alignas"
key_text keys.Alignof = codes "_Alignof"
key_text keys.Atomic = codes "_Atomic"
key_text keys.Bool = codes "_Bool"
key_text keys.Complex = codes "_Complex"
key_text keys.Generic = codes "_Generic"
key_text keys.Imaginary = codes "_Imaginary"
key_text keys.Noreturn = codes "_Noreturn"
key_text keys.StaticAssert = codes "_Static_assert"
key_text keys.ThreadLocal = codes "_Thread_local"

-- a word is a keyword where it is spelled as one, and else a name (C11 6.4.1p2, 6.4.2.1)
pub data Word : List ℕ → TokenKind → Type 0 where
  keyword : (key : Key) → Word (key_text key) (kinds.Key key)
  name : (text : List ℕ) → ((key : Key) → text ≢ key_text key) → Word text (kinds.Name text)
