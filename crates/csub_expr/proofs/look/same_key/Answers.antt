use Rattle.std.proofs.Common.{◌≡◌, refl}
use denote.Enum.Declared.{tag_of}
use Rattle.csub_lex.specs.declared.token.Key.{Key}
use Rattle.csub_lex.specs.declared.token.Key.TheVariants as keys
use Rattle.csub_lex.specs.contracts.token.Key.{the_type}
use Rattle.csub_expr.specs.Looks.{key_code}
use Rattle.csub_expr.proofs.look.same_key.Goals as goal

-- `==` compares the places that the forms have in the type
numbered : (k : Key) → tag_of the_type k ≡ key_code k
numbered keys.Auto = refl
numbered keys.Break = refl
numbered keys.Case = refl
numbered keys.Char = refl
numbered keys.Const = refl
numbered keys.Continue = refl
numbered keys.Default = refl
numbered keys.Do = refl
numbered keys.Double = refl
numbered keys.Else = refl
numbered keys.Enum = refl
numbered keys.Extern = refl
numbered keys.Float = refl
numbered keys.For = refl
numbered keys.Goto = refl
numbered keys.If = refl
numbered keys.Inline = refl
numbered keys.Int = refl
numbered keys.Long = refl
numbered keys.Register = refl
numbered keys.Restrict = refl
numbered keys.Return = refl
numbered keys.Short = refl
numbered keys.Signed = refl
numbered keys.Sizeof = refl
numbered keys.Static = refl
numbered keys.Struct = refl
numbered keys.Switch = refl
numbered keys.Typedef = refl
numbered keys.Union = refl
numbered keys.Unsigned = refl
numbered keys.Void = refl
numbered keys.Volatile = refl
numbered keys.While = refl
numbered keys.Alignas = refl
numbered keys.Alignof = refl
numbered keys.Atomic = refl
numbered keys.Bool = refl
numbered keys.Complex = refl
numbered keys.Generic = refl
numbered keys.Imaginary = refl
numbered keys.Noreturn = refl
numbered keys.StaticAssert = refl
numbered keys.ThreadLocal = refl

pub returns : goal.returns
returns c = rw (← numbered c.args.a, ← numbered c.args.b) c.eq.ensures
