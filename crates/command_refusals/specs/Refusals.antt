-- The lines of refusals.
use Rattle.std.specs.Prelude.{ℕ, List, ◌++◌, codes}
use Rattle.std.specs.Fmt.{decimal}
use Rattle.command_refusals.specs.Causes.{source_text, suite_text, history_text, certificate_text}
use Rattle.command_refusals.specs.declared.refusal.Role.{Role}
use Rattle.command_refusals.specs.declared.refusal.Role.TheVariants as role
use Rattle.command_refusals.specs.declared.refusal.Product.{Product}
use Rattle.command_refusals.specs.declared.refusal.Product.TheVariants as product
use Rattle.command_refusals.specs.declared.refusal.Refusal.{Refusal}
use Rattle.command_refusals.specs.declared.refusal.Refusal.TheVariants as refusal

-- the word for a source in a refusal's line
abbrev pub role_word : Role → List ℕ
role_word role.Source = codes "source"
role_word role.Old = codes "old"
role_word role.New = codes "new"

-- the word for what a command makes
abbrev pub product_word : Product → List ℕ
product_word product.History = codes "history"
product_word product.Certificate = codes "certificate"

-- what stands between `refused: ` and the end of the line
abbrev pub told : Refusal → List ℕ
told refusal.Usage = codes "usage"
told (refusal.Source which cause) = role_word which ++ source_text cause
told (refusal.Suite cause) = codes "suite" ++ suite_text cause
told (refusal.History cause) = codes "history" ++ history_text cause
told (refusal.Certificate cause) = codes "certificate" ++ certificate_text cause
told (refusal.NoTest name) = codes "history no test " ++ name
told refusal.ReadFault = codes "read fault"
told refusal.Memory = codes "memory"
told (refusal.TooMuch which bytes) = product_word which ++ codes " too much " ++ decimal bytes

-- the line of a refusal
abbrev pub refusal_line : Refusal → List ℕ
refusal_line r = codes "refused: " ++ told r ++ codes "\n"
