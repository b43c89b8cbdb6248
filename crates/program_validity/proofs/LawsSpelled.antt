-- In what the tokens of a text spell no function is named `#start`.
use Rattle.std.proofs.Common.{ℕ, Bool, true, false, List, [], ◌∷◌, IsTrue, not, bytes_eq, refl}
use Rattle.std.specs.Prelude.{◌||◌}
use Rattle.csub_lex.specs.declared.token.Token.{Token}
use Rattle.csub_lex.specs.Tokens.{Tokens}
use Rattle.csub_tree.specs.Units.{Item, Struct, Enum, Object, Prototype, Function, Source}
use Rattle.csub_tree.specs.Spells.{Spells}
use Rattle.csub_semantics.specs.Flows.{start_name}
use Rattle.csub_rules.specs.Labels.{stands_in}
use Rattle.csub_rules.specs.Files.{File, no_file}
use Rattle.csub_rules.specs.Items.{past_item, past_items}
use Rattle.program_validity.specs.Names.{NoneIsStart}
use Rattle.program_validity.proofs.Lists.{same_name}
use Rattle.program_validity.proofs.Spelled.{AreOther, are_other}

neither_is : (b c : Bool) → (IsTrue b → ⊥) → IsTrue (not c) → IsTrue (not (b || c))
neither_is true c h n = absurd (h refl)
neither_is false c h n = n

none_defined : (file : File) (items : List Item) → AreOther items → IsTrue (not (stands_in start_name file.defined))
    → IsTrue (not (stands_in start_name (past_items file items).defined))
none_defined file [] other n = n
none_defined file (Struct tag ds ∷ rest) other n = none_defined (past_item file (Struct tag ds)) rest other.1 n
none_defined file (Enum tag cs ∷ rest) other n = none_defined (past_item file (Enum tag cs)) rest other.1 n
none_defined file (Object d ∷ rest) other n = none_defined (past_item file (Object d)) rest other.1 n
none_defined file (Prototype h ∷ rest) other n = none_defined (past_item file (Prototype h)) rest other.1 n
none_defined file (Function h body t ∷ rest) other n =
    none_defined (past_item file (Function h body t)) rest other.1
    (neither_is (bytes_eq h.name.text start_name) (stands_in start_name file.defined) (λ e. other.0 (same_name h.name.text start_name e)) n)

pub none_is_start : (bytes : List ℕ) (ts : List Token) (u : Source) → Tokens [] bytes ts → Spells u ts → NoneIsStart u
none_is_start bytes ts u cut spelled = none_defined no_file u.items (are_other bytes ts u cut spelled) refl
