-- The place of the first fault of what a source spells lies in the source. Crates above cite this.
use Rattle.std.proofs.Common.{◌≡◌, ℕ, List, [], length, Some}
use Rattle.csub_lex.specs.declared.token.Token.{Token}
use Rattle.csub_lex.specs.Tokens.{Tokens}
use Rattle.csub_tree.specs.Units.{Source}
use Rattle.csub_tree.specs.Spells.{Spells}
use Rattle.csub_rules.specs.declared.fault.Fault.{Fault}
use Rattle.csub_rules.specs.Units.{unit_fault}
use Rattle.fault_places.specs.Within.{IsWithin}
use Rattle.fault_places.proofs.LawsFaults.{fault_within}
use Rattle.fault_places.proofs.LawsSpelled.{spans_within}

pub place_within : (bytes : List ℕ) (tokens : List Token) (u : Source) (f : Fault) → Tokens [] bytes tokens → Spells u tokens
    → unit_fault u ≡ Some f → IsWithin (length bytes) f.span
place_within bytes tokens u f cut spelled h = fault_within (length bytes) u f (spans_within bytes tokens u cut spelled) h
