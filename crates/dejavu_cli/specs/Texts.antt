-- What a command writes.
use Rattle.std.specs.Prelude.{ℕ, ◌≡◌, ◌≤◌, Bool, true, false, List, [], length, Option, Some, None}
use Rattle.dv_outside.specs.Outside.{Answer}
use Rattle.csub_semantics.specs.Syntax.{ProgramTree}
use Rattle.explain_report.specs.Walks.{IsWalkText}
use Rattle.command_words.specs.Words.{Command, record_files, migrate_files, walk_files, select_files, rerun_files, explain_files}
use Rattle.command_words.specs.Words.{carry_files, order_files, certify_files, check_files, gen_numbers}
use Rattle.command_refusals.specs.declared.refusal.Product.{Product}
use Rattle.command_refusals.specs.declared.refusal.Product.TheVariants as product
use Rattle.command_files.specs.Files.{suite_and_one, file_and_one}
use Rattle.command_files.specs.Steps.{most_made}
use Rattle.command_histories.specs.Migrations.{IsMigration}
use Rattle.command_histories.specs.Orders.{IsOrdering}
use Rattle.command_histories.specs.Carried.{IsCarriedText}
use Rattle.command_claims.specs.Certified.{IsCertifiedText}
use Rattle.command_claims.specs.Checked.{IsChecked}
use Rattle.dejavu_cli.specs.Reads.{HasSecond, HasTwo, HasThree}
use Rattle.command_runs.specs.Recorded.{IsRecorded}
use Rattle.command_runs.specs.Select.{IsSelection}
use Rattle.command_runs.specs.Rerun.{IsRerun}
use Rattle.command_runs.specs.Explain.{IsExplained}
use Rattle.command_runs.specs.Generated.{IsGenText}
use Rattle.dejavu_cli.specs.declared.answer.End.{End}
use Rattle.dejavu_cli.specs.declared.answer.End.TheVariants.{Whole, Differs, Open}

-- a command ends otherwise where a test that ran again differs, or where a claim is open
abbrev pub end_of_rerun : Bool → End
end_of_rerun true = Differs
end_of_rerun false = Whole

abbrev pub end_of_check : Bool → End
end_of_check true = Whole
end_of_check false = Open

-- what a text is, by a source with its program and the bytes of a second file
abbrev pub IsOfSecond : List ℕ → List ℕ → ℕ → (List ℕ → List ℕ → ProgramTree → List ℕ → Type 0) → List Answer → List ℕ → Type 0
IsOfSecond source second most IsText seen text = (are : HasSecond source second most seen) × IsText are.source are.bytes are.program text

-- the text that a command says by the files that came, of whatever length, and how it ends
abbrev pub IsSaid : Command → List Answer → End → List ℕ → Type 0
IsSaid (record_files source suite workers) seen end text = (end ≡ Whole) × IsOfSecond source suite suite_and_one IsRecorded seen text
IsSaid (migrate_files old history) seen end text = (end ≡ Whole) × IsOfSecond old history file_and_one IsMigration seen text
IsSaid (walk_files old new) seen end text =
    (end ≡ Whole) × (are : HasTwo old new seen) × IsWalkText are.source are.old are.new text
IsSaid (select_files old new history) seen end text =
    (end ≡ Whole) × (are : HasThree old new history seen) × IsSelection are.source are.bytes are.old are.new text
IsSaid (rerun_files old new history workers) seen end text =
    (differs : Bool) × (end ≡ end_of_rerun differs)
    × (are : HasThree old new history seen) × IsRerun are.source are.bytes are.old are.new differs text
IsSaid (explain_files old new history test) seen end text =
    (end ≡ Whole) × (are : HasThree old new history seen)
    × IsExplained are.source are.new_source are.bytes are.old are.new test text
IsSaid (carry_files old new history workers) seen end text =
    (end ≡ Whole) × (are : HasThree old new history seen)
    × IsCarriedText are.source are.new_source are.bytes are.old are.new text
IsSaid (order_files old new history workers) seen end text =
    (end ≡ Whole) × (are : HasThree old new history seen) × IsOrdering are.source are.bytes are.old are.new text
IsSaid (certify_files old new) seen end text =
    (end ≡ Whole) × (are : HasTwo old new seen) × IsCertifiedText are.source are.new_source are.old are.new text
IsSaid (check_files old new certificate) seen end text =
    (closed : Bool) × (end ≡ end_of_check closed)
    × (are : HasThree old new certificate seen)
    × IsChecked are.source are.new_source are.bytes are.old are.new closed text
IsSaid (gen_numbers seed size) seen end text = (end ≡ Whole) × (seen ≡ []) × IsGenText seed size text

-- what a command makes that may have 134,217,728 bytes
abbrev pub product_of : Command → Option Product
product_of (record_files source suite workers) = Some product.History
product_of (migrate_files old history) = Some product.History
product_of (carry_files old new history workers) = Some product.History
product_of (certify_files old new) = Some product.Certificate
product_of c = None

abbrev pub Fits : Option Product → List ℕ → Type 0
Fits None text = Unit {0}
Fits (Some which) text = length text ≤ most_made

-- the text of a command
pub record IsTextOf (c : Command) (seen : List Answer) (end : End) (text : List ℕ) : Type 0 where
  pub said : IsSaid c seen end text
  pub fits : Fits (product_of c) text

-- words that are no command have none
abbrev pub HasTextOf : Option Command → List Answer → End → List ℕ → Type 0
HasTextOf None seen end text = ⊥
HasTextOf (Some c) seen end text = IsTextOf c seen end text
