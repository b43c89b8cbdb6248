-- What a command writes, by the files that are told.
use Rattle.std.specs.Prelude.{ℕ, ◌≡◌, Bool, List, Option, Some, None}
use Rattle.dv_outside.specs.Outside.{Files}
use Rattle.csub_semantics.specs.Syntax.{ProgramTree}
use Rattle.explain_report.specs.Walks.{IsWalkText}
use Rattle.command_words.specs.Words.{Command, record_files, migrate_files, walk_files, select_files, rerun_files, explain_files}
use Rattle.command_words.specs.Words.{carry_files, order_files, certify_files, check_files, gen_numbers}
use Rattle.told_answers.specs.Files.{WhereTold}
use Rattle.command_histories.specs.Migrations.{IsMigration}
use Rattle.command_histories.specs.Orders.{IsOrdering}
use Rattle.command_histories.specs.Carried.{IsCarriedText}
use Rattle.command_claims.specs.Certified.{IsCertifiedText}
use Rattle.command_claims.specs.Checked.{IsChecked}
use Rattle.told_answers.specs.Held.{HasSecond, HasTwo, HasThree}
use Rattle.command_runs.specs.Recorded.{IsRecorded}
use Rattle.command_runs.specs.Select.{IsSelection}
use Rattle.command_runs.specs.Rerun.{IsRerun}
use Rattle.command_runs.specs.Explain.{IsExplained}
use Rattle.command_runs.specs.Generated.{IsGenText}
use Rattle.dejavu_cli.specs.Texts.{Fits, product_of, end_of_rerun, end_of_check}
use Rattle.dejavu_cli.specs.declared.answer.End.{End}
use Rattle.dejavu_cli.specs.declared.answer.End.TheVariants.{Whole}

-- what a text is, by a source with its program and the bytes of a second file
abbrev pub IsOfSecond : Files → List ℕ → List ℕ → (List ℕ → List ℕ → ProgramTree → List ℕ → Type 0) → List ℕ → Type 0
IsOfSecond files source second IsText text = (are : HasSecond files source second) × IsText are.source are.bytes are.program text

-- the text that a command says by its files, of whatever length, and how it ends
abbrev pub IsSaid : Command → Files → End → List ℕ → Type 0
IsSaid (record_files source suite workers) files end text = (end ≡ Whole) × IsOfSecond files source suite IsRecorded text
IsSaid (migrate_files old history) files end text = (end ≡ Whole) × IsOfSecond files old history IsMigration text
IsSaid (walk_files old new) files end text =
    (end ≡ Whole) × (are : HasTwo files old new) × IsWalkText are.source are.old are.new text
IsSaid (select_files old new history) files end text =
    (end ≡ Whole) × (are : HasThree files old new history) × IsSelection are.two.source are.bytes are.two.old are.two.new text
IsSaid (rerun_files old new history workers) files end text =
    (differs : Bool) × (end ≡ end_of_rerun differs)
    × (are : HasThree files old new history) × IsRerun are.two.source are.bytes are.two.old are.two.new differs text
IsSaid (explain_files old new history test) files end text =
    (end ≡ Whole) × (are : HasThree files old new history)
    × IsExplained are.two.source are.two.new_source are.bytes are.two.old are.two.new test text
IsSaid (carry_files old new history workers) files end text =
    (end ≡ Whole) × (are : HasThree files old new history)
    × IsCarriedText are.two.source are.two.new_source are.bytes are.two.old are.two.new text
IsSaid (order_files old new history workers) files end text =
    (end ≡ Whole) × (are : HasThree files old new history) × IsOrdering are.two.source are.bytes are.two.old are.two.new text
IsSaid (certify_files old new) files end text =
    (end ≡ Whole) × (are : HasTwo files old new) × IsCertifiedText are.source are.new_source are.old are.new text
IsSaid (check_files old new certificate) files end text =
    (closed : Bool) × (end ≡ end_of_check closed)
    × (are : HasThree files old new certificate)
    × IsChecked are.two.source are.two.new_source are.bytes are.two.old are.two.new closed text
IsSaid (gen_numbers seed size) files end text = (end ≡ Whole) × IsGenText seed size text

-- the text of a command
pub record IsTextOf (c : Command) (files : Files) (end : End) (text : List ℕ) : Type 0 where
  pub said : IsSaid c files end text
  pub fits : Fits (product_of c) text

-- the text of a command, where the files are told, which `gen` doesn't ask for; words that are no command have none
abbrev pub HasTextOf : Option Command → Option Files → End → List ℕ → Type 0
HasTextOf None told end text = ⊥
HasTextOf (Some (gen_numbers seed size)) told end text = (end ≡ Whole) × IsGenText seed size text
HasTextOf (Some c) told end text = WhereTold told (λ files. IsTextOf c files end text)
