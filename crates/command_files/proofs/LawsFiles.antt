-- From what is fetched to what the files hold; what is told of a beginning of a file that is longer than such a file may be, or
-- that is the whole file, holds of the file.
use Rattle.std.proofs.Common.{◌≡◌, ℕ, ◌<◌, ◌≤◌, refl, List, length, take, Option, Some, sym, ap, ◌∙◌, subst, arith}
use Rattle.std.proofs.lemmas.List.{length-take}
use Rattle.std.proofs.lemmas.Grind.{common_steps}
use Rattle.dv_outside.specs.Outside.{Files, file_at, IsFetched}
use Rattle.csub_semantics.specs.Syntax.{ProgramTree}
use Rattle.csub_answers.specs.Accepted.{HasCause}
use Rattle.csub_answers.specs.declared.error.SourceError.{SourceError}
use Rattle.csub_answers.specs.declared.error.SourceError.TheVariants as errors
use Rattle.command_refusals.specs.Causes.{source_cause, suite_cause, history_cause}
use Rattle.command_refusals.specs.declared.source.SourceCause.{SourceCause}
use Rattle.command_files.specs.Causes.{NotAccepted, NoSuite, NoHistory}
use Rattle.csub_semantics.specs.Flows.{edge_list}
use Rattle.test_suite.specs.Causes as suites
use Rattle.test_suite.specs.declared.error.SuiteError.{SuiteError}
use Rattle.test_suite.specs.declared.error.SuiteError.TheVariants as suite
use Rattle.test_history.specs.Causes.{HasHistoryCause}
use Rattle.test_history.specs.declared.error.HistoryError.{HistoryError}
use Rattle.test_history.specs.declared.error.HistoryError.TheVariants as history
use Rattle.test_history.specs.declared.version.Version.{Version}
use Rattle.command_refusals.specs.declared.suite.SuiteCause.{SuiteCause}
use Rattle.command_refusals.specs.declared.history.HistoryCause.{HistoryCause}

-- a beginning of a list that is shorter than was asked for is the whole list
pub whole_file : (most : ℕ) (whole bytes : List ℕ) → bytes ≡ take most whole → length bytes < most → bytes ≡ whole
whole_file most whole bytes is short =
    let count : length bytes ≡ length (take most whole) = ap length is in
    grind (arith, common_steps, is, count, short, length-take most whole)

-- what was fetched whole is the file
pub found_file : (told : Option Files) (name : List ℕ) (most : ℕ) (bytes : List ℕ) → IsFetched told name most bytes → length bytes < most → (files : Files) → told ≡ Some files → file_at files name ≡ Some bytes
found_file told name most bytes fetched short files at =
    let file = fetched files at in
    let is : bytes ≡ file.0 = whole_file most file.0 bytes file.2 short in
    file.1 ∙ ap Some (sym is)

-- a beginning that has all that was asked for shows that the list has as much
pub long_file : (most : ℕ) (whole bytes : List ℕ) → bytes ≡ take most whole → most ≤ length bytes → most ≤ length whole
long_file most whole bytes is long =
    let count : length bytes ≡ length (take most whole) = ap length is in
    grind (arith, common_steps, is, count, long, length-take most whole)

-- what is told of a beginning that is longer than a source may be, or is the whole file, holds of the file
module _ (source whole : List ℕ) (cause : SourceCause) (begins : source ≡ take 1048577 whole) (n : NotAccepted source cause) where
  of_whole : length source ≤ 1048576 → NotAccepted whole cause
  of_whole short = subst (λ bytes. NotAccepted bytes cause) (whole_file 1048577 whole source begins (omega (arith, short))) n

  told_by : (error : SourceError) → HasCause source error → source_cause source error ≡ Some cause → NotAccepted whole cause
  told_by (errors.TooLong k) why is =
      let all : 1048577 ≤ length whole = long_file 1048577 whole source begins (omega (arith, why.0)) in
      let long : 1048576 < length whole = omega (arith, all) in
      record {
        none = λ P accepted. let short = accepted.reads.short in absurd (omega (arith, long, short));
        error = errors.TooLong (length whole);
        why = (long, refl);
        is = is;
      }
  told_by (errors.Lex kind at) why is = of_whole why.0
  told_by (errors.Syntax at) why is = of_whole why.short
  told_by (errors.Meaning rule at) why is = of_whole why.reads.short
  told_by (errors.Limit number count) why is = of_whole why.reads.short
  told_by errors.Memory why is = absurd (cc)

  pub not_accepted : NotAccepted whole cause
  not_accepted = told_by n.error n.why n.is

module _ (bytes whole : List ℕ) (cause : SuiteCause) (begins : bytes ≡ take 16777217 whole) (n : NoSuite bytes cause) where
  suite_of_whole : length bytes ≤ 16777216 → NoSuite whole cause
  suite_of_whole short = subst (λ (b : List ℕ). NoSuite b cause) (whole_file 16777217 whole bytes begins (omega (arith, short))) n

  suite_told_by : (error : SuiteError) → suites.HasCause bytes error → suite_cause error ≡ Some cause → NoSuite whole cause
  suite_told_by (suite.TooLong k) why is =
      let all : 16777217 ≤ length whole = long_file 16777217 whole bytes begins (omega (arith, why.0, why.1)) in
      let long : 16777216 < length whole = omega (arith, all) in
      record {
        none = λ tests reads. let short = reads.suite.short in absurd (omega (arith, long, short, ap length reads.says.is));
        error = suite.TooLong (length whole);
        why = (refl, long);
        is = is;
      }
  suite_told_by suite.Memory why is = absurd (cc)
  suite_told_by error why is = suite_of_whole why.0

  pub no_suite_in : NoSuite whole cause
  no_suite_in = suite_told_by n.error n.why n.is

module _ (version : Version) (old bytes whole : List ℕ) (P : ProgramTree) (cause : HistoryCause) (begins : bytes ≡ take 134217729 whole) (n : NoHistory version old bytes P cause) where
  history_of_whole : length bytes ≤ 134217728 → NoHistory version old whole P cause
  history_of_whole short = subst (λ (b : List ℕ). NoHistory version old b P cause) (whole_file 134217729 whole bytes begins (omega (arith, short))) n

  history_told_by : (error : HistoryError) → HasHistoryCause version bytes old (length (edge_list P)) error → history_cause error ≡ Some cause → NoHistory version old whole P cause
  history_told_by (history.TooLong k) why is =
      let all : 134217729 ≤ length whole = long_file 134217729 whole bytes begins (omega (arith, why.0, why.1)) in
      let long : 134217728 < length whole = omega (arith, all) in
      record {
        none = λ h reads. let short = reads.short in absurd (omega (arith, long, short));
        error = history.TooLong (length whole);
        why = (refl, long);
        is = is;
      }
  history_told_by history.Memory why is = absurd (cc)
  history_told_by error why is = history_of_whole why.0

  pub no_history_in : NoHistory version old whole P cause
  no_history_in = history_told_by n.error n.why n.is
