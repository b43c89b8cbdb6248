-- From the files that came, and what is made of them, to the text of a command or to why it isn't done.
use Rattle.std.proofs.Common.{◌≡◌, refl, ℕ, List, [], ◌∷◌, ◌++◌, map, Bool, Option, Some, None, Result, Ok, Err, MatchResult, append-nil, sym, ap, subst}
use Rattle.std.specs.declared.vec.Vec.{Vec}
use Rattle.std.specs.declared.alloc.Global.{Global}
use Rattle.dv_outside.specs.Outside.{Answer}
use Rattle.csub_semantics.specs.Syntax.{ProgramTree, program_tree}
use Rattle.test_history.specs.declared.version.Version.TheVariants.{Third}
use Rattle.explain_report.specs.Walks.{IsWalkText}
use Rattle.command_words.specs.Words.{Command, record_files, migrate_files, walk_files, select_files, rerun_files, explain_files}
use Rattle.command_words.specs.Words.{carry_files, order_files, certify_files, check_files, gen_numbers}
use Rattle.command_refusals.specs.declared.source.SourceCause.{SourceCause}
use Rattle.command_refusals.specs.declared.history.HistoryCause.{HistoryCause}
use Rattle.command_refusals.specs.declared.refusal.Product.TheVariants as product
use Rattle.command_refusals.specs.declared.refusal.Role.{Role}
use Rattle.command_refusals.specs.declared.refusal.Refusal.{Refusal}
use Rattle.command_refusals.specs.declared.refusal.Refusal.TheVariants as refusal
use Rattle.command_files.specs.Files.{source_and_one, suite_and_one, file_and_one, came, Sees, Asks, HasBadSource, HasBadOfTwo, HasFaultOfTwo, HasFaultOfThree, IsVersionsCause, AreRead, IsOpened, IsOpenCause, AreOpened, AreOpenCause}
use Rattle.command_files.specs.Steps.{IsHistoryCause, IsMade, IsTooMuchCause}
use Rattle.command_files.specs.declared.versions.Versions.{Versions}
use Rattle.command_files.specs.declared.opening.OpenedSource.{OpenedSource}
use Rattle.command_files.specs.declared.opening.OpenedVersions.{OpenedVersions}
use Rattle.command_histories.specs.Migrations.{IsMigration, IsMigrationCause}
use Rattle.command_histories.specs.Orders.{IsOrdering}
use Rattle.command_histories.specs.Carried.{IsCarriedText, IsCarriedCause}
use Rattle.command_claims.specs.Certified.{IsCertifiedText}
use Rattle.command_claims.specs.Checked.{IsChecked, IsCheckCause}
use Rattle.dejavu_cli.specs.Reads.{history_of, reads, asks, HasSecond, HasTwo, HasThree}
use Rattle.command_runs.specs.Recorded.{IsRecorded}
use Rattle.command_runs.specs.Select.{IsSelection}
use Rattle.command_runs.specs.Rerun.{IsRerun}
use Rattle.command_runs.specs.Explain.{IsExplained}
use Rattle.command_runs.specs.Generated.{IsGenText}
use Rattle.dejavu_cli.specs.Texts.{HasTextOf, end_of_rerun, end_of_check}
use Rattle.dejavu_cli.specs.Causes.{HasBadSourceOf, HasBadHistory, HasReadFault, HasCause, HasCauseOf}
use Rattle.command_runs.specs.Steps.{IsRecordCause, IsTestCause, IsMadeCause}
use Rattle.dejavu_cli.specs.declared.answer.Answer.{Answer as Answered}
use Rattle.dejavu_cli.specs.declared.answer.End.{End}
use Rattle.dejavu_cli.specs.declared.answer.End.TheVariants.{Whole}

-- a call that saw exactly these files asked for all of them
all_asked : (files : List (List ℕ × ℕ)) (seen whole : List Answer) → seen ≡ whole → files ≡ map (λ (answer : Answer). (answer.0, answer.1)) whole ++ [] → Asks files seen
all_asked files seen whole same is =
    ([], subst (λ (s : List Answer). files ≡ map (λ (answer : Answer). (answer.0, answer.1)) s ++ []) (sym same) is)

module _ (c : Command) (seen : List Answer) where
  -- ---- files that aren't read

  pub second_refused : (which : Role) (s t : List ℕ) (most : ℕ) → asks (reads c) ≡ (s, source_and_one) ∷ (t, most) ∷ []
      → ((named : Role) (why : SourceCause) → (named ≡ which) × HasBadSource s why seen → HasBadSourceOf (reads c) named why seen)
      → (HasFaultOfTwo s t most seen → HasReadFault (reads c) seen) → (r : Refusal) → IsOpenCause which s t most seen r → HasCauseOf c seen r
  second_refused which s t most asked source fault (refusal.Source named why) cause = source named why cause
  second_refused which s t most asked source fault refusal.ReadFault cause = fault cause
  second_refused which s t most asked source fault refusal.Memory cause = subst (λ (files : List (List ℕ × ℕ)). Asks files seen) (sym asked) cause
  second_refused which s t most asked source fault r cause = absurd cause

  pub versions_refused : (o n : List ℕ) → asks (reads c) ≡ (o, source_and_one) ∷ (n, source_and_one) ∷ []
      → ((which : Role) (why : SourceCause) → HasBadOfTwo o n which why seen → HasBadSourceOf (reads c) which why seen)
      → (HasFaultOfTwo o n source_and_one seen → HasReadFault (reads c) seen) → (r : Refusal) → IsVersionsCause o n seen r → HasCauseOf c seen r
  versions_refused o n asked source fault (refusal.Source which why) cause = source which why cause
  versions_refused o n asked source fault refusal.ReadFault cause = fault cause
  versions_refused o n asked source fault refusal.Memory cause = subst (λ (files : List (List ℕ × ℕ)). Asks files seen) (sym asked) cause
  versions_refused o n asked source fault r cause = absurd cause

  pub three_refused : (o n h : List ℕ) → asks (reads c) ≡ (o, source_and_one) ∷ (n, source_and_one) ∷ (h, file_and_one) ∷ []
      → ((which : Role) (why : SourceCause) → HasBadOfTwo o n which why seen → HasBadSourceOf (reads c) which why seen)
      → (HasFaultOfThree o n h file_and_one seen → HasReadFault (reads c) seen) → (r : Refusal) → AreOpenCause o n h file_and_one seen r → HasCauseOf c seen r
  three_refused o n h asked source fault (refusal.Source which why) cause = source which why cause
  three_refused o n h asked source fault refusal.ReadFault cause = fault cause
  three_refused o n h asked source fault refusal.Memory cause = subst (λ (files : List (List ℕ × ℕ)). Asks files seen) (sym asked) cause
  three_refused o n h asked source fault r cause = absurd cause

-- ---- a source and a second file

module _ (seen : List Answer) (s t : List ℕ) (most : ℕ) (opened : OpenedSource) (are : IsOpened s t most seen opened) where
  abbrev second : HasSecond s t most seen
  second = record {
    source = opened.source.items;
    program = program_tree opened.program;
    bytes = opened.bytes.items;
    fetched = are.fetched;
    accepted = are.accepted;
    alone = are.alone;
  }

  two_asked : Asks ((s, source_and_one) ∷ (t, most) ∷ []) seen
  two_asked = all_asked ((s, source_and_one) ∷ (t, most) ∷ []) seen (came s source_and_one opened.source.items ∷ came t most opened.bytes.items ∷ []) are.fetched refl

module _ (seen : List Answer) (s t : List ℕ) (w : ℕ) (opened : OpenedSource) (are : IsOpened s t suite_and_one seen opened) where
  record_refused : (r : Refusal) → IsRecordCause opened.source.items opened.bytes.items (program_tree opened.program) r → HasCauseOf (record_files s t w) seen r
  record_refused (refusal.Suite why) cause = (second seen s t suite_and_one opened are, cause)
  record_refused (refusal.TooMuch which count) cause = (
    ap Some (sym cause.0),
    record {
      bytes = cause.1.bytes;
      text = (refl, (second seen s t suite_and_one opened are, cause.1.text));
      counted = cause.1.counted;
      long = cause.1.long;
    },
  )
  record_refused refusal.Memory cause = two_asked seen s t suite_and_one opened are
  record_refused r cause = absurd cause

  pub recorded : (r : Result (Vec ℕ Global) Refusal)
      → MatchResult r (λ text. IsMade (IsRecorded opened.source.items opened.bytes.items (program_tree opened.program)) text.items) (IsRecordCause opened.source.items opened.bytes.items (program_tree opened.program))
      → MatchResult r (λ text. HasTextOf (Some (record_files s t w)) seen Whole text.items) (HasCauseOf (record_files s t w) seen)
  recorded (Ok text) made = record { said = (refl, (second seen s t suite_and_one opened are, made.text)); fits = made.short }
  recorded (Err r) cause = record_refused r cause

module _ (seen : List Answer) (s t : List ℕ) (opened : OpenedSource) (are : IsOpened s t file_and_one seen opened) where
  migrate_refused : (r : Refusal) → IsMigrationCause opened.source.items opened.bytes.items (program_tree opened.program) r → HasCauseOf (migrate_files s t) seen r
  migrate_refused (refusal.History why) cause = (second seen s t file_and_one opened are, cause)
  migrate_refused (refusal.TooMuch which count) cause = (
    ap Some (sym cause.0),
    record {
      bytes = cause.1.bytes;
      text = (refl, (second seen s t file_and_one opened are, cause.1.text));
      counted = cause.1.counted;
      long = cause.1.long;
    },
  )
  migrate_refused refusal.Memory cause = two_asked seen s t file_and_one opened are
  migrate_refused r cause = absurd cause

  pub migrated : (r : Result (Vec ℕ Global) Refusal)
      → MatchResult r (λ text. IsMade (IsMigration opened.source.items opened.bytes.items (program_tree opened.program)) text.items) (IsMigrationCause opened.source.items opened.bytes.items (program_tree opened.program))
      → MatchResult r (λ text. HasTextOf (Some (migrate_files s t)) seen Whole text.items) (HasCauseOf (migrate_files s t) seen)
  migrated (Ok text) made = record { said = (refl, (second seen s t file_and_one opened are, made.text)); fits = made.short }
  migrated (Err r) cause = migrate_refused r cause

-- ---- two versions

module _ (seen : List Answer) (o n : List ℕ) (v : Versions) (are : AreRead o n seen v) where
  abbrev two : HasTwo o n seen
  two = record {
    source = v.source.items;
    new_source = v.new_source.items;
    old = program_tree v.old;
    new = program_tree v.new;
    fetched = are.fetched;
    sources = are.sources;
  }

  pub both_asked : Asks ((o, source_and_one) ∷ (n, source_and_one) ∷ []) seen
  both_asked =
      all_asked ((o, source_and_one) ∷ (n, source_and_one) ∷ []) seen (came o source_and_one v.source.items ∷ came n source_and_one v.new_source.items ∷ []) are.fetched refl

  pub has_walk : (text : List ℕ) → IsWalkText v.source.items (program_tree v.old) (program_tree v.new) text → HasTextOf (Some (walk_files o n)) seen Whole text
  has_walk text is = record { said = (refl, two, is); fits = tt }

  certify_refused : (r : Refusal) → IsTooMuchCause product.Certificate (IsCertifiedText v.source.items v.new_source.items (program_tree v.old) (program_tree v.new)) r
      → HasCauseOf (certify_files o n) seen r
  certify_refused (refusal.TooMuch which count) cause = (
    ap Some (sym cause.0),
    record { bytes = cause.1.bytes; text = (refl, two, cause.1.text); counted = cause.1.counted; long = cause.1.long },
  )
  certify_refused refusal.Memory cause = both_asked
  certify_refused r cause = absurd cause

  pub certified : (r : Result (Vec ℕ Global) Refusal)
      → MatchResult r (λ text. IsMade (IsCertifiedText v.source.items v.new_source.items (program_tree v.old) (program_tree v.new)) text.items)
      (IsTooMuchCause product.Certificate (IsCertifiedText v.source.items v.new_source.items (program_tree v.old) (program_tree v.new)))
      → MatchResult r (λ text. HasTextOf (Some (certify_files o n)) seen Whole text.items) (HasCauseOf (certify_files o n) seen)
  certified (Ok text) made = record { said = (refl, two, made.text); fits = made.short }
  certified (Err r) cause = certify_refused r cause

-- ---- two versions and a third file

module _ (seen : List Answer) (o n h : List ℕ) (opened : OpenedVersions) (are : AreOpened o n h file_and_one seen opened) where
  abbrev source : List ℕ
  source = opened.versions.source.items

  abbrev source' : List ℕ
  source' = opened.versions.new_source.items

  abbrev bytes : List ℕ
  bytes = opened.bytes.items

  abbrev P : ProgramTree
  P = program_tree opened.versions.old

  abbrev P' : ProgramTree
  P' = program_tree opened.versions.new

  abbrev three : HasThree o n h seen
  three = record { source = source; new_source = source'; bytes = bytes; old = P; new = P'; fetched = are.fetched; sources = are.sources }

  three_asked : Asks ((o, source_and_one) ∷ (n, source_and_one) ∷ (h, file_and_one) ∷ []) seen
  three_asked = all_asked ((o, source_and_one) ∷ (n, source_and_one) ∷ (h, file_and_one) ∷ []) seen
      (came o source_and_one source ∷ came n source_and_one source' ∷ came h file_and_one bytes ∷ []) are.fetched refl

  history_refused : (c : Command) → asks (reads c) ≡ (o, source_and_one) ∷ (n, source_and_one) ∷ (h, file_and_one) ∷ []
      → ((why : HistoryCause) → HasBadHistory (history_of o n h) why seen → HasBadHistory (reads c) why seen)
      → (r : Refusal) → IsHistoryCause Third source bytes P r → HasCauseOf c seen r
  history_refused c asked read (refusal.History why) cause = read why (three, cause)
  history_refused c asked read refusal.Memory cause = subst (λ (files : List (List ℕ × ℕ)). Asks files seen) (sym asked) three_asked
  history_refused c asked read r cause = absurd cause

  pub selected : (r : Result (Vec ℕ Global) Refusal) → MatchResult r (λ text. IsSelection source bytes P P' text.items) (IsHistoryCause Third source bytes P)
      → MatchResult r (λ text. HasTextOf (Some (select_files o n h)) seen Whole text.items) (HasCauseOf (select_files o n h) seen)
  selected (Ok text) is = record { said = (refl, three, is); fits = tt }
  selected (Err r) cause = history_refused (select_files o n h) refl (λ why bad. bad) r cause

  pub ordered : (w : ℕ) (r : Result (Vec ℕ Global) Refusal) → MatchResult r (λ text. IsOrdering source bytes P P' text.items) (IsHistoryCause Third source bytes P)
      → MatchResult r (λ text. HasTextOf (Some (order_files o n h w)) seen Whole text.items) (HasCauseOf (order_files o n h w) seen)
  ordered w (Ok text) is = record { said = (refl, three, is); fits = tt }
  ordered w (Err r) cause = history_refused (order_files o n h w) refl (λ why bad. bad) r cause

  pub reran : (w : ℕ) (r : Result Answered Refusal)
      → MatchResult r (λ answer. (differs : Bool) × (answer.end ≡ end_of_rerun differs) × IsRerun source bytes P P' differs answer.text.items) (IsHistoryCause Third source bytes P)
      → MatchResult r (λ answer. HasTextOf (Some (rerun_files o n h w)) seen answer.end answer.text.items) (HasCauseOf (rerun_files o n h w) seen)
  reran w (Ok answer) is = record { said = (is.0, is.1, three, is.2); fits = tt }
  reran w (Err r) cause = history_refused (rerun_files o n h w) refl (λ why bad. bad) r cause

  explain_refused : (test : List ℕ) (r : Refusal) → IsTestCause source bytes P test r → HasCauseOf (explain_files o n h test) seen r
  explain_refused test (refusal.History why) cause = (three, cause)
  explain_refused test (refusal.NoTest name) cause = (cause.0, three, cause.1)
  explain_refused test refusal.Memory cause = three_asked
  explain_refused test r cause = absurd cause

  pub explained : (test : List ℕ) (r : Result (Vec ℕ Global) Refusal) → MatchResult r (λ text. IsExplained source source' bytes P P' test text.items) (IsTestCause source bytes P test)
      → MatchResult r (λ text. HasTextOf (Some (explain_files o n h test)) seen Whole text.items) (HasCauseOf (explain_files o n h test) seen)
  explained test (Ok text) is = record { said = (refl, three, is); fits = tt }
  explained test (Err r) cause = explain_refused test r cause

  carry_refused : (w : ℕ) (r : Refusal) → IsCarriedCause source source' bytes P P' r → HasCauseOf (carry_files o n h w) seen r
  carry_refused w (refusal.History why) cause = (three, cause)
  carry_refused w (refusal.TooMuch which count) cause = (
    ap Some (sym cause.0),
    record { bytes = cause.1.bytes; text = (refl, three, cause.1.text); counted = cause.1.counted; long = cause.1.long },
  )
  carry_refused w refusal.Memory cause = three_asked
  carry_refused w r cause = absurd cause

  pub carried : (w : ℕ) (r : Result (Vec ℕ Global) Refusal) → MatchResult r (λ text. IsMade (IsCarriedText source source' bytes P P') text.items) (IsCarriedCause source source' bytes P P')
      → MatchResult r (λ text. HasTextOf (Some (carry_files o n h w)) seen Whole text.items) (HasCauseOf (carry_files o n h w) seen)
  carried w (Ok text) made = record { said = (refl, three, made.text); fits = made.short }
  carried w (Err r) cause = carry_refused w r cause

  pub has_check : (closed : Bool) (end : End) (text : List ℕ) → end ≡ end_of_check closed → IsChecked source source' bytes P P' closed text
      → HasTextOf (Some (check_files o n h)) seen end text
  has_check closed end text is checked = record { said = (closed, is, three, checked); fits = tt }

  pub check_refused : (r : Refusal) → IsCheckCause source source' bytes P P' r → HasCauseOf (check_files o n h) seen r
  check_refused (refusal.Certificate why) cause = (three, cause)
  check_refused refusal.Memory cause = three_asked
  check_refused r cause = absurd cause

-- ---- no file

-- a made pair of sources, and want of memory before any file
pub generated : (before : List Answer) (seed count : ℕ) (r : Result (Vec ℕ Global) Refusal) → MatchResult r (λ text. IsGenText seed count text.items) (IsMadeCause seed count)
    → Sees before before (λ seen. MatchResult r (λ text. HasTextOf (Some (gen_numbers seed count)) seen Whole text.items) (HasCauseOf (gen_numbers seed count) seen))
generated before seed count (Ok text) is = ([], sym (append-nil before), record { said = (refl, refl, is); fits = tt })
generated before seed count (Err (refusal.Source which why)) cause = ([], sym (append-nil before), (refl, cause))
generated before seed count (Err refusal.Memory) cause = ([], sym (append-nil before), ([], refl))
generated before seed count (Err r) cause = absurd cause

nothing_asked : (c : Option Command) → HasCause c [] refusal.Memory
nothing_asked None = refl
nothing_asked (Some c) = (asks (reads c), refl)

-- want of memory for the words, and words that are no command
pub no_words : (before : List Answer) (c : Option Command) → Sees before before (λ seen. HasCause c seen refusal.Memory)
no_words before c = ([], sym (append-nil before), nothing_asked c)

pub no_command : (before : List Answer) (c : Option Command) → c ≡ None → Sees before before (λ seen. HasCause c seen refusal.Usage)
no_command before None is = ([], sym (append-nil before), refl)
no_command before (Some c) is = absurd (cc)

-- ---- the answer to the command that is shown

module _ (Q : End → List ℕ → Type 0) (C : Refusal → Type 0) where
  as_whole : (r : Result (Vec ℕ Global) Refusal) (a : Result Answered Refusal) → MatchResult r (λ found. Q Whole found.items) C
      → MatchResult a (λ answer. (answer.end ≡ Whole) × (r ≡ Ok answer.text)) (λ e. r ≡ Err e)
      → MatchResult a (λ answer. Q answer.end answer.text.items) C
  as_whole r (Ok answer) holds is =
      let here = subst (λ (s : Result (Vec ℕ Global) Refusal). MatchResult s (λ found. Q Whole found.items) C) is.1 holds in
      subst (λ (b : End). Q b answer.text.items) (sym is.0) here
  as_whole r (Err e) holds is = subst (λ (s : Result (Vec ℕ Global) Refusal). MatchResult s (λ found. Q Whole found.items) C) is holds

module _ (before now : List Answer) (shown c : Command) (is : shown ≡ c) where
  abbrev Answers : Command → Result Answered Refusal → Type 0
  Answers k a = Sees before now (λ seen. MatchResult a (λ answer. HasTextOf (Some k) seen answer.end answer.text.items) (HasCauseOf k seen))

  pub shown_as : (a : Result Answered Refusal) → Answers c a → Answers shown a
  shown_as a h = subst (λ (k : Command). Answers k a) (sym is) h

  pub shown_whole : (r : Result (Vec ℕ Global) Refusal) (a : Result Answered Refusal)
      → Sees before now (λ seen. MatchResult r (λ text. HasTextOf (Some c) seen Whole text.items) (HasCauseOf c seen))
      → MatchResult a (λ answer. (answer.end ≡ Whole) × (r ≡ Ok answer.text)) (λ e. r ≡ Err e) → Answers shown a
  shown_whole r a (seen, added, holds) made = shown_as a (seen, added, as_whole (λ end text. HasTextOf (Some c) seen end text) (HasCauseOf c seen) r a holds made)
