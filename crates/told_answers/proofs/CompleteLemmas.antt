-- Where the files are told and nothing stands in its way, a command is done, or it ends otherwise as it may, or memory was wanted.
use Rattle.std.proofs.Common.{◌≡◌, ℕ, true, false, List, Option, Some, None, refl, sym, ap, ◌∙◌, subst, inl, inr, ◌⊎◌}
use Rattle.std.specs.Option.{option_map}
use Rattle.dv_outside.specs.Outside.{Files, file_at}
use Rattle.csub_semantics.specs.Syntax.{ProgramTree}
use Rattle.csub_answers.specs.Accepted.{Accepted}
use Rattle.test_history.specs.declared.version.Version.TheVariants.{Second, Third}
use Rattle.command_words.specs.Words.{Command, rerun_files, explain_files, check_files, gen_numbers}
use Rattle.command_refusals.specs.declared.source.SourceCause.{SourceCause}
use Rattle.command_refusals.specs.declared.suite.SuiteCause.{SuiteCause}
use Rattle.command_refusals.specs.declared.history.HistoryCause.{HistoryCause}
use Rattle.command_refusals.specs.declared.certificate.CertificateCause.{CertificateCause}
use Rattle.command_refusals.specs.declared.refusal.Product.{Product}
use Rattle.command_refusals.specs.declared.refusal.Role.{Role}
use Rattle.command_refusals.specs.declared.refusal.Role.TheVariants as role
use Rattle.command_refusals.specs.declared.refusal.Refusal.{Refusal}
use Rattle.command_refusals.specs.declared.refusal.Refusal.TheVariants as refusal
use Rattle.command_files.specs.Record.{IsSuiteFile, IsHistoryFile}
use Rattle.told_answers.specs.Files.{HasSource, HasNoSource, HasBadOfTwo}
use Rattle.command_claims.specs.Checked.{IsCertificateFile}
use Rattle.dejavu_cli.specs.Reads.{Reads, suite_of, earlier_of, versions_of, history_of, certificate_of, made_of, reads}
use Rattle.told_answers.specs.Held.{HasSecond, HasThree}
use Rattle.dejavu_cli.specs.Texts.{product_of}
use Rattle.told_answers.specs.Texts.{IsSaid, HasTextOf}
use Rattle.told_answers.specs.Causes.{HasBadSourceOf, HasBadSuite, HasBadHistory, HasBadCertificate, HasBadTest, HasReadFault, HasCause, HasCauseOf}
use Rattle.dejavu_cli.specs.Statuses.{done_as, status_of}
use Rattle.told_answers.specs.Answers.{Decides, Says}
use Rattle.dejavu_cli.specs.Complete.{AreAccepted, other_end, IsDone}
use Rattle.told_answers.specs.Complete.{HaveVersions, AreThere, AreReadyIn, AreReady, IsComplete}
use Rattle.dejavu_cli.specs.declared.answer.End.{End}
use Rattle.dejavu_cli.specs.declared.status.Status8.{Status8}
use Rattle.dejavu_cli.specs.declared.status.Status8.TheVariants as status

-- ---- what the files of a name hold is one

one_file : (files : Files) (name a b : List ℕ) → file_at files name ≡ Some a → file_at files name ≡ Some b → a ≡ b
one_file files name a b first second = cc

-- what holds of a source and a second file holds of them however they are told
module _ (files : Files) (s t : List ℕ) (P : ProgramTree) (source : HasSource files s P) (bytes : List ℕ) (found : file_at files t ≡ Some bytes) (are : HasSecond files s t) where
  of_second : (T : List ℕ → List ℕ → ProgramTree → Type 0) → T source.bytes bytes P → T are.source are.bytes are.program
  of_second T holds =
      let first : source.bytes ≡ are.source = one_file files s source.bytes are.source source.found are.found in
      let second : bytes ≡ are.bytes = one_file files t bytes are.bytes found are.second_found in
      let one : P ≡ are.program = are.alone P (subst (λ (b : List ℕ). Accepted b P) first source.accepted) in
      subst (λ (Q : ProgramTree). T are.source are.bytes Q) one (subst (λ (b : List ℕ). T are.source b P) second (subst (λ (b : List ℕ). T b bytes P) first holds))

-- and so of two versions and a third file
module _ (files : Files) (o n h : List ℕ) (have : HaveVersions files o n) (bytes : List ℕ) (found : file_at files h ≡ Some bytes) (are : HasThree files o n h) where
  of_three : (T : List ℕ → List ℕ → List ℕ → ProgramTree → ProgramTree → Type 0) → T have.source.bytes have.new_source.bytes bytes have.old have.new
      → T are.two.source are.two.new_source are.bytes are.two.old are.two.new
  of_three T holds =
      let first : have.source.bytes ≡ are.two.source = one_file files o have.source.bytes are.two.source have.source.found are.two.versions.found in
      let second : have.new_source.bytes ≡ are.two.new_source = one_file files n have.new_source.bytes are.two.new_source have.new_source.found are.two.versions.new_found in
      let third : bytes ≡ are.bytes = one_file files h bytes are.bytes found are.found in
      let old : have.old ≡ are.two.old = are.two.versions.old_alone have.old (subst (λ (b : List ℕ). Accepted b have.old) first have.source.accepted) in
      let new : have.new ≡ are.two.new = are.two.versions.new_alone have.new (subst (λ (b : List ℕ). Accepted b have.new) second have.new_source.accepted) in
      subst (λ (Q : ProgramTree). T are.two.source are.two.new_source are.bytes are.two.old Q) new
      (subst (λ (Q : ProgramTree). T are.two.source are.two.new_source are.bytes Q have.new) old
      (subst (λ (b : List ℕ). T are.two.source are.two.new_source b have.old have.new) third
      (subst (λ (b : List ℕ). T are.two.source b bytes have.old have.new) second
      (subst (λ (b : List ℕ). T b have.new_source.bytes bytes have.old have.new) first holds))))

-- ---- files that are ready are not refused

good_source : (files : Files) (name : List ℕ) (P : ProgramTree) (cause : SourceCause) → HasSource files name P → HasNoSource files name cause → ⊥
good_source files name P cause good bad =
    bad.is.none P (subst (λ (bytes : List ℕ). Accepted bytes P) (one_file files name good.bytes bad.bytes good.found bad.found) good.accepted)

good_made : (seed size : ℕ) (told : Option Files) → AreAccepted seed size → (which : Role) (why : SourceCause) → HasBadSourceOf (made_of seed size) which why told → ⊥
good_made seed size told there role.Source why bad = bad
good_made seed size told there role.Old why bad = bad.none there.0.0 there.0.1
good_made seed size told there role.New why bad = bad.1.none there.1.0 there.1.1

none_is : (which : Product) → None ≡ Some which → ⊥
none_is which is = cc

module _ (told : Option Files) (before now : List ℕ → ℕ) (files : Files) (at : told ≡ Some files) where
  good_versions : (o n : List ℕ) → HaveVersions files o n → (which : Role) (why : SourceCause) → HasBadOfTwo o n which why told → ⊥
  good_versions o n have role.Source why bad = bad
  good_versions o n have role.Old why bad = good_source files o have.old why have.source (bad files at)
  good_versions o n have role.New why bad = good_source files n have.new why have.new_source (bad.1 files at)

  good_sources : (k : Reads) → AreThere k files → (which : Role) (why : SourceCause) → HasBadSourceOf k which why told → ⊥
  good_sources (suite_of s t) there which why bad = good_source files s there.program why there.source (bad.1 files at)
  good_sources (earlier_of o h) there which why bad = good_source files o there.program why there.source (bad.1 files at)
  good_sources (versions_of o n) there which why bad = good_versions o n there which why bad
  good_sources (history_of o n h) there which why bad = good_versions o n there.two which why bad
  good_sources (certificate_of o n h) there which why bad = good_versions o n there.two which why bad
  good_sources (made_of seed size) there which why bad = good_made seed size told there which why bad

  good_suite : (k : Reads) → AreThere k files → (why : SuiteCause) → HasBadSuite k why told → ⊥
  good_suite (suite_of s t) there why bad =
      let told_bad = bad files at in
      told_bad.1.none there.tests
      (of_second files s t there.program there.source there.bytes there.found told_bad.0 (λ source bytes P. IsSuiteFile bytes there.tests) there.is)
  good_suite k there why bad = bad

  good_history : (k : Reads) → AreThere k files → (why : HistoryCause) → HasBadHistory k why told → ⊥
  good_history (earlier_of o h) there why bad =
      let told_bad = bad files at in
      told_bad.1.none there.history
      (of_second files o h there.program there.source there.bytes there.found told_bad.0 (λ source bytes P. IsHistoryFile Second source bytes P there.history) there.is)
  good_history (history_of o n h) there why bad =
      let told_bad = bad files at in
      told_bad.1.none there.history
      (of_three files o n h there.two there.bytes there.found told_bad.0 (λ source source' bytes P P'. IsHistoryFile Third source bytes P there.history) there.is)
  good_history k there why bad = bad

  good_certificate : (k : Reads) → AreThere k files → (why : CertificateCause) → HasBadCertificate k why told → ⊥
  good_certificate (certificate_of o n h) there why bad =
      let told_bad = bad files at in
      told_bad.1.none there.certificate
      (of_three files o n h there.two there.bytes there.found told_bad.0 (λ source source' bytes P P'. IsCertificateFile source source' bytes P P' there.certificate) there.is)
  good_certificate k there why bad = bad

  good_test : (c : Command) → AreReadyIn c files → (name : List ℕ) → HasBadTest c name told → ⊥
  good_test (explain_files o n h t) ready name bad =
      let told_bad = bad.1 files at in
      let have = ready.0 in
      told_bad.1.none have.history
      (of_three files o n h have.two have.bytes have.found told_bad.0 (λ source source' bytes P P'. IsHistoryFile Third source bytes P have.history) have.is) ready.1
  good_test c ready name bad = bad

  are_there : (c : Command) → AreReadyIn c files → AreThere (reads c) files
  are_there (explain_files o n h t) ready = ready.0
  are_there c ready = ready

  too_much : (c : Command) (which : Product) → product_of c ≡ Some which → other_end c ≡ Some status.TooMuch
  too_much (rerun_files o n h w) which is = absurd (none_is which is)
  too_much (check_files o n h) which is = absurd (none_is which is)
  too_much c which is = ap (option_map (λ (w : Product). status.TooMuch)) is

  -- the statuses that are left for a refusal
  left_over : (c : Command) → AreReadyIn c files → ¬ HasReadFault (reads c) told before now → (r : Refusal) → HasCauseOf c told before now r
      → (other_end c ≡ Some (status_of r)) ⊎ (status_of r ≡ status.Memory)
  left_over c ready read refusal.Usage cause = absurd cause
  left_over c ready read (refusal.Source which why) cause = absurd (good_sources (reads c) (are_there c ready) which why cause)
  left_over c ready read (refusal.Suite why) cause = absurd (good_suite (reads c) (are_there c ready) why cause)
  left_over c ready read (refusal.History why) cause = absurd (good_history (reads c) (are_there c ready) why cause)
  left_over c ready read (refusal.Certificate why) cause = absurd (good_certificate (reads c) (are_there c ready) why cause)
  left_over c ready read (refusal.NoTest name) cause = absurd (good_test c ready name cause)
  left_over c ready read refusal.ReadFault cause = absurd (read cause)
  left_over c ready read refusal.Memory cause = inr refl
  left_over c ready read (refusal.TooMuch which count) cause = inl (too_much c which cause.0)

-- the statuses that are left for a refusal of `gen`, whatever is told
left_made : (seed size : ℕ) (told : Option Files) (before now : List ℕ → ℕ) → AreAccepted seed size → (r : Refusal) → HasCauseOf (gen_numbers seed size) told before now r
    → (other_end (gen_numbers seed size) ≡ Some (status_of r)) ⊎ (status_of r ≡ status.Memory)
left_made seed size told before now ready refusal.Usage cause = absurd cause
left_made seed size told before now ready (refusal.Source which why) cause = absurd (good_made seed size told ready which why cause)
left_made seed size told before now ready (refusal.Suite why) cause = absurd cause
left_made seed size told before now ready (refusal.History why) cause = absurd cause
left_made seed size told before now ready (refusal.Certificate why) cause = absurd cause
left_made seed size told before now ready (refusal.NoTest name) cause = absurd cause
left_made seed size told before now ready refusal.ReadFault cause = absurd cause
left_made seed size told before now ready refusal.Memory cause = inr refl
left_made seed size told before now ready (refusal.TooMuch which count) cause = absurd (none_is which cause.0)

-- and for one of any command that is ready
left_ready : (c : Command) (told : Option Files) (before now : List ℕ → ℕ) → AreReady c told → ¬ HasReadFault (reads c) told before now → (r : Refusal) → HasCauseOf c told before now r
    → (other_end c ≡ Some (status_of r)) ⊎ (status_of r ≡ status.Memory)
left_ready (gen_numbers seed size) told before now ready read r cause = left_made seed size told before now ready r cause
left_ready c told before now ready read r cause = left_over told before now ready.0 ready.1 c ready.2 read r cause

-- ---- the answer

-- a command that is done is done whole, or ends otherwise as it may
ended : (c : Command) (files : Files) (end : End) (text : List ℕ) → IsSaid c files end text → (done_as end ≡ status.Done) ⊎ (other_end c ≡ Some (done_as end))
ended (rerun_files o n h w) files end text (true, is, are, said) = inr (ap (λ e. Some (done_as e)) (sym is))
ended (rerun_files o n h w) files end text (false, is, are, said) = inl (ap done_as is)
ended (check_files o n h) files end text (true, is, are, said) = inl (ap done_as is)
ended (check_files o n h) files end text (false, is, are, said) = inr (ap (λ e. Some (done_as e)) (sym is))
ended c files end text said = inl (ap done_as said.0)

ended_ready : (c : Command) (told : Option Files) (end : End) (text : List ℕ) → AreReady c told → HasTextOf (Some c) told end text → (done_as end ≡ status.Done) ⊎ (other_end c ≡ Some (done_as end))
ended_ready (gen_numbers seed size) told end text ready has = inl (ap done_as has.0)
ended_ready c told end text ready has = ended c ready.0 end text (has ready.0 ready.1).said

module _ (words : List (List ℕ)) (told : Option Files) (before now : List ℕ → ℕ) (b n : Option (List ℕ)) (fb fn : ℕ) (answer : Status8) where
  is_done : (c : Command) (s : Status8) → (s ≡ status.Done) ⊎ (other_end c ≡ Some s) → answer ≡ s → IsDone c answer
  is_done c s (inl done) is = inl (is ∙ done)
  is_done c s (inr other) is = inr (inl (other ∙ ap Some (sym is)))

  is_left : (c : Command) (s : Status8) → (other_end c ≡ Some s) ⊎ (s ≡ status.Memory) → answer ≡ s → IsDone c answer
  is_left c s (inl other) is = inr (inl (other ∙ ap Some (sym is)))
  is_left c s (inr memory) is = inr (inr (is ∙ memory))

  pub complete : (s : Status8) (text : List ℕ) → Decides words told before now s text → Says b n fb fn s text answer → IsComplete words told before now fb fn answer
  complete s text decided (inr h) c is ready read written = absurd (written h.1)
  complete s text (inl (end, done, has)) (inl h) c is ready read written =
      let here = subst (λ (d : Option Command). HasTextOf d told end text) is has in
      is_done c (done_as end) (ended_ready c told end text ready here) (h.0 ∙ done)
  complete s text (inr (r, refused, line, cause)) (inl h) c is ready read written =
      let here = subst (λ (d : Option Command). HasCause d told before now r) is cause in
      is_left c (status_of r) (left_ready c told before now ready read r here) (h.0 ∙ refused)
