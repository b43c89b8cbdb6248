-- Where nothing stands in its way a command is done, or it ends otherwise as it may, or memory was wanted.
use Rattle.std.proofs.Common.{◌≡◌, ℕ, map, Bool, true, false, true≢false, List, [], ◌∷◌, ◌++◌, Option, Some, None, Ok, Err, refl, sym, ap, ◌∙◌, subst, inl, inr, ◌⊎◌}
use Rattle.std.specs.Option.{option_map}
use Rattle.std.proofs.lemmas.List.{append_cancel_left}
use Rattle.dv_outside.specs.Outside.{Answer, Rose}
use Rattle.csub_semantics.specs.Syntax.{ProgramTree}
use Rattle.csub_answers.specs.Accepted.{Accepted}
use Rattle.test_history.specs.declared.version.Version.TheVariants.{Second, Third}
use Rattle.command_words.specs.Words.{Command, record_files, migrate_files, walk_files, select_files, rerun_files, explain_files}
use Rattle.command_words.specs.Words.{carry_files, order_files, certify_files, check_files, gen_numbers, command_of}
use Rattle.command_refusals.specs.Refusals.{refusal_line}
use Rattle.command_refusals.specs.declared.source.SourceCause.{SourceCause}
use Rattle.command_refusals.specs.declared.suite.SuiteCause.{SuiteCause}
use Rattle.command_refusals.specs.declared.history.HistoryCause.{HistoryCause}
use Rattle.command_refusals.specs.declared.certificate.CertificateCause.{CertificateCause}
use Rattle.command_refusals.specs.declared.refusal.Product.{Product}
use Rattle.command_refusals.specs.declared.refusal.Role.{Role}
use Rattle.command_refusals.specs.declared.refusal.Role.TheVariants as role
use Rattle.command_refusals.specs.declared.refusal.Refusal.{Refusal}
use Rattle.command_refusals.specs.declared.refusal.Refusal.TheVariants as refusal
use Rattle.command_files.specs.Record.{IsSuiteFile, IsHistoryFile}
use Rattle.command_files.specs.Files.{source_and_one, suite_and_one, file_and_one, came, missed, Sees, Asks, HasBadSource, HasBadOfTwo, HasFaultOfTwo, HasFaultOfThree}
use Rattle.command_claims.specs.Checked.{IsCertificateFile}
use Rattle.dejavu_cli.specs.Reads.{Reads, suite_of, earlier_of, versions_of, history_of, certificate_of, made_of, reads, asks, HasSecond, HasTwo, HasThree}
use Rattle.dejavu_cli.specs.Texts.{IsSaid, HasTextOf, product_of}
use Rattle.dejavu_cli.specs.Causes.{HasBadSourceOf, HasBadSuite, HasBadHistory, HasBadCertificate, HasBadTest, HasReadFault, HasCause, HasCauseOf}
use Rattle.dejavu_cli.specs.Statuses.{done_as, status_of}
use Rattle.dejavu_cli.specs.Answers.{Decides, Says, Refuses}
use Rattle.dejavu_cli.specs.Complete.{HaveThree, AreAccepted, AreThere, AreReady, other_end, IsDone, IsComplete}
use Rattle.dejavu_cli.specs.declared.answer.End.{End}
use Rattle.dejavu_cli.specs.declared.answer.End.TheVariants.{Whole}
use Rattle.dejavu_cli.specs.declared.status.Status8.{Status8}
use Rattle.dejavu_cli.specs.declared.status.Status8.TheVariants as status

-- ---- what came of a file is one

-- the bytes of the first answer, whether it has some, and the answers behind it
abbrev first_bytes : List Answer → List ℕ
first_bytes [] = []
first_bytes ((name, most, Ok bytes) ∷ rest) = bytes
first_bytes ((name, most, Err cause) ∷ rest) = []

abbrev first_came : List Answer → Bool
first_came [] = false
first_came ((name, most, Ok bytes) ∷ rest) = true
first_came ((name, most, Err cause) ∷ rest) = false

abbrev rest_of : List Answer → List Answer
rest_of [] = []
rest_of (answer ∷ rest) = rest

module _ (seen one other : List Answer) (first : seen ≡ one) (second : seen ≡ other) where
  same_first : first_bytes one ≡ first_bytes other
  same_first = ap first_bytes (sym first ∙ second)

  same_second : first_bytes (rest_of one) ≡ first_bytes (rest_of other)
  same_second = ap (λ (l : List Answer). first_bytes (rest_of l)) (sym first ∙ second)

  same_third : first_bytes (rest_of (rest_of one)) ≡ first_bytes (rest_of (rest_of other))
  same_third = ap (λ (l : List Answer). first_bytes (rest_of (rest_of l))) (sym first ∙ second)

-- what came wasn't missed
module _ (seen one other : List Answer) (first : seen ≡ one) (second : seen ≡ other) where
  not_missed : first_came one ≡ true → first_came other ≡ false → ⊥
  not_missed there gone = absurd (true≢false (sym there ∙ ap first_came (sym first ∙ second) ∙ gone))

  not_missed_then : first_came (rest_of one) ≡ true → first_came (rest_of other) ≡ false → ⊥
  not_missed_then there gone = absurd (true≢false (sym there ∙ ap (λ (l : List Answer). first_came (rest_of l)) (sym first ∙ second) ∙ gone))

  not_missed_last : first_came (rest_of (rest_of one)) ≡ true → first_came (rest_of (rest_of other)) ≡ false → ⊥
  not_missed_last there gone = absurd (true≢false (sym there ∙ ap (λ (l : List Answer). first_came (rest_of (rest_of l))) (sym first ∙ second) ∙ gone))

-- what holds of a source and a second file holds of them however they are told
module _ (seen : List Answer) (s t : List ℕ) (most : ℕ) (source bytes : List ℕ) (fetched : seen ≡ came s source_and_one source ∷ came t most bytes ∷ [])
    (P : ProgramTree) (accepted : Accepted source P) (are : HasSecond s t most seen) where
  of_second : (T : List ℕ → List ℕ → ProgramTree → Type 0) → T source bytes P → T are.source are.bytes are.program
  of_second T holds =
      let first : source ≡ are.source = same_first seen _ _ fetched are.fetched in
      let second : bytes ≡ are.bytes = same_second seen _ _ fetched are.fetched in
      let one : P ≡ are.program = are.alone P (subst (λ (b : List ℕ). Accepted b P) first accepted) in
      subst (λ (Q : ProgramTree). T are.source are.bytes Q) one (subst (λ (b : List ℕ). T are.source b P) second (subst (λ (b : List ℕ). T b bytes P) first holds))

-- and so of two versions and a third file
module _ (seen : List Answer) (o n h : List ℕ) (have : HaveThree o n h seen) (are : HasThree o n h seen) where
  of_three : (T : List ℕ → List ℕ → List ℕ → ProgramTree → ProgramTree → Type 0) → T have.source have.new_source have.bytes have.old have.new
      → T are.source are.new_source are.bytes are.old are.new
  of_three T holds =
      let first : have.source ≡ are.source = same_first seen _ _ have.fetched are.fetched in
      let second : have.new_source ≡ are.new_source = same_second seen _ _ have.fetched are.fetched in
      let third : have.bytes ≡ are.bytes = same_third seen _ _ have.fetched are.fetched in
      let old : have.old ≡ are.old = are.sources.old_alone have.old (subst (λ (b : List ℕ). Accepted b have.old) first have.accepted) in
      let new : have.new ≡ are.new = are.sources.new_alone have.new (subst (λ (b : List ℕ). Accepted b have.new) second have.new_accepted) in
      subst (λ (Q : ProgramTree). T are.source are.new_source are.bytes are.old Q) new
      (subst (λ (Q : ProgramTree). T are.source are.new_source are.bytes Q have.new) old
      (subst (λ (b : List ℕ). T are.source are.new_source b have.old have.new) third
      (subst (λ (b : List ℕ). T are.source b have.bytes have.old have.new) second
      (subst (λ (b : List ℕ). T b have.new_source have.bytes have.old have.new) first holds))))

-- ---- files that are ready are not refused

good_source : (seen rest : List Answer) (name source : List ℕ) (P : ProgramTree) (why : SourceCause) → seen ≡ came name source_and_one source ∷ rest → Accepted source P → HasBadSource name why seen → ⊥
good_source seen rest name source P why fetched accepted (bytes, is, bad) =
    bad.none P (subst (λ (b : List ℕ). Accepted b P) (same_first seen _ _ fetched is) accepted)

good_versions : (seen rest : List Answer) (o n source source' : List ℕ) (P P' : ProgramTree) → seen ≡ came o source_and_one source ∷ came n source_and_one source' ∷ rest
    → Accepted source P → Accepted source' P' → (which : Role) (why : SourceCause) → HasBadOfTwo o n which why seen → ⊥
good_versions seen rest o n source source' P P' fetched accepted accepted' role.Source why bad = bad
good_versions seen rest o n source source' P P' fetched accepted accepted' role.Old why bad =
    good_source seen (came n source_and_one source' ∷ rest) o source P why fetched accepted bad
good_versions seen rest o n source source' P P' fetched accepted accepted' role.New why (x, x', is, good, bad) =
    bad.none P' (subst (λ (b : List ℕ). Accepted b P') (same_second seen _ _ fetched is) accepted')

good_made : (seed size : ℕ) (seen : List Answer) → AreAccepted seed size → (which : Role) (why : SourceCause) → HasBadSourceOf (made_of seed size) which why seen → ⊥
good_made seed size seen there role.Source why (none, bad) = bad
good_made seed size seen there role.Old why (none, bad) = bad.none there.0.0 there.0.1
good_made seed size seen there role.New why (none, (good, bad)) = bad.none there.1.0 there.1.1

none_is : (which : Product) → None ≡ Some which → ⊥
none_is which is = cc

no_fault_of_two : (seen rest : List Answer) (s t x y : List ℕ) (most : ℕ) → seen ≡ came s source_and_one x ∷ came t most y ∷ rest → HasFaultOfTwo s t most seen → ⊥
no_fault_of_two seen rest s t x y most fetched (inl is) = not_missed seen _ _ fetched is refl refl
no_fault_of_two seen rest s t x y most fetched (inr (z, is, good)) = not_missed_then seen _ _ fetched is refl refl

no_fault_of_three : (seen : List Answer) (o n h x y z : List ℕ) (most : ℕ) → seen ≡ came o source_and_one x ∷ came n source_and_one y ∷ came h most z ∷ [] → HasFaultOfThree o n h most seen → ⊥
no_fault_of_three seen o n h x y z most fetched (inl fault) = no_fault_of_two seen (came h most z ∷ []) o n x y source_and_one fetched fault
no_fault_of_three seen o n h x y z most fetched (inr (a, b, is, good, good')) = not_missed_last seen _ _ fetched is refl refl

module _ (seen : List Answer) where
  good_sources : (k : Reads) → AreThere k seen → (which : Role) (why : SourceCause) → HasBadSourceOf k which why seen → ⊥
  good_sources (suite_of s t) there which why (is, bad) = good_source seen _ s there.source there.program why there.fetched there.accepted bad
  good_sources (earlier_of o h) there which why (is, bad) = good_source seen _ o there.source there.program why there.fetched there.accepted bad
  good_sources (versions_of o n) there which why bad =
      good_versions seen [] o n there.source there.new_source there.old there.new there.fetched there.accepted there.new_accepted which why bad
  good_sources (history_of o n h) there which why bad =
      good_versions seen _ o n there.three.source there.three.new_source there.three.old there.three.new there.three.fetched there.three.accepted there.three.new_accepted which why bad
  good_sources (certificate_of o n h) there which why bad =
      good_versions seen _ o n there.three.source there.three.new_source there.three.old there.three.new there.three.fetched there.three.accepted there.three.new_accepted which why bad
  good_sources (made_of seed size) there which why bad = good_made seed size seen there which why bad

  good_suite : (k : Reads) → AreThere k seen → (why : SuiteCause) → HasBadSuite k why seen → ⊥
  good_suite (suite_of s t) there why bad =
      bad.1.none there.tests
      (of_second seen s t _ there.source there.bytes there.fetched there.program there.accepted bad.0 (λ source bytes P. IsSuiteFile bytes there.tests) there.is)
  good_suite k there why bad = bad

  good_history : (k : Reads) → AreThere k seen → (why : HistoryCause) → HasBadHistory k why seen → ⊥
  good_history (earlier_of o h) there why bad =
      bad.1.none there.history
      (of_second seen o h _ there.source there.bytes there.fetched there.program there.accepted bad.0 (λ source bytes P. IsHistoryFile Second source bytes P there.history) there.is)
  good_history (history_of o n h) there why bad =
      bad.1.none there.history
      (of_three seen o n h there.three bad.0 (λ source source' bytes P P'. IsHistoryFile Third source bytes P there.history) there.is)
  good_history k there why bad = bad

  good_certificate : (k : Reads) → AreThere k seen → (why : CertificateCause) → HasBadCertificate k why seen → ⊥
  good_certificate (certificate_of o n h) there why bad =
      bad.1.none there.certificate
      (of_three seen o n h there.three bad.0 (λ source source' bytes P P'. IsCertificateFile source source' bytes P P' there.certificate) there.is)
  good_certificate k there why bad = bad

  good_test : (c : Command) → AreReady c seen → (name : List ℕ) → HasBadTest c name seen → ⊥
  good_test (explain_files o n h t) ready name (is, are, bad) =
      let have = ready.0 in
      bad.none have.history
      (of_three seen o n h have.three are (λ source source' bytes P P'. IsHistoryFile Third source bytes P have.history) have.is) ready.1
  good_test c ready name bad = bad

  -- no file of a command that is ready was missed
  none_missed : (k : Reads) → AreThere k seen → HasReadFault k seen → ⊥
  none_missed (suite_of s t) there fault = no_fault_of_two seen [] s t there.source there.bytes _ there.fetched fault
  none_missed (earlier_of o h) there fault = no_fault_of_two seen [] o h there.source there.bytes _ there.fetched fault
  none_missed (versions_of o n) there fault = no_fault_of_two seen [] o n there.source there.new_source _ there.fetched fault
  none_missed (history_of o n h) there fault = no_fault_of_three seen o n h there.three.source there.three.new_source there.three.bytes _ there.three.fetched fault
  none_missed (certificate_of o n h) there fault = no_fault_of_three seen o n h there.three.source there.three.new_source there.three.bytes _ there.three.fetched fault
  none_missed (made_of seed size) there fault = fault

  are_there : (c : Command) → AreReady c seen → AreThere (reads c) seen
  are_there (explain_files o n h t) ready = ready.0
  are_there c ready = ready

  too_much : (c : Command) (which : Product) → product_of c ≡ Some which → other_end c ≡ Some status.TooMuch
  too_much (rerun_files o n h w) which is = absurd (none_is which is)
  too_much (check_files o n h) which is = absurd (none_is which is)
  too_much c which is = ap (option_map (λ (w : Product). status.TooMuch)) is

  -- the statuses that are left for a refusal
  left_over : (c : Command) → AreReady c seen → (r : Refusal) → HasCauseOf c seen r → (other_end c ≡ Some (status_of r)) ⊎ (status_of r ≡ status.Memory)
  left_over c ready refusal.Usage cause = absurd cause
  left_over c ready (refusal.Source which why) cause = absurd (good_sources (reads c) (are_there c ready) which why cause)
  left_over c ready (refusal.Suite why) cause = absurd (good_suite (reads c) (are_there c ready) why cause)
  left_over c ready (refusal.History why) cause = absurd (good_history (reads c) (are_there c ready) why cause)
  left_over c ready (refusal.Certificate why) cause = absurd (good_certificate (reads c) (are_there c ready) why cause)
  left_over c ready (refusal.NoTest name) cause = absurd (good_test c ready name cause)
  left_over c ready refusal.ReadFault cause = absurd (none_missed (reads c) (are_there c ready) cause)
  left_over c ready refusal.Memory cause = inr refl
  left_over c ready (refusal.TooMuch which count) cause = inl (too_much c which cause.0)

-- ---- whatever a command came to, it asked for its files alone

asked_as : (files rest : List (List ℕ × ℕ)) (seen whole : List Answer) → seen ≡ whole → files ≡ map (λ (answer : Answer). (answer.0, answer.1)) whole ++ rest → Asks files seen
asked_as files rest seen whole same is =
    (rest, subst (λ (s : List Answer). files ≡ map (λ (answer : Answer). (answer.0, answer.1)) s ++ rest) (sym same) is)

module _ (seen : List Answer) where
  source_asks : (name : List ℕ) (rest : List (List ℕ × ℕ)) (why : SourceCause) → HasBadSource name why seen → Asks ((name, source_and_one) ∷ rest) seen
  source_asks name rest why (source, is, bad) = asked_as ((name, source_and_one) ∷ rest) rest seen (came name source_and_one source ∷ []) is refl

  versions_ask : (o n : List ℕ) (rest : List (List ℕ × ℕ)) (which : Role) (why : SourceCause) → HasBadOfTwo o n which why seen → Asks ((o, source_and_one) ∷ (n, source_and_one) ∷ rest) seen
  versions_ask o n rest role.Source why bad = absurd bad
  versions_ask o n rest role.Old why bad = source_asks o ((n, source_and_one) ∷ rest) why bad
  versions_ask o n rest role.New why (x, y, is, good, bad) =
      asked_as ((o, source_and_one) ∷ (n, source_and_one) ∷ rest) rest seen (came o source_and_one x ∷ came n source_and_one y ∷ []) is refl

  bad_source_asks : (k : Reads) (which : Role) (why : SourceCause) → HasBadSourceOf k which why seen → Asks (asks k) seen
  bad_source_asks (suite_of s t) which why (is, bad) = source_asks s _ why bad
  bad_source_asks (earlier_of o h) which why (is, bad) = source_asks o _ why bad
  bad_source_asks (versions_of o n) which why bad = versions_ask o n _ which why bad
  bad_source_asks (history_of o n h) which why bad = versions_ask o n _ which why bad
  bad_source_asks (certificate_of o n h) which why bad = versions_ask o n _ which why bad
  bad_source_asks (made_of seed size) which why (none, bad) = asked_as [] [] seen [] none refl

  second_asks : (s t : List ℕ) (most : ℕ) → HasSecond s t most seen → Asks ((s, source_and_one) ∷ (t, most) ∷ []) seen
  second_asks s t most are = asked_as ((s, source_and_one) ∷ (t, most) ∷ []) [] seen (came s source_and_one are.source ∷ came t most are.bytes ∷ []) are.fetched refl

  two_ask : (o n : List ℕ) → HasTwo o n seen → Asks ((o, source_and_one) ∷ (n, source_and_one) ∷ []) seen
  two_ask o n are = asked_as ((o, source_and_one) ∷ (n, source_and_one) ∷ []) [] seen (came o source_and_one are.source ∷ came n source_and_one are.new_source ∷ []) are.fetched refl

  three_ask : (o n h : List ℕ) → HasThree o n h seen → Asks ((o, source_and_one) ∷ (n, source_and_one) ∷ (h, file_and_one) ∷ []) seen
  three_ask o n h are =
      asked_as ((o, source_and_one) ∷ (n, source_and_one) ∷ (h, file_and_one) ∷ []) [] seen
      (came o source_and_one are.source ∷ came n source_and_one are.new_source ∷ came h file_and_one are.bytes ∷ []) are.fetched refl

  bad_suite_asks : (k : Reads) (why : SuiteCause) → HasBadSuite k why seen → Asks (asks k) seen
  bad_suite_asks (suite_of s t) why bad = second_asks s t suite_and_one bad.0
  bad_suite_asks k why bad = absurd bad

  bad_history_asks : (k : Reads) (why : HistoryCause) → HasBadHistory k why seen → Asks (asks k) seen
  bad_history_asks (earlier_of o h) why bad = second_asks o h file_and_one bad.0
  bad_history_asks (history_of o n h) why bad = three_ask o n h bad.0
  bad_history_asks k why bad = absurd bad

  bad_certificate_asks : (k : Reads) (why : CertificateCause) → HasBadCertificate k why seen → Asks (asks k) seen
  bad_certificate_asks (certificate_of o n h) why bad = three_ask o n h bad.0
  bad_certificate_asks k why bad = absurd bad

  bad_test_asks : (c : Command) (name : List ℕ) → HasBadTest c name seen → Asks (asks (reads c)) seen
  bad_test_asks (explain_files o n h t) name (is, are, bad) = three_ask o n h are
  bad_test_asks c name bad = absurd bad

  fault_of_two_asks : (s t : List ℕ) (most : ℕ) (rest : List (List ℕ × ℕ)) → HasFaultOfTwo s t most seen → Asks ((s, source_and_one) ∷ (t, most) ∷ rest) seen
  fault_of_two_asks s t most rest (inl is) = asked_as ((s, source_and_one) ∷ (t, most) ∷ rest) ((t, most) ∷ rest) seen (missed s source_and_one ∷ []) is refl
  fault_of_two_asks s t most rest (inr (x, is, good)) =
      asked_as ((s, source_and_one) ∷ (t, most) ∷ rest) rest seen (came s source_and_one x ∷ missed t most ∷ []) is refl

  fault_of_three_asks : (o n h : List ℕ) (most : ℕ) → HasFaultOfThree o n h most seen → Asks ((o, source_and_one) ∷ (n, source_and_one) ∷ (h, most) ∷ []) seen
  fault_of_three_asks o n h most (inl fault) = fault_of_two_asks o n source_and_one ((h, most) ∷ []) fault
  fault_of_three_asks o n h most (inr (x, y, is, good, good')) =
      asked_as ((o, source_and_one) ∷ (n, source_and_one) ∷ (h, most) ∷ []) [] seen (came o source_and_one x ∷ came n source_and_one y ∷ missed h most ∷ []) is refl

  fault_asks : (k : Reads) → HasReadFault k seen → Asks (asks k) seen
  fault_asks (suite_of s t) fault = fault_of_two_asks s t suite_and_one [] fault
  fault_asks (earlier_of o h) fault = fault_of_two_asks o h file_and_one [] fault
  fault_asks (versions_of o n) fault = fault_of_two_asks o n source_and_one [] fault
  fault_asks (history_of o n h) fault = fault_of_three_asks o n h file_and_one fault
  fault_asks (certificate_of o n h) fault = fault_of_three_asks o n h file_and_one fault
  fault_asks (made_of seed size) fault = absurd fault

  said_asks : (c : Command) (end : End) (text : List ℕ) → IsSaid c seen end text → Asks (asks (reads c)) seen
  said_asks (record_files s t w) end text (is, (are, says)) = second_asks s t suite_and_one are
  said_asks (migrate_files o h) end text (is, (are, says)) = second_asks o h file_and_one are
  said_asks (walk_files o n) end text (is, are, says) = two_ask o n are
  said_asks (select_files o n h) end text (is, are, says) = three_ask o n h are
  said_asks (rerun_files o n h w) end text (how, is, are, says) = three_ask o n h are
  said_asks (explain_files o n h t) end text (is, are, says) = three_ask o n h are
  said_asks (carry_files o n h w) end text (is, are, says) = three_ask o n h are
  said_asks (order_files o n h w) end text (is, are, says) = three_ask o n h are
  said_asks (certify_files o n) end text (is, are, says) = two_ask o n are
  said_asks (check_files o n h) end text (how, is, are, says) = three_ask o n h are
  said_asks (gen_numbers seed size) end text (is, none, says) = asked_as [] [] seen [] none refl

  cause_asks : (c : Command) (r : Refusal) → HasCauseOf c seen r → Asks (asks (reads c)) seen
  cause_asks c refusal.Usage cause = absurd cause
  cause_asks c (refusal.Source which why) cause = bad_source_asks (reads c) which why cause
  cause_asks c (refusal.Suite why) cause = bad_suite_asks (reads c) why cause
  cause_asks c (refusal.History why) cause = bad_history_asks (reads c) why cause
  cause_asks c (refusal.Certificate why) cause = bad_certificate_asks (reads c) why cause
  cause_asks c (refusal.NoTest name) cause = bad_test_asks c name cause
  cause_asks c refusal.ReadFault cause = fault_asks (reads c) cause
  cause_asks c refusal.Memory cause = cause
  cause_asks c (refusal.TooMuch which count) cause = said_asks c Whole cause.1.bytes cause.1.text

  -- so want of memory could come in the place of every other refusal
  memory_cause : (c : Option Command) (r : Refusal) → HasCause c seen r → HasCause c seen refusal.Memory
  memory_cause (Some c) r cause = cause_asks c r cause
  memory_cause None refusal.Usage cause = cause
  memory_cause None refusal.Memory cause = cause
  memory_cause None r cause = absurd cause

-- ---- the answer

-- a command that is done is done whole, or ends otherwise as it may
ended : (c : Command) (seen : List Answer) (end : End) (text : List ℕ) → IsSaid c seen end text → (done_as end ≡ status.Done) ⊎ (other_end c ≡ Some (done_as end))
ended (rerun_files o n h w) seen end text (true, is, are, said) = inr (ap (λ e. Some (done_as e)) (sym is))
ended (rerun_files o n h w) seen end text (false, is, are, said) = inl (ap done_as is)
ended (check_files o n h) seen end text (true, is, are, said) = inl (ap done_as is)
ended (check_files o n h) seen end text (false, is, are, said) = inr (ap (λ e. Some (done_as e)) (sym is))
ended c seen end text said = inl (ap done_as said.0)

module _ (words : List (List ℕ)) (a z : List Answer) (b n : List ℕ) (fb fn : ℕ) (answer : Status8) where
  is_done : (c : Command) (s : Status8) → (s ≡ status.Done) ⊎ (other_end c ≡ Some s) → answer ≡ s → IsDone c answer
  is_done c s (inl done) is = inl (is ∙ done)
  is_done c s (inr other) is = inr (inl (other ∙ ap Some (sym is)))

  is_left : (c : Command) (s : Status8) → (other_end c ≡ Some s) ⊎ (s ≡ status.Memory) → answer ≡ s → IsDone c answer
  is_left c s (inl other) is = inr (inl (other ∙ ap Some (sym is)))
  is_left c s (inr memory) is = inr (inr (is ∙ memory))

  abbrev Answered : Type 0
  Answered = Sees a z (λ seen. (s : Status8) × (text : List ℕ) × Decides words seen s text × Says b n fb fn s text answer)

  pub done : (end : End) (text : List ℕ) → Sees a z (λ seen. HasTextOf (command_of words) seen end text) → Says b n fb fn (done_as end) text answer → Answered
  done end text (seen, added, has) says = (seen, added, (done_as end, text, inl (end, refl, has), says))

  pub refused : (r : Refusal) → Sees a z (λ seen. HasCause (command_of words) seen r) → Refuses b n fb fn r answer → Answered
  refused r (seen, added, cause) (inl says) = (seen, added, (status_of r, refusal_line r, inr (r, refl, refl, cause), says))
  refused r (seen, added, cause) (inr says) =
      (seen, added, (status.Memory, refusal_line refusal.Memory, inr (refusal.Memory, refl, refl, memory_cause seen (command_of words) r cause), says))

  -- what was seen is one
  same_seen : (Ready : List Answer → Type 0) (seen : List Answer) → z ≡ a ++ seen → Sees a z Ready → Ready seen
  same_seen Ready seen added (other, also, ready) = subst Ready (append_cancel_left a other seen (sym also ∙ added)) ready

  pub complete_done : (end : End) (text : List ℕ) → Sees a z (λ seen. HasTextOf (command_of words) seen end text) → Says b n fb fn (done_as end) text answer
      → IsComplete words a z fb fn answer
  complete_done end text (seen, added, has) (inl h) c is ready written =
      let here = subst (λ (d : Option Command). HasTextOf d seen end text) is has in
      is_done c (done_as end) (ended c seen end text here.said) h.0
  complete_done end text sees (inr h) c is ready written = absurd (written h.1)

  said : (c : Command) (r : Refusal) → (other_end c ≡ Some (status_of r)) ⊎ (status_of r ≡ status.Memory) → ¬ Rose fb fn → Refuses b n fb fn r answer → IsDone c answer
  said c r left written (inl (inl h)) = is_left c (status_of r) left h.0
  said c r left written (inl (inr h)) = absurd (written h.1)
  said c r left written (inr (inl h)) = is_left c status.Memory (inr refl) h.0
  said c r left written (inr (inr h)) = absurd (written h.1)

  pub complete_refused : (r : Refusal) → Sees a z (λ seen. HasCause (command_of words) seen r) → Refuses b n fb fn r answer → IsComplete words a z fb fn answer
  complete_refused r (seen, added, cause) refuses c is ready written =
      let here = subst (λ (d : Option Command). HasCause d seen r) is cause in
      said c r (left_over seen c (same_seen (AreReady c) seen added ready) r here) written refuses
