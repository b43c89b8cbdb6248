-- From what came of the files and what the output took to the files that are told and the bytes that were written.
use Rattle.std.proofs.Common.{◌≡◌, ◌+◌, ◌<◌, ◌≤◌, ℕ, cond, List, [], ◌∷◌, ◌++◌, length, take, Contains, Option, Some, None, unwrap_or, option_map, refl, sym, ap, ◌∙◌, subst, arith, inl, inr}
use Rattle.std.specs.Str.{bytes_eq}
use Rattle.std.proofs.lemmas.List.Elements.{Contains-append_right}
use Rattle.std.proofs.lemmas.List.Sums.{sum_by-append}
use Rattle.std.proofs.lemmas.Slice.Eq.{bytes_eq-Decides}
use Rattle.dv_outside.specs.Outside.{Files, Answer, file_at, IsFetched, AreTold, is_failure, failures, Rose, Appends, Takes}
use Rattle.csub_semantics.specs.Syntax.{ProgramTree}
use Rattle.test_history.specs.declared.version.Version.TheVariants.{Second, Third}
use Rattle.cert_text.specs.Causes.{HasCause as HasCertificateCause}
use Rattle.cert_text.specs.declared.error.CertificateError.{CertificateError}
use Rattle.cert_text.specs.declared.error.CertificateError.TheVariants as certificates
use Rattle.command_words.specs.Words.{Command, record_files, migrate_files, walk_files, select_files, rerun_files, explain_files}
use Rattle.command_words.specs.Words.{carry_files, order_files, certify_files, check_files, gen_numbers, command_of}
use Rattle.command_refusals.specs.Causes.{certificate_cause}
use Rattle.command_refusals.specs.declared.source.SourceCause.{SourceCause}
use Rattle.command_refusals.specs.declared.suite.SuiteCause.{SuiteCause}
use Rattle.command_refusals.specs.declared.history.HistoryCause.{HistoryCause}
use Rattle.command_refusals.specs.declared.certificate.CertificateCause.{CertificateCause}
use Rattle.command_refusals.specs.declared.refusal.Role.{Role}
use Rattle.command_refusals.specs.declared.refusal.Role.TheVariants as role
use Rattle.command_refusals.specs.declared.refusal.Refusal.{Refusal}
use Rattle.command_refusals.specs.declared.refusal.Refusal.TheVariants as refusal
use Rattle.command_files.specs.Causes.{NotAccepted}
use Rattle.command_files.specs.Files as come
use Rattle.command_files.specs.Files.{came, missed, source_and_one, suite_and_one, file_and_one, IsSource}
use Rattle.command_files.proofs.LawsFiles.{whole_file, long_file, found_file, not_accepted, no_suite_in, no_history_in}
use Rattle.command_claims.specs.Checked.{NoCertificate, bounds_by}
use Rattle.dejavu_cli.specs.Reads as read
use Rattle.dejavu_cli.specs.Reads.{Reads, suite_of, earlier_of, versions_of, history_of, certificate_of, made_of, reads}
use Rattle.dejavu_cli.specs.Texts as texts
use Rattle.dejavu_cli.specs.Causes as causes
use Rattle.dejavu_cli.specs.Answers as answers
use Rattle.command_runs.specs.Recorded.{IsRecorded}
use Rattle.dejavu_cli.specs.declared.answer.End.{End}
use Rattle.dejavu_cli.specs.declared.answer.End.TheVariants.{Whole}
use Rattle.dejavu_cli.specs.declared.status.Status8.{Status8}
use Rattle.told_answers.specs.Files.{HasBadSource, HasGoodSource, HasBadOfTwo, HasFaultOfTwo, HasFaultOfThree}
use Rattle.told_answers.specs.Held.{HasSecond, HasTwo, HasThree}
use Rattle.told_answers.specs.Texts.{IsSaid, HasTextOf}
use Rattle.told_answers.specs.Causes.{HasBadSourceOf, HasBadSuite, HasBadHistory, HasBadCertificate, HasBadTest, HasReadFault, HasCauseOf, HasCause}
use Rattle.told_answers.specs.Answers.{Decides, Says}

-- ---- where an answer stands

at_one : (x : Answer) → Contains (x ∷ []) x
at_one x = (0, omega arith, refl)

first_of_two : (x y : Answer) → Contains (x ∷ y ∷ []) x
first_of_two x y = (0, omega arith, refl)

second_of_two : (x y : Answer) → Contains (x ∷ y ∷ []) y
second_of_two x y = (1, omega arith, refl)

first_of_three : (x y z : Answer) → Contains (x ∷ y ∷ z ∷ []) x
first_of_three x y z = (0, omega arith, refl)

second_of_three : (x y z : Answer) → Contains (x ∷ y ∷ z ∷ []) y
second_of_three x y z = (1, omega arith, refl)

third_of_three : (x y z : Answer) → Contains (x ∷ y ∷ z ∷ []) z
third_of_three x y z = (2, omega arith, refl)

-- ---- the counts of faults

failures-append : (before more : List Answer) (name : List ℕ) → failures (before ++ more) name ≡ failures before name + failures more name
failures-append before more name = sum_by-append (λ (a : Answer). cond (is_failure name a) 1 0) before more

-- a miss is one
miss_counts : (name : List ℕ) → 0 + cond (bytes_eq name name) 1 0 ≡ 1
miss_counts name = ap (λ b. 0 + cond b 1 0) ((bytes_eq-Decides name name).1 refl)

-- a count that has one more rose
rose_by : (before more : List Answer) (name : List ℕ) → failures more name ≡ 1 → (old new : ℕ) → old ≡ failures before name → new ≡ failures (before ++ more) name → Rose old new
rose_by before more name one old new is_old is_new =
    let sum : new ≡ failures before name + failures more name = is_new ∙ failures-append before more name in
    inl (omega (arith, sum, one, is_old))

-- ---- a beginning of a certificate

-- what is told of a beginning of a certificate that is longer than one may be, or that is the whole file, holds of the file
module _ (old new bytes whole : List ℕ) (P P' : ProgramTree) (cause : CertificateCause) (begins : bytes ≡ take 134217729 whole)
    (n : NoCertificate old new bytes P P' cause) where
  of_whole : length bytes ≤ 134217728 → NoCertificate old new whole P P' cause
  of_whole short = subst (λ (b : List ℕ). NoCertificate old new b P P' cause) (whole_file 134217729 whole bytes begins (omega (arith, short))) n

  told_by : (error : CertificateError) → HasCertificateCause (bounds_by P P') bytes old new error → certificate_cause error ≡ Some cause → NoCertificate old new whole P P' cause
  told_by (certificates.TooLong k) why is =
      let all : 134217729 ≤ length whole = long_file 134217729 whole bytes begins (omega (arith, why.0, why.1)) in
      let long : 134217728 < length whole = omega (arith, all) in
      record {
        none = λ certificate reads. let short = reads.short in absurd (omega (arith, long, short));
        error = certificates.TooLong (length whole);
        why = (refl, long);
        is = is;
      }
  told_by certificates.Memory why is = absurd (cc)
  told_by error why is = of_whole why.0

  no_certificate_in : NoCertificate old new whole P P' cause
  no_certificate_in = told_by n.error n.why n.is

-- ---- what came is of the files

beginning_of : (held : Option (List ℕ)) (most : ℕ) (bytes : List ℕ) → option_map (take most) held ≡ Some bytes → (whole : List ℕ) × (held ≡ Some whole) × (bytes ≡ take most whole)
beginning_of None most bytes same = absurd (cc)
beginning_of (Some whole) most bytes same = (whole, refl, sym (ap (λ o. unwrap_or o []) same))

module _ (told : Option Files) (all before seen : List Answer) (added : all ≡ before ++ seen) (agree : AreTold told all) where
  pub fetched_in : (whole : List Answer) → seen ≡ whole → (name : List ℕ) (most : ℕ) (bytes : List ℕ) → Contains whole (came name most bytes) → IsFetched told name most bytes
  fetched_in whole is name most bytes has = λ files at.
      let here : Contains seen (came name most bytes) = subst (λ (l : List Answer). Contains l (came name most bytes)) (sym is) has in
      let there : Contains all (came name most bytes) = subst (λ (l : List Answer). Contains l (came name most bytes)) (sym added) (Contains-append_right before seen (came name most bytes) here) in
      beginning_of (file_at files name) most bytes (agree files at name most bytes there)

  module _ (faults faults' : List ℕ → ℕ) (is_faults : (name : List ℕ) → faults name ≡ failures before name) (is_faults' : (name : List ℕ) → faults' name ≡ failures all name) where
    rose : (name : List ℕ) → failures seen name ≡ 1 → Rose (faults name) (faults' name)
    rose name one = rose_by before seen name one (faults name) (faults' name) (is_faults name) (is_faults' name ∙ ap (λ (l : List Answer). failures l name) added)

    good_source : (name source : List ℕ) → IsFetched told name source_and_one source → IsSource source → HasGoodSource name told
    good_source name source fetched (P, accepted) = λ files at.
        let short = accepted.reads.short in
        (P, record { bytes = source; found = found_file told name 1048577 source fetched (omega (arith, short)) files at; accepted = accepted })

    bad_source_in : (name source : List ℕ) (why : SourceCause) → IsFetched told name source_and_one source → NotAccepted source why → HasBadSource name why told
    bad_source_in name source why fetched bad = λ files at.
        let file = fetched files at in
        record { bytes = file.0; found = file.1; is = not_accepted source file.0 why file.2 bad }

    bad_source : (name : List ℕ) (why : SourceCause) → come.HasBadSource name why seen → HasBadSource name why told
    bad_source name why (source, is, bad) = bad_source_in name source why (fetched_in (came name source_and_one source ∷ []) is name source_and_one source (at_one _)) bad

    bad_of_two : (o n : List ℕ) (which : Role) (why : SourceCause) → come.HasBadOfTwo o n which why seen → HasBadOfTwo o n which why told
    bad_of_two o n role.Source why bad = bad
    bad_of_two o n role.Old why bad = bad_source o why bad
    bad_of_two o n role.New why (x, y, is, good, bad) =
        let both : List Answer = came o source_and_one x ∷ came n source_and_one y ∷ [] in (
          good_source o x (fetched_in both is o source_and_one x (first_of_two _ _)) good,
          bad_source_in n y why (fetched_in both is n source_and_one y (second_of_two _ _)) bad,
        )

    fault_of_two : (s t : List ℕ) (most : ℕ) → come.HasFaultOfTwo s t most seen → HasFaultOfTwo s t told faults faults'
    fault_of_two s t most (inl is) = inl (rose s (ap (λ (l : List Answer). failures l s) is ∙ miss_counts s))
    fault_of_two s t most (inr (x, is, good)) = inr (
      good_source s x (fetched_in (came s source_and_one x ∷ missed t most ∷ []) is s source_and_one x (first_of_two _ _)) good,
      rose t (ap (λ (l : List Answer). failures l t) is ∙ miss_counts t),
    )

    fault_of_three : (o n h : List ℕ) (most : ℕ) → come.HasFaultOfThree o n h most seen → HasFaultOfThree o n h told faults faults'
    fault_of_three o n h most (inl fault) = inl (fault_of_two o n source_and_one fault)
    fault_of_three o n h most (inr (x, y, is, good, good')) =
        let three : List Answer = came o source_and_one x ∷ came n source_and_one y ∷ missed h most ∷ [] in
        inr (
          good_source o x (fetched_in three is o source_and_one x (first_of_three _ _ _)) good,
          good_source n y (fetched_in three is n source_and_one y (second_of_three _ _ _)) good',
          rose h (ap (λ (l : List Answer). failures l h) is ∙ miss_counts h),
        )

    -- ---- a source and a second file

    module _ (s t : List ℕ) (most : ℕ) (has : read.HasSecond s t most seen) where
      abbrev both : List Answer
      both = came s source_and_one has.source ∷ came t most has.bytes ∷ []

      second_bytes : IsFetched told t most has.bytes
      second_bytes = fetched_in both has.fetched t most has.bytes (second_of_two _ _)

      abbrev second_with : (files : Files) → told ≡ Some files → (bytes : List ℕ) → file_at files t ≡ Some bytes → HasSecond files s t
      second_with files at bytes found = record {
        source = has.source;
        program = has.program;
        found =
            let short = has.accepted.reads.short in
            found_file told s 1048577 has.source (fetched_in both has.fetched s source_and_one has.source (first_of_two _ _)) (omega (arith, short)) files at;
        accepted = has.accepted;
        alone = has.alone;
        bytes = bytes;
        second_found = found;
      }

      abbrev second : length has.bytes < most → (files : Files) → told ≡ Some files → HasSecond files s t
      second short files at = second_with files at has.bytes (found_file told t most has.bytes second_bytes short files at)

    -- ---- two versions

    module _ (o n : List ℕ) (x y : List ℕ) (P P' : ProgramTree) (sources : come.AreSources x y P P') (whole : List Answer) (is : seen ≡ whole)
        (old_in : Contains whole (came o source_and_one x)) (new_in : Contains whole (came n source_and_one y)) where
      abbrev two_in : (files : Files) → told ≡ Some files → HasTwo files o n
      two_in files at = record {
        source = x;
        new_source = y;
        old = P;
        new = P';
        versions = record {
          found =
              let short = sources.accepted.reads.short in
              found_file told o 1048577 x (fetched_in whole is o source_and_one x old_in) (omega (arith, short)) files at;
          accepted = sources.accepted;
          new_found =
              let short = sources.new_accepted.reads.short in
              found_file told n 1048577 y (fetched_in whole is n source_and_one y new_in) (omega (arith, short)) files at;
          new_accepted = sources.new_accepted;
          old_alone = sources.old_alone;
          new_alone = sources.new_alone;
        };
      }

    abbrev two : (o n : List ℕ) → read.HasTwo o n seen → (files : Files) → told ≡ Some files → HasTwo files o n
    two o n are files at =
        two_in o n are.source are.new_source are.old are.new are.sources (came o source_and_one are.source ∷ came n source_and_one are.new_source ∷ []) are.fetched
        (first_of_two _ _) (second_of_two _ _) files at

    -- ---- and a third file

    module _ (o n h : List ℕ) (has : read.HasThree o n h seen) where
      abbrev all_three : List Answer
      all_three = came o source_and_one has.source ∷ came n source_and_one has.new_source ∷ came h file_and_one has.bytes ∷ []

      third_bytes : IsFetched told h file_and_one has.bytes
      third_bytes = fetched_in all_three has.fetched h file_and_one has.bytes (third_of_three _ _ _)

      abbrev three_with : (files : Files) → told ≡ Some files → (bytes : List ℕ) → file_at files h ≡ Some bytes → HasThree files o n h
      three_with files at bytes found = record {
        two = two_in o n has.source has.new_source has.old has.new has.sources all_three has.fetched (first_of_three _ _ _) (second_of_three _ _ _) files at;
        bytes = bytes;
        found = found;
      }

      abbrev three : length has.bytes ≤ 134217728 → (files : Files) → told ≡ Some files → HasThree files o n h
      three short files at = three_with files at has.bytes (found_file told h 134217729 has.bytes third_bytes (omega (arith, short)) files at)

    -- ---- what is said

    recorded_short : (source bytes : List ℕ) (P : ProgramTree) (text : List ℕ) → IsRecorded source bytes P text → length bytes < 16777217
    recorded_short source bytes P text is = omega (arith, ap length is.reads.says.is, is.reads.suite.short)

    said : (c : Command) (end : End) (text : List ℕ) → texts.IsSaid c seen end text → (files : Files) → told ≡ Some files → IsSaid c files end text
    said (record_files s t w) end text (is, (are, says)) files at = (is, (second s t suite_and_one are (recorded_short are.source are.bytes are.program text says) files at, says))
    said (migrate_files o h) end text (is, (are, says)) files at = (is, (second o h file_and_one are (let short = says.reads.short in omega (arith, short)) files at, says))
    said (walk_files o n) end text (is, are, says) files at = (is, two o n are files at, says)
    said (select_files o n h) end text (is, are, says) files at = (is, three o n h are says.chosen.reads.short files at, says)
    said (rerun_files o n h w) end text (differs, is, are, says) files at = (differs, is, three o n h are says.chosen.reads.short files at, says)
    said (explain_files o n h t) end text (is, are, says) files at = (is, three o n h are says.chosen.reads.short files at, says)
    said (carry_files o n h w) end text (is, are, says) files at = (is, three o n h are says.chosen.reads.short files at, says)
    said (order_files o n h w) end text (is, are, says) files at = (is, three o n h are says.chosen.reads.short files at, says)
    said (certify_files o n) end text (is, are, says) files at = (is, two o n are files at, says)
    said (check_files o n h) end text (closed, is, are, says) files at = (closed, is, three o n h are says.file.short files at, says)
    said (gen_numbers seed size) end text (is, none, says) files at = (is, says)

    pub text_of : (c : Option Command) (end : End) (text : List ℕ) → texts.HasTextOf c seen end text → HasTextOf c told end text
    text_of None end text has = has
    text_of (Some (gen_numbers seed size)) end text has = (has.said.0, has.said.2)
    text_of (Some c) end text has = λ files at. record { said = said c end text has.said files at; fits = has.fits }

    -- ---- why a command isn't done

    source_cause : (k : Reads) (which : Role) (why : SourceCause) → causes.HasBadSourceOf k which why seen → HasBadSourceOf k which why told
    source_cause (suite_of s t) which why (is, bad) = (is, bad_source s why bad)
    source_cause (earlier_of o h) which why (is, bad) = (is, bad_source o why bad)
    source_cause (versions_of o n) which why bad = bad_of_two o n which why bad
    source_cause (history_of o n h) which why bad = bad_of_two o n which why bad
    source_cause (certificate_of o n h) which why bad = bad_of_two o n which why bad
    source_cause (made_of seed size) which why (none, bad) = bad

    suite_cause : (k : Reads) (why : SuiteCause) → causes.HasBadSuite k why seen → HasBadSuite k why told
    suite_cause (suite_of s t) why (are, bad) = λ files at.
        let file = second_bytes s t suite_and_one are files at in
        (second_with s t suite_and_one are files at file.0 file.1, no_suite_in are.bytes file.0 why file.2 bad)
    suite_cause k why bad = absurd bad

    history_cause : (k : Reads) (why : HistoryCause) → causes.HasBadHistory k why seen → HasBadHistory k why told
    history_cause (earlier_of o h) why (are, bad) = λ files at.
        let file = second_bytes o h file_and_one are files at in
        (second_with o h file_and_one are files at file.0 file.1, no_history_in Second are.source are.bytes file.0 are.program why file.2 bad)
    history_cause (history_of o n h) why (are, bad) = λ files at.
        let file = third_bytes o n h are files at in
        (three_with o n h are files at file.0 file.1, no_history_in Third are.source are.bytes file.0 are.old why file.2 bad)
    history_cause k why bad = absurd bad

    certificate_fault : (k : Reads) (why : CertificateCause) → causes.HasBadCertificate k why seen → HasBadCertificate k why told
    certificate_fault (certificate_of o n h) why (are, bad) = λ files at.
        let file = third_bytes o n h are files at in
        (three_with o n h are files at file.0 file.1, no_certificate_in are.source are.new_source are.bytes file.0 are.old are.new why file.2 bad)
    certificate_fault k why bad = absurd bad

    test_cause : (c : Command) (name : List ℕ) → causes.HasBadTest c name seen → HasBadTest c name told
    test_cause (explain_files o n h t) name (is, are, bad) = (is, λ files at. (three o n h are bad.reads.short files at, bad))
    test_cause c name bad = absurd bad

    fault_cause : (k : Reads) → causes.HasReadFault k seen → HasReadFault k told faults faults'
    fault_cause (suite_of s t) fault = fault_of_two s t suite_and_one fault
    fault_cause (earlier_of o h) fault = fault_of_two o h file_and_one fault
    fault_cause (versions_of o n) fault = fault_of_two o n source_and_one fault
    fault_cause (history_of o n h) fault = fault_of_three o n h file_and_one fault
    fault_cause (certificate_of o n h) fault = fault_of_three o n h file_and_one fault
    fault_cause (made_of seed size) fault = fault

    cause_of : (c : Command) (r : Refusal) → causes.HasCauseOf c seen r → HasCauseOf c told faults faults' r
    cause_of c refusal.Usage cause = cause
    cause_of c (refusal.Source which why) cause = source_cause (reads c) which why cause
    cause_of c (refusal.Suite why) cause = suite_cause (reads c) why cause
    cause_of c (refusal.History why) cause = history_cause (reads c) why cause
    cause_of c (refusal.Certificate why) cause = certificate_fault (reads c) why cause
    cause_of c (refusal.NoTest name) cause = test_cause c name cause
    cause_of c refusal.ReadFault cause = fault_cause (reads c) cause
    cause_of c refusal.Memory cause = tt
    cause_of c (refusal.TooMuch which count) cause = (
      cause.0,
      λ files at. record { bytes = cause.1.bytes; text = said c Whole cause.1.bytes cause.1.text files at; counted = cause.1.counted; long = cause.1.long },
    )

    cause : (c : Option Command) (r : Refusal) → causes.HasCause c seen r → HasCause c told faults faults' r
    cause (Some c) r holds = cause_of c r holds
    cause None refusal.Usage holds = tt
    cause None refusal.Memory holds = tt
    cause None r holds = absurd holds

    pub decided : (words : List (List ℕ)) (s : Status8) (text : List ℕ) → answers.Decides words seen s text → Decides words told faults faults' s text
    decided words s text (inl (end, is, has)) = inl (end, is, text_of (command_of words) end text has)
    decided words s text (inr (r, is, line, holds)) = inr (r, is, line, cause (command_of words) r holds)

-- ---- what was taken was written

nothing_told : (held : List ℕ) → None ≡ Some held → ⊥
nothing_told held is = cc

-- what is told of one output of a kind is told of each
pub appended : (before now : Option (List ℕ)) (taken taken' text : List ℕ) → ((bytes : List ℕ) → before ≡ Some bytes → before ≡ Some taken) → ((bytes : List ℕ) → before ≡ Some bytes → now ≡ Some taken')
    → ((bytes : List ℕ) → now ≡ Some bytes → before ≡ Some taken) → Takes taken taken' text → Appends before now text
appended (Some bytes) now taken taken' text is_before is_now back takes =
    is_now bytes refl ∙ ap Some (takes ∙ ap (λ held. held ++ text) (sym (ap (λ o. unwrap_or o []) (is_before bytes refl))))
appended None None taken taken' text is_before is_now back takes = refl
appended None (Some bytes) taken taken' text is_before is_now back takes = absurd (nothing_told taken (back bytes refl))

module _ (before now : Option (List ℕ)) (taken taken' : List ℕ) (is_before : (bytes : List ℕ) → before ≡ Some bytes → before ≡ Some taken)
    (is_now : (bytes : List ℕ) → before ≡ Some bytes → now ≡ Some taken') (back : (bytes : List ℕ) → now ≡ Some bytes → before ≡ Some taken) where
  pub says : (fb fn : ℕ) (s : Status8) (text : List ℕ) (answer : Status8) → answers.Says taken taken' fb fn s text answer → Says before now fb fn s text answer
  says fb fn s text answer (inl h) = inl (h.0, appended before now taken taken' text is_before is_now back h.1)
  says fb fn s text answer (inr (is, rise, (count, few, takes))) = inr (is, rise, (count, few, appended before now taken taken' (take count text) is_before is_now back takes))
