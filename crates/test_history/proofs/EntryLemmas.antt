-- The lines of an entry, read one by one.
use Rattle.std.proofs.Common.{◌≡◌, ◌≤◌, ◌+◌, ◌-◌, ◌*◌, ℕ, Bool, List, [], ◌∷◌, ◌++◌, length, drop, codes, refl, sym, ap, subst, ◌∙◌, arith, append_assoc}
use Rattle.std.specs.Fmt.{decimal}
use Rattle.std.proofs.lemmas.Fmt.{decimal_injective}
use Rattle.std.specs.List.{Contains}
use Rattle.hex.specs.Hex.{IsBytes}
use Rattle.csub_semantics.specs.Memory.{most_output}
use Rattle.csub_semantics.specs.declared.status.Status.{Status}
use Rattle.line_text.specs.Bytes.{bytes_or_dash}
use Rattle.line_text.specs.Lines.{text_of_lines, HasLine}
use Rattle.line_text.specs.Words.{line_of_words}
use Rattle.test_suite.specs.Tests.{TestParts, most_budget, most_input}
use Rattle.test_history.specs.declared.version.Version.{Version}
use Rattle.test_history.specs.Faults.{IsReadTo, IsAtEntry, IsGoodEntry}
use Rattle.test_history.specs.Histories.{EntryParts, IsByteStatus}
use Rattle.line_text.specs.Values.{value_line, HasNumber, HasBytes}
use Rattle.test_history.specs.HistoryTexts.{status_words, crossed_line, entry_lines}
use Rattle.test_history.specs.Rules.{h7, h8, h9, h10, h11, h12, IsFirstFault, HasName}
use Rattle.test_history.proofs.AskedLemmas.{edges_same}
use Rattle.line_text.proofs.LawsOfValues.{IsPlain, plain_value, plain_decimal, plain_bytes, one_value}
use Rattle.test_history.proofs.PlainLemmas.{plain_status, plain_crossed}
use Rattle.test_history.proofs.ReadLemmas.{at_line, entry_line, entry_fault, name_line}
use Rattle.line_text.proofs.LawsOfTexts.{in_rest, has_next, lines_cons}

-- an entry is being read: n lines stand before it
module _ (version : Version) (text : List ℕ) (edges : ℕ) (names : List (List ℕ)) (n : ℕ) (at : IsAtEntry text edges names) (first : n ≡ 4 + 7 * length names) where
  -- its second line
  pub budget_line : (rest left : List ℕ) (budget : ℕ) → IsReadTo version text (n + 1) rest → rest ≡ value_line (codes "budget") (decimal budget) ++ 10 ∷ left → budget ≤ most_budget
      → IsReadTo version text (n + 2) left × HasNumber text (n + 2) (codes "budget") most_budget budget
  budget_line rest left budget read cut within =
      let plain : IsPlain (value_line (codes "budget") (decimal budget)) = plain_value (codes "budget") (decimal budget) refl (plain_decimal budget (omega arith)) in
      let here : HasLine text (n + 1 + 1) (value_line (codes "budget") (decimal budget)) = has_next text rest (value_line (codes "budget") (decimal budget)) left (n + 1) read.lines cut plain in
      let next : n + 1 + 1 ≡ n + 2 = omega arith in (
        at_line version text left (n + 1 + 1) (n + 2) next
            (entry_line version text edges names rest (value_line (codes "budget") (decimal budget)) left (n + 1) 1 h7 at (omega arith) (omega arith) (omega arith) refl read cut plain (λ has. (budget, (within, has)))),
        (within, subst (λ k. HasLine text k (value_line (codes "budget") (decimal budget))) next here),
      )

  pub no_budget : (rest : List ℕ) → IsReadTo version text (n + 1) rest → ((budget : ℕ) → ¬ HasNumber rest 1 (codes "budget") most_budget budget) → IsFirstFault version text (n + 2) 7
  no_budget rest read none =
      let next : n + 1 + 1 ≡ n + 2 = omega arith in
      subst (λ k. IsFirstFault version text k 7) next
      (entry_fault version text edges names rest (n + 1) 1 h7 at (omega arith) (omega arith) (omega arith) refl (at.tests, length names, at.says, at.more, omega arith) read
      (λ keeps. none keeps.0 (keeps.1.0, in_rest text rest (n + 1) (value_line (codes "budget") (decimal keeps.0)) read.lines keeps.1.1)))

  -- its third
  pub input_line : (rest left input : List ℕ) → IsReadTo version text (n + 2) rest → rest ≡ value_line (codes "input") (bytes_or_dash input) ++ 10 ∷ left → IsBytes input → length input ≤ most_input → IsReadTo version text (n + 3) left
  input_line rest left input read cut bytes within =
      let next : n + 2 + 1 ≡ n + 3 = omega arith in
      at_line version text left (n + 2 + 1) (n + 3) next
      (entry_line version text edges names rest (value_line (codes "input") (bytes_or_dash input)) left (n + 2) 2 h8 at (omega arith) (omega arith) (omega arith) refl read cut (plain_value (codes "input") (bytes_or_dash input) refl (plain_bytes input))
      (λ has. (input, bytes, within, has)))

  pub no_input : (rest : List ℕ) → IsReadTo version text (n + 2) rest → ¬ HasBytes rest 1 (codes "input") most_input → IsFirstFault version text (n + 3) 8
  no_input rest read none =
      let next : n + 2 + 1 ≡ n + 3 = omega arith in
      subst (λ k. IsFirstFault version text k 8) next
      (entry_fault version text edges names rest (n + 2) 2 h8 at (omega arith) (omega arith) (omega arith) refl (at.tests, length names, at.says, at.more, omega arith) read
      (λ keeps. none (keeps.0, keeps.1, keeps.2, in_rest text rest (n + 2) (value_line (codes "input") (bytes_or_dash keeps.0)) read.lines keeps.3)))

  -- its fourth
  pub status_line : (rest left : List ℕ) (s : Status) → IsReadTo version text (n + 3) rest → rest ≡ line_of_words (codes "status" ∷ status_words s) ++ 10 ∷ left → IsByteStatus s → IsReadTo version text (n + 4) left
  status_line rest left s read cut fits =
      let next : n + 3 + 1 ≡ n + 4 = omega arith in
      at_line version text left (n + 3 + 1) (n + 4) next
      (entry_line version text edges names rest (line_of_words (codes "status" ∷ status_words s)) left (n + 3) 3 h9 at (omega arith) (omega arith) (omega arith) refl read cut (plain_status s fits) (λ has. (s, fits, has)))

  pub no_status : (rest : List ℕ) → IsReadTo version text (n + 3) rest → ((s : Status) → IsByteStatus s → ¬ HasLine rest 1 (line_of_words (codes "status" ∷ status_words s))) → IsFirstFault version text (n + 4) 9
  no_status rest read none =
      let next : n + 3 + 1 ≡ n + 4 = omega arith in
      subst (λ k. IsFirstFault version text k 9) next
      (entry_fault version text edges names rest (n + 3) 3 h9 at (omega arith) (omega arith) (omega arith) refl (at.tests, length names, at.says, at.more, omega arith) read
      (λ keeps. none keeps.0 keeps.1 (in_rest text rest (n + 3) (line_of_words (codes "status" ∷ status_words keeps.0)) read.lines keeps.2)))

  -- its fifth
  pub turns_line : (rest left : List ℕ) (budget turns : ℕ) → HasNumber text (n + 2) (codes "budget") most_budget budget → IsReadTo version text (n + 4) rest
      → rest ≡ value_line (codes "turns") (decimal turns) ++ 10 ∷ left → turns ≤ budget → IsReadTo version text (n + 5) left
  turns_line rest left budget turns says read cut within =
      let next : n + 4 + 1 ≡ n + 5 = omega arith in
      let back : n + 2 ≡ n + 4 + 1 - 3 = omega arith in
      at_line version text left (n + 4 + 1) (n + 5) next
      (entry_line version text edges names rest (value_line (codes "turns") (decimal turns)) left (n + 4) 4 h10 at (omega arith) (omega arith) (omega arith) refl read cut (plain_value (codes "turns") (decimal turns) refl (plain_decimal turns (omega (arith, says.0))))
      (λ has. (budget, turns, subst (λ k. HasNumber text k (codes "budget") most_budget budget) back says, (within, has))))

  pub no_turns : (rest : List ℕ) (budget : ℕ) → HasNumber text (n + 2) (codes "budget") most_budget budget → IsReadTo version text (n + 4) rest
      → ((turns : ℕ) → ¬ HasNumber rest 1 (codes "turns") budget turns) → IsFirstFault version text (n + 5) 10
  no_turns rest budget says read none =
      let next : n + 4 + 1 ≡ n + 5 = omega arith in
      let back : n + 4 + 1 - 3 ≡ n + 2 = omega arith in
      subst (λ k. IsFirstFault version text k 10) next
      (entry_fault version text edges names rest (n + 4) 4 h10 at (omega arith) (omega arith) (omega arith) refl (at.tests, length names, at.says, at.more, omega arith) read
      (λ keeps.
      let same : keeps.0 ≡ budget = budget_same keeps.0 (subst (λ k. HasNumber text k (codes "budget") most_budget keeps.0) back keeps.2) in
      none keeps.1 (omega (arith, keeps.3.0, same), in_rest text rest (n + 4) (value_line (codes "turns") (decimal keeps.1)) read.lines keeps.3.1)))
    where
      budget_same : (other : ℕ) → HasNumber text (n + 2) (codes "budget") most_budget other → other ≡ budget
      budget_same other has =
          decimal_injective other budget (omega (arith, has.0)) (omega (arith, says.0)) (one_value text (n + 2) (codes "budget") (decimal other) (decimal budget) has.1 says.1)

  -- its sixth
  pub output_line : (rest left output : List ℕ) → IsReadTo version text (n + 5) rest → rest ≡ value_line (codes "output") (bytes_or_dash output) ++ 10 ∷ left → IsBytes output → length output ≤ most_output → IsReadTo version text (n + 6) left
  output_line rest left output read cut bytes within =
      let next : n + 5 + 1 ≡ n + 6 = omega arith in
      at_line version text left (n + 5 + 1) (n + 6) next
      (entry_line version text edges names rest (value_line (codes "output") (bytes_or_dash output)) left (n + 5) 5 h11 at (omega arith) (omega arith) (omega arith) refl read cut (plain_value (codes "output") (bytes_or_dash output) refl (plain_bytes output))
      (λ has. (output, bytes, within, has)))

  pub no_output : (rest : List ℕ) → IsReadTo version text (n + 5) rest → ¬ HasBytes rest 1 (codes "output") most_output → IsFirstFault version text (n + 6) 11
  no_output rest read none =
      let next : n + 5 + 1 ≡ n + 6 = omega arith in
      subst (λ k. IsFirstFault version text k 11) next
      (entry_fault version text edges names rest (n + 5) 5 h11 at (omega arith) (omega arith) (omega arith) refl (at.tests, length names, at.says, at.more, omega arith) read
      (λ keeps. none (keeps.0, keeps.1, keeps.2, in_rest text rest (n + 5) (value_line (codes "output") (bytes_or_dash keeps.0)) read.lines keeps.3)))

  -- its seventh
  pub crossed_read : (rest left : List ℕ) (row : List Bool) → IsReadTo version text (n + 6) rest → rest ≡ crossed_line version row ++ 10 ∷ left → length row ≡ edges → IsReadTo version text (n + 7) left
  crossed_read rest left row read cut size =
      let next : n + 6 + 1 ≡ n + 7 = omega arith in
      at_line version text left (n + 6 + 1) (n + 7) next
      (entry_line version text edges names rest (crossed_line version row) left (n + 6) 6 h12 at (omega arith) (omega arith) (omega arith) refl read cut (plain_crossed version row (omega (arith, size, at.bound.0)))
      (λ has. (edges, row, at.bound, size, has)))

  pub no_crossed : (rest : List ℕ) → IsReadTo version text (n + 6) rest → ((row : List Bool) → length row ≡ edges → ¬ HasLine rest 1 (crossed_line version row)) → IsFirstFault version text (n + 7) 12
  no_crossed rest read none =
      let next : n + 6 + 1 ≡ n + 7 = omega arith in
      subst (λ k. IsFirstFault version text k 12) next
      (entry_fault version text edges names rest (n + 6) 6 h12 at (omega arith) (omega arith) (omega arith) refl (at.tests, length names, at.says, at.more, omega arith) read
      (λ keeps. none keeps.1 (keeps.3 ∙ edges_same text keeps.0 edges keeps.2 at.bound) (in_rest text rest (n + 6) (crossed_line version keeps.1) read.lines keeps.4)))

  -- the whole entry
  pub entry_read : (rest left : List ℕ) (entry : EntryParts) → IsReadTo version text n rest → IsGoodEntry edges entry → ¬ Contains names entry.test.name → rest ≡ text_of_lines (entry_lines version entry) ++ left
      → IsReadTo version text (n + 7) left × HasName text (n + 1) entry.test.name
  entry_read rest left entry read good new cut =
      let one = name_line version text edges names rest entry.test.name (text_of_lines (drop 1 (entry_lines version entry)) ++ left) n at first read (cut ∙ next_line (value_line (codes "test") entry.test.name) (text_of_lines (drop 1 (entry_lines version entry)))) good.within.test.name new in
      let two = budget_line _ (text_of_lines (drop 2 (entry_lines version entry)) ++ left) entry.test.budget one.0 (next_line (value_line (codes "budget") (decimal entry.test.budget)) (text_of_lines (drop 2 (entry_lines version entry)))) good.within.test.budget in
      let three = input_line _ (text_of_lines (drop 3 (entry_lines version entry)) ++ left) entry.test.input two.0 (next_line (value_line (codes "input") (bytes_or_dash entry.test.input)) (text_of_lines (drop 3 (entry_lines version entry)))) good.bytes.input good.within.test.input in
      let four = status_line _ (text_of_lines (drop 4 (entry_lines version entry)) ++ left) entry.status three (next_line (line_of_words (codes "status" ∷ status_words entry.status)) (text_of_lines (drop 4 (entry_lines version entry)))) good.bytes.status in
      let five = turns_line _ (text_of_lines (drop 5 (entry_lines version entry)) ++ left) entry.test.budget entry.turns two.1 four (next_line (value_line (codes "turns") (decimal entry.turns)) (text_of_lines (drop 5 (entry_lines version entry)))) good.within.turns in
      let six = output_line _ (text_of_lines (drop 6 (entry_lines version entry)) ++ left) entry.output five (next_line (value_line (codes "output") (bytes_or_dash entry.output)) (text_of_lines (drop 6 (entry_lines version entry)))) good.bytes.output good.within.output in
      let seven = crossed_read _ left entry.crossed six (next_line (crossed_line version entry.crossed) []) good.row in
      (seven, one.1)
    where
      next_line : (line more : List ℕ) → (line ++ 10 ∷ more) ++ left ≡ line ++ 10 ∷ (more ++ left)
      next_line line more = append_assoc line (10 ∷ more) left

-- the text of an entry, by its lines
pub entry_is : (version : Version) (text r1 r2 r3 rest : List ℕ) (entry : EntryParts) (test : TestParts) → entry.test ≡ test → text ≡ value_line (codes "test") test.name ++ 10 ∷ r1 → r1 ≡ value_line (codes "budget") (decimal test.budget) ++ 10 ∷ r2
    → r2 ≡ value_line (codes "input") (bytes_or_dash test.input) ++ 10 ∷ r3 → r3 ≡ text_of_lines (drop 3 (entry_lines version entry)) ++ rest → text ≡ text_of_lines (entry_lines version entry) ++ rest
entry_is version text r1 r2 r3 rest entry test same one two three results =
    lines_cons text (value_line (codes "test") entry.test.name) r1 rest (drop 1 (entry_lines version entry)) (one ∙ ap (λ (t : TestParts). value_line (codes "test") t.name ++ 10 ∷ r1) (sym same))
    (lines_cons r1 (value_line (codes "budget") (decimal entry.test.budget)) r2 rest (drop 2 (entry_lines version entry)) (two ∙ ap (λ (t : TestParts). value_line (codes "budget") (decimal t.budget) ++ 10 ∷ r2) (sym same))
    (lines_cons r2 (value_line (codes "input") (bytes_or_dash entry.test.input)) r3 rest (drop 3 (entry_lines version entry)) (three ∙ ap (λ (t : TestParts). value_line (codes "input") (bytes_or_dash t.input) ++ 10 ∷ r3) (sym same)) results))

-- and of what its run gave
pub results_are : (version : Version) (text r1 r2 r3 rest : List ℕ) (entry : EntryParts) → text ≡ line_of_words (codes "status" ∷ status_words entry.status) ++ 10 ∷ r1 → r1 ≡ value_line (codes "turns") (decimal entry.turns) ++ 10 ∷ r2
    → r2 ≡ value_line (codes "output") (bytes_or_dash entry.output) ++ 10 ∷ r3 → r3 ≡ crossed_line version entry.crossed ++ 10 ∷ rest → text ≡ text_of_lines (drop 3 (entry_lines version entry)) ++ rest
results_are version text r1 r2 r3 rest entry four five six seven =
    lines_cons text (line_of_words (codes "status" ∷ status_words entry.status)) r1 rest (drop 4 (entry_lines version entry)) four
    (lines_cons r1 (value_line (codes "turns") (decimal entry.turns)) r2 rest (drop 5 (entry_lines version entry)) five
    (lines_cons r2 (value_line (codes "output") (bytes_or_dash entry.output)) r3 rest (drop 6 (entry_lines version entry)) six
    (lines_cons r3 (crossed_line version entry.crossed) rest rest [] seven refl)))
