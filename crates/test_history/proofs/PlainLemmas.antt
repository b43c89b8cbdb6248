-- No line of a history has a newline in it.
use Rattle.std.proofs.Common.{◌≢◌, ◌<◌, ℕ, Bool, ◌≡◌, true, List, [], ◌∷◌, ◌^◌, length, map, codes, refl, arith}
use Rattle.std.specs.Fmt.{decimal}
use Rattle.std.specs.List.{All}
use Rattle.std.proofs.lemmas.List.Elements.{All-nil, All-cons, All-head, All-tail, All-append, All-map, All-weaker}
use Rattle.csub_semantics.specs.declared.status.Status.{Status}
use Rattle.csub_semantics.specs.declared.status.Status.TheVariants as status
use Rattle.csub_types.specs.declared.trap.Trap.{Trap}
use Rattle.csub_types.specs.declared.trap.Trap.TheVariants.{Overflow, Divide, Shift, Bounds, Unset, Flood, Depth, Missing}
use Rattle.edge_trace.specs.Rows.{numbers_of}
use Rattle.edge_trace.proofs.LawsOfNumbers.{AreRising, AreRising-numbers_of}
use Rattle.line_text.specs.Bytes.{bytes_or_dash}
use Rattle.line_text.specs.Values.{value_line}
use Rattle.line_text.specs.Words.{line_of_words}
use Rattle.line_text.proofs.LawsOfValues.{IsPlain, plain_word, plain_value, plain_decimal, plain_bytes}
use Rattle.test_suite.specs.Tests.{IsTestName, goes_in_name}
use Rattle.test_history.specs.declared.version.Version.{Version}
use Rattle.test_history.specs.declared.version.Version.TheVariants.{Second, Third}
use Rattle.test_history.specs.Histories.{IsByteStatus}
use Rattle.test_history.specs.HistoryTexts.{version_line, version_number, crossed_line, row_bytes, status_words, trap_name, words_or_dash}

name_byte : (byte : ℕ) → goes_in_name byte ≡ true → byte ≢ 10
name_byte byte goes is = grind arith

pub plain_name : (name : List ℕ) → IsTestName name → IsPlain name
plain_name name h = All-weaker (λ byte. goes_in_name byte ≡ true) (λ byte. byte ≢ 10) name_byte name h.rest

plain_trap : (trap : Trap) → IsPlain (trap_name trap)
plain_trap Overflow = plain_word (codes "overflow") refl
plain_trap Divide = plain_word (codes "divide") refl
plain_trap Shift = plain_word (codes "shift") refl
plain_trap Bounds = plain_word (codes "bounds") refl
plain_trap Unset = plain_word (codes "unset") refl
plain_trap Flood = plain_word (codes "flood") refl
plain_trap Depth = plain_word (codes "depth") refl
plain_trap Missing = plain_word (codes "missing") refl

pub plain_status : (s : Status) → IsByteStatus s → IsPlain (line_of_words (codes "status" ∷ status_words s))
plain_status (status.Exit n) h = plain_value (codes "status") (value_line (codes "exit") (decimal n)) refl (plain_value (codes "exit") (decimal n) refl (plain_decimal n (omega arith)))
plain_status (status.Trap trap) h = plain_value (codes "status") (value_line (codes "trap") (trap_name trap)) refl (plain_value (codes "trap") (trap_name trap) refl (plain_trap trap))
plain_status status.Turns h = plain_word (codes "status turns") refl

plain_join : (words : List (List ℕ)) → All (λ word. All (λ byte. byte ≢ 10) word) words → IsPlain (line_of_words words)
plain_join [] h = All-nil (λ byte. byte ≢ 10)
plain_join (word ∷ []) h = All-head (λ w. All (λ byte. byte ≢ 10) w) word [] h
plain_join (word ∷ next ∷ more) h =
    let Plain : List ℕ → Type 0 = λ w. All (λ byte. byte ≢ 10) w in
    All-append (λ byte. byte ≢ 10) word (32 ∷ line_of_words (next ∷ more)) (All-head Plain word (next ∷ more) h)
    (All-cons (λ byte. byte ≢ 10) 32 (line_of_words (next ∷ more)) (λ is. omega arith) (plain_join (next ∷ more) (All-tail Plain word (next ∷ more) h)))

plain_numbers : (bound : ℕ) (numbers : List ℕ) → bound < 2 ^ 32 → AreRising bound numbers → IsPlain (line_of_words (words_or_dash numbers))
plain_numbers bound [] small h = plain_word (codes "-") refl
plain_numbers bound (n ∷ more) small h =
    plain_join (map decimal (n ∷ more)) (All-map (λ word. All (λ byte. byte ≢ 10) word) decimal (n ∷ more)
    (All-weaker (λ number. number < bound) (λ number. All (λ byte. byte ≢ 10) (decimal number)) (λ number under. plain_decimal number (omega arith)) (n ∷ more) h.below))

pub plain_crossed : (version : Version) (row : List Bool) → length row < 2 ^ 32 → IsPlain (crossed_line version row)
plain_crossed Second row small =
    plain_value (codes "crossed") (line_of_words (words_or_dash (numbers_of row))) refl (plain_numbers (length row) (numbers_of row) small (AreRising-numbers_of row (length row) refl))
plain_crossed Third row small = plain_value (codes "crossed") (bytes_or_dash (row_bytes row)) refl (plain_bytes (row_bytes row))

-- the number of a version has one digit
pub small_version : (version : Version) → version_number version < 10
small_version Second = omega arith
small_version Third = omega arith

pub plain_version : (version : Version) → IsPlain (version_line version)
plain_version version = plain_value (codes "dejavu history") (decimal (version_number version)) refl (plain_decimal (version_number version) (omega (arith, small_version version)))
