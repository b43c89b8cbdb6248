-- What is known of the tests of a history whose selected tests ran again on a new program.
use Rattle.std.specs.Prelude.{◌≡◌, ⊤, ℕ, Bool, true, false, not, ◌&&◌, nat_eq, List, [], ◌∷◌, count_by, All}
use Rattle.std.specs.Str.{bytes_eq}
use Rattle.csub_types.specs.declared.trap.Trap.{Trap}
use Rattle.csub_types.specs.declared.trap.Trap.TheVariants.{Overflow, Divide, Shift, Bounds, Unset, Flood, Depth, Missing}
use Rattle.csub_semantics.specs.declared.status.Status.{Status}
use Rattle.csub_semantics.specs.declared.status.Status.TheVariants as status
use Rattle.test_history.specs.Histories.{EntryParts}
use Rattle.test_select.specs.declared.choice.Choice.{Choice}
use Rattle.test_select.specs.declared.choice.Choice.TheVariants.{Selected, Left}

-- a test in the end: it was left, or it ran again, and here are its entry and its result on the new program
pub data Outcome : Type 0 where
  was_left : EntryParts → Outcome
  ran_again : EntryParts → EntryParts → Outcome

-- each test of a history, in order, by its entry and its choice; the results are those of the selected tests, in order
abbrev pub outcomes : List EntryParts → List Choice → List EntryParts → List Outcome
outcomes (entry ∷ entries) (Left ∷ choices) results = was_left entry ∷ outcomes entries choices results
outcomes (entry ∷ entries) (Selected edge ∷ choices) (result ∷ results) = ran_again entry result ∷ outcomes entries choices results
outcomes entries choices results = []

-- a run behaves as an entry tells: with the same output, status and number of turns
pub record BehavesAs (entry result : EntryParts) : Type 0 where
  pub output : entry.output ≡ result.output
  pub status : entry.status ≡ result.status
  pub turns : entry.turns ≡ result.turns

-- whether two traps, and two statuses, are equal
abbrev pub trap_eq : Trap → Trap → Bool
trap_eq Overflow Overflow = true
trap_eq Divide Divide = true
trap_eq Shift Shift = true
trap_eq Bounds Bounds = true
trap_eq Unset Unset = true
trap_eq Flood Flood = true
trap_eq Depth Depth = true
trap_eq Missing Missing = true
trap_eq a b = false

abbrev pub status_eq : Status → Status → Bool
status_eq (status.Exit m) (status.Exit n) = nat_eq m n
status_eq (status.Trap a) (status.Trap b) = trap_eq a b
status_eq status.Turns status.Turns = true
status_eq a b = false

-- whether a run behaves as an entry tells
abbrev pub behaves_as : EntryParts → EntryParts → Bool
behaves_as entry result =
    bytes_eq entry.output result.output && (status_eq entry.status result.status && nat_eq entry.turns result.turns)

-- a test differs where it ran again and does not behave as its entry tells
abbrev pub differs : Outcome → Bool
differs (was_left entry) = false
differs (ran_again entry result) = not (behaves_as entry result)

-- how many tests differ
abbrev pub differ_count : List EntryParts → List Choice → List EntryParts → ℕ
differ_count entries choices results = count_by differs (outcomes entries choices results)

-- each test that ran again behaves as its entry tells
abbrev pub IsSame : Outcome → Type 0
IsSame (was_left entry) = ⊤
IsSame (ran_again entry result) = BehavesAs entry result

abbrev pub AllSame : List EntryParts → List Choice → List EntryParts → Type 0
AllSame entries choices results = All IsSame (outcomes entries choices results)
