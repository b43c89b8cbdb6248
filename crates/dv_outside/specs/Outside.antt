-- What a shelf holds and answered, what a sink was given, and when a count of faults tells of a fault.
-- Contents are told (`Some`) or not (`None`); what is not told is neither promised nor denied.
use Rattle.std.specs.Prelude.{◌≡◌, ◌<◌, ◌≤◌, ◌⊎◌, ◌^◌, ◌-◌, ◌+◌, min, ℕ}
use Rattle.std.specs.Prelude.{List, [], ◌∷◌, ◌++◌, length, take, Contains, count_by, Bool, false, Option, Some, Result, Ok, Err}
use Rattle.std.specs.Str.{bytes_eq}
use Rattle.std.specs.declared.alloc.Global.{Global}
use Rattle.std.specs.declared.vec.Vec.{Vec}
use Rattle.std.specs.Option.{option_map}
use Rattle.std.specs.Ordering.{nat_cmp}
use Rattle.std.specs.Cmp.Lexicographic.{slice_cmp}
use Rattle.std.specs.FinMap.{FinMap, get}
use Rattle.dv_outside.specs.declared.shelf.FetchError.{FetchError}
use Rattle.dv_outside.specs.declared.shelf.FetchError.TheVariants.{Failed, Memory}

-- Files: for each name at most one content, both as bytes.
abbrev pub Files : Type 0
Files = FinMap (slice_cmp nat_cmp) (List ℕ)

-- The content of the file with that name, if there is one.
abbrev pub file_at : Files → List ℕ → Option (List ℕ)
file_at files name = get files name

-- Where the files are told, there is one with that name, and the bytes are its first `most`, or all if it has fewer.
abbrev pub IsFetched : Option Files → List ℕ → ℕ → List ℕ → Type 0
IsFetched told name most bytes = (files : Files) → told ≡ Some files →
    (whole : List ℕ) × (file_at files name ≡ Some whole) × (bytes ≡ take most whole)

-- What a shelf was asked by one fetch and what it answered: the name, how many bytes at most, and the bytes, or why there are none.
abbrev pub Answer : Type 0
Answer = List ℕ × ℕ × Result (List ℕ) FetchError

-- The result of a fetch, as a log keeps it.
abbrev pub answered : Result (Vec ℕ Global) FetchError → Result (List ℕ) FetchError
answered (Ok bytes) = Ok bytes.items
answered (Err cause) = Err cause

-- One answer was added to those before.
abbrev pub Answers : List Answer → List Answer → List ℕ → ℕ → Result (List ℕ) FetchError → Type 0
Answers before now name most answer = now ≡ before ++ (name, most, answer) ∷ []

-- Each answer with bytes has the first `most` bytes of the file with that name, or all if it has fewer.
abbrev pub AreOf : Files → List Answer → Type 0
AreOf files answers = (name : List ℕ) (most : ℕ) (bytes : List ℕ) → Contains answers (name, most, Ok bytes)
    → option_map (take most) (file_at files name) ≡ Some bytes

-- So it is where the files are told.
abbrev pub AreTold : Option Files → List Answer → Type 0
AreTold told answers = (files : Files) → told ≡ Some files → AreOf files answers

-- The answer is a failed fetch of the file with that name. Want of memory isn't one.
abbrev pub is_failure : List ℕ → Answer → Bool
is_failure name (asked, most, Ok bytes) = false
is_failure name (asked, most, Err Memory) = false
is_failure name (asked, most, Err Failed) = bytes_eq asked name

-- How many fetches of the file with that name failed.
abbrev pub failures : List Answer → List ℕ → ℕ
failures answers name = count_by (is_failure name) answers

-- These bytes were taken after those before.
abbrev pub Takes : List ℕ → List ℕ → List ℕ → Type 0
Takes before now bytes = now ≡ before ++ bytes

-- Some beginning of these bytes, perhaps none and perhaps all, was taken after those before.
abbrev pub TakesPrefix : List ℕ → List ℕ → List ℕ → Type 0
TakesPrefix before now bytes = (n : ℕ) × (n ≤ length bytes) × Takes before now (take n bytes)

-- These bytes were added at the end, where the bytes are told; told bytes stay told.
abbrev pub Appends : Option (List ℕ) → Option (List ℕ) → List ℕ → Type 0
Appends before now bytes = now ≡ option_map (λ held. held ++ bytes) before

-- Some beginning of these bytes, perhaps none and perhaps all, was added at the end.
abbrev pub AppendsPrefix : Option (List ℕ) → Option (List ℕ) → List ℕ → Type 0
AppendsPrefix before now bytes = (n : ℕ) × (n ≤ length bytes) × Appends before now (take n bytes)

-- A count is greater than before, or stands at the greatest value of a u64, where it can't rise.
abbrev pub Rose : ℕ → ℕ → Type 0
Rose before now = (before < now) ⊎ (now ≡ 2 ^ 64 - 1)

-- No name's count falls.
abbrev pub NeverFalls : (List ℕ → ℕ) → (List ℕ → ℕ) → Type 0
NeverFalls before now = (name : List ℕ) → before name ≤ now name

-- One more, up to the greatest value of a u64, where a count stays.
abbrev pub raised : ℕ → ℕ
raised count = min (count + 1) (2 ^ 64 - 1)

-- A count of failed puts after one more answer: an error raises it, and nothing else changes it.
abbrev pub faults_after_put : {T E : Type 0} → Result T E → ℕ → ℕ
faults_after_put (Ok _) count = count
faults_after_put (Err _) count = raised count
