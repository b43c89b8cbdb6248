-- One step of clap's walk over the words behind a command's name.
use Rattle.std.proofs.Common.{◌≡◌, ◌≢◌, List, [], ◌∷◌, ◌++◌, Bool, true, false, Option, Some, None, codes, refl}
use Rattle.std.specs.Str.{bytes_eq}
use Rattle.clap.specs.Lexer.{long_of, short_of}
use Rattle.clap.specs.Kinds.{Kinds, or_else}
use Rattle.clap.specs.Walk.{Held, Row, Rule, Text, Waiting, Walk, idle, positional, option, settled_rows, walked, reading_by}
use Rattle.clap.specs.Simple.{Shape, built}
use Rattle.clap.specs.Faults.{turn_fault, settle_fault}
use Rattle.clap.specs.declared.parser.matches.ValueSource.TheVariants.{CommandLine}
use Rattle.command_words.specs.Matches.{rest_app, workers_rule, plain_rule}

abbrev pub top : Shape
top = (built rest_app).top

abbrev pub rest_rules : List Rule
rest_rules = top.rules

pub or_else-nil : (ks : Kinds) → or_else ks [] ≡ ks
or_else-nil [] = refl
or_else-nil (k ∷ ks) = refl

-- what waits to be settled: nothing, a plain word, a number, or the option that wants one
pub data Pending : Type 0 where
  none : Pending
  plain : Text → Pending
  number : Text → Pending
  wants : Pending

abbrev pub pending_of : Pending → Option (Text × List Text)
pending_of none = None
pending_of (plain word) = Some (codes "plain", word ∷ [])
pending_of (number value) = Some (codes "workers", value ∷ [])
pending_of wants = Some (codes "workers", [])

-- what takes the next word
abbrev pub waiting_of : Pending → Waiting
waiting_of none = idle
waiting_of (plain word) = positional
waiting_of (number value) = idle
waiting_of wants = option (codes "workers")

abbrev pub held : List Row → Pending → Held
held rows p = record { rows = rows; pending = pending_of p; skip = 0 }

abbrev pub at : List Row → Pending → Waiting → Bool → Walk
at rows p waiting trailing = record { held = held rows p; waiting = waiting; position = 1; is_trailing = trailing; stopped = None }

-- what a word is
abbrev pub IsPlain : Text → Type 0
IsPlain word = (bytes_eq word (45 ∷ 45 ∷ []) ≡ false) × (long_of word ≡ None) × (short_of word ≡ None)

-- a plain word settles what waits, and waits itself, save where the option wants a number
pub plain_fault : (rows : List Row) (p : Pending) (word : Text) → IsPlain word → p ≢ wants
    → turn_fault top [] (at rows p (waiting_of p) false) word ≡ settle_fault rest_rules false (held rows p)
plain_fault rows none word h ne = rw (h.0, h.1, h.2) refl
plain_fault rows (plain w) word h ne = rw (h.0, h.1, h.2) refl
plain_fault rows (number v) word h ne = rw (h.0, h.1, h.2) refl
plain_fault rows wants word h ne = absurd (ne refl)

pub plain_step : (rows : List Row) (p : Pending) (word : Text) → IsPlain word → p ≢ wants
    → walked rest_rules [] (at rows p (waiting_of p) false) word ≡ at (settled_rows rest_rules (pending_of p) rows) (plain word) positional false
unfolding walked
plain_step rows none word h ne = rw (h.0, h.1, h.2) refl
plain_step rows (plain w) word h ne = rw (h.0, h.1, h.2) refl
plain_step rows (number v) word h ne = rw (h.0, h.1, h.2) refl
plain_step rows wants word h ne = absurd (ne refl)

-- a plain word after the option is its number
pub wants_fault : (rows : List Row) (word : Text) → IsPlain word → turn_fault top [] (at rows wants (option (codes "workers")) false) word ≡ []
wants_fault rows word h = rw (h.0, h.1, h.2) refl

pub wants_step : (rows : List Row) (word : Text) → IsPlain word → walked rest_rules [] (at rows wants (option (codes "workers")) false) word ≡ at rows (number word) idle false
unfolding walked
wants_step rows word h = rw (h.0, h.1, h.2) refl

-- `--` makes the rest plain
pub dashes_fault : (rows : List Row) (p : Pending) → turn_fault top [] (at rows p (waiting_of p) false) (45 ∷ 45 ∷ []) ≡ []
dashes_fault rows none = refl
dashes_fault rows (plain w) = refl
dashes_fault rows (number v) = refl
dashes_fault rows wants = refl

pub dashes_step : (rows : List Row) (p : Pending) → walked rest_rules [] (at rows p (waiting_of p) false) (45 ∷ 45 ∷ []) ≡ at rows p (waiting_of p) true
unfolding walked
dashes_step rows none = refl
dashes_step rows (plain w) = refl
dashes_step rows (number v) = refl
dashes_step rows wants = refl

-- `--workers` settles what waits, and wants a number
pub option_fault : (rows : List Row) (p : Pending) → turn_fault top [] (at rows p (waiting_of p) false) (codes "--workers") ≡ settle_fault rest_rules false (held rows p)
option_fault rows none = refl
option_fault rows (plain w) = refl
option_fault rows (number v) = or_else-nil _
option_fault rows wants = refl

pub option_step : (rows : List Row) (p : Pending) → walked rest_rules [] (at rows p (waiting_of p) false) (codes "--workers") ≡ at (settled_rows rest_rules (pending_of p) rows) wants (option (codes "workers")) false
unfolding walked
option_step rows none = refl
option_step rows (plain w) = refl
option_step rows (number v) = refl
option_step rows wants = refl

-- another flag is refused
pub flag_fault : (rows : List Row) (p : Pending) (word name : Text) (value : Option Text) → bytes_eq word (45 ∷ 45 ∷ []) ≡ false → long_of word ≡ Some (name, value) → bytes_eq (codes "workers") name ≡ false
    → turn_fault top [] (at rows p (waiting_of p) false) word ≢ []
flag_fault rows none word name value a b c = rw (a, b, c) (λ bad. absurd (cc))
flag_fault rows (plain w) word name value a b c = rw (a, b, c) (λ bad. absurd (cc))
flag_fault rows (number v) word name value a b c = rw (a, b, c) (λ bad. absurd (cc))
flag_fault rows wants word name value a b c = rw (a, b, c) (λ bad. absurd (cc))

-- the rows so far: the number, the plain words, or both in the order of their first uses
pub data Rows : Type 0 where
  empty : Rows
  numbered : Text → Rows
  plains : List Text → Rows
  number_first : Text → List Text → Rows
  plain_first : List Text → Text → Rows

abbrev pub workers_row : Text → Row
workers_row value = record { id = codes "workers"; values = value ∷ []; count = None; source = Some CommandLine; reading = reading_by workers_rule }

abbrev pub plain_row : List Text → Row
plain_row words = record { id = codes "plain"; values = words; count = None; source = Some CommandLine; reading = reading_by plain_rule }

abbrev pub rows_as : Rows → List Row
rows_as empty = []
rows_as (numbered v) = workers_row v ∷ []
rows_as (plains ws) = plain_row ws ∷ []
rows_as (number_first v ws) = workers_row v ∷ plain_row ws ∷ []
rows_as (plain_first ws v) = plain_row ws ∷ workers_row v ∷ []

-- the rows once what waits is settled; none where that is refused
abbrev pub settle : Rows → Pending → Option Rows
settle r none = Some r
settle empty (plain w) = Some (plains (w ∷ []))
settle (numbered v) (plain w) = Some (number_first v (w ∷ []))
settle (plains ws) (plain w) = Some (plains (ws ++ w ∷ []))
settle (number_first v ws) (plain w) = Some (number_first v (ws ++ w ∷ []))
settle (plain_first ws v) (plain w) = Some (plain_first (ws ++ w ∷ []) v)
settle empty (number v) = Some (numbered v)
settle (plains ws) (number v) = Some (plain_first ws v)
settle r (number v) = None
settle r wants = None

abbrev pub Settles : Rows → Pending → Option Rows → Type 0
Settles r p None = settle_fault rest_rules false (held (rows_as r) p) ≢ []
Settles r p (Some s) = (settle_fault rest_rules false (held (rows_as r) p) ≡ []) × (settled_rows rest_rules (pending_of p) (rows_as r) ≡ rows_as s)

pub settle_is : (r : Rows) (p : Pending) → Settles r p (settle r p)
settle_is empty none = (refl, refl)
settle_is (numbered v) none = (refl, refl)
settle_is (plains ws) none = (refl, refl)
settle_is (number_first v ws) none = (refl, refl)
settle_is (plain_first ws v) none = (refl, refl)
settle_is empty (plain w) = (refl, refl)
settle_is (numbered v) (plain w) = (refl, refl)
settle_is (plains ws) (plain w) = (refl, refl)
settle_is (number_first v ws) (plain w) = (refl, refl)
settle_is (plain_first ws v) (plain w) = (refl, refl)
settle_is empty (number v) = (refl, refl)
settle_is (plains ws) (number v) = (refl, refl)
settle_is (numbered v) (number u) = λ bad. absurd (cc)
settle_is (number_first v ws) (number u) = λ bad. absurd (cc)
settle_is (plain_first ws v) (number u) = λ bad. absurd (cc)
settle_is empty wants = λ bad. absurd (cc)
settle_is (numbered v) wants = λ bad. absurd (cc)
settle_is (plains ws) wants = λ bad. absurd (cc)
settle_is (number_first v ws) wants = λ bad. absurd (cc)
settle_is (plain_first ws v) wants = λ bad. absurd (cc)

-- after `--` each word settles what waits, and waits itself
pub rest_fault : (rows : List Row) (p : Pending) (waiting : Waiting) (word : Text) → turn_fault top [] (at rows p waiting true) word ≡ settle_fault rest_rules false (held rows p)
rest_fault rows none waiting word = refl
rest_fault rows (plain w) waiting word = refl
rest_fault rows (number v) waiting word = refl
rest_fault rows wants waiting word = refl

pub rest_step : (rows : List Row) (p : Pending) (waiting : Waiting) (word : Text)
    → walked rest_rules [] (at rows p waiting true) word ≡ at (settled_rows rest_rules (pending_of p) rows) (plain word) positional true
unfolding walked
rest_step rows none waiting word = refl
rest_step rows (plain w) waiting word = refl
rest_step rows (number v) waiting word = refl
rest_step rows wants waiting word = refl

-- `--workers=V` settles what waits, and then the number
pub number_fault : (rows : List Row) (p : Pending) (v : Text) → turn_fault top [] (at rows p (waiting_of p) false) (codes "--workers=" ++ v)
    ≡ or_else (settle_fault rest_rules false (held rows p)) (settle_fault rest_rules false (held (settled_rows rest_rules (pending_of p) rows) (number v)))
number_fault rows none v = or_else-nil _
number_fault rows (plain w) v = or_else-nil _
number_fault rows (number u) v = or_else-nil _
number_fault rows wants v = or_else-nil _

pub number_step : (rows : List Row) (p : Pending) (v : Text) → walked rest_rules [] (at rows p (waiting_of p) false) (codes "--workers=" ++ v)
    ≡ at (settled_rows rest_rules (pending_of (number v)) (settled_rows rest_rules (pending_of p) rows)) none idle false
unfolding walked
number_step rows none v = refl
number_step rows (plain w) v = refl
number_step rows (number u) v = refl
number_step rows wants v = refl
