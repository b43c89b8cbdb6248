-- The cut of the words behind a command's name, one word at a time.
use Rattle.std.proofs.Common.{◌≡◌, ◌≢◌, List, [], ◌∷◌, ◌++◌, Bool, cond, true, false, Option, Some, None, codes, refl, sym, ap, append_assoc, append-nil, drop, unwrap_or}
use Rattle.std.specs.Prelude.{nat_eq}
use Rattle.std.specs.List.{starts_with}
use Rattle.std.specs.Option.{option_map, option_to_list}
use Rattle.std.specs.Str.{bytes_eq, all_ascii_digits}
use Rattle.clap.specs.Walk.{Row, Text, all_of, first_of}
use Rattle.clap.specs.Faults.{turn_fault}
use Rattle.command_words.specs.Words.{Rest, rest_of, value_in, is_option, plain_too, workers_too, workers_in, workers_of}
use Rattle.command_words.specs.Matches.{HasNoNumber}
use Rattle.command_words.proofs.Steps.{top, IsPlain, Pending, none, plain as plain', number as number', wants, waiting_of, at, Rows, empty, numbered, plains, number_first, plain_first, rows_as, settle}

-- ---- what a word is: `--`, `--workers`, `--workers=V`, another option, or a plain word

pub data Class : Type 0 where
  dashes : Class
  option : Class
  number : Text → Class
  flag : Class
  plain : Class

abbrev pub class_of : Text → Class
class_of word =
    cond (bytes_eq word (codes "--")) dashes
    (cond (bytes_eq word (codes "--workers")) option
    (cond (starts_with nat_eq word (codes "--workers=")) (number (drop 10 word))
    (cond (is_option word) flag plain)))

-- what the walk needs to know of a word of each class
abbrev pub IsClass : Text → Class → Type 0
IsClass word dashes = word ≡ codes "--"
IsClass word option = word ≡ codes "--workers"
IsClass word (number v) = word ≡ codes "--workers=" ++ v
IsClass word flag = ((rows : List Row) (p : Pending) → turn_fault top [] (at rows p (waiting_of p) false) word ≢ []) × (all_ascii_digits word ≡ false)
IsClass word plain = IsPlain word

abbrev pub all_plain : List Text → Option Rest
all_plain words = Some (record { plain = words; workers = [] })

-- the rest that a word of a class and the words behind it are
abbrev pub rest_by : Class → Text → List Text → Option Rest
rest_by dashes word words = all_plain words
rest_by option word words = value_in words
rest_by (number v) word words = option_map (workers_too v) (rest_of words)
rest_by flag word words = None
rest_by plain word words = option_map (plain_too word) (rest_of words)

pub rest_of-class : (word : Text) (words : List Text) → rest_of (word ∷ words) ≡ rest_by (class_of word) word words
rest_of-class word words = go (bytes_eq word (codes "--")) (bytes_eq word (codes "--workers")) (starts_with nat_eq word (codes "--workers=")) (is_option word)
  where
    go : (b c d e : Bool) → cond b (all_plain words) (cond c (value_in words) (cond d (option_map (workers_too (drop 10 word)) (rest_of words)) (cond e None (option_map (plain_too word) (rest_of words)))))
        ≡ rest_by (cond b dashes (cond c option (cond d (number (drop 10 word)) (cond e flag plain)))) word words
    go true c d e = refl
    go false true d e = refl
    go false false true e = refl
    go false false false true = refl
    go false false false false = refl

-- ---- what was read, and what is left

-- the rest that rows show
abbrev pub rest_in : List Row → Rest
rest_in rows = record { plain = unwrap_or (all_of (codes "plain") rows) []; workers = option_to_list (first_of (codes "workers") rows) }

-- what the rows have, and then the rest
abbrev pub behind : Rows → Option Rest → Option Rest
behind r more = option_map (λ rest. record { plain = (rest_in (rows_as r)).plain ++ rest.plain; workers = (rest_in (rows_as r)).workers ++ rest.workers }) more

-- what waits to be settled, and then the rest
abbrev pub too : Pending → Option Rest → Option Rest
too none more = more
too (plain' word) more = option_map (plain_too word) more
too (number' v) more = option_map (workers_too v) more
too wants more = None

-- how the words behind what waits are read
abbrev pub rest_at : Pending → List Text → Option Rest
rest_at wants words = value_in words
rest_at none words = rest_of words
rest_at (plain' word) words = too (plain' word) (rest_of words)
rest_at (number' v) words = too (number' v) (rest_of words)

pub behind-empty : (more : Option Rest) → behind empty more ≡ more
behind-empty None = refl
behind-empty (Some rest) = refl

pub behind-nothing : (r : Rows) → behind r (all_plain []) ≡ Some (rest_in (rows_as r))
behind-nothing empty = refl
behind-nothing (numbered v) = refl
behind-nothing (plains ws) = ap (λ plain. Some (record { plain = plain; workers = [] })) (append-nil ws)
behind-nothing (number_first v ws) = ap (λ plain. Some (record { plain = plain; workers = v ∷ [] })) (append-nil ws)
behind-nothing (plain_first ws v) = ap (λ plain. Some (record { plain = plain; workers = v ∷ [] })) (append-nil ws)

-- ---- settling what waits

abbrev pub SettlesCut : Option Rows → Option Rest → Option Rest → Type 0
SettlesCut None cut more = HasNoNumber cut
SettlesCut (Some s) cut more = cut ≡ behind s more

-- one more plain word
more_plain : (ws : List Text) (w : Text) (workers : List Text) (rest : Rest)
    → ◌≡◌ {A = Option Rest} (Some (record { plain = ws ++ w ∷ rest.plain; workers = workers })) (Some (record { plain = (ws ++ w ∷ []) ++ rest.plain; workers = workers }))
more_plain ws w workers rest = ap (λ plain. Some (record { plain = plain; workers = workers })) (sym (append_assoc ws (w ∷ []) rest.plain))

plain_cut : (r : Rows) (w : Text) (more : Option Rest) → SettlesCut (settle r (plain' w)) (behind r (too (plain' w) more)) more
plain_cut empty w None = refl
plain_cut (numbered v) w None = refl
plain_cut (plains ws) w None = refl
plain_cut (number_first v ws) w None = refl
plain_cut (plain_first ws v) w None = refl
plain_cut empty w (Some rest) = refl
plain_cut (numbered v) w (Some rest) = refl
plain_cut (plains ws) w (Some rest) = more_plain ws w rest.workers rest
plain_cut (number_first v ws) w (Some rest) = more_plain ws w (v ∷ rest.workers) rest
plain_cut (plain_first ws v) w (Some rest) = more_plain ws w (v ∷ rest.workers) rest

number_cut : (r : Rows) (v : Text) (more : Option Rest) → SettlesCut (settle r (number' v)) (behind r (too (number' v) more)) more
number_cut empty v None = refl
number_cut (numbered u) v None = tt
number_cut (plains ws) v None = refl
number_cut (number_first u ws) v None = tt
number_cut (plain_first ws u) v None = tt
number_cut empty v (Some rest) = refl
number_cut (numbered u) v (Some rest) = refl
number_cut (plains ws) v (Some rest) = refl
number_cut (number_first u ws) v (Some rest) = refl
number_cut (plain_first ws u) v (Some rest) = refl

pub settle_cut : (p : Pending) (r : Rows) (more : Option Rest) → SettlesCut (settle r p) (behind r (too p more)) more
settle_cut none empty more = refl
settle_cut none (numbered v) more = refl
settle_cut none (plains ws) more = refl
settle_cut none (number_first v ws) more = refl
settle_cut none (plain_first ws v) more = refl
settle_cut (plain' w) r more = plain_cut r w more
settle_cut (number' v) r more = number_cut r v more
settle_cut wants empty more = tt
settle_cut wants (numbered v) more = tt
settle_cut wants (plains ws) more = tt
settle_cut wants (number_first v ws) more = tt
settle_cut wants (plain_first ws v) more = tt

-- ---- where there is no number

-- two words and more give no number
two_numbers : (u v : Text) (more : List Text) → workers_of (u ∷ v ∷ more) ≡ None
two_numbers u v more = refl

-- the only word that is given for the number spells none
one_word : (word : Text) (more : List Text) → workers_in word ≡ None → workers_of (word ∷ more) ≡ None
one_word word [] bad = bad
one_word word (other ∷ more) bad = refl

pub bad_number : (r : Rows) (word : Text) (more : Option Rest) → workers_in word ≡ None → HasNoNumber (behind r (option_map (workers_too word) more))
bad_number r word None bad = tt
bad_number empty word (Some rest) bad = one_word word rest.workers bad
bad_number (numbered v) word (Some rest) bad = two_numbers v word rest.workers
bad_number (plains ws) word (Some rest) bad = one_word word rest.workers bad
bad_number (number_first v ws) word (Some rest) bad = two_numbers v word rest.workers
bad_number (plain_first ws v) word (Some rest) bad = two_numbers v word rest.workers
