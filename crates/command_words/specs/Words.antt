-- Which words are which command.
use Rattle.std.specs.Prelude.{ℕ, ◌==◌, nat_lt, nat_le, nat_eq, slice_index, ◌&&◌, Bool, false, if◌then◌else◌}
use Rattle.std.specs.Prelude.{List, [], ◌∷◌, map, length, drop, find, Option, Some, None, String, codes}
use Rattle.std.specs.Option.{option_map, option_and_then}
use Rattle.std.specs.List.{list_all, range_with_len, starts_with}
use Rattle.std.specs.Fmt.{decimal}
use Rattle.std.specs.declared.alloc.Global.{Global}
use Rattle.std.specs.String.{string_bytes}
use Rattle.std.specs.Str.{bytes_eq}
use Rattle.test_suite.specs.Tests.{starts_name, goes_in_name}

abbrev pub texts_of : List (String Global) → List (List ℕ)
texts_of words = map (λ word. string_bytes word) words

-- a command, with its plain words or its numbers, and the number of its workers where it has any
pub data Command : Type 0 where
  record_files : (source suite : List ℕ) (workers : ℕ) → Command
  migrate_files : (old history : List ℕ) → Command
  walk_files : (old new : List ℕ) → Command
  select_files : (old new history : List ℕ) → Command
  rerun_files : (old new history : List ℕ) (workers : ℕ) → Command
  explain_files : (old new history test : List ℕ) → Command
  carry_files : (old new history : List ℕ) (workers : ℕ) → Command
  order_files : (old new history : List ℕ) (workers : ℕ) → Command
  certify_files : (old new : List ℕ) → Command
  check_files : (old new certificate : List ℕ) → Command
  gen_numbers : (seed size : ℕ) → Command

-- a word that begins with `-` and has more bytes is an option; the word `-` is plain
abbrev pub is_option : List ℕ → Bool
is_option [] = false
is_option (first ∷ more) = (first == 45) && nat_lt 0 (length more)

-- the words behind a command's name: the plain ones, and those that are given for the number of workers
pub record Rest : Type 0 where
  pub plain : List (List ℕ)
  pub workers : List (List ℕ)

abbrev pub plain_too : List ℕ → Rest → Rest
plain_too word rest = record { plain = word ∷ rest.plain; workers = rest.workers }

abbrev pub workers_too : List ℕ → Rest → Rest
workers_too word rest = record { plain = rest.plain; workers = word ∷ rest.workers }

-- The word `--` makes every later word a plain one. Before it `--workers` takes the next word, whatever that is, and
-- `--workers=N` has its number; no other option is known.
abbrev mutual
  pub rest_of : List (List ℕ) → Option Rest
  rest_of [] = Some (record { plain = []; workers = [] })
  rest_of (word ∷ more) =
      if bytes_eq word (codes "--") then Some (record { plain = more; workers = [] })
      else if bytes_eq word (codes "--workers") then value_in more
      else if starts_with nat_eq word (codes "--workers=") then option_map (workers_too (drop 10 word)) (rest_of more)
      else if is_option word then None
      else option_map (plain_too word) (rest_of more)

  pub value_in : List (List ℕ) → Option Rest
  value_in [] = None
  value_in (word ∷ more) = option_map (workers_too word) (rest_of more)

-- the most workers
abbrev pub most_workers : ℕ
most_workers = 64

-- the one of so many numbers from `least` on that a word spells, in decimal without a leading zero
unfoldable pub number_in : ℕ → ℕ → List ℕ → Option ℕ
number_in least count word = find (λ n. bytes_eq word (decimal n)) (range_with_len least count)

-- a number from 1 to 64
abbrev pub workers_in : List ℕ → Option ℕ
workers_in word = number_in 1 most_workers word

-- the number of workers: 1 where none is given, and it is given once at most
abbrev pub workers_of : List (List ℕ) → Option ℕ
workers_of [] = Some 1
workers_of (word ∷ []) = workers_in word
workers_of (word ∷ other ∷ more) = None

-- the plain words, where they are two
abbrev pub two_plain : List (List ℕ) → Option (List ℕ × List ℕ)
two_plain (first ∷ second ∷ []) = Some (first, second)
two_plain plain = None

-- the plain words, where they are three
abbrev pub three_plain : List (List ℕ) → Option (List ℕ × List ℕ × List ℕ)
three_plain (first ∷ second ∷ third ∷ []) = Some (first, second, third)
three_plain plain = None

-- the plain words of a command that takes no number of workers
abbrev pub plain_alone : Rest → Option (List (List ℕ))
plain_alone rest = if nat_eq (length rest.workers) 0 then Some rest.plain else None

abbrev pub two_alone : Rest → Option (List ℕ × List ℕ)
two_alone rest = option_and_then two_plain (plain_alone rest)

abbrev pub three_alone : Rest → Option (List ℕ × List ℕ × List ℕ)
three_alone rest = option_and_then three_plain (plain_alone rest)

-- `record SOURCE SUITE`, with a number of workers
abbrev pub record_of : Rest → Option Command
record_of rest =
    option_and_then (λ workers. option_map (λ files. record_files files.0 files.1 workers) (two_plain rest.plain)) (workers_of rest.workers)

-- the plain words, where they are three, with a number of workers
abbrev pub three_with : Rest → Option (List ℕ × List ℕ × List ℕ × ℕ)
three_with rest =
    option_and_then (λ workers. option_map (λ files. (files.0, files.1, files.2, workers)) (three_plain rest.plain)) (workers_of rest.workers)

-- `rerun OLD NEW HISTORY`, `carry OLD NEW HISTORY` and `order OLD NEW HISTORY`, with a number of workers
abbrev pub rerun_of : Rest → Option Command
rerun_of rest = option_map (λ files. rerun_files files.0 files.1 files.2 files.3) (three_with rest)

abbrev pub carry_of : Rest → Option Command
carry_of rest = option_map (λ files. carry_files files.0 files.1 files.2 files.3) (three_with rest)

abbrev pub order_of : Rest → Option Command
order_of rest = option_map (λ files. order_files files.0 files.1 files.2 files.3) (three_with rest)

-- `migrate OLD HISTORY`, `walk OLD NEW` and `certify OLD NEW`
abbrev pub migrate_of : Rest → Option Command
migrate_of rest = option_map (λ files. migrate_files files.0 files.1) (two_alone rest)

abbrev pub walk_of : Rest → Option Command
walk_of rest = option_map (λ files. walk_files files.0 files.1) (two_alone rest)

abbrev pub certify_of : Rest → Option Command
certify_of rest = option_map (λ files. certify_files files.0 files.1) (two_alone rest)

-- `select OLD NEW HISTORY` and `check OLD NEW CERTIFICATE`
abbrev pub select_of : Rest → Option Command
select_of rest = option_map (λ files. select_files files.0 files.1 files.2) (three_alone rest)

abbrev pub check_of : Rest → Option Command
check_of rest = option_map (λ files. check_files files.0 files.1 files.2) (three_alone rest)

-- the name of a test (rule S4): 1 to 64 letters, digits, `_`, `-` or `.`, the first a letter, a digit or `_`
abbrev pub is_test_name : List ℕ → Bool
is_test_name name =
    nat_le 1 (length name) && nat_le (length name) 64 && starts_name (slice_index name 0) && list_all goes_in_name name

-- `explain OLD NEW HISTORY TEST`
abbrev pub explain_with : List (List ℕ) → Option Command
explain_with (old ∷ new ∷ history ∷ test ∷ []) = if is_test_name test then Some (explain_files old new history test) else None
explain_with plain = None

abbrev pub explain_of : Rest → Option Command
explain_of rest = option_and_then explain_with (plain_alone rest)

-- `gen SEED SIZE`, with a seed from 0 to 65,535 and a size from 1 to 400
abbrev pub gen_by : Option ℕ → Option ℕ → Option Command
gen_by (Some seed) (Some size) = Some (gen_numbers seed size)
gen_by seed size = None

abbrev pub gen_of : Rest → Option Command
gen_of rest = option_and_then (λ words. gen_by (number_in 0 65536 words.0) (number_in 1 400 words.1)) (two_alone rest)

-- the first word names the command; words that are none are a fault of usage
abbrev pub command_of : List (List ℕ) → Option Command
command_of [] = None
command_of (name ∷ more) =
    if bytes_eq name (codes "record") then option_and_then record_of (rest_of more)
    else if bytes_eq name (codes "migrate") then option_and_then migrate_of (rest_of more)
    else if bytes_eq name (codes "walk") then option_and_then walk_of (rest_of more)
    else if bytes_eq name (codes "select") then option_and_then select_of (rest_of more)
    else if bytes_eq name (codes "rerun") then option_and_then rerun_of (rest_of more)
    else if bytes_eq name (codes "explain") then option_and_then explain_of (rest_of more)
    else if bytes_eq name (codes "carry") then option_and_then carry_of (rest_of more)
    else if bytes_eq name (codes "order") then option_and_then order_of (rest_of more)
    else if bytes_eq name (codes "certify") then option_and_then certify_of (rest_of more)
    else if bytes_eq name (codes "check") then option_and_then check_of (rest_of more)
    else if bytes_eq name (codes "gen") then option_and_then gen_of (rest_of more)
    else None
