-- Classes of bytes, by their ASCII codes, and runs of a class.
use Rattle.std.specs.Prelude.{ℕ, ◌≡◌, ◌||◌, ◌&&◌, ◌==◌, not, List, [], ◌∷◌, Bool, true, false}
use Rattle.std.specs.Char.{is_ascii_digit, is_ascii_alphabetic}
use Rattle.std.specs.List.{list_all}

-- white space (C11 6.4p3): space, tab, newline, vertical tab, form feed; and carriage return
abbrev pub is_blank : ℕ → Bool
is_blank b = b == 32 || b == 9 || b == 10 || b == 11 || b == 12 || b == 13

-- white space that keeps to its line
abbrev pub is_gap : ℕ → Bool
is_gap b = is_blank b && not (b == 10)

abbrev pub is_space_or_tab : ℕ → Bool
is_space_or_tab b = b == 32 || b == 9

abbrev pub no_newline : ℕ → Bool
no_newline b = not (b == 10)

-- what a name begins with (C11 6.4.2.1): a letter or `_`
abbrev pub is_letter : ℕ → Bool
is_letter b = is_ascii_alphabetic b || b == 95

-- what a name or a number goes on with: a letter, `_` or a digit
abbrev pub is_word : ℕ → Bool
is_word b = is_letter b || is_ascii_digit b

-- each byte is of the class
abbrev pub Run : (ℕ → Bool) → List ℕ → Type 0
Run class bytes = list_all class bytes ≡ true

-- a run of the class ends in front of these bytes: the first, if there is one, is not of the class
abbrev pub Stops : (ℕ → Bool) → List ℕ → Type 0
Stops class [] = Unit {0}
Stops class (b ∷ bs) = class b ≡ false
