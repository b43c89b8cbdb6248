-- Whether a word can name a test.
use Rattle.std.proofs.Common.{◌≡◌, ℕ, Bool, true, false, ◌&&◌, List, length, refl, sym}
use Rattle.std.specs.Prelude.{◌↔◌, IsTrue, nat_le, slice_index}
use Rattle.std.specs.List.{list_all}
use Rattle.std.proofs.lemmas.Bool.{le-leb, leb-true}
use Rattle.std.proofs.lemmas.List.Sums.{AllPass-from_list_all, list_all-from_AllPass}
use Rattle.test_suite.specs.Tests.{IsTestName, starts_name, goes_in_name}
use Rattle.command_words.specs.Words.{is_test_name}

all_four : (a b c d : Bool) → a ≡ true → b ≡ true → c ≡ true → d ≡ true → (a && b && c && d) ≡ true
all_four a b c d h i j k = rw (h, i, j, k) refl

each_of_four : (a b c d : Bool) → (a && b && c && d) ≡ true → (a ≡ true) × (b ≡ true) × (c ≡ true) × (d ≡ true)
each_of_four true true true true h = (refl, refl, refl, refl)
each_of_four true true true false h = cc h
each_of_four true true false d h = cc h
each_of_four true false c d h = cc h
each_of_four false b c d h = cc h

named : (name : List ℕ) → IsTestName name → is_test_name name ≡ true
named name is = all_four _ _ _ _ (le-leb 1 (length name) is.nonempty) (le-leb (length name) 64 is.short) is.first (list_all-from_AllPass goes_in_name name is.rest)

is_named : (name : List ℕ) → is_test_name name ≡ true → IsTestName name
is_named name h =
    let each = each_of_four (nat_le 1 (length name)) (nat_le (length name) 64) (starts_name (slice_index name 0)) (list_all goes_in_name name) h in
    record {
      nonempty = leb-true 1 (length name) each.0;
      short = leb-true (length name) 64 each.1;
      first = each.2;
      rest = AllPass-from_list_all goes_in_name name each.3;
    }

same_truth : (a b : Bool) → (a ≡ true → b ≡ true) → (b ≡ true → a ≡ true) → a ≡ b
same_truth true b f g = sym (f refl)
same_truth false true f g = g refl
same_truth false false f g = refl

-- what the test answers
pub name_told : (name : List ℕ) (answer : Bool) → IsTrue answer ↔ IsTestName name → answer ≡ is_test_name name
name_told name answer told = same_truth answer (is_test_name name) (λ h. named name (told.0 h)) (λ h. told.1 (is_named name h))
