-- Lines of one rule that follow one another, each of a thing that comes after the one before it.
use Rattle.std.proofs.Common.{◌≡◌, ◌<◌, ◌≤◌, ◌+◌, ℕ, suc, Option, Some, None, List, [], ◌∷◌, ◌++◌, length, map, refl, subst, ◌∙◌, arith, append_assoc}
use Rattle.std.specs.List.{All}
use Rattle.std.proofs.lemmas.List.Elements.{All-head, All-tail}
use Rattle.line_text.specs.Lines.{text_of_lines, HasLine}
use Rattle.cert_text.specs.declared.bounds.Bounds.{Bounds}
use Rattle.cert_text.specs.Certificates.{IsAfter, RiseAfter}
use Rattle.cert_text.specs.Faults.{IsReadTo}
use Rattle.cert_text.specs.Rules.{Rule, number_of, IsAsked, Keeps, IsFirstFault}
use Rattle.cert_text.proofs.AskedLemmas.{IsOnly}
use Rattle.line_text.proofs.LawsOfTexts.{in_rest, has_next}
use Rattle.line_text.proofs.LawsOfValues.{IsPlain, one_line}
use Rattle.cert_text.proofs.ReadLemmas.{one_more, fault_next, at_line}

-- the last of a list, and what stands before where it is empty
abbrev pub last_of : {X : Type 0} → Option X → List X → Option X
last_of last [] = last
last_of last (x ∷ more) = last_of (Some x) more

pub last_of-push : {X : Type 0} (last : Option X) (xs : List X) (x : X) → last_of last (xs ++ x ∷ []) ≡ Some x
last_of-push last [] x = refl
last_of-push last (y ∷ xs) x = last_of-push (Some y) xs x

pub rise-push : {X : Type 0} (before : X → X → Type 0) (last : Option X) (xs : List X) (x : X) → RiseAfter before last xs → IsAfter before (last_of last xs) x → RiseAfter before last (xs ++ x ∷ [])
rise-push before last [] x rise after = (after, tt)
rise-push before last (y ∷ xs) x rise after = (rise.0, rise-push before (Some y) xs x rise.1 after)

-- so many lines after the line `begin` are of one rule, each keeps it where it is that of a good thing after the one before
pub record AreItems (bounds : Bounds) (text : List ℕ) (X : Type 0) (rule : Rule) (begin count : ℕ) (line : X → List ℕ) (good : X → Type 0) (before : X → X → Type 0) : Type 0 where
  pub asked : (n : ℕ) → begin < n → n ≤ begin + count → IsOnly bounds text n rule
  pub late : (n : ℕ) → IsAsked bounds text rule n → begin < n
  pub plain : (x : X) → good x → IsPlain (line x)
  pub same : (x y : X) → good x → good y → line x ≡ line y → x ≡ y
  pub keeps : (n : ℕ) (x : X) → good x → HasLine text n (line x)
      → ((m : ℕ) (y : X) → n ≡ m + 1 → IsAsked bounds text rule m → good y × HasLine text m (line y) → before y x) → Keeps bounds text rule n
  pub kept : (n : ℕ) → Keeps bounds text rule n → (x : X) × good x × HasLine text n (line x)
      × ((m : ℕ) (y : X) → n ≡ m + 1 → IsAsked bounds text rule m → good y × HasLine text m (line y) → before y x)

module _ (bounds : Bounds) (text : List ℕ) (X : Type 0) (rule : Rule) (begin count : ℕ) (line : X → List ℕ) (good : X → Type 0) (before : X → X → Type 0) (items : AreItems bounds text X rule begin count line good before) where
  -- line n is that of the last thing that was read, or the one before the first
  abbrev pub IsLast : ℕ → Option X → Type 0
  IsLast n None = n ≡ begin
  IsLast n (Some x) = good x × HasLine text n (line x) × IsAsked bounds text rule n

  rises : (n : ℕ) (last : Option X) (x : X) → IsLast n last → IsAfter before last x → (m : ℕ) (y : X) → n + 1 ≡ m + 1 → IsAsked bounds text rule m → good y × HasLine text m (line y) → before y x
  rises n None x is after m y at asked has = absurd (omega (arith, items.late m asked, is))
  rises n (Some z) x is after m y at asked has =
      let there : n ≡ m = omega arith in
      let same : z ≡ y = items.same z y is.0 has.0 (one_line text m (line z) (line y) (subst (λ k. HasLine text k (line z)) there is.1) has.1) in
      subst (λ w. before w x) same after

  follows : (n : ℕ) (last : Option X) (x : X) → IsLast n last → ((m : ℕ) (y : X) → n + 1 ≡ m + 1 → IsAsked bounds text rule m → good y × HasLine text m (line y) → before y x) → IsAfter before last x
  follows n None x is rise = tt
  follows n (Some y) x is rise = rise n y refl is.2 (is.0, is.1)

  pub next_item : (n : ℕ) (rest left : List ℕ) (last : Option X) (x : X) → IsReadTo bounds text n rest → IsLast n last → begin ≤ n → n < begin + count → good x → IsAfter before last x → rest ≡ line x ++ 10 ∷ left
      → IsReadTo bounds text (n + 1) left × IsLast (n + 1) (Some x)
  next_item n rest left last x read is low few fine after cut =
      let only : IsOnly bounds text (n + 1) rule = items.asked (n + 1) (omega arith) (omega arith) in
      let plain : IsPlain (line x) = items.plain x fine in (
        one_more bounds text rest (line x) left n rule only read cut plain (λ has. items.keeps (n + 1) x fine has (rises n last x is after)),
        (fine, has_next text rest (line x) left n read.lines cut plain, only.asked),
      )

  pub fault_item : (n : ℕ) (rest : List ℕ) (last : Option X) → IsReadTo bounds text n rest → IsLast n last → begin ≤ n → n < begin + count
      → ((x : X) → good x → IsAfter before last x → ¬ HasLine rest 1 (line x)) → IsFirstFault bounds text (n + 1) (number_of rule)
  fault_item n rest last read is low few none =
      let only : IsOnly bounds text (n + 1) rule = items.asked (n + 1) (omega arith) (omega arith) in
      fault_next bounds text rest n rule only.asked read
      (λ keeps. let kept = items.kept (n + 1) keeps in none kept.0 kept.1 (follows n last kept.0 is kept.3) (in_rest text rest n (line kept.0) read.lines kept.2))

  pub items_read : (xs : List X) (n : ℕ) (rest left : List ℕ) (last : Option X) → IsReadTo bounds text n rest → IsLast n last → begin ≤ n → n + length xs ≤ begin + count → All good xs → RiseAfter before last xs
      → rest ≡ text_of_lines (map line xs) ++ left → IsReadTo bounds text (n + length xs) left × IsLast (n + length xs) (last_of last xs)
  items_read [] n rest left last read is low few fine rise cut =
      let same : n ≡ n + 0 = omega arith in
      (at_line bounds text left n (n + 0) same (subst (IsReadTo bounds text n) cut read), subst (λ k. IsLast k last) same is)
  items_read (x ∷ xs) n rest left last read is low few fine rise cut =
      let one = next_item n rest (text_of_lines (map line xs) ++ left) last x read is low (omega arith) (All-head good x xs fine) rise.0 (cut ∙ append_assoc (line x) (10 ∷ text_of_lines (map line xs)) left) in
      let next = items_read xs (n + 1) (text_of_lines (map line xs) ++ left) left (Some x) one.0 one.1 (omega arith) (omega arith) (All-tail good x xs fine) rise.1 refl in
      let same : n + 1 + length xs ≡ n + suc (length xs) = omega arith in
      (at_line bounds text left (n + 1 + length xs) (n + suc (length xs)) same next.0, subst (λ k. IsLast k (last_of (Some x) xs)) same next.1)
