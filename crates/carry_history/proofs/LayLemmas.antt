-- What is laid is what entries become.
use Rattle.std.proofs.Common.{◌≡◌, ℕ, zero, suc, ◌<◌, Bool, true, false, IsTrue, ◌↔◌, List, [], ◌∷◌, length, ◌++◌, ◌≤◌, drop, get_or, All, refl, sym, ap, ◌∙◌, subst, subst₂, inl, inr, arith}
use Rattle.std.proofs.lemmas.List.{drop_all, nil_from_length, append-nil}
use Rattle.std.proofs.lemmas.Slice.Zip.{AllZip-long, length-zip}
use Rattle.std.specs.List.{AllZip, zip}
use Rattle.csub_semantics.specs.Syntax.{ProgramTree}
use Rattle.csub_semantics.specs.Flows.{edge_list}
use Rattle.test_suite.specs.Tests.{TestParts, IsWithin}
use Rattle.test_history.specs.Histories.{EntryParts, HaveRows}
use Rattle.test_select.specs.declared.choice.Choice.{Choice}
use Rattle.edge_images.specs.declared.image.Image.{Image}
use Rattle.test_history.specs.Entries.{IsEntry}
use Rattle.carry_history.specs.Carried.{Stays, IsMoved, Becomes}
use Rattle.carry_history.specs.Laid.{AreStays, tests_again, AreLaid}

module _ (P : ProgramTree) (edges : ℕ) (images : List Image) (counted : edges ≡ length (edge_list P)) where
  pub laid_becomes : (entries : List EntryParts) (choices : List Choice) (stays : List Bool) (results afters : List EntryParts) → length choices ≡ length entries → AreStays images entries choices stays
      → AllZip (IsEntry P) (tests_again entries stays) results → AreLaid edges images entries stays results afters → AllZip (Becomes P images) (zip entries choices) afters
  laid_becomes [] choices stays results afters same flags ran laid = none choices afters laid.3
    where
      none : (choices : List Choice) (afters : List EntryParts) → afters ≡ [] → AllZip (Becomes P images) (zip [] choices) afters
      none choices afters is = subst (λ l. AllZip (Becomes P images) [] l) (sym is) tt
  laid_becomes (entry ∷ entries) [] stays results afters same flags ran laid = absurd cc
  laid_becomes (entry ∷ entries) (choice ∷ choices) [] results afters same flags ran laid = absurd flags
  laid_becomes (entry ∷ entries) (choice ∷ choices) (true ∷ stays) results [] same flags ran laid = absurd (let e = laid.0 in cc)
  laid_becomes (entry ∷ entries) (choice ∷ choices) (true ∷ stays) results (after ∷ afters) same flags ran laid =
      (inl (flags.0.0 refl, subst (λ n. IsMoved n images entry after) counted laid.0), laid_becomes entries choices stays results afters (omega (arith, same)) flags.1 ran laid.1)
  laid_becomes (entry ∷ entries) (choice ∷ choices) (false ∷ stays) [] afters same flags ran laid = absurd ran
  laid_becomes (entry ∷ entries) (choice ∷ choices) (false ∷ stays) (result ∷ results) [] same flags ran laid = absurd (let e = laid.0 in cc)
  laid_becomes (entry ∷ entries) (choice ∷ choices) (false ∷ stays) (result ∷ results) (after ∷ afters) same flags ran laid =
      (inr (λ s. let t = flags.0.1 s in cc, subst (IsEntry P entry.test) (sym laid.0) ran.0), laid_becomes entries choices stays results afters (omega (arith, same)) flags.1 ran.1 laid.1)

  -- each has a row of the program's edges
  pub become_rows : (both : List (EntryParts × Choice)) (afters : List EntryParts) → AllZip (Becomes P images) both afters → HaveRows edges afters
  become_rows [] [] h = λ k d l. absurd (omega (arith, l))
  become_rows [] (after ∷ afters) h = absurd h
  become_rows (b ∷ both) [] h = absurd h
  become_rows (b ∷ both) (after ∷ afters) h = λ k d l. at k d l (become_rows both afters h.1)
    where
      one : Becomes P images b after → length after.crossed ≡ edges
      one (inl x) = x.1.crossed.edges ∙ sym counted
      one (inr x) = x.1.crossed.edges ∙ sym counted

      at : (k : ℕ) (d : EntryParts) → k < length (after ∷ afters) → HaveRows edges afters → length (get_or (after ∷ afters) k d).crossed ≡ edges
      at zero d l rest = one h.0
      at (suc k) d l rest = rest k d (omega (arith, l))

-- tests that run again are within the limits
again_within : (entries : List EntryParts) (stays : List Bool) → All (λ (entry : EntryParts). IsWithin entry.test) entries → All IsWithin (tests_again entries stays)
again_within [] stays h = λ k d l. absurd (omega (arith, l))
again_within (entry ∷ entries) [] h = λ k d l. absurd (omega (arith, l))
again_within (entry ∷ entries) (true ∷ stays) h = again_within entries stays (λ k d l. h (suc k) d (omega (arith, l)))
again_within (entry ∷ entries) (false ∷ stays) h = λ k d l. at k d l (again_within entries stays (λ k d l. h (suc k) d (omega (arith, l))))
  where
    at : (k : ℕ) (d : TestParts) → k < length (entry.test ∷ tests_again entries stays) → All IsWithin (tests_again entries stays) → IsWithin (get_or (entry.test ∷ tests_again entries stays) k d)
    at zero d l rest = h 0 entry (omega arith)
    at (suc k) d l rest = rest k d (omega (arith, l))

-- nothing is left behind the last entry
pub laid_all : (edges : ℕ) (images : List Image) (entries : List EntryParts) (stays : List Bool) (results laid left : List EntryParts) (place : ℕ) → length stays ≡ length entries → length entries ≤ place
    → length left ≡ length (tests_again (drop place entries) (drop place stays))
    → ((rest : List EntryParts) → AreLaid edges images (drop place entries) (drop place stays) left rest → AreLaid edges images entries stays results (laid ++ rest)) → AreLaid edges images entries stays results laid
laid_all edges images entries stays results laid left place same all counted h =
    let no_entries : drop place entries ≡ [] = drop_all place entries all in
    let no_stays : drop place stays ≡ [] = drop_all place stays (omega (arith, same, all)) in
    let none : left ≡ [] = nil_from_length left (counted ∙ (λ i. length (tests_again (no_entries i) (no_stays i)))) in
    subst (AreLaid edges images entries stays results) (append-nil laid) (h [] (empty (drop place entries) (drop place stays) left no_entries no_stays none))
  where
    empty : (xs : List EntryParts) (flags : List Bool) (ys : List EntryParts) → xs ≡ [] → flags ≡ [] → ys ≡ [] → AreLaid edges images xs flags ys []
    empty [] [] [] a b c = (refl, refl, refl, refl)
    empty [] [] (y ∷ ys) a b c = absurd cc
    empty [] (f ∷ flags) ys a b c = absurd cc
    empty (x ∷ xs) flags ys a b c = absurd cc

pub tests_within : (history entries : List EntryParts) (stays : List Bool) (tests items : List TestParts) → entries ≡ history → tests ≡ tests_again entries stays → items ≡ tests
    → All (λ (entry : EntryParts). IsWithin entry.test) history → All IsWithin items
tests_within history entries stays tests items same are is within =
    subst (λ l. All IsWithin l) (sym (is ∙ are)) (again_within entries stays (subst (λ l. All (λ (entry : EntryParts). IsWithin entry.test) l) (sym same) within))

-- there are as many flags as entries, and as many results as tests
pub flags_long : (images : List Image) (entries : List EntryParts) (choices : List Choice) (stays : List Bool) → length choices ≡ length entries → AreStays images entries choices stays → length stays ≡ length entries
flags_long images entries choices stays same flags =
    let long = AllZip-long (λ both stay. IsTrue stay ↔ Stays images both.0 both.1) (zip entries choices) stays flags in
    omega (arith, long, length-zip entries choices, same)

pub results_long : (P : ProgramTree) (tests : List TestParts) (results : List EntryParts) → AllZip (IsEntry P) tests results → length results ≡ length tests
results_long P tests results ran = AllZip-long (IsEntry P) tests results ran

-- the flags and the tests by the names under which they are handed on
module _ (P : ProgramTree) (edges : ℕ) (images : List Image) (entries : List EntryParts) (choices : List Choice) (stays again laid_by : List Bool) (tests ran_tests : List TestParts) (results afters : List EntryParts)
    (counted : edges ≡ length (edge_list P)) (same : length choices ≡ length entries) (flags : AreStays images entries choices stays) (by : again ≡ stays) (by' : laid_by ≡ stays) (are : tests ≡ tests_again entries again)
    (them : ran_tests ≡ tests) (ran : AllZip (IsEntry P) ran_tests results) (laid : AreLaid edges images entries laid_by results afters) where
  carried_becomes : AllZip (Becomes P images) (zip entries choices) afters
  carried_becomes =
      laid_becomes P edges images counted entries choices laid_by results afters same (subst (AreStays images entries choices) (sym by') flags)
      (subst (λ l. AllZip (IsEntry P) l results) (them ∙ are ∙ ap (tests_again entries) (by ∙ sym by')) ran) laid

  pub carried_entries : (history : List EntryParts) (made : List EntryParts) → entries ≡ history → made ≡ afters → AllZip (Becomes P images) (zip history choices) made
  carried_entries history made is is' = subst₂ (λ l k. AllZip (Becomes P images) (zip l choices) k) is (sym is') carried_becomes

  pub carried_rows : HaveRows edges afters
  carried_rows = become_rows P edges images counted (zip entries choices) afters carried_becomes
