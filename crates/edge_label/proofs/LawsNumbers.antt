-- Numbers of a book.
use Rattle.std.proofs.Common.{◌≡◌, ◌⊎◌, ◌↔◌, inl, inr, ◌<◌, ℕ, zero, suc, List, [], ◌∷◌, ◌++◌, length, refl, sym, ap, subst, ◌∙◌, slice_get, Some, arith}
use Rattle.std.proofs.lemmas.List.{length-map}
use Rattle.std.proofs.lemmas.Option.{same_Some}
use Rattle.csub_semantics.specs.Labels.{PointLabel}
use Rattle.edge_label.specs.Numbers.{HasNumber, HaveNumbers, AddsOnly, HasEachOnce}

-- each number that was given has a label
pub label_at : (book : List PointLabel) (n : ℕ) → n < length book → (label : PointLabel) × HasNumber book n label
label_at [] n given = absurd (omega arith)
label_at (label ∷ book) zero given = (label, refl)
label_at (label ∷ book) (suc n) given = label_at book n (omega arith)

-- as many numbers as labels, and each label with its own
pub HaveNumbers-length : (book : List PointLabel) (numbers : List ℕ) (labels : List PointLabel) → HaveNumbers book numbers labels → length numbers ≡ length labels
HaveNumbers-length book numbers labels have = sym (length-map numbers (slice_get book)) ∙ ap length have ∙ length-map labels Some

pub HaveNumbers-at : (book : List PointLabel) (numbers : List ℕ) (labels : List PointLabel) → HaveNumbers book numbers labels → (i n : ℕ) → slice_get numbers i ≡ Some n
    → (label : PointLabel) × (slice_get labels i ≡ Some label) × HasNumber book n label
HaveNumbers-at book [] labels have i n at = absurd cc
HaveNumbers-at book (m ∷ numbers) [] have i n at = absurd cc
HaveNumbers-at book (m ∷ numbers) (label ∷ labels) have zero n at =
    let here : slice_get book m ≡ Some label = cc in
    (label, refl, ap (slice_get book) (sym (same_Some m n at)) ∙ here)
HaveNumbers-at book (m ∷ numbers) (label ∷ labels) have (suc i) n at =
    let rest : HaveNumbers book numbers labels = cc in
    HaveNumbers-at book numbers labels rest i n at

-- numbers of one book are equal exactly where the whole labels are equal
pub equal_numbers : (book : List PointLabel) → HasEachOnce book → (i j : ℕ) (x y : PointLabel) → HasNumber book i x → HasNumber book j y → (i ≡ j) ↔ (x ≡ y)
equal_numbers book once i j x y at_i at_j = (
  λ e. same_Some x y (sym at_i ∙ ap (slice_get book) e ∙ at_j),
  λ e. once i j x at_i (at_j ∙ ap Some (sym e)),
)

-- a new book has each label once, and one that has keeps so by what `intern` says
pub HasEachOnce-none : HasEachOnce {A = PointLabel} []
HasEachOnce-none = λ i j label at_i at_j. absurd cc

was_there : (book : List PointLabel) (last label : PointLabel) (n : ℕ) → HasNumber (book ++ last ∷ []) n label → HasNumber book n label ⊎ (label ≡ last)
was_there [] last label zero at = inr cc
was_there [] last label (suc n) at = absurd cc
was_there (l ∷ book) last label zero at = inl at
was_there (l ∷ book) last label (suc n) at = was_there book last label n at

pub HasEachOnce-added : (old new : List PointLabel) (label : PointLabel) (n : ℕ) → HasEachOnce old → AddsOnly old new label → ((m : ℕ) → HasNumber new m label → m ≡ n) → HasEachOnce new
HasEachOnce-added old new label n once (inl e) only = subst HasEachOnce (sym e) once
HasEachOnce-added old new label n once (inr e) only = λ i j x at_i at_j.
    let in_i : HasNumber (old ++ label ∷ []) i x = ap (λ book. slice_get book i) (sym e) ∙ at_i in
    let in_j : HasNumber (old ++ label ∷ []) j x = ap (λ book. slice_get book j) (sym e) ∙ at_j in
    let new_one : x ≡ label → i ≡ j = λ is. only i (at_i ∙ ap Some is) ∙ sym (only j (at_j ∙ ap Some is)) in
    elim (was_there old label x i in_i) [
      | inl old_i ↦ elim (was_there old label x j in_j) [
        | inl old_j ↦ once i j x old_i old_j
        | inr is ↦ new_one is
      ]
      | inr is ↦ new_one is
    ]
