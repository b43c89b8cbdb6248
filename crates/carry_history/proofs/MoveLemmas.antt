-- The images of a row's edges, one edge after another.
use Rattle.std.proofs.Common.{◌≡◌, ℕ, ◌+◌, ◌<◌, ◌≤◌, Bool, true, false, IsTrue, ◌↔◌, List, length, set, replicate, Some, sym, ap, ◌∙◌, subst, ◌⊎◌, inl, inr, true≢false, arith}
use Rattle.std.specs.Prelude.{slice_get}
use Rattle.std.proofs.lemmas.Bool.{cases_eq, cases_lt}
use Rattle.std.proofs.lemmas.Option.{same_Some, slice_get_within}
use Rattle.edge_trace.specs.Rows.{has}
use Rattle.edge_trace.proofs.Laws.{has-replicate, has-set_same, has-set_other}
use Rattle.edge_images.specs.declared.image.Image.{Image}
use Rattle.edge_images.specs.declared.image.Image.TheVariants.{One}
use Rattle.carry_history.specs.Carried.{AreImagesOf}

-- what one edge adds
abbrev pub Adds : List Bool → ℕ → Image → List Bool → List Bool → Type 0
Adds crossed edge image before after = (i : ℕ) → IsTrue (has after i) ↔ (IsTrue (has before i) ⊎ (IsTrue (has crossed edge) × (image ≡ One i)))

pub adds_none : (crossed : List Bool) (edge : ℕ) (image : Image) (row : List Bool) → (IsTrue (has crossed edge) → (i : ℕ) → image ≡ One i → ⊥) → Adds crossed edge image row row
adds_none crossed edge image row none i = (λ t. inl t, back)
  where
    back : IsTrue (has row i) ⊎ (IsTrue (has crossed edge) × (image ≡ One i)) → IsTrue (has row i)
    back (inl t) = t
    back (inr x) = absurd (none x.0 i x.1)

pub adds_one : (crossed : List Bool) (edge : ℕ) (image : Image) (to : ℕ) (row : List Bool) → IsTrue (has crossed edge) → image ≡ One to → to < length row → Adds crossed edge image row (set row to true)
adds_one crossed edge image to row crossed_it is within i = (λ t. there t (cases_eq i to), back)
  where
    there : IsTrue (has (set row to true) i) → (i ≡ to) ⊎ (i ≡ to → ⊥) → IsTrue (has row i) ⊎ (IsTrue (has crossed edge) × (image ≡ One i))
    there t (inl same) = inr (crossed_it, is ∙ ap One (sym same))
    there t (inr apart) = inl (sym (has-set_other row to i apart) ∙ t)

    back : IsTrue (has row i) ⊎ (IsTrue (has crossed edge) × (image ≡ One i)) → IsTrue (has (set row to true) i)
    back (inl t) = kept (cases_eq i to)
      where
        kept : (i ≡ to) ⊎ (i ≡ to → ⊥) → IsTrue (has (set row to true) i)
        kept (inl same) = ap (has (set row to true)) same ∙ has-set_same row to within
        kept (inr apart) = has-set_other row to i apart ∙ t
    back (inr x) = let same : One to ≡ One i = sym is ∙ x.1 in ap (has (set row to true)) (sym (one_is to i same)) ∙ has-set_same row to within
      where
        one_is : (a b : ℕ) → One a ≡ One b → a ≡ b
        one_is a b e = cc

-- the images of the edges below n
abbrev pub ImagesBefore : List Image → List Bool → ℕ → List Bool → Type 0
ImagesBefore images crossed n row = (i : ℕ) → IsTrue (has row i) ↔ ((e : ℕ) × (e < n) × IsTrue (has crossed e) × (slice_get images e ≡ Some (One i)))

pub images_none : (images : List Image) (crossed row : List Bool) (n : ℕ) → row ≡ replicate n false → ImagesBefore images crossed 0 row
images_none images crossed row n is i = (λ t. absurd (true≢false (sym t ∙ ap (λ r. has r i) is ∙ has-replicate n i)), λ x. absurd (let l = x.1 in omega (arith, l)))

pub images_more : (images : List Image) (crossed before after : List Bool) (n : ℕ) (image : Image) → slice_get images n ≡ Some image → ImagesBefore images crossed n before → Adds crossed n image before after → ImagesBefore images crossed (n + 1) after
images_more images crossed before after n image stands h adds i = (λ t. to ((adds i).0 t), λ x. (adds i).1 (from x (cases_lt x.0 n)))
  where
    to : IsTrue (has before i) ⊎ (IsTrue (has crossed n) × (image ≡ One i)) → (e : ℕ) × (e < n + 1) × IsTrue (has crossed e) × (slice_get images e ≡ Some (One i))
    to (inl t) = let x = (h i).0 t in (x.0, let l = x.1 in omega (arith, l), x.2, x.3)
    to (inr x) = (n, omega arith, x.0, stands ∙ ap Some x.1)

    from : (x : (e : ℕ) × (e < n + 1) × IsTrue (has crossed e) × (slice_get images e ≡ Some (One i))) → (x.0 < n) ⊎ (n ≤ x.0) → IsTrue (has before i) ⊎ (IsTrue (has crossed n) × (image ≡ One i))
    from x (inl l) = inl ((h i).1 (x.0, l, x.2, x.3))
    from x (inr l) =
        let same : x.0 ≡ n = let b = x.1 in omega (arith, b, l) in
        inr (ap (has crossed) (sym same) ∙ x.2, same_Some image (One i) (sym stands ∙ subst (λ k. slice_get images k ≡ Some (One i)) same x.3))

pub images_all : (edges : ℕ) (images : List Image) (crossed row : List Bool) (n : ℕ) → length row ≡ edges → length images ≤ n → ImagesBefore images crossed n row → AreImagesOf edges images crossed row
images_all edges images crossed row n long all h = record { edges = long; each = λ i. (λ t. let x = (h i).0 t in (x.0, x.2, x.3), λ x. (h i).1 (x.0, let l = slice_get_within images x.0 (One i) x.2 in omega (arith, l, all), x.1, x.2)) }
