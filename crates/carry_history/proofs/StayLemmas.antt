-- Which entries stay, by a row of the edges that have not one image.
use Rattle.std.proofs.Common.{◌≡◌, ℕ, ◌+◌, ◌<◌, ◌≤◌, Bool, true, false, not, IsTrue, ◌↔◌, List, length, get_or, set, replicate, take, Option, Some, None, refl, sym, ap, ◌∙◌, subst, ◌⊎◌, inl, inr, min, arith, length-set, true≢false, [], ◌∷◌, ◌++◌}
use Rattle.std.specs.Prelude.{slice_get, IfSome, IfNone}
use Rattle.std.specs.Option.{is_some}
use Rattle.std.specs.List.{AllZip, zip}
use Rattle.std.proofs.lemmas.Bool.{cases_eq, cases_lt}
use Rattle.std.proofs.lemmas.List.{take_more, take_all}
use Rattle.std.proofs.lemmas.Option.{same_Some, slice_get_within, slice_get-get_or}
use Rattle.std.proofs.lemmas.Slice.Zip.{all_zipped_more, length-zip, get_or-zip}
use Rattle.edge_trace.specs.Rows.{has, IsLeastCommon, NoneCommon}
use Rattle.edge_trace.proofs.Laws.{has_past, has-replicate, has-set_same, has-set_other}
use Rattle.test_history.specs.Histories.{EntryParts}
use Rattle.test_select.specs.declared.choice.Choice.{Choice}
use Rattle.test_select.specs.declared.choice.Choice.TheVariants.{Left, Selected}
use Rattle.edge_images.specs.declared.image.Image.{Image}
use Rattle.edge_images.specs.declared.image.Image.TheVariants.{Absent, One, Many}
use Rattle.carry_history.specs.Carried.{Stays}
use Rattle.carry_history.specs.Laid.{is_one, AreUnsettled}

-- a row when the first n edges have been looked at
pub record UnsettledBefore (images : List Image) (n : ℕ) (row : List Bool) : Type 0 where
  pub edges : length row ≡ length images
  pub each : (e : ℕ) (image : Image) → e < n → slice_get images e ≡ Some image → has row e ≡ not (is_one image)
  pub rest : (e : ℕ) → n ≤ e → has row e ≡ false

pub unsettled_none : (images : List Image) (row : List Bool) (n : ℕ) → length images ≡ n → row ≡ replicate n false → length row ≡ n → UnsettledBefore images 0 row
unsettled_none images row n counted is long = record {
  edges = long ∙ sym counted;
  each = λ e image less stands. absurd (omega (arith, less));
  rest = λ e more. ap (λ r. has r e) is ∙ has-replicate n e;
}

module _ (images : List Image) (n : ℕ) (row : List Bool) (image : Image) (stands : slice_get images n ≡ Some image) (h : UnsettledBefore images n row) where
  within : n < length row
  within = let l = slice_get_within images n image stands in omega (arith, l, h.edges)

  pub unsettled_set : is_one image ≡ false → UnsettledBefore images (n + 1) (set row n true)
  unsettled_set none = record { edges = length-set row n true ∙ h.edges; each = λ e other less there. each e other less there (cases_eq e n); rest = rest }
    where
      each : (e : ℕ) (other : Image) → e < n + 1 → slice_get images e ≡ Some other → (e ≡ n) ⊎ (e ≡ n → ⊥) → has (set row n true) e ≡ not (is_one other)
      each e other less there (inl same) =
          let one : image ≡ other = same_Some image other (sym stands ∙ subst (λ k. slice_get images k ≡ Some other) same there) in
          ap (has (set row n true)) same ∙ has-set_same row n within ∙ ap not (sym none ∙ ap is_one one)
      each e other less there (inr apart) = has-set_other row n e apart ∙ h.each e other (omega (arith, less, apart)) there

      rest : (e : ℕ) → n + 1 ≤ e → has (set row n true) e ≡ false
      rest e more = has-set_other row n e (λ same. omega (arith, more, same)) ∙ h.rest e (omega (arith, more))

  pub unsettled_kept : is_one image ≡ true → UnsettledBefore images (n + 1) row
  unsettled_kept one = record { edges = h.edges; each = λ e other less there. each e other less there (cases_eq e n); rest = λ e more. h.rest e (omega (arith, more)) }
    where
      each : (e : ℕ) (other : Image) → e < n + 1 → slice_get images e ≡ Some other → (e ≡ n) ⊎ (e ≡ n → ⊥) → has row e ≡ not (is_one other)
      each e other less there (inl same) =
          let it : image ≡ other = same_Some image other (sym stands ∙ subst (λ k. slice_get images k ≡ Some other) same there) in
          ap (has row) same ∙ h.rest n (omega arith) ∙ ap not (sym one ∙ ap is_one it)
      each e other less there (inr apart) = h.each e other (omega (arith, less, apart)) there

pub unsettled_all : (images : List Image) (row : List Bool) (n : ℕ) → length images ≤ n → UnsettledBefore images n row → AreUnsettled images row
unsettled_all images row n all h = record { edges = h.edges; each = λ e image stands. h.each e image (let l = slice_get_within images e image stands in omega (arith, l, all)) stands }

-- an entry stays where it shares no edge with such a row
image_one : (image : Image) → is_one image ≡ true → (i : ℕ) × (image ≡ One i)
image_one Absent e = absurd cc
image_one (One i) e = (i, refl)
image_one Many e = absurd cc

module _ (images : List Image) (row : List Bool) (h : AreUnsettled images row) (entry : EntryParts) (long : length entry.crossed ≡ length row) where
  none_stays : NoneCommon entry.crossed row → Stays images entry Left
  none_stays none = record { left = refl; one = λ e crossed. one e crossed (get_or images e Absent) (slice_get-get_or images e Absent (below e crossed)) }
    where
      below : (e : ℕ) → IsTrue (has entry.crossed e) → e < length images
      below e crossed = pick (cases_lt e (length images))
        where
          pick : (e < length images) ⊎ (length images ≤ e) → e < length images
          pick (inl l) = l
          pick (inr l) = absurd (true≢false (sym crossed ∙ has_past entry.crossed e (omega (arith, l, long, h.edges))))

      one : (e : ℕ) → IsTrue (has entry.crossed e) → (image : Image) → slice_get images e ≡ Some image → (i : ℕ) × (slice_get images e ≡ Some (One i))
      one e crossed image stands = pick (is_one image) refl
        where
          pick : (b : Bool) → is_one image ≡ b → (i : ℕ) × (slice_get images e ≡ Some (One i))
          pick true is = let one = image_one image is in (one.0, stands ∙ ap Some one.1)
          pick false is = absurd (none e crossed (h.each e image stands ∙ ap not is))

  stays_none : Stays images entry Left → NoneCommon entry.crossed row
  stays_none s e crossed unsettled =
      let one = s.one e crossed in
      true≢false (sym unsettled ∙ h.each e (One one.0) one.1)

  pub meets_none : (o : Option ℕ) (result : Bool) → IfSome o (IsLeastCommon entry.crossed row) → IfNone o (NoneCommon entry.crossed row) → is_some o ≡ not result → IsTrue result ↔ Stays images entry Left
  meets_none None true some none is = (λ t. none_stays none, λ s. refl)
  meets_none None false some none is = absurd cc
  meets_none (Some e) true some none is = absurd cc
  meets_none (Some e) false some none is = (λ t. absurd cc, λ s. absurd (stays_none s e some.first some.second))

pub selected_goes : (images : List Image) (entry : EntryParts) (edge : ℕ) → IsTrue false ↔ Stays images entry (Selected edge)
selected_goes images entry edge = (λ t. absurd cc, λ s. absurd (unlike s.left))
  where
    unlike : Selected edge ≡ Left → ⊥
    unlike e = cc

-- one more flag
pub flags_more : (R : EntryParts × Choice → Bool → Type 0) (entries : List EntryParts) (choices : List Choice) (flags : List Bool) (i : ℕ) (entry : EntryParts) (choice : Choice) (flag : Bool)
    → length choices ≡ length entries → i < length entries → entry ≡ get_or entries i entry → choice ≡ get_or choices i choice
    → AllZip R (take i (zip entries choices)) flags → R (entry, choice) flag → AllZip R (take (i + 1) (zip entries choices)) (flags ++ flag ∷ [])
flags_more R entries choices flags i entry choice flag same below is is' held next =
    let both = zip entries choices in
    let long : length both ≡ min (length entries) (length choices) = length-zip entries choices in
    let within : i < length both = omega (arith, long, same, below) in
    let there : get_or both i (entry, choice) ≡ (get_or entries i entry, get_or choices i choice) = get_or-zip entries choices i (entry, choice) below (omega (arith, same, below)) in
    let pair : (entry, choice) ≡ get_or both i (entry, choice) = (λ k. (is k, is' k)) ∙ sym there in
    let whole : take (i + 1) both ≡ take i both ++ (entry, choice) ∷ [] = take_more both i (entry, choice) within ∙ ap (λ e. take i both ++ e ∷ []) (sym pair) in
    subst (λ front. AllZip R front (flags ++ flag ∷ [])) (sym whole) (all_zipped_more R (take i both) flags (entry, choice) flag held next)

pub flags_all : (R : EntryParts × Choice → Bool → Type 0) (entries : List EntryParts) (choices : List Choice) (flags : List Bool) (i : ℕ)
    → length choices ≡ length entries → length entries ≤ i → AllZip R (take i (zip entries choices)) flags → AllZip R (zip entries choices) flags
flags_all R entries choices flags i same all held =
    let long : length (zip entries choices) ≡ min (length entries) (length choices) = length-zip entries choices in
    subst (λ front. AllZip R front flags) (take_all i (zip entries choices) (omega (arith, long, same, all))) held
