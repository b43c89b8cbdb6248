-- Places of names among declarations of any kind, of which each has its name.
use Rattle.std.proofs.Common.{◌≡◌, ◌∙◌, refl, sym, ap, arith, ℕ, suc, ◌+◌, ◌-◌, ◌<◌, Bool, true, false, if◌then◌else◌}
use Rattle.std.proofs.Common.{List, [], ◌∷◌, map, length, reverse, drop, get_or, Option, None, Some}
use Rattle.std.specs.Str.{bytes_eq}
use Rattle.std.proofs.lemmas.List.{get_or-reverse, length-reverse, length-map}
use Rattle.csub_objects.specs.Types.{Name}
use Rattle.csub_scopes.specs.Places.{place}

one_add : (i : ℕ) → 1 + i ≡ suc i
one_add i = omega arith

pub place-below : (name : Name) (names : List Name) (p : ℕ) → place name names ≡ Some p → p < length names
place-below name [] p h = absurd (cc)
place-below name (x ∷ names) p h = by (bytes_eq x name) h (place-below name names p)
  where
    by : (b : Bool) → (if b then Some (length names) else place name names) ≡ Some p → (place name names ≡ Some p → p < length names)
        → p < length (x ∷ names)
    by true h k = let same : length names ≡ p = cc in omega arith
    by false h k = let less : p < length names = k h in omega arith

module _ {E : Type 0} (name_of : E → Name) where
  -- the first declaration of a name
  abbrev pub first : Name → List E → Option E
  first name [] = None
  first name (e ∷ es) = if bytes_eq (name_of e) name then Some e else first name es

  -- a name has a declaration exactly where it has a place
  pub first-None : (name : Name) (es : List E) → place name (map name_of es) ≡ None → first name es ≡ None
  first-None name [] h = refl
  first-None name (e ∷ es) h = by (bytes_eq (name_of e) name) h (first-None name es)
    where
      by : (b : Bool) → (if b then Some (length (map name_of es)) else place name (map name_of es)) ≡ None
          → (place name (map name_of es) ≡ None → first name es ≡ None) → (if b then Some e else first name es) ≡ None
      by true h k = cc
      by false h k = k h

  get_or_cons : (e : E) (es : List E) (i : ℕ) (d : E) → get_or (e ∷ es) (1 + i) d ≡ get_or es i d
  get_or_cons e es i d = rw (one_add i) refl

  -- the declaration that the place shows
  first-place : (name : Name) (es : List E) (p : ℕ) (d : E) → place name (map name_of es) ≡ Some p
      → first name es ≡ Some (get_or es (length es - p - 1) d)
  first-place name [] p d h = absurd (cc)
  first-place name (e ∷ es) p d h = by (bytes_eq (name_of e) name) h (first-place name es p d) (place-below name (map name_of es) p)
    where
      count : length (map name_of es) ≡ length es
      count = length-map es name_of

      by : (b : Bool) → (if b then Some (length (map name_of es)) else place name (map name_of es)) ≡ Some p
          → (place name (map name_of es) ≡ Some p → first name es ≡ Some (get_or es (length es - p - 1) d))
          → (place name (map name_of es) ≡ Some p → p < length (map name_of es))
          → (if b then Some e else first name es) ≡ Some (get_or (e ∷ es) (length (e ∷ es) - p - 1) d)
      by true h k w =
          let same : length (map name_of es) ≡ p = cc in
          let at : length (e ∷ es) - p - 1 ≡ 0 = omega (arith, count) in
          rw at refl
      by false h k w =
          let less : p < length (map name_of es) = w h in
          let at : length (e ∷ es) - p - 1 ≡ 1 + (length es - p - 1) = omega (arith, count) in
          rw at (k h ∙ ap (λ x. Some x) (sym (get_or_cons e es (length es - p - 1) d)))

  -- the same by the place in a stack, whose latest declaration comes last
  pub found : (name : Name) (stack : List E) (p : ℕ) (e : E) → place name (map name_of (reverse stack)) ≡ Some p → e ≡ get_or stack p e
      → first name (reverse stack) ≡ Some e
  found name stack p e h is =
      let below : p < length (map name_of (reverse stack)) = place-below name (map name_of (reverse stack)) p h in
      let named : length (map name_of (reverse stack)) ≡ length (reverse stack) = length-map (reverse stack) name_of in
      let count : length (reverse stack) ≡ length stack = length-reverse stack in
      let at : length (reverse stack) - p - 1 < length stack = omega arith in
      let back : length stack - 1 - (length (reverse stack) - p - 1) ≡ p = omega arith in
      first-place name (reverse stack) p e h
      ∙ ap (λ x. Some x) (get_or-reverse stack (length (reverse stack) - p - 1) e at ∙ ap (λ i. get_or stack i e) back ∙ sym is)

  -- a place is one of the stack
  pub within : (name : Name) (stack : List E) (p : ℕ) → place name (map name_of (reverse stack)) ≡ Some p → p < length stack
  within name stack p h =
      let below : p < length (map name_of (reverse stack)) = place-below name (map name_of (reverse stack)) p h in
      omega (arith, length-map (reverse stack) name_of, length-reverse stack)

-- one of the latest goes
pub drop_once : {E : Type 0} (es new : List E) (mark : ℕ) → mark < length es → new ≡ drop 1 es
    → drop (length new - mark) new ≡ drop (length es - mark) es
drop_once [] new mark below h = absurd (omega arith)
drop_once (e ∷ es) new mark below h =
    let step : length (e ∷ es) - mark ≡ suc (length es - mark) = omega arith in
    ap (λ xs. drop (length xs - mark) xs) h ∙ rw step refl
