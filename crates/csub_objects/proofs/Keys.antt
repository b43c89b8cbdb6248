-- Names among the keys of a set.
use Rattle.std.proofs.Common.{◌≡◌, ◌<◌, ℕ, List, [], ◌∷◌, ◌++◌, Bool, true, false, length, get_or, map, Option, Some, None, Vec, is_some, IfSome, IfNone, refl, sym, ap, subst, ◌∙◌, arith, true≢false, if◌then◌else◌}
use Rattle.std.specs.declared.alloc.Global.{Global}
use Rattle.std.specs.Str.{bytes_eq}
use Rattle.std.specs.List.{position, list_any}
use Rattle.std.proofs.lemmas.List.{get_or-map, length-map, map-append}
use Rattle.std.proofs.lemmas.List.Quantifiers.{position-Some}
use Rattle.std.proofs.lemmas.List.Folds.{list_any_none, list_any_at}
use Rattle.std.proofs.lemmas.Slice.Eq.{bytes_eq-Decides}
use Rattle.csub_objects.specs.Names.{IsNew, StandsAt}

abbrev pub Keys : Type 0
Keys = List (Vec ℕ Global)

abbrev pub texts : Keys → List (List ℕ)
texts keys = map (λ k. k.items) keys

abbrev pub is_key : List ℕ → Vec ℕ Global → Bool
is_key name k = bytes_eq name k.items

not_true : (b : Bool) → (b ≡ true → ⊥) → b ≡ false
not_true true h = absurd (h refl)
not_true false h = refl

at_place : (keys : Keys) (name : List ℕ) (n : ℕ) (d : Vec ℕ Global) → position (is_key name) keys ≡ Some n → StandsAt (texts keys) name n
at_place keys name n d e =
    let h = position-Some (is_key name) keys n d e in
    record {
      within = subst (λ l. n < l) (sym (length-map keys (λ k. k.items))) h.0;
      is = get_or-map (λ k. k.items) keys n d [] h.0 ∙ sym ((bytes_eq-Decides name (get_or keys n d).items).0 h.1);
      first = λ k below same.
          let within : k < length keys = omega (arith, below, h.0) in
          let equal : (get_or keys k d).items ≡ name = sym (get_or-map (λ x. x.items) keys k d [] within) ∙ same in
          true≢false (sym ((bytes_eq-Decides name (get_or keys k d).items).1 (sym equal)) ∙ h.2 k below);
    }

pub found : (keys : Keys) (name : List ℕ) (r : Option ℕ) → r ≡ position (is_key name) keys → IfSome r (StandsAt (texts keys) name)
found keys name None e = tt
found [] name (Some n) e = absurd (cc)
found (key ∷ keys) name (Some n) e = at_place (key ∷ keys) name n key (sym e)

apart : (keys : Keys) (name : List ℕ) → list_any (is_key name) keys ≡ false → IsNew name (texts keys)
apart [] name none k below e = absurd (omega (arith, below))
apart (key ∷ keys) name none k below e =
    let within : k < length (key ∷ keys) = subst (λ l. k < l) (length-map (key ∷ keys) (λ x. x.items)) below in
    let same : (get_or (key ∷ keys) k key).items ≡ name = sym (get_or-map (λ x. x.items) (key ∷ keys) k key [] within) ∙ e in
    true≢false (sym (list_any_at (is_key name) (key ∷ keys) k key within ((bytes_eq-Decides name (get_or (key ∷ keys) k key).items).1 (sym same))) ∙ none)

pub missing : (keys : Keys) (name : List ℕ) (r : Option ℕ) → is_some r ≡ list_any (is_key name) keys → IfNone r (IsNew name (texts keys))
missing keys name None e = apart keys name (sym e)
missing keys name (Some n) e = tt

pub absent : (keys : Keys) (name : List ℕ) → IsNew name (texts keys) → list_any (is_key name) keys ≡ false
absent keys name new = list_any_none (is_key name) keys (λ k d within. not_true (bytes_eq name (get_or keys k d).items) (λ e.
    let below : k < length (texts keys) = subst (λ l. k < l) (sym (length-map keys (λ x. x.items))) within in
    new k below (get_or-map (λ x. x.items) keys k d [] within ∙ sym ((bytes_eq-Decides name (get_or keys k d).items).0 e))))

pub added : (keys new : Keys) (value : Vec ℕ Global) → IsNew value.items (texts keys) → new ≡ (if list_any (is_key value.items) keys then keys else keys ++ value ∷ []) → texts new ≡ texts keys ++ value.items ∷ []
added keys new value fresh e =
    ap texts (e ∙ ap (λ b. if b then keys else keys ++ value ∷ []) (absent keys value.items fresh)) ∙ map-append (λ x. x.items) keys (value ∷ [])
