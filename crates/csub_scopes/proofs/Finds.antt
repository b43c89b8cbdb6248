-- Look-ups among declarations as the tables hold them.
use Rattle.std.proofs.Common.{◌≡◌, ◌∙◌, ℕ, List, [], ◌∷◌, Bool, true, false}
use Rattle.std.proofs.Common.{Some, None, map, reverse, option_map, get_or, refl, ap, if◌then◌else◌}
use Rattle.std.specs.Str.{bytes_eq}
use Rattle.csub_objects.specs.Types.{Name}
use Rattle.csub_scopes.specs.declared.meaning.Tagged.{Tagged}
use Rattle.csub_scopes.specs.declared.names.Entry.{Entry}
use Rattle.csub_scopes.specs.Meanings.{declared_of, tagged_of}
use Rattle.csub_scopes.specs.Places.{place}
use Rattle.csub_scopes.specs.Scopes.{find, find_tag}
use Rattle.csub_scopes.proofs.Stack.{first, first-None, found}

abbrev pub name_of : Entry → Name
name_of e = e.declared.name

abbrev pub tag_of : Tagged → Name
tag_of d = d.tag

find-first : (name : Name) (es : List Entry)
    → find name (map (λ e. declared_of e.declared) es) ≡ option_map (λ e. declared_of e.declared) (first name_of name es)
find-first name [] = refl
find-first name (e ∷ es) = by (bytes_eq e.declared.name name) (find-first name es)
  where
    by : (b : Bool) → find name (map (λ e. declared_of e.declared) es) ≡ option_map (λ e. declared_of e.declared) (first name_of name es)
        → (if b then Some (declared_of e.declared) else find name (map (λ e. declared_of e.declared) es))
        ≡ option_map (λ e. declared_of e.declared) (if b then Some e else first name_of name es)
    by true h = refl
    by false h = h

find_tag-first : (tag : Name) (es : List Tagged) → find_tag tag (map tagged_of es) ≡ option_map tagged_of (first tag_of tag es)
find_tag-first tag [] = refl
find_tag-first tag (e ∷ es) = by (bytes_eq e.tag tag) (find_tag-first tag es)
  where
    by : (b : Bool) → find_tag tag (map tagged_of es) ≡ option_map tagged_of (first tag_of tag es)
        → (if b then Some (tagged_of e) else find_tag tag (map tagged_of es)) ≡ option_map tagged_of (if b then Some e else first tag_of tag es)
    by true h = refl
    by false h = h

pub found_name : (name : Name) (stack : List Entry) (p : ℕ) (e : Entry) → place name (map name_of (reverse stack)) ≡ Some p → e ≡ get_or stack p e
    → find name (map (λ e. declared_of e.declared) (reverse stack)) ≡ Some (declared_of e.declared)
found_name name stack p e h is =
    find-first name (reverse stack) ∙ ap (λ o. option_map (λ e. declared_of e.declared) o) (found name_of name stack p e h is)

pub no_name : (name : Name) (stack : List Entry) → place name (map name_of (reverse stack)) ≡ None
    → find name (map (λ e. declared_of e.declared) (reverse stack)) ≡ None
no_name name stack h =
    find-first name (reverse stack) ∙ ap (λ o. option_map (λ e. declared_of e.declared) o) (first-None name_of name (reverse stack) h)

pub found_tag : (tag : Name) (stack : List Tagged) (p : ℕ) (e : Tagged) → place tag (map tag_of (reverse stack)) ≡ Some p → e ≡ get_or stack p e
    → find_tag tag (map tagged_of (reverse stack)) ≡ Some (tagged_of e)
found_tag tag stack p e h is = find_tag-first tag (reverse stack) ∙ ap (λ o. option_map tagged_of o) (found tag_of tag stack p e h is)

pub no_tag : (tag : Name) (stack : List Tagged) → place tag (map tag_of (reverse stack)) ≡ None → find_tag tag (map tagged_of (reverse stack)) ≡ None
no_tag tag stack h = find_tag-first tag (reverse stack) ∙ ap (λ o. option_map tagged_of o) (first-None tag_of tag (reverse stack) h)
