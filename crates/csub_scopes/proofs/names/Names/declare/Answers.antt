use Rattle.std.proofs.Common.{◌≡◌, ◌∙◌, sym, ap, ℕ, List, [], ◌∷◌, ◌++◌, map, length, reverse, Bool, true, false, Option, Some, Vec, rules, if◌then◌else◌}
use Rattle.std.specs.Str.{bytes_eq}
use Rattle.std.specs.declared.alloc.Global.{Global}
use Rattle.std.proofs.lemmas.List.{reverse-append, length-reverse, length-map}
use Rattle.indexmap.specs.IndexMap.{IndexMap}
use Rattle.csub_objects.specs.Types.{Name}
use Rattle.csub_scopes.specs.declared.names.Entry.{Entry}
use Rattle.csub_scopes.specs.Chains.{IsChained}
use Rattle.csub_scopes.specs.Places.{ArePlaces, place, placed}
use Rattle.csub_scopes.proofs.Finds.{name_of}
use Rattle.csub_scopes.proofs.names.Names.declare.Goals as goal

-- a declaration that knows the place of the one that it hides, and has the next place
declared : {S : Type 0} (old new : IndexMap (Vec ℕ Global) (Option ℕ) S) (stack more : List Entry) (e : Entry) (n : ℕ) → more ≡ stack ++ e ∷ []
    → n ≡ length stack → IsChained (reverse stack) × ArePlaces old (map name_of (reverse stack)) → e.outer ≡ placed old e.declared.name
    → ((other : Name) → placed new other ≡ (if bytes_eq e.declared.name other then Some n else placed old other))
    → IsChained (reverse more) × ArePlaces new (map name_of (reverse more))
declared old new stack more e n h count kept outer after =
    let is : reverse more ≡ e ∷ reverse stack = ap reverse h ∙ reverse-append stack (e ∷ []) in
    let all : IsChained (e ∷ reverse stack) × ArePlaces new (map name_of (e ∷ reverse stack)) =
    ((outer ∙ kept.1 e.declared.name, kept.0), λ other. after other ∙ by (bytes_eq e.declared.name other) other) in
    rw is all
  where
    by : (b : Bool) (other : Name) → (if b then Some n else placed old other)
        ≡ (if b then Some (length (map name_of (reverse stack))) else place other (map name_of (reverse stack)))
    by true other = ap (λ m. Some m) (count ∙ sym (length-reverse stack) ∙ sym (length-map (reverse stack) name_of))
    by false other = kept.1 other

pub invariant_of-self-2 : goal.invariant_of-self-2
invariant_of-self-2 c =
    let e : Entry = record {
      declared = record { name = c.in_ok-name.name; depth = c.args.depth; meaning = c.args.meaning };
      outer = c.in_ok-name.outer;
    } in
    let count : c.len-count.result ≡ length c.self.inside.stack.items = search rules in
    declared c.self.inside.latest c.put_next.new.latest c.self.inside.stack.items c.push.new.self.items e c.len-count.result
    (c.in_ok-push.ensures.items ∙ ap (λ s. s ++ e ∷ []) c.reserve.ensures.items) count c.self.invariant
    (c.in_ok-name.ensures.before.1 ∙ ap (λ name. placed c.self.inside.latest name) (sym c.in_ok-name.ensures.before.0))
    (λ other. rw (← c.in_ok-name.ensures.before.0) at (c.in_ok-name.ensures.after other))
