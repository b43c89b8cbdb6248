use Rattle.std.proofs.Common.{◌≡◌, ◌∙◌, sym, ap, ℕ, List, [], ◌∷◌, ◌++◌, map, length, reverse, Bool, true, false, Option, Some, Vec, rules, if◌then◌else◌}
use Rattle.std.specs.Str.{bytes_eq}
use Rattle.std.specs.declared.alloc.Global.{Global}
use Rattle.std.proofs.lemmas.List.{reverse-append, length-reverse, length-map}
use Rattle.indexmap.specs.IndexMap.{IndexMap}
use Rattle.csub_objects.specs.Types.{Name}
use Rattle.csub_scopes.specs.declared.meaning.Tagged.{Tagged}
use Rattle.csub_scopes.specs.Places.{ArePlaces, place, placed}
use Rattle.csub_scopes.proofs.Finds.{tag_of}
use Rattle.csub_scopes.proofs.tags.Tags.declare.Goals as goal

-- a declaration that has the next place
declared : {S : Type 0} (old new : IndexMap (Vec ℕ Global) (Option ℕ) S) (stack more : List Tagged) (e : Tagged) (n : ℕ) → more ≡ stack ++ e ∷ []
    → n ≡ length stack → ArePlaces old (map tag_of (reverse stack))
    → ((other : Name) → placed new other ≡ (if bytes_eq e.tag other then Some n else placed old other)) → ArePlaces new (map tag_of (reverse more))
declared old new stack more e n h count kept after =
    let is : reverse more ≡ e ∷ reverse stack = ap reverse h ∙ reverse-append stack (e ∷ []) in
    let all : ArePlaces new (map tag_of (e ∷ reverse stack)) = λ other. after other ∙ by (bytes_eq e.tag other) other in
    rw is all
  where
    by : (b : Bool) (other : Name) → (if b then Some n else placed old other)
        ≡ (if b then Some (length (map tag_of (reverse stack))) else place other (map tag_of (reverse stack)))
    by true other = ap (λ m. Some m) (count ∙ sym (length-reverse stack) ∙ sym (length-map (reverse stack) tag_of))
    by false other = kept other

pub invariant_of-self-2 : goal.invariant_of-self-2
invariant_of-self-2 c =
    let e : Tagged = record { tag = c.in_ok-tag.tag; members = c.args.members } in
    let count : c.len-count.result ≡ length c.self.inside.stack.items = search rules in
    declared c.self.inside.latest c.put_next.new.latest c.self.inside.stack.items c.push.new.self.items e c.len-count.result
    (c.in_ok-push.ensures.items ∙ ap (λ s. s ++ e ∷ []) c.reserve.ensures.items) count c.self.invariant
    (λ other. rw (← c.in_ok-tag.ensures.before.0) at (c.in_ok-tag.ensures.after other))
