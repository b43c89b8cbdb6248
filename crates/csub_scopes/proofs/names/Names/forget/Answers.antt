use Rattle.std.proofs.Common.{◌≡◌, ◌∙◌, refl, ap, ℕ, List, [], ◌∷◌, ◌++◌, map, length, reverse, Bool, true, false, Option, Some, Vec, if◌then◌else◌}
use Rattle.std.specs.Str.{bytes_eq}
use Rattle.std.specs.declared.alloc.Global.{Global}
use Rattle.std.proofs.lemmas.List.{reverse-append}
use Rattle.std.proofs.lemmas.Slice.Eq.{bytes_eq-Decides}
use Rattle.indexmap.specs.IndexMap.{IndexMap}
use Rattle.csub_objects.specs.Types.{Name}
use Rattle.csub_scopes.specs.declared.names.Entry.{Entry}
use Rattle.csub_scopes.specs.Chains.{IsChained}
use Rattle.csub_scopes.specs.Places.{ArePlaces, place, placed}
use Rattle.csub_scopes.proofs.Finds.{name_of}
use Rattle.csub_scopes.proofs.names.Names.forget.Goals as goal

-- what the latest declaration hid has its place again
forgotten : {S : Type 0} (old new : IndexMap (Vec ℕ Global) (Option ℕ) S) (stack rest : List Entry) (e : Entry) → stack ≡ rest ++ e ∷ []
    → IsChained (reverse stack) × ArePlaces old (map name_of (reverse stack))
    → ((other : Name) → placed new other ≡ (if bytes_eq e.declared.name other then e.outer else placed old other))
    → IsChained (reverse rest) × ArePlaces new (map name_of (reverse rest))
forgotten old new stack rest e h kept after =
    let is : reverse stack ≡ e ∷ reverse rest = ap reverse h ∙ reverse-append rest (e ∷ []) in
    let all : IsChained (e ∷ reverse rest) × ArePlaces old (map name_of (e ∷ reverse rest)) = rw is at kept in
    (all.0.1, λ other. after other ∙ by other (bytes_eq e.declared.name other) refl (all.1 other) all.0.0)
  where
    by : (other : Name) (b : Bool) → bytes_eq e.declared.name other ≡ b → placed old other ≡ (if b then Some (length (map name_of (reverse rest))) else place other (map name_of (reverse rest)))
        → e.outer ≡ place e.declared.name (map name_of (reverse rest)) → (if b then e.outer else placed old other) ≡ place other (map name_of (reverse rest))
    by other true same _ outer = outer ∙ ap (λ name. place name (map name_of (reverse rest))) ((bytes_eq-Decides e.declared.name other).0 same)
    by other false _ was _ = was

pub invariant_of-self : goal.invariant_of-self
invariant_of-self c =
    forgotten c.self.inside.latest c.put_back.new.latest c.self.inside.stack.items c.pop.new.self.items c.in-Some.entry c.in-Some.ensures.items c.self.invariant
    (λ other. rw c.bytes.ensures at (c.put_back.ensures other))

pub invariant_of-self-in-Some-2 : goal.invariant_of-self-in-Some-2
invariant_of-self-in-Some-2 c =
    forgotten c.self.inside.latest c.put_back.new.latest c.self.inside.stack.items c.pop.new.self.items c.in-Some.entry c.in-Some.ensures.items c.self.invariant
    (λ other. rw c.bytes.ensures at (c.put_back.ensures other))

pub invariant_of-self-in-Some-3 : goal.invariant_of-self-in-Some-3
invariant_of-self-in-Some-3 c =
    forgotten c.self.inside.latest c.put_back.new.latest c.self.inside.stack.items c.pop.new.self.items c.in-Some.entry c.in-Some.ensures.items c.self.invariant
    (λ other. rw c.bytes.ensures at (c.put_back.ensures other))

pub invariant_of-self-in-Some-4 : goal.invariant_of-self-in-Some-4
invariant_of-self-in-Some-4 c =
    forgotten c.self.inside.latest c.put_back.new.latest c.self.inside.stack.items c.pop.new.self.items c.in-Some.entry c.in-Some.ensures.items c.self.invariant
    (λ other. rw c.bytes.ensures at (c.put_back.ensures other))
