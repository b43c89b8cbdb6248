-- The struct that a definition gives, which breaks no rule.
use Rattle.std.proofs.Common.{◌≡◌, ◌≢◌, Bool, true, false, List, [], ◌∷◌, ◌++◌, map, All, IsTrue, is_some, not, bytes_eq, Option, Some, None, option_map, refl, subst, sym, ap, ◌∙◌}
use Rattle.std.specs.Prelude.{if◌then◌else◌}
use Rattle.std.proofs.lemmas.List.Elements.{All-nil, All-cons, All-head, All-tail}
use Rattle.csub_tree.specs.declared.name.Name.{Name as NameAt}
use Rattle.csub_tree.specs.Declarations.{Declarator, Declare}
use Rattle.csub_objects.specs.Types.{Name, TypeTree, struct_type, MemberTree, MemberTrees, members_of, IsSized}
use Rattle.csub_validity.specs.Valid.{HaveOwnNames, names_in}
use Rattle.csub_scopes.specs.Scopes.{Scope, Tagged}
use Rattle.csub_rules.specs.declared.fault.Fault.{Fault}
use Rattle.csub_rules.specs.Faults.{fault_if}
use Rattle.csub_rules.specs.Sizes.{is_sized}
use Rattle.csub_rules.specs.Declarators.{base_type, object_type, is_too_large}
use Rattle.csub_rules.specs.Labels.{stands_in, twice_fault, NamesDiffer}
use Rattle.csub_rules.proofs.LawsEarlier.{four_none, no_test}
use Rattle.csub_rules.proofs.LawsSizes.{is_sized-Decides}
use Rattle.csub_rules.proofs.LawsUses.{is_false}
use Rattle.csub_rules.proofs.LawsBodies.{names_differ}
use Rattle.csub_rules.specs.Files.{tag_fault}
use Rattle.csub_rules.specs.Structs.{field_names, with_member, member_of, fields_before, members, fields_fault, defined_struct, struct_fault, sound_members}
use Rattle.program_validity.proofs.Lists.{Pairs, all_pairs, is_same, contrary, in_first, in_second}
use Rattle.program_validity.proofs.Known.{AreKnown, IsGood, IsStruct, AreGood}
use Rattle.program_validity.proofs.Declared.{IsGoodWhere, good_base, object_good}

-- ---- names

differs : (a : Name) (x : NameAt) (seen : List Name) → IsTrue (not (stands_in x.text seen)) → IsTrue (stands_in a seen) → a ≢ x.text
differs a x seen n s e = contrary (stands_in x.text seen) n (subst (λ b. IsTrue (stands_in b seen)) e s)

apart : (a : Name) (seen : List Name) (xs : List NameAt) → NamesDiffer seen xs → IsTrue (stands_in a seen)
    → All (λ y. a ≢ y) (map (λ (x : NameAt). x.text) xs)
apart a seen [] d s = All-nil (λ y. a ≢ y)
apart a seen (x ∷ xs) d s =
    All-cons (λ y. a ≢ y) x.text (map (λ (z : NameAt). z.text) xs) (differs a x seen d.0 s)
    (apart a (x.text ∷ seen) xs d.1 (in_second (bytes_eq x.text a) (stands_in a seen) s))

name_pairs : (seen : List Name) (xs : List NameAt) → NamesDiffer seen xs → Pairs (λ x y. x ≢ y) (map (λ (x : NameAt). x.text) xs)
name_pairs seen [] d = tt
name_pairs seen (x ∷ xs) d =
    let itself : IsTrue (stands_in x.text (x.text ∷ seen)) = in_first (bytes_eq x.text x.text) (stands_in x.text seen) (is_same x.text) in
    (apart x.text (x.text ∷ seen) xs d.1 itself, name_pairs (x.text ∷ seen) xs d.1)

names_of : (ms : List MemberTree) → names_in (members_of ms) ≡ map (λ (m : MemberTree). m.name) ms
names_of [] = refl
names_of (m ∷ ms) = ap (λ ns. m.name ∷ ns) (names_of ms)

-- ---- members

module _ (tags : List Tagged) where
  abbrev IsGoodMember : MemberTree → Type 0
  IsGoodMember m = IsGood tags m.ctype

  record AreMembers (names : List NameAt) (ms : List MemberTree) : Type 0 where
    same : map (λ (m : MemberTree). m.name) ms ≡ map (λ (x : NameAt). x.text) names
    good : All IsGoodMember ms

  abbrev AreMembersOf : List NameAt → Option (List MemberTree) → Type 0
  AreMembersOf names o = (ms : List MemberTree) → o ≡ Some ms → AreMembers names ms

  record Joined (o : Option MemberTree) (p : Option (List MemberTree)) (ms : List MemberTree) : Type 0 where
    first : MemberTree
    rest : List MemberTree
    this : o ≡ Some first
    later : p ≡ Some rest
    is : first ∷ rest ≡ ms

  joined : (o : Option MemberTree) (p : Option (List MemberTree)) (ms : List MemberTree) → with_member o p ≡ Some ms → Joined o p ms
  joined None p ms e = absurd (cc)
  joined (Some m) None ms e = absurd (cc)
  joined (Some m) (Some rest) ms e = record { first = m; rest = rest; this = refl; later = refl; is = cc }

  record IsMember (x : NameAt) (m : MemberTree) : Type 0 where
    name : m.name ≡ x.text
    good : IsGood tags m.ctype

  is_member : (x : NameAt) (o : Option TypeTree) → IsGoodWhere tags o → (m : MemberTree)
      → option_map (λ t. record { name = x.text; ctype = t }) o ≡ Some m → IsMember x m
  is_member x None g m e = absurd (cc)
  is_member x (Some t) g m e =
      let own : MemberTree = record { name = x.text; ctype = t } in
      let same : own ≡ m = cc in
      subst (λ n. IsMember x n) same (record { name = refl; good = g t refl })

  one_more : (x : NameAt) (names : List NameAt) (m : MemberTree) (ms : List MemberTree) → IsMember x m → AreMembers names ms → AreMembers (x ∷ names) (m ∷ ms)
  one_more x names m ms p q = record {
    same = let a = p.name in let b = q.same in cc;
    good = All-cons IsGoodMember m ms p.good q.good;
  }

  before : (scope : Scope) (base : Option TypeTree) → IsGoodWhere tags base → (ds : List Declarator) (o : Option (List MemberTree)) (names : List NameAt)
      → AreMembersOf names o → AreMembersOf (map (λ (d : Declarator). d.name) ds ++ names) (fields_before scope base ds o)
  before scope base g [] o names q ms e = q ms e
  before scope base g (d ∷ ds) o names q ms e =
      let j = joined (member_of scope base d) (fields_before scope base ds o) ms e in
      let later : List NameAt = map (λ (v : Declarator). v.name) ds ++ names in
      subst (λ l. AreMembers (d.name ∷ later) l) j.is
      (one_more d.name later j.first j.rest (is_member d.name (object_type scope base d.dims) (object_good tags scope base d.dims g) j.first j.this)
      (before scope base g ds o names q j.rest j.later))

  are_members : AreGood tags → (scope : Scope) → scope.tags ≡ tags → (ds : List Declare) → AreMembersOf (field_names ds) (members scope ds)
  are_members good scope s [] ms e =
      let none : [] ≡ ms = cc in subst (λ l. AreMembers [] l) none (record { same = refl; good = All-nil IsGoodMember })
  are_members good scope s (d ∷ ds) ms e =
      before scope (base_type scope d.base) (good_base tags good scope s d.base) d.vars (members scope ds) (field_names ds)
      (are_members good scope s ds) ms e

  own_names : (ms : List MemberTree) → All IsGoodMember ms → HaveOwnNames (members_of ms)
  own_names [] g = tt
  own_names (m ∷ ms) g = ((All-head IsGoodMember m ms g).names, own_names ms (All-tail IsGoodMember m ms g))

  known_members : (ms : List MemberTree) → All IsGoodMember ms → AreKnown tags (members_of ms)
  known_members [] g = tt
  known_members (m ∷ ms) g = ((All-head IsGoodMember m ms g).known, known_members ms (All-tail IsGoodMember m ms g))

-- ---- the struct

kept : (o : Option Fault) (p : Option MemberTrees) (ms : MemberTrees) → o ≡ None → (if is_some o then None else p) ≡ Some ms → p ≡ Some ms
kept None p ms h e = e
kept (Some f) p ms h e = absurd (cc)

sized_struct : (t : TypeTree) → IsTrue (not (not (is_sized t))) → IsSized t
sized_struct t h = (is_sized-Decides t).0 (by (is_sized t) h)
  where
    by : (b : Bool) → IsTrue (not (not b)) → IsTrue b
    by true h = refl
    by false h = h

not_large : (tag : Name) (o : Option (List MemberTree)) (ms : List MemberTree) → o ≡ Some ms
    → IsTrue (not (is_too_large (option_map (λ l. struct_type tag (members_of l)) o))) → IsSized (struct_type tag (members_of ms))
not_large tag o ms e h = sized_struct (struct_type tag (members_of ms)) (rw e at h)

module _ (scope : Scope) (tag : NameAt) (ds : List Declare) (good : AreGood scope.tags) (fine : struct_fault scope tag ds ≡ None) where
  pub fresh_tag : tag_fault scope tag ≡ None
  fresh_tag =
      (four_none (tag_fault scope tag) (fault_if (is_too_large (defined_struct scope tag.text ds)) 10 tag.span) (fields_fault scope ds)
      (twice_fault [] (field_names ds)) fine).0

  of_members : (ms : List MemberTree) → members scope ds ≡ Some ms → IsStruct scope.tags tag.text (members_of ms)
  of_members ms e =
      let q = four_none (tag_fault scope tag) (fault_if (is_too_large (defined_struct scope tag.text ds)) 10 tag.span) (fields_fault scope ds)
      (twice_fault [] (field_names ds)) fine in
      let large : IsTrue (not (is_too_large (defined_struct scope tag.text ds))) =
      is_false (is_too_large (defined_struct scope tag.text ds)) (no_test (is_too_large (defined_struct scope tag.text ds)) 10 tag.span q.1) in
      let m = are_members scope.tags good scope refl ds ms e in
      let pairs : Pairs (λ x y. x ≢ y) (map (λ (x : NameAt). x.text) (field_names ds)) = name_pairs [] (field_names ds) (names_differ [] (field_names ds) q.3) in
      let names : names_in (members_of ms) ≡ map (λ (x : NameAt). x.text) (field_names ds) = names_of ms ∙ m.same in
      record {
        sized = not_large tag.text (members scope ds) ms e large;
        names = (
          all_pairs (λ x y. x ≢ y) (names_in (members_of ms)) (subst (λ l. Pairs (λ x y. x ≢ y) l) (sym names) pairs),
          own_names scope.tags ms m.good,
        );
        known = known_members scope.tags ms m.good;
      }

  pub defined_is : (ms : MemberTrees) → sound_members scope tag ds ≡ Some ms → IsStruct scope.tags tag.text ms
  defined_is ms e = by (members scope ds) refl (kept (struct_fault scope tag ds) (option_map members_of (members scope ds)) ms fine e)
    where
      by : (o : Option (List MemberTree)) → members scope ds ≡ o → option_map members_of o ≡ Some ms → IsStruct scope.tags tag.text ms
      by None p i = absurd (cc)
      by (Some l) p i = let same : members_of l ≡ ms = cc in subst (λ x. IsStruct scope.tags tag.text x) same (of_members l p)
