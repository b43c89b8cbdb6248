-- Types with numbers in the place of structs.
use Rattle.std.proofs.Common.{◌≡◌, ◌⊎◌, ◌<◌, ◌≤◌, ◌+◌, ◌∙◌, ℕ, zero, suc, List, [], ◌∷◌, ◌++◌, length, get_or, drop, map, Bool, true, false, cond, Bor, Some, refl, sym, ap, ap₂, subst, inl, inr, arith, slice_get, append_assoc, append-nil}
use Rattle.std.specs.Prelude.{Option, IsTrue}
use Rattle.std.specs.Map.{lookup}
use Rattle.std.specs.Str.{bytes_eq}
use Rattle.std.proofs.lemmas.List.{drop_more}
use Rattle.std.proofs.lemmas.Option.{slice_get_within, get_or_from_slice_get, same_Some}
use Rattle.std.proofs.lemmas.Slice.Eq.{bytes_eq-Decides}
use Rattle.csub_types.specs.declared.kind.IntKind.{IntKind}
use Rattle.csub_objects.specs.Types.{Name, TypeTree, number_type, array_type, struct_type, loose_type, MemberTrees, no_member, more_members, members_of}
use Rattle.csub_objects.specs.Meaning.{type_tree, member_tree}
use Rattle.csub_objects.specs.declared.types.Member.{Member}
use Rattle.label_code.specs.Codes.{name_code, type_code, members_code, numbered}
use Rattle.edge_label.specs.Known.{AreOfTags, AreStructs}
use Rattle.edge_label.specs.declared.structs.TagNumbers.{TagNumbers}
use Rattle.edge_label.specs.Numbers.{HasEachOnce}
use Rattle.label_code.specs.ReadBack.{coded_type-type_code}
use Rattle.label_code.specs.Readers.{coded_type}
use Rattle.edge_label.specs.Structs.{Table, IsShort, AreShort, HasStruct, IsTypeCode, AreTypeCodes, AppendsType, AppendsMembers, IsBelow, AreBelow, IsStructTable, whole_type, whole_members, whole_struct, struct_at, type_in}
use Rattle.edge_label.specs.Tables.{Extends}
use Rattle.edge_label.specs.Uses.{Tags, IsTagged, AreTagged, struct_members}
use Rattle.edge_label.proofs.ListLemmas.{kept, last_or_before}

-- a type keeps its numbers where the table grows
mutual
  short_kept : (structs more : Table) (t u : TypeTree) → IsShort structs t u → IsShort (structs ++ more) t u
  short_kept structs more (number_type k) u h = h
  short_kept structs more (array_type t n) u h = (h.0, h.1, short_kept structs more t h.0 h.2)
  short_kept structs more (struct_type tag ms) u h = (h.0, h.1, h.2, kept structs more h.0 (type_code (struct_type tag h.2)) h.3, members_kept structs more ms h.2 h.4)
  short_kept structs more (loose_type t) u h = (h.0, h.1, short_kept structs more t h.0 h.2)

  members_kept : (structs more : Table) (ms ns : MemberTrees) → AreShort structs ms ns → AreShort (structs ++ more) ms ns
  members_kept structs more no_member ns h = h
  members_kept structs more (more_members x t rest) ns h = (h.0, h.1, h.2, short_kept structs more t h.0 h.3, members_kept structs more rest h.1 h.4)

module _ (structs new : Table) (grown : Extends structs new) where
  pub short_stays : (t u : TypeTree) → IsShort structs t u → IsShort new t u
  short_stays t u h = subst (λ s. IsShort s t u) (sym grown.1) (short_kept structs grown.0 t u h)

  pub members_stay : (ms ns : MemberTrees) → AreShort structs ms ns → AreShort new ms ns
  members_stay ms ns h = subst (λ s. AreShort s ms ns) (sym grown.1) (members_kept structs grown.0 ms ns h)

  pub struct_stays : (s : ℕ) (tag : Name) (ms : MemberTrees) → HasStruct structs s tag ms → HasStruct new s tag ms
  struct_stays s tag ms h = (h.0, ap (λ l. slice_get l s) grown.1 ∙ kept structs grown.0 s (type_code (struct_type tag h.0)) h.1, members_stay ms h.0 h.2)

  pub type_code_stays : (t : TypeTree) (code : List ℕ) → IsTypeCode structs t code → IsTypeCode new t code
  type_code_stays t code h = (h.0, h.1, short_stays t h.0 h.2)

  pub type_codes_stay : (types : List TypeTree) (codes : List (List ℕ)) → AreTypeCodes structs types codes → AreTypeCodes new types codes
  type_codes_stay [] codes h = h
  type_codes_stay (t ∷ types) codes h = (h.0, h.1, h.2, type_code_stays t h.0 h.3, type_codes_stay types h.1 h.4)

  pub tags_stay : (by_tag : Tags) (entries : List (Bor (List ℕ) × ℕ)) → AreOfTags structs by_tag entries → AreOfTags new by_tag entries
  tags_stay by_tag entries are tag s at = let h = are tag s at in (h.0, h.1, struct_stays s tag h.0 h.2)

-- the numbers in a type are those of structs
short_below : (structs : Table) (t u : TypeTree) → IsShort structs t u → IsBelow (length structs) u
short_below structs (number_type k) u h = subst (IsBelow (length structs)) (sym h) tt
short_below structs (array_type t n) u h = subst (IsBelow (length structs)) (sym h.1) (short_below structs t h.0 h.2)
short_below structs (struct_type tag ms) u h = subst (IsBelow (length structs)) (sym h.1) (slice_get_within structs h.0 _ h.3)
short_below structs (loose_type t) u h = subst (IsBelow (length structs)) (sym h.1) (short_below structs t h.0 h.2)

members_below : (structs : Table) (ms ns : MemberTrees) → AreShort structs ms ns → AreBelow (length structs) ns
members_below structs no_member ns h = subst (AreBelow (length structs)) (sym h) tt
members_below structs (more_members x t rest) ns h =
    subst (AreBelow (length structs)) (sym h.2) (short_below structs t h.0 h.3, members_below structs rest h.1 h.4)

-- and so below each higher number
below_more : (a b : ℕ) → a ≤ b → (u : TypeTree) → IsBelow a u → IsBelow b u
below_more a b le (number_type k) h = tt
below_more a b le (array_type t n) h = below_more a b le t h
below_more a b le (struct_type tag ms) h = omega (arith, le, h)
below_more a b le (loose_type t) h = below_more a b le t h

all_below_more : (a b : ℕ) → a ≤ b → (ns : MemberTrees) → AreBelow a ns → AreBelow b ns
all_below_more a b le no_member h = tt
all_below_more a b le (more_members x t rest) h = (below_more a b le t h.0, all_below_more a b le rest h.1)

-- the structs put back give the type
module _ (structs : Table) (is : IsStructTable structs) where
  mutual
    type_whole : (t u : TypeTree) (n : ℕ) → IsShort structs t u → IsBelow n u → whole_type (struct_at structs n) u ≡ t
    type_whole (number_type k) u n h below = ap (whole_type (struct_at structs n)) h
    type_whole (array_type t m) u n h below =
        ap (whole_type (struct_at structs n)) h.1 ∙ ap (λ e. array_type e m) (type_whole t h.0 n h.2 (subst (IsBelow n) h.1 below))
    type_whole (struct_type tag ms) u zero h below =
        let under : h.0 < 0 = subst (IsBelow zero) h.1 below in absurd (omega (arith, under))
    type_whole (struct_type tag ms) u (suc n) h below =
        let under : h.0 < suc n = subst (IsBelow (suc n)) h.1 below in
        ap (whole_type (struct_at structs (suc n))) h.1
        ∙ ap (λ code. whole_struct (struct_at structs n) (coded_type code)) (get_or_from_slice_get structs h.0 (type_code (struct_type tag h.2)) [] h.3)
        ∙ ap (whole_struct (struct_at structs n)) (coded_type-type_code (struct_type tag h.2))
        ∙ ap (struct_type tag) (members_whole ms h.2 n h.4 (all_below_more h.0 n (omega (arith, under)) h.2 (is.rising h.0 tag h.2 h.3)))
    type_whole (loose_type t) u n h below =
        ap (whole_type (struct_at structs n)) h.1 ∙ ap loose_type (type_whole t h.0 n h.2 (subst (IsBelow n) h.1 below))

    members_whole : (ms ns : MemberTrees) (n : ℕ) → AreShort structs ms ns → AreBelow n ns → whole_members (struct_at structs n) ns ≡ ms
    members_whole no_member ns n h below = ap (whole_members (struct_at structs n)) h
    members_whole (more_members x t rest) ns n h below =
        let both : AreBelow n (more_members x h.0 h.1) = subst (AreBelow n) h.2 below in
        ap (whole_members (struct_at structs n)) h.2
        ∙ ap₂ (more_members x) (type_whole t h.0 n h.3 both.0) (members_whole rest h.1 n h.4 both.1)

  pub type_read : (t : TypeTree) (code : List ℕ) → IsTypeCode structs t code → type_in structs code ≡ t
  unfolding type_in
  type_read t code h =
      ap (λ c. whole_type (struct_at structs (length structs)) (coded_type c)) h.1
      ∙ ap (whole_type (struct_at structs (length structs))) (coded_type-type_code h.0)
      ∙ type_whole t h.0 (length structs) h.2 (short_below structs t h.0 h.2)

  pub types_read : (types : List TypeTree) (codes : List (List ℕ)) → AreTypeCodes structs types codes → map (type_in structs) codes ≡ types
  types_read [] codes h = ap (map (type_in structs)) h
  types_read (t ∷ types) codes h =
      ap (map (type_in structs)) h.2 ∙ ap₂ (λ x xs. x ∷ xs) (type_read t h.0 h.3) (types_read types h.1 h.4)

-- a type has one code
module _ (structs : Table) (once : HasEachOnce structs) where
  mutual
    short_same : (t u v : TypeTree) → IsShort structs t u → IsShort structs t v → u ≡ v
    short_same (number_type k) u v h i = h ∙ sym i
    short_same (array_type t n) u v h i = h.1 ∙ ap (λ e. array_type e n) (short_same t h.0 i.0 h.2 i.2) ∙ sym i.1
    short_same (struct_type tag ms) u v h i =
        let members = members_same ms h.2 i.2 h.4 i.4 in
        h.1 ∙ ap numbered (once h.0 i.0 (type_code (struct_type tag i.2)) (h.3 ∙ ap (λ ns. Some (type_code (struct_type tag ns))) members) i.3) ∙ sym i.1
    short_same (loose_type t) u v h i = h.1 ∙ ap loose_type (short_same t h.0 i.0 h.2 i.2) ∙ sym i.1

    members_same : (ms us vs : MemberTrees) → AreShort structs ms us → AreShort structs ms vs → us ≡ vs
    members_same no_member us vs h i = h ∙ sym i
    members_same (more_members x t rest) us vs h i =
        h.2 ∙ ap₂ (more_members x) (short_same t h.0 i.0 h.3 i.3) (members_same rest h.1 i.1 h.4 i.4) ∙ sym i.2

  pub type_code_same : (t : TypeTree) (code other : List ℕ) → IsTypeCode structs t code → IsTypeCode structs t other → code ≡ other
  type_code_same t code other h i = h.1 ∙ ap type_code (short_same t h.0 i.0 h.2 i.2) ∙ sym i.1

  pub type_codes_same : (types : List TypeTree) (codes others : List (List ℕ)) → AreTypeCodes structs types codes → AreTypeCodes structs types others → codes ≡ others
  type_codes_same [] codes others h i = h ∙ sym i
  type_codes_same (t ∷ types) codes others h i =
      h.2 ∙ ap₂ (λ x xs. x ∷ xs) (type_code_same t h.0 i.0 h.3 i.3) (type_codes_same types h.1 i.1 h.4 i.4) ∙ sym i.2

-- the codes of some types, and of one more
pub one_more_code : (structs : Table) (types : List TypeTree) (codes : List (List ℕ)) (t : TypeTree) (code : List ℕ) → AreTypeCodes structs types codes → IsTypeCode structs t code
    → AreTypeCodes structs (types ++ t ∷ []) (codes ++ code ∷ [])
one_more_code structs [] codes t code are is = (code, [], ap (λ l. l ++ code ∷ []) are, is, refl)
one_more_code structs (s ∷ types) codes t code are is =
    (are.0, are.1 ++ code ∷ [], ap (λ l. l ++ code ∷ []) are.2, are.3, one_more_code structs types are.1 t code are.4 is)

-- a struct more whose members have their numbers
pub struct_added : (structs new : Table) (tag : Name) (ms ns : MemberTrees) → IsStructTable structs → AreShort structs ms ns
    → (new ≡ structs) ⊎ (new ≡ structs ++ type_code (struct_type tag ns) ∷ []) → HasEachOnce new → IsStructTable new
struct_added structs new tag ms ns is short (inl same) once = subst IsStructTable (sym same) is
struct_added structs new tag ms ns is short (inr more) once = record {
  once = once;
  rising = λ s name us at. pick s name us (last_or_before structs (type_code (struct_type tag ns)) (type_code (struct_type name us)) s (ap (λ l. slice_get l s) (sym more) ∙ at));
}
  where
    pick : (s : ℕ) (name : Name) (us : MemberTrees) → (slice_get structs s ≡ Some (type_code (struct_type name us))) ⊎ ((s ≡ length structs) × (type_code (struct_type name us) ≡ type_code (struct_type tag ns)))
        → AreBelow s us
    pick s name us (inl before) = is.rising s name us before
    pick s name us (inr last) =
        let same : struct_type name us ≡ struct_type tag ns =
        sym (coded_type-type_code (struct_type name us)) ∙ ap coded_type last.1 ∙ coded_type-type_code (struct_type tag ns) in
        let members : us ≡ ns = ap struct_members same in
        subst (λ b. AreBelow b us) (sym last.0) (subst (AreBelow (length structs)) (sym members) (members_below structs ms ns short))

-- the number of a tag among entries
abbrev pub number_of_tag : List (Bor (List ℕ) × ℕ) → Name → Option ℕ
number_of_tag entries tag = lookup (λ key. bytes_eq tag key.now) entries

-- a tag more with its number
pub tag_added : (structs : Table) (by_tag : Tags) (entries new : List (Bor (List ℕ) × ℕ)) (tag : Name) (s : ℕ) (ms : MemberTrees) → AreOfTags structs by_tag entries
    → by_tag tag ≡ Some ms → HasStruct structs s tag ms → ((name : Name) → number_of_tag new name ≡ cond (bytes_eq tag name) (Some s) (number_of_tag entries name)) → AreOfTags structs by_tag new
tag_added structs by_tag entries new tag s ms are declared has puts name n at = pick (bytes_eq tag name) refl (sym (puts name) ∙ at)
  where
    pick : (b : Bool) → bytes_eq tag name ≡ b → cond b (Some s) (number_of_tag entries name) ≡ Some n → (ms : MemberTrees) × (by_tag name ≡ Some ms) × HasStruct structs n name ms
    pick true same e =
        let is : tag ≡ name = (bytes_eq-Decides tag name).0 same in
        (ms, ap by_tag (sym is) ∙ declared, subst (λ a. HasStruct structs n a ms) is (subst (λ m. HasStruct structs m tag ms) (same_Some s n e) has))
    pick false same e = are name n e

-- the first of some members have their codes: where those that are left have theirs behind them, all have
abbrev pub AppendsFirst : Table → MemberTrees → MemberTrees → List ℕ → List ℕ → Type 0
AppendsFirst structs all left old now =
    (new : Table) → Extends structs new → (ns : MemberTrees) → AreShort new left ns → (us : MemberTrees) × (now ++ members_code ns ≡ old ++ members_code us) × AreShort new all us

pub first_none : (structs : Table) (all : MemberTrees) (old : List ℕ) → AppendsFirst structs all all old old
first_none structs all old new grown ns short = (ns, refl, short)

pub first_more : (structs next : Table) (all left rest : MemberTrees) (x a : Name) (t : TypeTree) (old mid named now : List ℕ) → left ≡ more_members x t rest
    → AppendsFirst structs all left old mid → Extends structs next → named ≡ mid ++ 1 ∷ name_code a → a ≡ x → AppendsType next t named now → AppendsFirst next all rest old now
first_more structs next all left rest x a t old mid named now is before grows begun same h new grown ns rest_short =
    let u = h.0 in
    let all_grown : Extends structs new = (grows.0 ++ grown.0, grown.1 ∙ ap (λ l. l ++ grown.0) grows.1 ∙ append_assoc structs grows.0 grown.0) in
    let left_short : AreShort new (more_members x t rest) (more_members x u ns) = (u, ns, refl, short_stays next new grown t u h.2, rest_short) in
    let whole = before new all_grown (more_members x u ns) (subst (λ ms. AreShort new ms (more_members x u ns)) (sym is) left_short) in
    let begins : named ≡ mid ++ 1 ∷ name_code x = begun ∙ ap (λ name. mid ++ 1 ∷ name_code name) same in
    let codes : now ++ members_code ns ≡ mid ++ members_code (more_members x u ns) =
    ap (λ l. l ++ members_code ns) (h.1 ∙ ap (λ l. l ++ type_code u) begins) ∙ append_assoc (mid ++ 1 ∷ name_code x) (type_code u) (members_code ns)
    ∙ append_assoc mid (1 ∷ name_code x) (type_code u ++ members_code ns) in
    (whole.0, codes ∙ whole.1, whole.2)

pub first_all : (structs : Table) (all left : MemberTrees) (old now new : List ℕ) → left ≡ no_member → AppendsFirst structs all left old now → new ≡ now ++ 0 ∷ [] → AppendsMembers structs all old new
first_all structs all left old now new is before e =
    let h = before structs ([], sym (append-nil structs)) no_member (subst (λ ms. AreShort structs ms no_member) (sym is) refl) in
    (h.0, e ∙ h.1, h.2)

-- the members that are left, and the next one of them
pub left_more : (ms : List Member) (i : ℕ) (m : Member) → i < length ms → m ≡ get_or ms i m
    → members_of (map member_tree (drop i ms)) ≡ more_members m.name (type_tree m.ctype) (members_of (map member_tree (drop (i + 1) ms)))
left_more ms i m within is =
    ap (λ l. members_of (map member_tree l)) (drop_more ms i m within) ∙ ap (λ (d : Member). more_members d.name (type_tree d.ctype) (members_of (map member_tree (drop (i + 1) ms)))) (sym is)

-- a member of some has the tags that these have
pub tagged_at : (by_tag : Tags) (ms : List Member) (i : ℕ) (m : Member) → i < length ms → m ≡ get_or ms i m → AreTagged by_tag (members_of (map member_tree ms)) → IsTagged by_tag (type_tree m.ctype)
tagged_at by_tag [] i m within is tagged = absurd (omega arith)
tagged_at by_tag (d ∷ ms) zero m within is tagged = subst (λ (x : Member). IsTagged by_tag (type_tree x.ctype)) (sym is) tagged.0
tagged_at by_tag (d ∷ ms) (suc i) m within is tagged = tagged_at by_tag ms i m (omega arith) is tagged.1

-- a type behind what was there
module _ (structs : Table) (t : TypeTree) (old now new : List ℕ) where
  pub number_appended : (k : IntKind) → t ≡ number_type k → new ≡ old ++ type_code (number_type k) → AppendsType structs t old new
  number_appended k is last = (number_type k, last, subst (λ x. IsShort structs x (number_type k)) (sym is) refl)

  pub array_appended : (e : TypeTree) (n : ℕ) → t ≡ array_type e n → now ≡ old ++ 1 ∷ n ∷ [] → AppendsType structs e now new → AppendsType structs t old new
  array_appended e n is begins h = (
    array_type h.0 n,
    h.1 ∙ ap (λ l. l ++ type_code h.0) begins ∙ append_assoc old (1 ∷ n ∷ []) (type_code h.0),
    subst (λ x. IsShort structs x (array_type h.0 n)) (sym is) (h.0, refl, h.2),
  )

  pub loose_appended : (e : TypeTree) → t ≡ loose_type e → now ≡ old ++ 3 ∷ [] → AppendsType structs e now new → AppendsType structs t old new
  loose_appended e is first h = (
    loose_type h.0,
    h.1 ∙ ap (λ l. l ++ type_code h.0) first ∙ append_assoc old (3 ∷ []) (type_code h.0),
    subst (λ x. IsShort structs x (loose_type h.0)) (sym is) (h.0, refl, h.2),
  )

  pub struct_appended : (tag : Name) (ms : MemberTrees) (s : ℕ) → t ≡ struct_type tag ms → HasStruct structs s tag ms → new ≡ old ++ type_code (numbered s) → AppendsType structs t old new
  struct_appended tag ms s is h last = (numbered s, last, subst (λ x. IsShort structs x (numbered s)) (sym is) (s, refl, h.0, h.1, h.2))

-- a struct gets its number by its tag and the codes of its members
module _ (structs new : Table) (tag : Name) (ms : MemberTrees) (now code : List ℕ) (begins : now ≡ 2 ∷ name_code tag) (h : AppendsMembers structs ms now code)
    (added : (new ≡ structs) ⊎ (new ≡ structs ++ code ∷ [])) where
  its_code : code ≡ type_code (struct_type tag h.0)
  its_code = h.1 ∙ ap (λ l. l ++ members_code h.0) begins

  pub added_struct : Extends structs new
  added_struct = elim added [ inl same ↦ ([], same ∙ sym (append-nil structs)) | inr more ↦ (code ∷ [], more) ]

  pub struct_numbered : (s : ℕ) → slice_get new s ≡ Some code → HasStruct new s tag ms
  struct_numbered s at = (h.0, at ∙ ap Some its_code, members_stay structs new added_struct ms h.0 h.2)

  pub structs_numbered : (by_tag : Tags) (tags : TagNumbers) → AreStructs by_tag structs tags → (HasEachOnce structs → HasEachOnce new) → AreStructs by_tag new tags
  structs_numbered by_tag tags are once = record {
    table = struct_added structs new tag ms h.0 are.table h.2 (subst (λ (c : List ℕ). (new ≡ structs) ⊎ (new ≡ structs ++ c ∷ [])) its_code added) (once are.table.once);
    numbers = λ trusted. tags_stay structs new added_struct by_tag tags.by_tag.entries (are.numbers trusted);
  }

-- the number of a known tag is that of its struct
pub known_struct : (structs : Table) (by_tag : Tags) (tags : TagNumbers) (tag : Name) (ms : MemberTrees) (s : ℕ) → AreStructs by_tag structs tags
    → (IsTrue tags.trusted → IsTagged by_tag (struct_type tag ms)) → IsTrue tags.trusted × (number_of_tag tags.by_tag.entries tag ≡ Some s) → HasStruct structs s tag ms
known_struct structs by_tag tags tag ms s are tagged known =
    let found = are.numbers known.0 tag s known.1 in
    subst (HasStruct structs s tag) (same_Some found.0 ms (sym found.1 ∙ (tagged known.0).0)) found.2

-- a struct that has its number gets it by its tag
pub tag_put : (structs : Table) (by_tag : Tags) (tags new : TagNumbers) (tag : Name) (ms : MemberTrees) (s : ℕ) → AreStructs by_tag structs tags
    → (IsTrue new.trusted → by_tag tag ≡ Some ms) → HasStruct structs s tag ms → new.trusted ≡ tags.trusted
    → ((name : Name) → number_of_tag new.by_tag.entries name ≡ cond (bytes_eq tag name) (Some s) (number_of_tag tags.by_tag.entries name)) → AreStructs by_tag structs new
tag_put structs by_tag tags new tag ms s are declared has same puts = record {
  table = are.table;
  numbers = λ trusted. tag_added structs by_tag tags.by_tag.entries new.by_tag.entries tag s ms (are.numbers (subst IsTrue same trusted)) (declared trusted) has puts;
}

-- the same numbers by the same tags
pub structs_same : (structs : Table) (by_tag : Tags) (tags new : TagNumbers) → AreStructs by_tag structs tags → new.by_tag.entries ≡ tags.by_tag.entries → new.trusted ≡ tags.trusted
    → AreStructs by_tag structs new
structs_same structs by_tag tags new are entries trust = record {
  table = are.table;
  numbers = λ trusted. subst (AreOfTags structs by_tag) (sym entries) (are.numbers (subst IsTrue trust trusted));
}
