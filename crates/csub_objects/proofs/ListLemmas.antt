-- Members of a struct as a list: where a name stands, what stands before it, and what all of them have.
use Rattle.std.proofs.Common.{◌≡◌, ◌≢◌, ℕ, zero, suc, ◌+◌, ◌<◌, List, [], ◌∷◌, ◌++◌, length, map, take, get_or, AllPairs, Bool, true, false, IsSome}
use Rattle.std.proofs.Common.{Option, Some, None, IfSome, IfNone, is_some, option_map, ⊎_elim, if◌then◌else◌, refl, sym, ap, subst, ◌∙◌, arith}
use Rattle.std.proofs.lemmas.List.{get_or-map, length-map, map-append, get_or_default, get_or_append_left, get_or_at, get_or-take, length-take, length-append}
use Rattle.std.proofs.Math.Seq.{take-suc}
use Rattle.csub_objects.proofs.Capped.{capped-plus}
use Rattle.std.proofs.lemmas.Bool.{cases_lt}
use Rattle.std.proofs.lemmas.List.Quantifiers.{all_pairs_push}
use Rattle.std.proofs.lemmas.Slice.Eq.{bytes_eq-Decides}
use Rattle.std.specs.Str.{bytes_eq}
use Rattle.csub_objects.specs.declared.types.Member.{Member}
use Rattle.csub_objects.specs.Types.{Name, MemberTree, members_of, HaveDifferentNames, HasArrays, HaveArrays}
use Rattle.csub_objects.specs.Types.{find_member, find_cell, cells, IsCapped, IsCappedSome}
use Rattle.csub_objects.specs.Names.{IsNew, StandsAt, cells_before, AreFirst}
use Rattle.csub_objects.specs.Meaning.{type_tree, member_tree}

abbrev pub names_in : List MemberTree → List Name
names_in ms = map (λ m. m.name) ms

not_true : (b : Bool) → (b ≡ true → ⊥) → b ≡ false
not_true true h = absurd (h refl)
not_true false h = refl

is_name : (x name : Name) → x ≡ name → bytes_eq x name ≡ true
is_name x name e = (bytes_eq-Decides x name).1 e

no_name : (x name : Name) → (x ≡ name → ⊥) → bytes_eq x name ≡ false
no_name x name h = not_true (bytes_eq x name) (λ e. h ((bytes_eq-Decides x name).0 e))

-- the rest of a list in which a name does not stand first
rest_at : (m : MemberTree) (ms : List MemberTree) (name : Name) (n : ℕ) → StandsAt (names_in (m ∷ ms)) name (suc n) → StandsAt (names_in ms) name n
rest_at m ms name n h = record { within = omega (arith, h.within); is = h.is; first = λ k below e. h.first (suc k) (omega (arith, below)) e }

rest_new : (m : MemberTree) (ms : List MemberTree) (name : Name) → IsNew name (names_in (m ∷ ms)) → IsNew name (names_in ms)
rest_new m ms name h = λ k below e. h (suc k) (omega (arith, below)) e

member_at : (ms : List MemberTree) (name : Name) (n : ℕ) (d : MemberTree) → StandsAt (names_in ms) name n → find_member name (members_of ms) ≡ Some (get_or ms n d).ctype
member_at [] name n d h = absurd (omega (arith, h.within))
member_at (m ∷ ms) name zero d h = ap (λ b. if b then Some m.ctype else find_member name (members_of ms)) (is_name m.name name h.is)
member_at (m ∷ ms) name (suc n) d h =
    ap (λ b. if b then Some m.ctype else find_member name (members_of ms)) (no_name m.name name (h.first 0 (omega arith)))
    ∙ member_at ms name n d (rest_at m ms name n h)

cell_at : (ms : List MemberTree) (name : Name) (n : ℕ) → StandsAt (names_in ms) name n → find_cell name (members_of ms) ≡ Some (cells_before n ms)
cell_at [] name n h = absurd (omega (arith, h.within))
cell_at (m ∷ ms) name zero h =
    ap (λ b. if b then Some 0 else option_map (λ k. cells m.ctype + k) (find_cell name (members_of ms))) (is_name m.name name h.is)
cell_at (m ∷ ms) name (suc n) h =
    ap (λ b. if b then Some 0 else option_map (λ k. cells m.ctype + k) (find_cell name (members_of ms))) (no_name m.name name (h.first 0 (omega arith)))
    ∙ ap (λ o. option_map (λ k. cells m.ctype + k) o) (cell_at ms name n (rest_at m ms name n h))

pub member_missing : (ms : List MemberTree) (name : Name) → IsNew name (names_in ms) → find_member name (members_of ms) ≡ None
member_missing [] name h = refl
member_missing (m ∷ ms) name h =
    ap (λ b. if b then Some m.ctype else find_member name (members_of ms)) (no_name m.name name (h 0 (omega arith)))
    ∙ member_missing ms name (rest_new m ms name h)

pub cell_missing : (ms : List MemberTree) (name : Name) → IsNew name (names_in ms) → find_cell name (members_of ms) ≡ None
cell_missing [] name h = refl
cell_missing (m ∷ ms) name h =
    ap (λ b. if b then Some 0 else option_map (λ k. cells m.ctype + k) (find_cell name (members_of ms))) (no_name m.name name (h 0 (omega arith)))
    ∙ ap (λ o. option_map (λ k. cells m.ctype + k) o) (cell_missing ms name (rest_new m ms name h))

-- the member that stands at the place of a name
pub member_found : (items : List Member) (name : Name) (n : ℕ) (m : Member) → StandsAt (names_in (map member_tree items)) name n
    → m ≡ get_or items n m → find_member name (members_of (map member_tree items)) ≡ Some (type_tree m.ctype)
member_found items name n m h e =
    let within : n < length items = subst (λ k. n < k) (length-map (map member_tree items) (λ x. x.name) ∙ length-map items member_tree) h.within in
    let at : get_or (map member_tree items) n (member_tree m) ≡ member_tree m = get_or-map member_tree items n m (member_tree m) within ∙ ap member_tree (sym e) in
    member_at (map member_tree items) name n (member_tree m) h ∙ ap (λ (x : MemberTree). Some x.ctype) at

pub cell_found : (ms : List MemberTree) (firsts : List ℕ) (name : Name) (n c : ℕ) → AreFirst firsts ms → StandsAt (names_in ms) name n
    → c ≡ get_or firsts n c → IsCappedSome c (find_cell name (members_of ms))
cell_found ms firsts name n c h s e =
    let within : n < length firsts = subst (λ k. n < k) (length-map ms (λ m. m.name) ∙ sym h.count) s.within in
    let at : get_or firsts n 0 ≡ c = get_or_default firsts n 0 c within ∙ sym e in
    let capped : IsCapped c (cells_before n ms) = subst (λ x. IsCapped x (cells_before n ms)) at (h.each n within) in
    subst (λ o. IsCappedSome c o) (sym (cell_at ms name n s)) capped

pub cell_known : (ms : List MemberTree) (name : Name) (n : ℕ) → StandsAt (names_in ms) name n → IsSome (find_cell name (members_of ms))
cell_known ms name n s = subst (λ o. IsSome o) (sym (cell_at ms name n s)) refl

-- one member more
pub cells_before-next : (ms : List MemberTree) (k : ℕ) (d : MemberTree) → k < length ms → cells_before (suc k) ms ≡ cells_before k ms + cells (get_or ms k d).ctype
cells_before-next [] k d h = absurd (omega arith)
cells_before-next (m ∷ ms) zero d h = omega arith
cells_before-next (m ∷ ms) (suc k) d h = let rest = cells_before-next ms k d (omega arith) in omega arith

-- arrays of members, one by one
pub arrays_each : (ms : List Member) → ((k : ℕ) (d : Member) → k < length ms → HasArrays (type_tree (get_or ms k d).ctype)) → HaveArrays (members_of (map member_tree ms))
arrays_each [] h = tt
arrays_each (m ∷ ms) h = (h 0 m (omega arith), arrays_each ms (λ k d below. h (suc k) d (omega arith)))

pub arrays_at : (ms : List Member) (k : ℕ) (d : Member) → HaveArrays (members_of (map member_tree ms)) → k < length ms → HasArrays (type_tree (get_or ms k d).ctype)
arrays_at [] k d h below = absurd (omega arith)
arrays_at (m ∷ ms) zero d h below = h.0
arrays_at (m ∷ ms) (suc k) d h below = arrays_at ms k d h.1 (omega arith)

-- the first cells after one more member
pub firsts_pushed : (firsts : List ℕ) (ms : List MemberTree) (before : ℕ)
    → ((k : ℕ) → k < length firsts → IsCapped (get_or firsts k 0) (cells_before k ms)) → IsCapped before (cells_before (length firsts) ms)
    → (k : ℕ) → k < length (firsts ++ before ∷ []) → IsCapped (get_or (firsts ++ before ∷ []) k 0) (cells_before k ms)
firsts_pushed firsts ms before h b k below =
    ⊎_elim
    (λ p. subst (λ x. IsCapped x (cells_before k ms)) (sym (get_or_append_left firsts (before ∷ []) 0 k p)) (h k p))
    (λ p. let more : length (firsts ++ before ∷ []) ≡ length firsts + 1 = length-append firsts (before ∷ []) in
    let last : length firsts ≡ k = omega (arith, below, p) in
    subst (λ x. IsCapped x (cells_before k ms)) (sym (get_or_at firsts before [] 0 k last)) (subst (λ j. IsCapped before (cells_before j ms)) last b))
    (cases_lt k (length firsts))

pub cells_pushed : (items : List Member) (i : ℕ) (m : Member) (before one all : ℕ) → i < length items → m ≡ get_or items i m
    → IsCapped before (cells_before i (map member_tree items)) → IsCapped one (cells (type_tree m.ctype)) → IsCapped all (before + one)
    → IsCapped all (cells_before (i + 1) (map member_tree items))
cells_pushed items i m before one all within e b o h =
    let there : i < length (map member_tree items) = subst (λ k. i < k) (sym (length-map items member_tree)) within in
    let at : get_or (map member_tree items) i (member_tree m) ≡ member_tree m = get_or-map member_tree items i m (member_tree m) within ∙ ap member_tree (sym e) in
    let next : cells_before (suc i) (map member_tree items) ≡ cells_before i (map member_tree items) + cells (type_tree m.ctype) =
    cells_before-next (map member_tree items) i (member_tree m) there ∙ ap (λ (x : MemberTree). cells_before i (map member_tree items) + cells x.ctype) at in
    let add : suc i ≡ i + 1 = omega arith in
    subst (λ n. IsCapped all n) (sym next ∙ ap (λ j. cells_before j (map member_tree items)) add)
    (capped-plus before (cells_before i (map member_tree items)) one (cells (type_tree m.ctype)) all b o h)

-- names of members, and whether they differ
abbrev pub AreApart : List Name → Type 0
AreApart names = AllPairs (λ (a b : Name). a ≢ b) names

name_of : (ms : List Member) (i : ℕ) (d : MemberTree) → (get_or (map member_tree ms) i d).name ≡ get_or (map (λ m. m.name) ms) i d.name
name_of [] i d = refl
name_of (m ∷ ms) zero d = refl
name_of (m ∷ ms) (suc i) d = name_of ms i d

pub other_names : (ms : List Member) → AreApart (map (λ m. m.name) ms) → HaveDifferentNames (map member_tree ms)
other_names ms h i j d below within e =
    let there : j < length (map (λ m. m.name) ms) = subst (λ k. j < k) (length-map ms member_tree ∙ sym (length-map ms (λ m. m.name))) within in
    h i j d.name below there (sym (name_of ms i d) ∙ e ∙ name_of ms j d)

-- a name that stood before
pub same_names : (ms : List Member) (i n : ℕ) (m : Member) → i < length ms → m ≡ get_or ms i m
    → StandsAt (map (λ x. x.name) (take i ms)) m.name n → HaveDifferentNames (map member_tree ms) → ⊥
same_names ms i n m within e s h =
    let below : n < i = omega (arith, subst (λ k. n < k) (length-map (take i ms) (λ x. x.name) ∙ length-take i ms) s.within) in
    let inside : n < length ms = omega arith in
    let here : n < length (take i ms) = subst (λ k. n < k) (length-map (take i ms) (λ x. x.name)) s.within in
    let first : (get_or (map member_tree ms) n (member_tree m)).name ≡ (get_or ms n m).name =
    ap (λ (x : MemberTree). x.name) (get_or-map member_tree ms n m (member_tree m) inside) in
    let second : (get_or (map member_tree ms) i (member_tree m)).name ≡ m.name =
    ap (λ (x : MemberTree). x.name) (get_or-map member_tree ms i m (member_tree m) within ∙ ap member_tree (sym e)) in
    let taken : get_or (map (λ x. x.name) (take i ms)) n [] ≡ (get_or ms n m).name =
    get_or-map (λ x. x.name) (take i ms) n m [] here ∙ ap (λ (x : Member). x.name) (get_or-take i ms n m below) in
    h n i (member_tree m) below (subst (λ k. i < k) (sym (length-map ms member_tree)) within) (first ∙ sym taken ∙ s.is ∙ sym second)

pub same_found : (ms : List Member) (i : ℕ) (m : Member) (names : List Name) (name : Name) (o : Option ℕ) → i < length ms → m ≡ get_or ms i m
    → names ≡ map (λ x. x.name) (take i ms) → name ≡ m.name → IfSome o (StandsAt names name) → IsSome o → HaveDifferentNames (map member_tree ms) → ⊥
same_found ms i m names name None within e a b s k h = absurd (cc)
same_found ms i m names name (Some n) within e a b s k h =
    same_names ms i n m within e (subst (λ x. StandsAt (map (λ x. x.name) (take i ms)) x n) b (subst (λ xs. StandsAt xs name n) a s)) h

pub names_pushed : (ms : List Member) (i : ℕ) (m : Member) (names : List Name) (name : Name) → i < length ms → m ≡ get_or ms i m
    → names ≡ map (λ x. x.name) (take i ms) → name ≡ m.name → names ++ name ∷ [] ≡ map (λ x. x.name) (take (i + 1) ms)
names_pushed ms i m names name within e a b =
    let add : suc i ≡ i + 1 = omega arith in
    let taken : take (suc i) ms ≡ take i ms ++ m ∷ [] = take-suc ms i m within ∙ ap (λ x. take i ms ++ x ∷ []) (sym e) in
    ap (λ xs. xs ++ name ∷ []) a ∙ ap (λ x. map (λ x. x.name) (take i ms) ++ x ∷ []) b ∙ sym (map-append (λ x. x.name) (take i ms) (m ∷ []))
    ∙ ap (λ xs. map (λ x. x.name) xs) (sym taken) ∙ ap (λ j. map (λ x. x.name) (take j ms)) add

pub apart_pushed : (names : List Name) (name : Name) → AreApart names → IsNew name names → AreApart (names ++ name ∷ [])
apart_pushed names name h new =
    all_pairs_push (λ (a b : Name). a ≢ b) names name h (λ k d below e. new k below (get_or_default names k [] d below ∙ e))

pub new_name : (names : List Name) (name : Name) (o : Option ℕ) → IfNone o (IsNew name names) → is_some o ≡ false → IsNew name names
new_name names name None h e = h
new_name names name (Some n) h e = absurd (cc)

-- what stands at one place of two lists that are mapped to the same
pub map_at : {X Y : Type 0} (f : X → Y) (xs ys : List X) (i : ℕ) (x y : X) → i < length xs → i < length ys → map f xs ≡ map f ys
    → x ≡ get_or xs i x → y ≡ get_or ys i y → f x ≡ f y
map_at f xs ys i x y h k e p q =
    let a = get_or-map f xs i x (f x) h in let b = get_or-map f ys i y (f x) k in cc

pub names_listed : (ms : List Member) → map (λ m. m.name) ms ≡ names_in (map member_tree ms)
names_listed [] = refl
names_listed (m ∷ ms) = ap (λ xs. m.name ∷ xs) (names_listed ms)
