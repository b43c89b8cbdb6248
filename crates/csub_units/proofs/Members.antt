-- Members one after the other and as a whole.
use Rattle.std.proofs.Common.{◌≡◌, ◌∙◌, refl, sym, ap, ℕ, ◌+◌, ◌<◌, List, [], ◌∷◌, ◌++◌, length, map, drop, get_or}
use Rattle.std.proofs.Common.{append_assoc, Option, Some, None, option_map}
use Rattle.csub_tree.specs.declared.name.Name.{Name as NameAt}
use Rattle.csub_tree.specs.declared.declaration.Declarator.{Declarator as CodeDeclarator}
use Rattle.csub_tree.specs.declared.declaration.Declare.{Declare as CodeDeclare}
use Rattle.csub_tree.specs.Declarations.{Declarator, declarator_tree, Declare, declare_tree}
use Rattle.csub_objects.specs.Types.{Name, TypeTree, MemberTree}
use Rattle.csub_scopes.specs.Scopes.{Scope}
use Rattle.csub_rules.specs.declared.fault.Fault.{Fault}
use Rattle.csub_rules.specs.Faults.{fault_if, ◌or_earlier◌}
use Rattle.csub_rules.specs.Declarators.{base_type, base_fault, object_type}
use Rattle.csub_rules.specs.Labels.{past_names, stands_in, twice_fault}
use Rattle.csub_rules.proofs.LawsEarlier.{earlier_assoc}
use Rattle.csub_rules.proofs.LawsBodies.{twice_fault-append}
use Rattle.csub_units.specs.Gathered.{behind, one, line_members}
use Rattle.csub_rules.specs.Structs.{with_member, fields_before, members, field_fault, line_fault, fields_fault, field_names}
use Rattle.csub_units.proofs.Loops.{dropped, one_more, one_fault_more}

behind_assoc : (a b c : Option (List MemberTree)) → behind (behind a b) c ≡ behind a (behind b c)
behind_assoc None b c = refl
behind_assoc (Some xs) None c = refl
behind_assoc (Some xs) (Some ys) None = refl
behind_assoc (Some xs) (Some ys) (Some zs) = ap (λ ms. Some ms) (append_assoc xs ys zs)

pub behind_none : (ms : Option (List MemberTree)) → behind (Some []) ms ≡ ms
behind_none None = refl
behind_none (Some ms) = refl

append_nil : (ms : List MemberTree) → ms ++ [] ≡ ms
append_nil [] = refl
append_nil (m ∷ ms) = ap (λ ns. m ∷ ns) (append_nil ms)

one_first : (x : Name) (o : Option TypeTree) (ms : Option (List MemberTree))
    → with_member (option_map (λ t. record { name = x; ctype = t }) o) ms ≡ behind (one x o) ms
one_first x None ms = refl
one_first x (Some t) None = refl
one_first x (Some t) (Some ms) = refl

line_step : (scope : Scope) (base : Option TypeTree) (v : Declarator) (vs : List Declarator)
    → line_members scope base (v ∷ vs) ≡ behind (one v.name.text (object_type scope base v.dims)) (line_members scope base vs)
line_step scope base v vs = one_first v.name.text (object_type scope base v.dims) (line_members scope base vs)

line_before : (scope : Scope) (base : Option TypeTree) (vs : List Declarator) (ms : Option (List MemberTree))
    → fields_before scope base vs ms ≡ behind (line_members scope base vs) ms
line_before scope base [] ms = sym (behind_none ms)
line_before scope base (v ∷ vs) ms =
    let this : Option (List MemberTree) = one v.name.text (object_type scope base v.dims) in
    one_first v.name.text (object_type scope base v.dims) (fields_before scope base vs ms) ∙ ap (λ o. behind this o) (line_before scope base vs ms)
    ∙ sym (behind_assoc this (line_members scope base vs) ms) ∙ ap (λ o. behind o ms) (sym (line_step scope base v vs))

-- one member more
pub line_more : (scope : Scope) (base : Option TypeTree) (old new : Option (List MemberTree)) (xs : List CodeDeclarator) (i : ℕ) (x : CodeDeclarator)
    → i < length xs → x ≡ get_or xs i x → new ≡ behind old (one x.name.text (object_type scope base (declarator_tree x).dims))
    → behind new (line_members scope base (map declarator_tree (drop (i + 1) xs))) ≡ behind old (line_members scope base (map declarator_tree (drop i xs)))
line_more scope base old new xs i x h e n =
    let rest : List Declarator = map declarator_tree (drop (i + 1) xs) in
    let this : Option (List MemberTree) = one x.name.text (object_type scope base (declarator_tree x).dims) in
    ap (λ o. behind o (line_members scope base rest)) n ∙ behind_assoc old this (line_members scope base rest)
    ∙ ap (λ o. behind old o)
    (sym (line_step scope base (declarator_tree x) rest) ∙ ap (λ ys. line_members scope base (map declarator_tree ys)) (dropped xs i x h e))

-- one declaration more
pub members_more : (scope : Scope) (old new : Option (List MemberTree)) (xs : List CodeDeclare) (i : ℕ) (x : CodeDeclare)
    → i < length xs → x ≡ get_or xs i x → new ≡ behind old (line_members scope (base_type scope x.base) (declare_tree x).vars)
    → behind new (members scope (map declare_tree (drop (i + 1) xs))) ≡ behind old (members scope (map declare_tree (drop i xs)))
members_more scope old new xs i x h e n =
    let rest : List Declare = map declare_tree (drop (i + 1) xs) in
    let this : Option (List MemberTree) = line_members scope (base_type scope x.base) (declare_tree x).vars in
    ap (λ o. behind o (members scope rest)) n ∙ behind_assoc old this (members scope rest)
    ∙ ap (λ o. behind old o)
    (sym (line_before scope (base_type scope x.base) (declare_tree x).vars (members scope rest))
    ∙ ap (λ ys. members scope (map declare_tree ys)) (dropped xs i x h e))

-- faults of members, which see no others
pub line_fault_more : (scope : Scope) (base : Option TypeTree) (xs : List CodeDeclarator) (i : ℕ) (x : CodeDeclarator) (least now : Option Fault)
    → i < length xs → x ≡ get_or xs i x → now ≡ (least or_earlier field_fault scope base (declarator_tree x))
    → (now or_earlier line_fault scope base (map declarator_tree (drop (i + 1) xs)))
    ≡ (least or_earlier line_fault scope base (map declarator_tree (drop i xs)))
line_fault_more scope base xs i x least now h e n =
    one_fault_more declarator_tree (λ (s : Scope) (v : Declarator). s) (λ s v. field_fault s base v) (λ s vs. line_fault s base vs) (λ s v vs. refl)
    scope scope xs i x least (field_fault scope base (declarator_tree x)) now h e refl refl n

pub fields_fault_more : (scope : Scope) (xs : List CodeDeclare) (i : ℕ) (x : CodeDeclare) (least now : Option Fault) → i < length xs
    → x ≡ get_or xs i x
    → now ≡ (least or_earlier base_fault scope x.base or_earlier line_fault scope (base_type scope x.base) (declare_tree x).vars)
    → (now or_earlier fields_fault scope (map declare_tree (drop (i + 1) xs))) ≡ (least or_earlier fields_fault scope (map declare_tree (drop i xs)))
fields_fault_more scope xs i x least now h e n =
    one_fault_more declare_tree (λ (s : Scope) (d : Declare). s)
    (λ s d. base_fault s d.base or_earlier line_fault s (base_type s d.base) d.vars) fields_fault (λ s d ds. refl)
    scope scope xs i x least (base_fault scope x.base or_earlier line_fault scope (base_type scope x.base) (declare_tree x).vars) now h e refl refl
    (n ∙ earlier_assoc least (base_fault scope x.base) (line_fault scope (base_type scope x.base) (declare_tree x).vars))

-- names one after the other
abbrev names : List Declarator → List NameAt
names vs = map (λ v. v.name) vs

module _ (s k : List Name) (xs : List CodeDeclarator) (i : ℕ) (x : CodeDeclarator) (h : i < length xs) (e : x ≡ get_or xs i x)
    (p : k ≡ x.name.text ∷ s) where
  pub names_more : past_names k (names (map declarator_tree (drop (i + 1) xs))) ≡ past_names s (names (map declarator_tree (drop i xs)))
  names_more = one_more declarator_tree (λ (n : List Name) (v : Declarator). v.name.text ∷ n) (λ n vs. past_names n (names vs)) (λ n v vs. refl) s k xs i x h e p

  pub names_fault_more : (least this now : Option Fault) → this ≡ fault_if (stands_in x.name.text s) 2 x.name.span → now ≡ (least or_earlier this)
      → (now or_earlier twice_fault k (names (map declarator_tree (drop (i + 1) xs))))
      ≡ (least or_earlier twice_fault s (names (map declarator_tree (drop i xs))))
  names_fault_more least this now f n =
      one_fault_more declarator_tree (λ (n : List Name) (v : Declarator). v.name.text ∷ n)
      (λ n (v : Declarator). fault_if (stands_in v.name.text n) 2 v.name.span) (λ n vs. twice_fault n (names vs)) (λ n v vs. refl)
      s k xs i x least this now h e p f n

pub twice_more : (s k : List Name) (xs : List CodeDeclare) (i : ℕ) (x : CodeDeclare) (least this now : Option Fault) → i < length xs
    → x ≡ get_or xs i x → k ≡ past_names s (names (declare_tree x).vars) → this ≡ twice_fault s (names (declare_tree x).vars)
    → now ≡ (least or_earlier this)
    → (now or_earlier twice_fault k (field_names (map declare_tree (drop (i + 1) xs))))
    ≡ (least or_earlier twice_fault s (field_names (map declare_tree (drop i xs))))
twice_more s k xs i x least this now h e p f n =
    one_fault_more declare_tree (λ (n : List Name) (d : Declare). past_names n (names d.vars)) (λ n d. twice_fault n (names d.vars))
    (λ n ds. twice_fault n (field_names ds)) (λ n d ds. twice_fault-append n (names d.vars) (field_names ds))
    s k xs i x least this now h e p f n
