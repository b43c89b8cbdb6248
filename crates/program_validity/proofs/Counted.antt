-- The calls of an expression: how many they are, and what results they have.
use Rattle.std.proofs.Common.{◌≡◌, ◌∙◌, refl, sym, ap, subst, arith, ℕ, ◌+◌, List, [], ◌∷◌, ◌++◌, length, map, Option, Some, None, Bool, true, false, IsTrue}
use Rattle.std.proofs.Common.{length-append}
use Rattle.csub_text.specs.declared.span.Span.{Span}
use Rattle.csub_types.specs.declared.kind.IntKind.{IntKind}
use Rattle.csub_tree.specs.declared.name.Name.{Name as NameAt}
use Rattle.csub_tree.specs.Expressions.{Expr, Exprs, Node, Number, Char, Text, Named, Paren, Unary, Cast, Step, Binary, And, Or}
use Rattle.csub_tree.specs.Expressions.{Choose, Assign, Call, Index, Member, NoExprs, MoreExprs}
use Rattle.csub_objects.specs.Types.{Name, TypeTree, number_type, array_type, struct_type, loose_type}
use Rattle.csub_semantics.specs.Syntax.{CallAt, in_part, PartTree}
use Rattle.csub_scopes.specs.Scopes.{Scope}
use Rattle.csub_rules.specs.Sorts.{Sort, a_place, a_value, a_void, no_sort, is_number, is_number_place, is_array, has_member, has_elements, sort_if}
use Rattle.csub_rules.specs.Callees.{Callee, no_function, user_function, getchar_function, putchar_function, printf_function, exit_function}
use Rattle.csub_rules.specs.Callees.{callee_of, fixed_params, takes}
use Rattle.csub_rules.specs.Formats.{literal_of, is_format}
use Rattle.csub_rules.specs.ExprSorts.{sort_of, suits, given_by, sorts_of}
use Rattle.csub_rules.specs.Fine.{Fine, FineArgs, FineNumbers, FinePrint, FineCall}
use Rattle.csub_resolution.specs.Values.{Defined, count, count_all, own_count, own_call, calls_in, calls_in_all}
use Rattle.csub_resolution.specs.Programs.{part_temps, some_count}
use Rattle.csub_validity.specs.Valid.{label_result, result_of}

-- ---- sorts of operands

-- a place or a value: what an operand is
abbrev pub is_given : Sort → Bool
is_given (a_place t) = true
is_given (a_value k) = true
is_given a_void = false
is_given no_sort = false

pub number_given : (s : Sort) → IsTrue (is_number s) → IsTrue (is_given s)
number_given (a_place t) h = refl
number_given (a_value k) h = refl
number_given a_void h = absurd (cc)
number_given no_sort h = absurd (cc)

pub place_given : (s : Sort) → IsTrue (is_number_place s) → IsTrue (is_given s)
place_given (a_place t) h = refl
place_given (a_value k) h = refl
place_given a_void h = absurd (cc)
place_given no_sort h = absurd (cc)

pub array_given : (s : Sort) → IsTrue (is_array s) → IsTrue (is_given s)
array_given (a_place t) h = refl
array_given (a_value k) h = refl
array_given a_void h = absurd (cc)
array_given no_sort h = absurd (cc)

pub member_given : (m : Name) (s : Sort) → IsTrue (has_member m s) → IsTrue (is_given s)
member_given m (a_place t) h = refl
member_given m (a_value k) h = refl
member_given m a_void h = absurd (cc)
member_given m no_sort h = absurd (cc)

elements_given : (t : TypeTree) (s : Sort) → IsTrue (has_elements t s) → IsTrue (is_given s)
elements_given t (a_place u) h = refl
elements_given t (a_value k) h = refl
elements_given t a_void h = absurd (cc)
elements_given t no_sort h = absurd (cc)

pub taken_given : (t : TypeTree) (s : Sort) → IsTrue (takes t s) → IsTrue (is_given s)
taken_given (number_type k) s h = number_given s h
taken_given (array_type t n) s h = absurd (cc)
taken_given (struct_type tag ms) s h = absurd (cc)
taken_given (loose_type t) s h = elements_given t s h

-- ---- results

-- the temporaries of calls
abbrev pub call_temps : List CallAt → ℕ
call_temps [] = 0
call_temps (c ∷ rest) = some_count (label_result c.label) + call_temps rest

pub temps_append : (ss ts : List CallAt) → call_temps (ss ++ ts) ≡ call_temps ss + call_temps ts
temps_append [] ts = let e : call_temps ts ≡ 0 + call_temps ts = omega arith in e
temps_append (s ∷ ss) ts = let rest = temps_append ss ts in omega arith

-- a part has those of its calls, and of what stands behind them
pub part_append : (at : Span) (cs : List CallAt) (rest : PartTree) → part_temps (map (in_part at) cs ++ rest) ≡ call_temps cs + part_temps rest
part_append at [] rest = let e : part_temps rest ≡ 0 + part_temps rest = omega arith in e
part_append at (c ∷ cs) rest = let more = part_append at cs rest in omega arith

-- the results of a part's calls from the k-th on are those of some calls
abbrev pub Stand : List (Option IntKind) → ℕ → List CallAt → Type 0
Stand results k [] = Unit {0}
Stand results k (s ∷ rest) = (result_of results (k + 1) ≡ label_result s.label) × Stand results (k + 1) rest

pub stand_left : (results : List (Option IntKind)) (k : ℕ) (ss ts : List CallAt) → Stand results k (ss ++ ts) → Stand results k ss
stand_left results k [] ts h = tt
stand_left results k (s ∷ ss) ts h = (h.0, stand_left results (k + 1) ss ts h.1)

pub stand_right : (results : List (Option IntKind)) (k n : ℕ) (ss ts : List CallAt) → length ss ≡ n → Stand results k (ss ++ ts)
    → Stand results (k + n) ts
stand_right results k n [] ts e h = let none : k ≡ k + n = omega arith in subst (λ i. Stand results i ts) none h
stand_right results k n (s ∷ ss) ts e h =
    let next : (k + 1) + length ss ≡ k + n = omega arith in
    subst (λ i. Stand results i ts) next (stand_right results (k + 1) (length ss) ss ts refl h.1)

-- ---- how many calls there are

module _ (defined : List Defined) (scope : Scope) where
  own_length : (f : NameAt) (args : Exprs) (k n : ℕ) (c : Callee) → length (own_call defined scope f args k n c) ≡ own_count c
  own_length f args k n no_function = refl
  own_length f args k n (user_function types result) = refl
  own_length f args k n getchar_function = refl
  own_length f args k n putchar_function = refl
  own_length f args k n printf_function = refl
  own_length f args k n exit_function = refl

  two : (ss ts : List CallAt) (m n : ℕ) → length ss ≡ m → length ts ≡ n → length (ss ++ ts) ≡ m + n
  two ss ts m n p q = length-append ss ts ∙ ap (λ i. i + length ts) p ∙ ap (λ i. m + i) q

  mutual
    pub calls_length : (k : ℕ) (e : Expr) → length (calls_in defined scope k e) ≡ count scope e
    calls_length k (Node (Number n u) s) = refl
    calls_length k (Node (Char b) s) = refl
    calls_length k (Node (Text t) s) = refl
    calls_length k (Node (Named x) s) = refl
    calls_length k (Node (Paren e) s) = calls_length k e
    calls_length k (Node (Unary o e) s) = calls_length k e
    calls_length k (Node (Cast t e) s) = calls_length k e
    calls_length k (Node (Step o e) s) = calls_length k e
    calls_length k (Node (Binary o a b) s) = two _ _ _ _ (calls_length k a) (calls_length (k + count scope a) b)
    calls_length k (Node (And a b) s) = two _ _ _ _ (calls_length k a) (calls_length (k + count scope a) b)
    calls_length k (Node (Or a b) s) = two _ _ _ _ (calls_length k a) (calls_length (k + count scope a) b)
    calls_length k (Node (Choose c a b) s) =
        two _ _ _ _ (calls_length k c)
        (two _ _ _ _ (calls_length (k + count scope c) a) (calls_length (k + count scope c + count scope a) b))
    calls_length k (Node (Assign o a b) s) = two _ _ _ _ (calls_length k a) (calls_length (k + count scope a) b)
    calls_length k (Node (Call f args) s) =
        two _ _ _ _ (calls_length_all k args) (own_length f args k (k + count_all scope args + 1) (callee_of scope f.text))
    calls_length k (Node (Index a i) s) = two _ _ _ _ (calls_length k a) (calls_length (k + count scope a) i)
    calls_length k (Node (Member a m) s) = calls_length k a

    pub calls_length_all : (k : ℕ) (es : Exprs) → length (calls_in_all defined scope k es) ≡ count_all scope es
    calls_length_all k NoExprs = refl
    calls_length_all k (MoreExprs e rest) = two _ _ _ _ (calls_length k e) (calls_length_all (k + count scope e) rest)

  -- ---- the calls of an operand have results

  both_full : (ss ts : List CallAt) (m n : ℕ) → call_temps ss ≡ m → call_temps ts ≡ n → call_temps (ss ++ ts) ≡ m + n
  both_full ss ts m n p q = temps_append ss ts ∙ ap (λ i. i + call_temps ts) p ∙ ap (λ i. m + i) q

  given_if : (b : Bool) (s : Sort) → IsTrue (is_given (sort_if b s)) → IsTrue (is_given s)
  given_if true s h = h
  given_if false s h = absurd (cc)

  own_full : (f : NameAt) (args : Exprs) (k n : ℕ) (c : Callee) → IsTrue (is_given (given_by c))
      → call_temps (own_call defined scope f args k n c) ≡ own_count c
  own_full f args k n no_function h = refl
  own_full f args k n (user_function types None) h = absurd (cc)
  own_full f args k n (user_function types (Some kind)) h = refl
  own_full f args k n getchar_function h = refl
  own_full f args k n putchar_function h = refl
  own_full f args k n printf_function h = refl
  own_full f args k n exit_function h = refl

  -- a string makes no calls
  pub record IsSilent (e : Expr) : Type 0 where
    pub counted : count scope e ≡ 0
    pub none : (k : ℕ) → calls_in defined scope k e ≡ []

  pub silent : (e : Expr) (rest : Exprs) → IsTrue (is_format (literal_of e) rest) → IsSilent e
  silent (Node (Text t) s) rest h = record { counted = refl; none = λ k. refl }
  silent (Node (Paren e) s) rest h = let x = silent e rest h in record { counted = x.counted; none = x.none }
  silent (Node (Number n u) s) rest h = absurd (cc)
  silent (Node (Char b) s) rest h = absurd (cc)
  silent (Node (Named x) s) rest h = absurd (cc)
  silent (Node (Unary o e) s) rest h = absurd (cc)
  silent (Node (Cast t e) s) rest h = absurd (cc)
  silent (Node (Step o e) s) rest h = absurd (cc)
  silent (Node (Binary o a b) s) rest h = absurd (cc)
  silent (Node (And a b) s) rest h = absurd (cc)
  silent (Node (Or a b) s) rest h = absurd (cc)
  silent (Node (Choose c a b) s) rest h = absurd (cc)
  silent (Node (Assign o a b) s) rest h = absurd (cc)
  silent (Node (Call f args) s) rest h = absurd (cc)
  silent (Node (Index a i) s) rest h = absurd (cc)
  silent (Node (Member a m) s) rest h = absurd (cc)

  -- the arguments of a call, by what is called
  pub fit_or_print : (A : Type 0) (w : Bool) (c : Callee) (args : Exprs) → FineCall w c (FineArgs scope (fixed_params c) args) (FinePrint scope args)
      → ((types : List TypeTree) → FineArgs scope types args → A) → (FinePrint scope args → A) → A
  fit_or_print A w no_function args h fit print = absurd h
  fit_or_print A w (user_function types result) args h fit print = fit types h
  fit_or_print A w getchar_function args h fit print = fit _ h
  fit_or_print A w putchar_function args h fit print = fit _ h
  fit_or_print A w printf_function args h fit print = print h
  fit_or_print A w exit_function args h fit print = fit _ h.1

  mutual
    pub full : (w : Bool) (k : ℕ) (e : Expr) → Fine scope w e → IsTrue (is_given (sort_of scope e)) → call_temps (calls_in defined scope k e) ≡ count scope e
    full w k (Node (Number n u) s) h g = refl
    full w k (Node (Char b) s) h g = refl
    full w k (Node (Text t) s) h g = refl
    full w k (Node (Named x) s) h g = refl
    full w k (Node (Paren e) s) h g = full w k e h g
    full w k (Node (Unary o e) s) h g = full false k e h.0 (number_given (sort_of scope e) h.1)
    full w k (Node (Cast t e) s) h g = full false k e h.0 (number_given (sort_of scope e) h.1)
    full w k (Node (Step o e) s) h g = full false k e h.0 (place_given (sort_of scope e) h.1)
    full w k (Node (Binary o a b) s) h g =
        both_full _ _ _ _ (full false k a h.0 (number_given (sort_of scope a) h.2)) (full false (k + count scope a) b h.1 (number_given (sort_of scope b) h.3))
    full w k (Node (And a b) s) h g =
        both_full _ _ _ _ (full false k a h.0 (number_given (sort_of scope a) h.2)) (full false (k + count scope a) b h.1 (number_given (sort_of scope b) h.3))
    full w k (Node (Or a b) s) h g =
        both_full _ _ _ _ (full false k a h.0 (number_given (sort_of scope a) h.2)) (full false (k + count scope a) b h.1 (number_given (sort_of scope b) h.3))
    full w k (Node (Choose c a b) s) h g =
        both_full _ _ _ _ (full false k c h.0 (number_given (sort_of scope c) h.3))
        (both_full _ _ _ _ (full false (k + count scope c) a h.1 (number_given (sort_of scope a) h.4))
        (full false (k + count scope c + count scope a) b h.2 (number_given (sort_of scope b) h.5)))
    full w k (Node (Assign o a b) s) h g =
        both_full _ _ _ _ (full false k a h.0 (place_given (sort_of scope a) h.2)) (full false (k + count scope a) b h.1 (number_given (sort_of scope b) h.3))
    full w k (Node (Call f args) s) h g =
        both_full _ _ _ _
        (fit_or_print (call_temps (calls_in_all defined scope k args) ≡ count_all scope args) w (callee_of scope f.text) args h
        (λ types g. full_args k types args g) (λ g. full_print k args g))
        (own_full f args k (k + count_all scope args + 1) (callee_of scope f.text)
        (given_if (suits (callee_of scope f.text) args (sorts_of scope args)) (given_by (callee_of scope f.text)) g))
    full w k (Node (Index a i) s) h g =
        both_full _ _ _ _ (full false k a h.0 (array_given (sort_of scope a) h.2)) (full false (k + count scope a) i h.1 (number_given (sort_of scope i) h.3))
    full w k (Node (Member a m) s) h g = full false k a h.0 (member_given m.text (sort_of scope a) h.1)

    full_args : (k : ℕ) (types : List TypeTree) (args : Exprs) → FineArgs scope types args
        → call_temps (calls_in_all defined scope k args) ≡ count_all scope args
    full_args k types NoExprs h = refl
    full_args k [] (MoreExprs e rest) h = absurd h
    full_args k (t ∷ types) (MoreExprs e rest) h =
        both_full _ _ _ _ (full false k e h.0 (taken_given t (sort_of scope e) h.1)) (full_args (k + count scope e) types rest h.2)

    full_numbers : (k : ℕ) (args : Exprs) → FineNumbers scope args → call_temps (calls_in_all defined scope k args) ≡ count_all scope args
    full_numbers k NoExprs h = refl
    full_numbers k (MoreExprs e rest) h =
        both_full _ _ _ _ (full false k e h.0 (number_given (sort_of scope e) h.1)) (full_numbers (k + count scope e) rest h.2)

    full_print : (k : ℕ) (args : Exprs) → FinePrint scope args → call_temps (calls_in_all defined scope k args) ≡ count_all scope args
    full_print k NoExprs h = absurd h
    full_print k (MoreExprs e rest) h =
        let x = silent e rest h.0 in
        both_full _ _ _ _ (ap call_temps (x.none k) ∙ sym x.counted) (full_numbers (k + count scope e) rest h.1)

  -- the arguments of a call
  pub full_call : (w : Bool) (k : ℕ) (c : Callee) (args : Exprs) → FineCall w c (FineArgs scope (fixed_params c) args) (FinePrint scope args)
      → call_temps (calls_in_all defined scope k args) ≡ count_all scope args
  full_call w k c args h =
      fit_or_print (call_temps (calls_in_all defined scope k args) ≡ count_all scope args) w c args h (λ types g. full_args k types args g)
      (λ g. full_print k args g)
