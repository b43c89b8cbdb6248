-- What a call stands for, by the function that is called.
use Rattle.std.proofs.Common.{◌≡◌, ◌∙◌, refl, sym, ap, arith, ℕ, ◌+◌, List, [], ◌∷◌, ◌++◌, length, map, drop, Bool, true, false, Option, Some, None, is_some, IsTrue, ◌&&◌}
use Rattle.std.specs.Prelude.{Result, Ok, Err, IfOk, OnOk}
use Rattle.std.proofs.lemmas.List.{append-nil, length-map}
use Rattle.csub_text.specs.declared.span.Span.{Span}
use Rattle.csub_types.specs.declared.kind.IntKind.TheVariants.{Int}
use Rattle.csub_tree.specs.declared.name.Name.{Name as NameAt}
use Rattle.csub_tree.specs.declared.expression.Expr.{Expr as CodeExpr}
use Rattle.csub_tree.specs.Expressions.{Expr, Exprs, Node, Number, Char, Text, Named, Paren, Unary, Cast, Step, Binary, And, Or}
use Rattle.csub_tree.specs.Expressions.{Choose, Assign, Call, Index, Member, NoExprs, MoreExprs, expr_tree, exprs_of as trees_of}
use Rattle.csub_objects.specs.Types.{number_type}
use Rattle.csub_scopes.specs.Scopes.{Scope}
use Rattle.csub_semantics.specs.declared.expression.Piece.{Piece}
use Rattle.csub_semantics.specs.Syntax.{CallAt}
use Rattle.csub_semantics.specs.Trees.{NamedPlace, NamedExpr, more_exprs, exprs_of, input_byte, output_byte, formatted}
use Rattle.csub_rules.specs.Sorts.{Sort, a_value, sort_if}
use Rattle.csub_rules.specs.Callees.{Callee, getchar_function, putchar_function, printf_function, callee_of, take_all, are_numbers}
use Rattle.csub_rules.specs.Formats.{Literal, literal_of, is_format}
use Rattle.csub_rules.specs.ExprSorts.{sorts_of, call_sort}
use Rattle.csub_rules.specs.Fine.{FineKind, FinePrint, FineArgs}
use Rattle.csub_rules.proofs.LawsServed.{both}
use Rattle.csub_resolution.specs.Printed.{format_of}
use Rattle.csub_resolution.specs.Values.{Defined, no_place, value, values, calls_in, calls_in_all, calls_in_kind}
use Rattle.csub_resolution.specs.Values.{count, count_all, count_kind, own_count, own_call, called_value, first_value, later_values}
use Rattle.csub_lower.specs.declared.made.Made.{Made}
use Rattle.csub_lower.specs.Calls.{value_list}
use Rattle.csub_lower.specs.Made.{IsMade, made_sort, made_place, made_value}
use Rattle.csub_lower.proofs.Fits.{fits, one_of, input_fits, print_fits, are_all_numbers}

abbrev trees : List CodeExpr → Exprs
trees args = trees_of (map expr_tree args)

sort_holds : (b : Bool) (s : Sort) → IsTrue b → sort_if b s ≡ s
sort_holds true s h = refl
sort_holds false s h = absurd (cc)

-- the values of arguments as a row, and as a list
values_are : (scope : Scope) (k : ℕ) (es : Exprs) → values scope k es ≡ exprs_of (value_list scope k es)
values_are scope k NoExprs = refl
values_are scope k (MoreExprs e rest) = ap (λ vs. more_exprs (value scope k e) vs) (values_are scope (k + count scope e) rest)

-- what is made has its sort, its place and its value
pub ok_made : {E : Type 0} (r : Result Made E) (s : Sort) (p : NamedPlace) (v : NamedExpr) (Q : Made → Type 0)
    → ((m : Made) → made_sort m ≡ s → made_place m ≡ p → made_value m ≡ v → Q m) → IfOk r (λ m. made_sort m ≡ s) → IfOk r (λ m. made_place m ≡ p)
    → IfOk r (λ m. made_value m ≡ v) → IfOk r Q
ok_made (Ok m) s p v Q made a b c = made m a b c
ok_made (Err e) s p v Q made a b c = tt

pub on_ok : {T E P : Type 0} (r : Result T E) → P → OnOk r P
on_ok (Ok x) h = h
on_ok (Err e) h = tt

-- a call is what the function that is called gives
made_by : (scope : Scope) (k : ℕ) (f : NameAt) (es : Exprs) (s : Span) (c : Callee) (m : Made) → c ≡ callee_of scope f.text
    → call_sort c es (sorts_of scope es) ≡ made_sort m → no_place ≡ made_place m
    → called_value c (k + count_all scope es + 1) es (values scope k es) ≡ made_value m → IsMade scope k (Node (Call f es) s) m
made_by scope k f es s c m callee sort_is place_is value_is =
    record {
      sort = ap (λ x. call_sort x es (sorts_of scope es)) (sym callee) ∙ sort_is;
      place = place_is;
      value = ap (λ x. called_value x (k + count_all scope es + 1) es (values scope k es)) (sym callee) ∙ value_is;
    }

-- a call of the library makes no call of its own
pub no_own_calls : (defined : List Defined) (scope : Scope) (k : ℕ) (f : NameAt) (es : Exprs) (c : Callee) (old new : List CallAt)
    → c ≡ callee_of scope f.text → own_call defined scope f es k (k + count_all scope es + 1) c ≡ [] → new ≡ old ++ calls_in_all defined scope k es
    → new ≡ old ++ calls_in_kind defined scope k (Call f es)
no_own_calls defined scope k f es c old new callee none made =
    made ∙ ap (λ ss. old ++ ss) (sym (append-nil (calls_in_all defined scope k es)))
    ∙ ap (λ ss. old ++ (calls_in_all defined scope k es ++ ss)) (sym none)
    ∙ ap (λ x. old ++ (calls_in_all defined scope k es ++ own_call defined scope f es k (k + count_all scope es + 1) x)) callee

pub no_own_count : (scope : Scope) (k n : ℕ) (f : NameAt) (es : Exprs) (c : Callee) → c ≡ callee_of scope f.text → own_count c ≡ 0
    → n ≡ k + count_all scope es → n ≡ k + count_kind scope (Call f es)
no_own_count scope k n f es c callee none made =
    let own : own_count c ≡ own_count (callee_of scope f.text) = ap own_count callee in
    let all : count_kind scope (Call f es) ≡ count_all scope es + own_count (callee_of scope f.text) = refl in omega arith

-- `getchar`
pub input_made : (scope : Scope) (k : ℕ) (f : NameAt) (es : Exprs) (s : Span) (m : Made) → getchar_function ≡ callee_of scope f.text
    → FineKind scope false (Call f es) → made_sort m ≡ a_value Int → made_place m ≡ no_place → made_value m ≡ input_byte
    → IsMade scope k (Node (Call f es) s) m
input_made scope k f es s m callee fine sort_is place_is value_is =
    let none : es ≡ NoExprs = input_fits scope (callee_of scope f.text) es (sym callee) fine in
    made_by scope k f es s getchar_function m callee (ap (λ xs. call_sort getchar_function xs (sorts_of scope xs)) none ∙ sym sort_is) (sym place_is)
    (sym value_is)

pub input_calls : (defined : List Defined) (scope : Scope) (k : ℕ) (f : NameAt) (es : Exprs) (old : List CallAt) → getchar_function ≡ callee_of scope f.text
    → FineKind scope false (Call f es) → old ≡ old ++ calls_in_kind defined scope k (Call f es)
input_calls defined scope k f es old callee fine =
    let none : es ≡ NoExprs = input_fits scope (callee_of scope f.text) es (sym callee) fine in
    no_own_calls defined scope k f es getchar_function old old callee refl
    (sym (append-nil old) ∙ ap (λ xs. old ++ calls_in_all defined scope k xs) (sym none))

pub input_count : (scope : Scope) (k : ℕ) (f : NameAt) (es : Exprs) → getchar_function ≡ callee_of scope f.text → FineKind scope false (Call f es)
    → k ≡ k + count_kind scope (Call f es)
input_count scope k f es callee fine =
    let none : es ≡ NoExprs = input_fits scope (callee_of scope f.text) es (sym callee) fine in
    let zero : count_all scope es ≡ 0 = ap (count_all scope) none in
    no_own_count scope k k f es getchar_function callee refl (omega arith)

-- `putchar`
pub output_made : (scope : Scope) (k : ℕ) (f : NameAt) (es : Exprs) (s : Span) (m : Made) (vs : List NamedExpr)
    → putchar_function ≡ callee_of scope f.text → FineKind scope false (Call f es) → vs ≡ value_list scope k es → made_sort m ≡ a_value Int
    → made_place m ≡ no_place → made_value m ≡ output_byte (first_value (exprs_of vs)) → IsMade scope k (Node (Call f es) s) m
output_made scope k f es s m vs callee fine made sort_is place_is value_is =
    let args : FineArgs scope (number_type Int ∷ []) es = one_of scope (callee_of scope f.text) es (sym callee) fine in
    let taken = (fits scope (number_type Int ∷ []) es args).taken in
    made_by scope k f es s putchar_function m callee
    (sort_holds (take_all (number_type Int ∷ []) (sorts_of scope es)) (a_value Int) taken ∙ sym sort_is) (sym place_is)
    (ap (λ xs. output_byte (first_value xs)) (values_are scope k es ∙ ap exprs_of (sym made)) ∙ sym value_is)

-- one argument has one value
value_count : (scope : Scope) (k : ℕ) (args : List CodeExpr) → length (value_list scope k (trees args)) ≡ length args
value_count scope k [] = refl
value_count scope k (e ∷ es) = let rest = value_count scope (k + count scope (expr_tree e)) es in omega arith

pub one_value : {X : Type 0} (g : X → NamedExpr) (scope : Scope) (k : ℕ) (args : List CodeExpr) (vs : List X)
    → map g vs ≡ value_list scope k (trees args) → length args ≡ 1 → length vs ≡ 1
one_value g scope k args vs made h =
    let all : length (map g vs) ≡ length (value_list scope k (trees args)) = ap length made in
    omega (arith, length-map vs g, value_count scope k args)

-- a string makes no calls
record IsSilent (defined : List Defined) (scope : Scope) (e : Expr) : Type 0 where
  counted : count scope e ≡ 0
  none : (k : ℕ) → calls_in defined scope k e ≡ []

silent : (defined : List Defined) (scope : Scope) (e : Expr) → IsTrue (is_some (literal_of e)) → IsSilent defined scope e
silent defined scope (Node (Text t) s) h = record { counted = refl; none = λ k. refl }
silent defined scope (Node (Paren e) s) h = let x = silent defined scope e h in record { counted = x.counted; none = x.none }
silent defined scope (Node (Number n u) s) h = absurd (cc)
silent defined scope (Node (Char b) s) h = absurd (cc)
silent defined scope (Node (Named x) s) h = absurd (cc)
silent defined scope (Node (Unary o e) s) h = absurd (cc)
silent defined scope (Node (Cast t e) s) h = absurd (cc)
silent defined scope (Node (Step o e) s) h = absurd (cc)
silent defined scope (Node (Binary o a b) s) h = absurd (cc)
silent defined scope (Node (And a b) s) h = absurd (cc)
silent defined scope (Node (Or a b) s) h = absurd (cc)
silent defined scope (Node (Choose c a b) s) h = absurd (cc)
silent defined scope (Node (Assign o a b) s) h = absurd (cc)
silent defined scope (Node (Call f args) s) h = absurd (cc)
silent defined scope (Node (Index a i) s) h = absurd (cc)
silent defined scope (Node (Member a m) s) h = absurd (cc)

has_literal : (l : Option Literal) (rest : Exprs) → IsTrue (is_format l rest) → IsTrue (is_some l)
has_literal None rest h = absurd (cc)
has_literal (Some l) rest h = refl

-- what stands behind the format of a `printf` is all that it evaluates
record IsBehind (defined : List Defined) (scope : Scope) (k : ℕ) (args : List CodeExpr) : Type 0 where
  sort_is : call_sort printf_function (trees args) (sorts_of scope (trees args)) ≡ a_value Int
  values_is : later_values (values scope k (trees args)) ≡ exprs_of (value_list scope k (trees (drop 1 args)))
  calls_is : calls_in_all defined scope k (trees args) ≡ calls_in_all defined scope k (trees (drop 1 args))
  counted : count_all scope (trees args) ≡ count_all scope (trees (drop 1 args))

behind : (defined : List Defined) (scope : Scope) (k : ℕ) (args : List CodeExpr) → FinePrint scope (trees args) → IsBehind defined scope k args
behind defined scope k [] h = absurd h
behind defined scope k (e ∷ rest) h =
    let x = silent defined scope (expr_tree e) (has_literal (literal_of (expr_tree e)) (trees rest) h.0) in
    let counted : count scope (expr_tree e) ≡ 0 = x.counted in
    let same : k + count scope (expr_tree e) ≡ k = omega arith in
    let fits = both (is_format (literal_of (expr_tree e)) (trees rest)) (are_numbers (sorts_of scope (trees rest))) h.0 (are_all_numbers scope (trees rest) h.1) in
    record {
      sort_is = sort_holds (is_format (literal_of (expr_tree e)) (trees rest) && are_numbers (sorts_of scope (trees rest))) (a_value Int) fits;
      values_is = ap (λ j. values scope j (trees rest)) same ∙ values_are scope k (trees rest);
      calls_is = ap (λ ss. ss ++ calls_in_all defined scope (k + count scope (expr_tree e)) (trees rest)) (x.none k)
          ∙ ap (λ j. calls_in_all defined scope j (trees rest)) same;
      counted = omega arith;
    }

-- `printf`
pub printed_made : (defined : List Defined) (scope : Scope) (k : ℕ) (f : NameAt) (args : List CodeExpr) (s : Span) (m : Made) (ps : List Piece) (vs : List NamedExpr)
    → printf_function ≡ callee_of scope f.text → FineKind scope false (Call f (trees args)) → ps ≡ format_of (trees args)
    → vs ≡ value_list scope k (trees (drop 1 args)) → made_sort m ≡ a_value Int → made_place m ≡ no_place
    → made_value m ≡ formatted ps (exprs_of vs) → IsMade scope k (Node (Call f (trees args)) s) m
printed_made defined scope k f args s m ps vs callee fine pieces made sort_is place_is value_is =
    let b = behind defined scope k args (print_fits scope (callee_of scope f.text) (trees args) (sym callee) fine) in
    made_by scope k f (trees args) s printf_function m callee (b.sort_is ∙ sym sort_is) (sym place_is)
    (ap (λ xs. formatted (format_of (trees args)) xs) (b.values_is ∙ ap exprs_of (sym made)) ∙ ap (λ xs. formatted xs (exprs_of vs)) (sym pieces) ∙ sym value_is)

pub printed_calls : (defined : List Defined) (scope : Scope) (k : ℕ) (f : NameAt) (args : List CodeExpr) (old new : List CallAt)
    → printf_function ≡ callee_of scope f.text → FineKind scope false (Call f (trees args))
    → new ≡ old ++ calls_in_all defined scope k (trees (drop 1 args)) → new ≡ old ++ calls_in_kind defined scope k (Call f (trees args))
printed_calls defined scope k f args old new callee fine made =
    let b = behind defined scope k args (print_fits scope (callee_of scope f.text) (trees args) (sym callee) fine) in
    no_own_calls defined scope k f (trees args) printf_function old new callee refl (made ∙ ap (λ ss. old ++ ss) (sym b.calls_is))

pub printed_count : (defined : List Defined) (scope : Scope) (k n : ℕ) (f : NameAt) (args : List CodeExpr) → printf_function ≡ callee_of scope f.text
    → FineKind scope false (Call f (trees args)) → n ≡ k + count_all scope (trees (drop 1 args)) → n ≡ k + count_kind scope (Call f (trees args))
printed_count defined scope k n f args callee fine made =
    let b = behind defined scope k args (print_fits scope (callee_of scope f.text) (trees args) (sym callee) fine) in
    no_own_count scope k n f (trees args) printf_function callee refl (made ∙ ap (λ j. k + j) (sym b.counted))
