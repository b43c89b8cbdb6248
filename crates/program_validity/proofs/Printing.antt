-- Formats, and the values that they ask for.
use Rattle.std.proofs.Common.{◌≡◌, ◌∙◌, refl, sym, ap, arith, ℕ, suc, ◌+◌, ◌≤◌, List, [], ◌∷◌, ◌++◌, Option, Some, None, Bool, true, false, IsTrue}
use Rattle.std.proofs.Common.{bytes_eq, codes, nat_eq, ◌==◌, ◌||◌, if◌then◌else◌, option_map, cond}
use Rattle.std.proofs.lemmas.Bool.Decides.{nat_tests}
use Rattle.std.proofs.lemmas.List.Sums.{sum_by-cons}
use Rattle.csub_tree.specs.Expressions.{Expr, Exprs, NoExprs, MoreExprs}
use Rattle.csub_objects.specs.Types.{Name}
use Rattle.csub_semantics.specs.declared.expression.Piece.{Piece}
use Rattle.csub_semantics.specs.declared.expression.Piece.TheVariants.{Byte, Signed, Plain, Letter}
use Rattle.csub_semantics.specs.Trees.{expr_count as row_count}
use Rattle.csub_semantics.specs.Formats.{conversion_count, is_conversion as is_converting}
use Rattle.csub_scopes.specs.Scopes.{Scope, Declared, Meaning, global_object, local_object, enum_constant, a_function, untyped, find}
use Rattle.csub_rules.specs.Library.{getchar, putchar, printf, exit, eof}
use Rattle.csub_rules.specs.Callees.{printf_function, callee_of, callee_by, callee_of_declared, callee_of_meaning}
use Rattle.csub_rules.specs.Formats as formats
use Rattle.csub_rules.specs.Formats.{Literal, literal_of, is_format, conversions, conversion, is_count}
use Rattle.csub_resolution.specs.Printed.{format_of, pieces, conversion_pieces, literal_pieces}
use Rattle.csub_resolution.specs.Values.{count, values}
use Rattle.csub_limits.specs.Prints.{printed, values_of, expr_count}
use Rattle.csub_validity.specs.Valid.{IsFormat, most_values}

-- ---- how many values each `printf` writes

abbrev pub Few : List ℕ → Type 0
Few [] = Unit {0}
Few (n ∷ ns) = (n ≤ most_values) × Few ns

pub few_left : (ms ns : List ℕ) → Few (ms ++ ns) → Few ms
few_left [] ns h = tt
few_left (m ∷ ms) ns h = (h.0, few_left ms ns h.1)

pub few_right : (ms ns : List ℕ) → Few (ms ++ ns) → Few ns
few_right [] ns h = h
few_right (m ∷ ms) ns h = few_right ms ns h.1

-- ---- formats

-- a format from a byte on, by what its rest has
first_byte : (b : ℕ) (rest : List ℕ) (m : ℕ) (x y : Bool) → (conversion rest ≡ Some m → conversion_count (conversion_pieces rest) ≡ m)
    → (conversions rest ≡ Some m → conversion_count (pieces rest) ≡ m)
    → (if x then Some 0 else (if y then conversion rest else conversions rest)) ≡ Some m
    → conversion_count (if x then [] else (if y then conversion_pieces rest else Byte b ∷ pieces rest)) ≡ m
first_byte b rest m true y p q h = let none : 0 ≡ m = cc in none
first_byte b rest m false true p q h = p h
first_byte b rest m false false p q h = q h

one_more : (o : Option ℕ) (m n : ℕ) → ((k : ℕ) → o ≡ Some k → n ≡ k) → option_map suc o ≡ Some m → suc n ≡ m
one_more None m n known h = absurd (cc)
one_more (Some k) m n known h = let e : suc k ≡ m = cc in ap suc (known k refl) ∙ e

abbrev weight : Bool → ℕ
weight b = cond b 1 0

weight_true : (b : Bool) → b ≡ true → weight b ≡ 1
weight_true true h = refl
weight_true false h = absurd (cc)

-- a conversion counts
more : (p : Piece) (ps : List Piece) → is_converting p ≡ true → conversion_count (p ∷ ps) ≡ suc (conversion_count ps)
more p ps h =
    let e : conversion_count (p ∷ ps) ≡ weight (is_converting p) + conversion_count ps = sum_by-cons (λ q. weight (is_converting q)) p ps in
    let one : weight (is_converting p) ≡ 1 = weight_true (is_converting p) h in
    omega arith

converted_byte : (b : ℕ) (rest : List ℕ) (m : ℕ) (x y z w : Bool) → ((n : ℕ) → conversions rest ≡ Some n → conversion_count (pieces rest) ≡ n)
    → (if x || y || z then option_map suc (conversions rest) else (if w then conversions rest else None)) ≡ Some m
    → conversion_count ((if x then Signed else (if y then Plain else (if z then Letter else Byte b))) ∷ pieces rest) ≡ m
converted_byte b rest m true y z w q h = more Signed (pieces rest) refl ∙ one_more (conversions rest) m (conversion_count (pieces rest)) q h
converted_byte b rest m false true z w q h = more Plain (pieces rest) refl ∙ one_more (conversions rest) m (conversion_count (pieces rest)) q h
converted_byte b rest m false false true w q h = more Letter (pieces rest) refl ∙ one_more (conversions rest) m (conversion_count (pieces rest)) q h
converted_byte b rest m false false false true q h = q m h
converted_byte b rest m false false false false q h = absurd (cc)

mutual
  counted : (bs : List ℕ) (m : ℕ) → conversions bs ≡ Some m → conversion_count (pieces bs) ≡ m
  counted [] m h = let none : 0 ≡ m = cc in none
  counted (b ∷ rest) m h = first_byte b rest m (b == 0) (b == 37) (λ e. counted_after rest m e) (λ e. counted rest m e) h

  counted_after : (bs : List ℕ) (m : ℕ) → conversion bs ≡ Some m → conversion_count (conversion_pieces bs) ≡ m
  counted_after [] m h = absurd (cc)
  counted_after (b ∷ rest) m h = converted_byte b rest m (b == 100) (b == 117) (b == 99) (b == 37) (λ n e. counted rest n e) h

-- ---- calls of `printf`

not_printf : (d : Option Declared) → callee_of_declared d ≡ printf_function → ⊥
not_printf None h = cc
not_printf (Some d) h = by d.means h
  where
    by : (m : Meaning) → callee_of_meaning m ≡ printf_function → ⊥
    by (global_object t) h = cc
    by (local_object k t) h = cc
    by (enum_constant v) h = cc
    by (a_function params result) h = cc
    by untyped h = cc

pub is_printed : (scope : Scope) (x : Name) → callee_of scope x ≡ printf_function → IsTrue (bytes_eq x (codes "printf"))
is_printed scope x h =
    by (bytes_eq x (codes "getchar")) (bytes_eq x (codes "putchar")) (bytes_eq x (codes "printf")) (bytes_eq x (codes "exit"))
    (bytes_eq x (codes "EOF")) (find x scope.names) h
  where
    by : (a b c d e : Bool) (o : Option Declared)
        → callee_by (if a then Some getchar else (if b then Some putchar else (if c then Some printf else (if d then Some exit else (if e then Some eof else None))))) o
        ≡ printf_function
        → IsTrue c
    by true b c d e o h = absurd (cc)
    by false true c d e o h = absurd (cc)
    by false false true d e o h = refl
    by false false false true e o h = absurd (cc)
    by false false false false true o h = absurd (cc)
    by false false false false false o h = absurd (not_printf o h)

same_count : (scope : Scope) (k : ℕ) (es : Exprs) → row_count (values scope k es) ≡ formats.count es
same_count scope k NoExprs = refl
same_count scope k (MoreExprs e rest) = let h = same_count scope (k + count scope e) rest in omega arith

limit_count : (es : Exprs) → formats.count es ≡ expr_count es
limit_count NoExprs = refl
limit_count (MoreExprs e rest) = let h = limit_count rest in omega arith

same_number : (m n : ℕ) → IsTrue (nat_eq m n) → m ≡ n
same_number m n h = grind (arith, nat_tests)

format_count : (l : Option Literal) (rest : Exprs) → IsTrue (is_format l rest) → conversion_count (literal_pieces l) ≡ formats.count rest
format_count None rest h = absurd (cc)
format_count (Some l) rest h = by (conversions l.bytes) refl h
  where
    by : (o : Option ℕ) → conversions l.bytes ≡ o → IsTrue (is_count (formats.count rest) o)
        → conversion_count (pieces l.bytes) ≡ formats.count rest
    by None e h = absurd (cc)
    by (Some m) e h = counted l.bytes m e ∙ same_number m (formats.count rest) h

few_values : (b : Bool) (a : Expr) (rest : Exprs) → IsTrue b → Few (if b then values_of (MoreExprs a rest) else []) → expr_count rest ≤ most_values
few_values true a rest p h = h.0
few_values false a rest p h = absurd (cc)

pub format_counts : (scope : Scope) (k : ℕ) (f : Name) (a : Expr) (rest : Exprs) → IsTrue (is_format (literal_of a) rest)
    → IsTrue (bytes_eq f (codes "printf")) → Few (printed f (MoreExprs a rest))
    → IsFormat (format_of (MoreExprs a rest)) (row_count (values scope k rest))
format_counts scope k f a rest h p few =
    let same = same_count scope k rest in
    let limit = limit_count rest in
    let most = few_values (bytes_eq f (codes "printf")) a rest p few in
    (format_count (literal_of a) rest h ∙ sym same, omega arith)
