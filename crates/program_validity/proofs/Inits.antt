-- Initialisers that break no rule are those of valid programs.
use Rattle.std.proofs.Common.{◌≡◌, refl, arith, ℕ, ◌+◌, List, length, length-append}
use Rattle.std.proofs.Common.{Option, Some, None, false, IsTrue, is_some}
use Rattle.csub_tree.specs.Expressions.{Expr}
use Rattle.csub_tree.specs.Declarations.{Init, Inits, One, Listed, NoInits, MoreInits}
use Rattle.csub_objects.specs.Types.{TypeTree, number_type, array_type, struct_type, loose_type, IsNumber}
use Rattle.csub_objects.specs.Parts.{part_type, has_parts}
use Rattle.csub_semantics.specs.Syntax.{FunctionTree, ProgramTree}
use Rattle.csub_scopes.specs.Scopes.{Scope}
use Rattle.csub_rules.specs.Sorts.{kind_of_type}
use Rattle.csub_rules.specs.ExprSorts.{sort_of}
use Rattle.csub_rules.specs.BrokenInit.{FineInit, FineEntries, FineValue}
use Rattle.csub_resolution.specs.Values.{Defined, count, calls_in, place, value}
use Rattle.csub_resolution.specs.Contents.{init_count, inits_count, init_value, init_values, init_calls, inits_calls}
use Rattle.csub_limits.specs.Prints.{prints, init_prints, inits_prints}
use Rattle.csub_validity.specs.Valid as valid
use Rattle.csub_validity.specs.Valid.{IsInit, AreInits, IsExpr}
use Rattle.program_validity.specs.Written.{WrittenExpr, WrittenInit, WrittenInits, has_entry}
use Rattle.program_validity.proofs.Counted.{call_temps, calls_length, temps_append, full, number_given}
use Rattle.program_validity.proofs.Agreeing.{Agrees}
use Rattle.program_validity.proofs.Expressions.{numeric, made, Given, given_left, given_right}
use Rattle.program_validity.proofs.Calls.{CanCall, AreCallsFrom, Room, room_left, room_right, join_calls, calls_made}

-- ---- how many calls there are, each with a result

module _ (defined : List Defined) (scope : Scope) where
  mutual
    pub init_length : (k : ℕ) (x : Init) → length (init_calls defined scope k x) ≡ init_count scope x
    init_length k (One e) = calls_length defined scope k e
    init_length k (Listed xs s) = inits_length k xs

    pub inits_length : (k : ℕ) (xs : Inits) → length (inits_calls defined scope k xs) ≡ inits_count scope xs
    inits_length k NoInits = refl
    inits_length k (MoreInits x rest) =
        let p = init_length k x in
        let q = inits_length (k + init_count scope x) rest in
        let sum = length-append (init_calls defined scope k x) (inits_calls defined scope (k + init_count scope x) rest) in
        omega arith

  value_full : (k : ℕ) (o : Option TypeTree) (e : Expr) → FineValue scope false o e → call_temps (calls_in defined scope k e) ≡ count scope e
  value_full k None e h = absurd h
  value_full k (Some t) e h = full defined scope false k e h.0 (number_given (sort_of scope e) h.1)

  mutual
    init_full : (k : ℕ) (o : Option TypeTree) (x : Init) → FineInit scope false o x → call_temps (init_calls defined scope k x) ≡ init_count scope x
    init_full k o (One e) h = value_full k o e h
    init_full k None (Listed xs s) h = absurd h
    init_full k (Some t) (Listed xs s) h = inits_full k t 0 xs h

    inits_full : (k : ℕ) (t : TypeTree) (i : ℕ) (xs : Inits) → FineEntries scope false t i xs
        → call_temps (inits_calls defined scope k xs) ≡ inits_count scope xs
    inits_full k t i NoInits h = refl
    inits_full k t i (MoreInits x rest) h =
        let p = init_full k (part_type t i) x h.1 in
        let q = inits_full (k + init_count scope x) t (i + 1) rest h.2 in
        let sum = temps_append (init_calls defined scope k x) (inits_calls defined scope (k + init_count scope x) rest) in
        omega arith

-- ---- initialisers

number_type_of : (t : TypeTree) → IsTrue (is_some (kind_of_type t)) → IsNumber t
number_type_of (number_type k) h = tt
number_type_of (array_type t n) h = absurd (cc)
number_type_of (struct_type tag ms) h = absurd (cc)
number_type_of (loose_type t) h = absurd (cc)

-- what has a part has parts
parted : (t : TypeTree) (i : ℕ) → IsTrue (is_some (part_type t i)) → IsTrue (has_parts t)
parted (number_type k) i h = absurd (cc)
parted (array_type t n) i h = refl
parted (struct_type tag ms) i h = refl
parted (loose_type t) i h = absurd (cc)

module _ (defined : List Defined) (scope : Scope) (sc : valid.Scope) (agrees : Agrees sc.globals sc.objects scope) where
  whole : (t : TypeTree) (xs : Inits) → IsTrue (has_entry xs) → FineEntries scope false t 0 xs → IsTrue (has_parts t)
  whole t NoInits e h = absurd (cc)
  whole t (MoreInits x rest) e h = parted t 0 h.0

  module _ (number : ℕ) where
    one_made : (k : ℕ) (o : Option TypeTree) (e : Expr) → FineValue scope false o e → WrittenExpr e
        → Given sc number k (count scope e) (prints e) (calls_in defined scope k e) → IsInit sc number o (init_value scope k (One e))
    one_made k None e h x g = absurd h
    one_made k (Some t) e h x g =
        (number_type_of t h.3, (numeric sc number (sort_of scope e) (place scope k e) (value scope k e) h.1 (made defined scope sc agrees number false k e h.0 x g)).valid)

    mutual
      pub init_made : (k : ℕ) (o : Option TypeTree) (x : Init) → FineInit scope false o x → WrittenInit x
          → Given sc number k (init_count scope x) (init_prints x) (init_calls defined scope k x) → IsInit sc number o (init_value scope k x)
      init_made k o (One e) h x g = one_made k o e h x g
      init_made k None (Listed xs s) h x g = absurd h
      init_made k (Some t) (Listed xs s) h x g = (whole t xs x.0 h, inits_made k t 0 xs h x.1 g)

      inits_made : (k : ℕ) (t : TypeTree) (i : ℕ) (xs : Inits) → FineEntries scope false t i xs → WrittenInits xs
          → Given sc number k (inits_count scope xs) (inits_prints xs) (inits_calls defined scope k xs)
          → AreInits sc number (Some t) i (init_values scope k xs)
      inits_made k t i NoInits h x g = tt
      inits_made k t i (MoreInits y rest) h x g = (
        init_made k (part_type t i) y h.1 x.0 (given_left sc number k (init_count scope y) (inits_count scope rest) (init_prints y) (inits_prints rest) (init_calls defined scope k y) (inits_calls defined scope (k + init_count scope y) rest) g),
        inits_made (k + init_count scope y) t (i + 1) rest h.2 x.1
            (given_right sc number k (init_count scope y) (inits_count scope rest) (init_prints y) (inits_prints rest) (init_calls defined scope k y) (inits_calls defined scope (k + init_count scope y) rest)
            (init_length defined scope k y) g),
      )

  module _ (P : ProgramTree) (f : FunctionTree) (can : CanCall P defined scope) where
    one_calls : (k : ℕ) (o : Option TypeTree) (e : Expr) → FineValue scope false o e → WrittenExpr e
        → Room P f sc k (prints e) (calls_in defined scope k e) → AreCallsFrom P f sc k (calls_in defined scope k e)
    one_calls k None e h x r = absurd h
    one_calls k (Some t) e h x r = calls_made P f sc defined scope agrees can false k e h.0 x r

    mutual
      pub init_calls_made : (k : ℕ) (o : Option TypeTree) (x : Init) → FineInit scope false o x → WrittenInit x
          → Room P f sc k (init_prints x) (init_calls defined scope k x) → AreCallsFrom P f sc k (init_calls defined scope k x)
      init_calls_made k o (One e) h x r = one_calls k o e h x r
      init_calls_made k None (Listed xs s) h x r = absurd h
      init_calls_made k (Some t) (Listed xs s) h x r = inits_calls_made k t 0 xs h x.1 r

      inits_calls_made : (k : ℕ) (t : TypeTree) (i : ℕ) (xs : Inits) → FineEntries scope false t i xs → WrittenInits xs
          → Room P f sc k (inits_prints xs) (inits_calls defined scope k xs) → AreCallsFrom P f sc k (inits_calls defined scope k xs)
      inits_calls_made k t i NoInits h x r = tt
      inits_calls_made k t i (MoreInits y rest) h x r =
          join_calls P f sc k (init_count scope y) (init_calls defined scope k y) (inits_calls defined scope (k + init_count scope y) rest) (init_length defined scope k y)
          (init_calls_made k (part_type t i) y h.1 x.0 (room_left P f sc k (init_prints y) (inits_prints rest) (init_calls defined scope k y) (inits_calls defined scope (k + init_count scope y) rest) r))
          (inits_calls_made (k + init_count scope y) t (i + 1) rest h.2 x.1
          (room_right P f sc k (init_count scope y) (init_prints y) (inits_prints rest) (init_calls defined scope k y) (inits_calls defined scope (k + init_count scope y) rest)
          (init_length defined scope k y) (init_full defined scope k (part_type t i) y h.1) r))
