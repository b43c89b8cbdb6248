-- An expression without a fault can be resolved, and has a sort where it is an operand.
use Rattle.std.proofs.Common.{◌≡◌, Option, None, Some, refl, IsTrue, ◌&&◌, if◌then◌else◌}
use Rattle.csub_tree.specs.Expressions.{Expr, Exprs, Node, Number, Char, Text, Named, Paren, Unary, Cast, Step, Binary, And, Or}
use Rattle.csub_tree.specs.Expressions.{Choose, Assign, Call, Index, Member, NoExprs, MoreExprs}
use Rattle.csub_scopes.specs.Scopes.{Scope, Declared, Meaning, global_object, local_object, enum_constant, a_function, untyped, find, is_typed, finds_type, HasTypes}
use Rattle.csub_rules.specs.Faults.{fault_if, ◌or_earlier◌}
use Rattle.csub_rules.specs.Sorts.{is_sorted, is_number, is_number_place, is_array, has_member, element_of}
use Rattle.csub_rules.specs.Library.{LibraryName, getchar, putchar, printf, exit, eof, library_name}
use Rattle.csub_rules.specs.Callees.{callee_of, is_printf, are_numbers}
use Rattle.csub_rules.specs.Formats.{is_literal}
use Rattle.csub_rules.specs.ExprSorts.{sort_of, sorts_of, sort_of_meaning, sort_by, is_value, is_value_by, is_value_name}
use Rattle.csub_rules.specs.ExprFaults.{Standing, later_operand, below, is_whole}
use Rattle.csub_rules.specs.ExprFaults.{lacks_number, lacks_array, lacks_member, number_fault, place_fault}
use Rattle.csub_rules.specs.ExprFaults.{fault, args_fault, numbers_fault, printf_fault, call_fault}
use Rattle.csub_rules.proofs.LawsEarlier.{neither, three_none, four_none, five_none, six_none}
use Rattle.csub_rules.proofs.LawsServed.{both, has, holds, valued, sorted, chosen}
use Rattle.csub_rules.proofs.LawsCalls.{Found, AllFound, NumbersFound, RestFound, is_part, number, place, call_found}

-- what is an object or a constant and has a type has a sort
value_sorted : (l : Option LibraryName) (d : Option Declared) → IsTrue (finds_type d) → IsTrue (is_value_by l d) → IsTrue (is_sorted (sort_by l d))
value_sorted None None t h = absurd (cc)
value_sorted None (Some d) t h = by d.means t h
  where
    by : (m : Meaning) → IsTrue (is_typed m) → IsTrue (is_value m) → IsTrue (is_sorted (sort_of_meaning m))
    by (global_object u) t h = refl
    by (local_object k u) t h = refl
    by (enum_constant v) t h = refl
    by (a_function params result) t h = absurd (cc)
    by untyped t h = absurd (cc)
value_sorted (Some getchar) d t h = absurd (cc)
value_sorted (Some putchar) d t h = absurd (cc)
value_sorted (Some printf) d t h = absurd (cc)
value_sorted (Some exit) d t h = absurd (cc)
value_sorted (Some eof) d t h = refl

module _ (scope : Scope) (types : HasTypes scope) where
  mutual
    pub found : (h : Standing) (e : Expr) → fault scope h e ≡ None → Found scope (is_whole h) e
    found h (Node (Number n u) s) p = record { fine = tt; has_sort = λ n. refl }
    found h (Node (Char b) s) p = record { fine = tt; has_sort = λ n. refl }
    found h (Node (Text t) s) p = absurd (cc)
    found h (Node (Named x) s) p =
        let q = value_sorted (library_name x.text) (find x.text scope.names) (types x.text) (holds (is_value_name scope x.text) 1 x.span p) in
        record { fine = q; has_sort = λ n. q }
    found h (Node (Paren a) s) p = let x = found h a p in record { fine = x.fine; has_sort = x.has_sort }
    found h (Node (Unary o a) s) p =
        let q = neither (fault scope (below h) a) (number_fault scope a) p in
        let x = is_part scope h a (found (below h) a q.0) in
        let m = number scope a x q.1 in
        record { fine = (x.fine, m); has_sort = λ n. valued (is_number (sort_of scope a)) _ m }
    found h (Node (Cast t a) s) p =
        let q = neither (fault scope (below h) a) (number_fault scope a) p in
        let x = is_part scope h a (found (below h) a q.0) in
        let m = number scope a x q.1 in
        record { fine = (x.fine, m); has_sort = λ n. valued (is_number (sort_of scope a)) _ m }
    found h (Node (Step o a) s) p =
        let q = three_none (fault scope (below h) a) (number_fault scope a) (place_fault scope a) p in
        let x = is_part scope h a (found (below h) a q.0) in
        let m = place scope a x q.2 in
        record { fine = (x.fine, m); has_sort = λ n. valued (is_number_place (sort_of scope a)) _ m }
    found h (Node (Binary o a b) s) p =
        let q = four_none (fault scope (below h) a) (fault scope (below h) b) (number_fault scope a) (number_fault scope b) p in
        let x = is_part scope h a (found (below h) a q.0) in
        let y = is_part scope h b (found (below h) b q.1) in
        let m = number scope a x q.2 in
        let k = number scope b y q.3 in
        let t = both (is_number (sort_of scope a)) (is_number (sort_of scope b)) m k in
        record { fine = (x.fine, y.fine, m, k); has_sort = λ n. valued (is_number (sort_of scope a) && is_number (sort_of scope b)) _ t }
    found h (Node (And a b) s) p =
        let q = four_none (fault scope (below h) a) (fault scope later_operand b) (number_fault scope a) (number_fault scope b) p in
        let x = is_part scope h a (found (below h) a q.0) in
        let y = found later_operand b q.1 in
        let m = number scope a x q.2 in
        let k = number scope b y q.3 in
        let t = both (is_number (sort_of scope a)) (is_number (sort_of scope b)) m k in
        record { fine = (x.fine, y.fine, m, k); has_sort = λ n. valued (is_number (sort_of scope a) && is_number (sort_of scope b)) _ t }
    found h (Node (Or a b) s) p =
        let q = four_none (fault scope (below h) a) (fault scope later_operand b) (number_fault scope a) (number_fault scope b) p in
        let x = is_part scope h a (found (below h) a q.0) in
        let y = found later_operand b q.1 in
        let m = number scope a x q.2 in
        let k = number scope b y q.3 in
        let t = both (is_number (sort_of scope a)) (is_number (sort_of scope b)) m k in
        record { fine = (x.fine, y.fine, m, k); has_sort = λ n. valued (is_number (sort_of scope a) && is_number (sort_of scope b)) _ t }
    found h (Node (Choose c a b) s) p =
        let q = six_none (fault scope (below h) c) (fault scope later_operand a) (fault scope later_operand b)
        (number_fault scope c) (number_fault scope a) (number_fault scope b) p in
        let x = is_part scope h c (found (below h) c q.0) in
        let y = found later_operand a q.1 in
        let z = found later_operand b q.2 in
        let m = number scope c x q.3 in
        let k = number scope a y q.4 in
        let l = number scope b z q.5 in
        let t = both (is_number (sort_of scope a)) (is_number (sort_of scope b)) k l in
        let u = both (is_number (sort_of scope c)) (is_number (sort_of scope a) && is_number (sort_of scope b)) m t in
        record {
          fine = (x.fine, y.fine, z.fine, m, k, l);
          has_sort = λ n. valued (is_number (sort_of scope c) && (is_number (sort_of scope a) && is_number (sort_of scope b))) _ u;
        }
    found h (Node (Assign o a b) s) p =
        let q = five_none (fault scope (below h) a) (fault scope (below h) b) (number_fault scope a) (place_fault scope a) (number_fault scope b) p in
        let x = is_part scope h a (found (below h) a q.0) in
        let y = is_part scope h b (found (below h) b q.1) in
        let m = place scope a x q.3 in
        let k = number scope b y q.4 in
        let t = both (is_number_place (sort_of scope a)) (is_number (sort_of scope b)) m k in
        record {
          fine = (x.fine, y.fine, m, k);
          has_sort = λ n. valued (is_number_place (sort_of scope a) && is_number (sort_of scope b)) _ t;
        }
    found h (Node (Call f args) s) p =
        let q = neither (call_fault h f.span (callee_of scope f.text) args (sorts_of scope args))
        (if is_printf (callee_of scope f.text) then printf_fault scope (below h) args else args_fault scope (below h) args) p in
        let r = chosen (is_printf (callee_of scope f.text)) (printf_fault scope (below h) args) (args_fault scope (below h) args) q.1 in
        let x = call_found scope h f.span (callee_of scope f.text) args (λ y. found_args h args (r.1 y)) (λ y. found_print h args (r.0 y)) q.0 in
        record { fine = x.fine; has_sort = x.has_sort }
    found h (Node (Index a i) s) p =
        let q = four_none (fault scope (below h) a) (fault scope (below h) i) (fault_if (lacks_array (sort_of scope a)) 6 s)
        (fault_if (lacks_number (sort_of scope i)) 6 s) p in
        let x = is_part scope h a (found (below h) a q.0) in
        let y = is_part scope h i (found (below h) i q.1) in
        let m = has (sort_of scope a) (is_array (sort_of scope a)) 6 s (x.has_sort refl) q.2 in
        let k = has (sort_of scope i) (is_number (sort_of scope i)) 6 s (y.has_sort refl) q.3 in
        record { fine = (x.fine, y.fine, m, k); has_sort = λ n. sorted (is_number (sort_of scope i)) (element_of (sort_of scope a)) k m }
    found h (Node (Member a f) s) p =
        let q = neither (fault scope (below h) a) (fault_if (lacks_member f.text (sort_of scope a)) 5 f.span) p in
        let x = is_part scope h a (found (below h) a q.0) in
        let m = has (sort_of scope a) (has_member f.text (sort_of scope a)) 5 f.span (x.has_sort refl) q.1 in
        record { fine = (x.fine, m); has_sort = λ n. m }

    found_args : (h : Standing) (args : Exprs) → args_fault scope (below h) args ≡ None → AllFound scope args
    found_args h NoExprs p = tt
    found_args h (MoreExprs e rest) p =
        let q = neither (fault scope (below h) e) (args_fault scope (below h) rest) p in
        (is_part scope h e (found (below h) e q.0), found_args h rest q.1)

    found_numbers : (h : Standing) (args : Exprs) → numbers_fault scope (below h) args ≡ None → NumbersFound scope args
    found_numbers h NoExprs p = record { fine = tt; numbers = refl }
    found_numbers h (MoreExprs e rest) p =
        let q = three_none (fault scope (below h) e) (number_fault scope e) (numbers_fault scope (below h) rest) p in
        let x = is_part scope h e (found (below h) e q.0) in
        let m = number scope e x q.1 in
        let y = found_numbers h rest q.2 in
        record { fine = (x.fine, m, y.fine); numbers = both (is_number (sort_of scope e)) (are_numbers (sorts_of scope rest)) m y.numbers }

    found_print : (h : Standing) (args : Exprs) → printf_fault scope (below h) args ≡ None → RestFound scope args
    found_print h NoExprs p = tt
    found_print h (MoreExprs e rest) p =
        let q = neither (if is_literal e then None else (fault scope (below h) e or_earlier number_fault scope e))
        (numbers_fault scope (below h) rest) p in
        found_numbers h rest q.1
