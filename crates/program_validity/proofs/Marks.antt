-- The labels of a function are those of its source.
use Rattle.std.proofs.Common.{◌≡◌, ◌≢◌, ◌∙◌, refl, sym, ap, arith, ℕ, ◌+◌, List, [], ◌∷◌, ◌++◌, map, AllPairs, All}
use Rattle.std.proofs.Common.{Option, Bool, true, false, IsTrue, not, ◌||◌, bytes_eq}
use Rattle.std.specs.List.{list_any}
use Rattle.std.proofs.lemmas.List.{map-append}
use Rattle.std.proofs.lemmas.List.Elements.{All-nil, All-cons}
use Rattle.std.proofs.lemmas.List.Kept.{AllPairs-cons}
use Rattle.std.proofs.lemmas.Slice.Eq.{bytes_eq-Decides}
use Rattle.csub_types.specs.declared.kind.IntKind.{IntKind}
use Rattle.csub_types.specs.declared.kind.IntKind.TheVariants.{Int}
use Rattle.csub_tree.specs.declared.name.Name.{Name as NameAt}
use Rattle.csub_tree.specs.Statements.{Stmt, Perhaps, Stmts, Line, Declared, Eval, Empty, Block, If, While, Do, For, Switch}
use Rattle.csub_tree.specs.Statements.{Case, Default, Break, Continue, Goto, Label, Return, NoStmt, OneStmt, NoStmts, MoreStmts}
use Rattle.csub_objects.specs.Types.{Name}
use Rattle.csub_semantics.specs.Syntax.{StmtTrees}
use Rattle.csub_semantics.specs.Successors.{Around, Mark, marks, marks_list, marks_else, in_while, in_for, switching, leaving, enter_list}
use Rattle.csub_rules.specs.Here.{Here, entering}
use Rattle.csub_rules.specs.Past.{past, past_perhaps}
use Rattle.csub_rules.specs.CaseLabels.{switch_kind}
use Rattle.csub_rules.specs.Labels.{labels_of, labels_of_perhaps, labels_of_lines, past_names, stands_in, NamesDiffer}
use Rattle.csub_resolution.specs.Values.{Defined}
use Rattle.csub_resolution.specs.Lines.{line, lines, other_line, test_part, for_test, third_parts, first_parts}
use Rattle.program_validity.specs.Written.{WrittenStmt, WrittenElse, WrittenFirst, WrittenLines}

abbrev pub texts : List NameAt → List Name
texts xs = map (λ (x : NameAt). x.text) xs

-- a declaration and an expression have no labels
first_none : (b : Perhaps) → WrittenFirst b → labels_of_perhaps b ≡ []
first_none NoStmt w = refl
first_none (OneStmt (Line (Declared d) s)) w = refl
first_none (OneStmt (Line (Eval e) s)) w = refl
first_none (OneStmt (Line Empty s)) w = absurd w
first_none (OneStmt (Line (Block ss) s)) w = absurd w
first_none (OneStmt (Line (If e a b) s)) w = absurd w
first_none (OneStmt (Line (While e a) s)) w = absurd w
first_none (OneStmt (Line (Do a e) s)) w = absurd w
first_none (OneStmt (Line (For b e f a) s)) w = absurd w
first_none (OneStmt (Line (Switch e ss) s)) w = absurd w
first_none (OneStmt (Line (Case e) s)) w = absurd w
first_none (OneStmt (Line Default s)) w = absurd w
first_none (OneStmt (Line Break s)) w = absurd w
first_none (OneStmt (Line Continue s)) w = absurd w
first_none (OneStmt (Line (Goto x) s)) w = absurd w
first_none (OneStmt (Line (Label x a) s)) w = absurd w
first_none (OneStmt (Line (Return e) s)) w = absurd w

module _ {X : Type 0} where
  abbrev pub names : List (Mark X) → List Name
  names ms = map (λ (m : Mark X). m.name) ms

  both : (ms ns : List (Mark X)) (xs ys : List NameAt) → names ms ≡ texts xs → names ns ≡ texts ys → names (ms ++ ns) ≡ texts (xs ++ ys)
  both ms ns xs ys p q =
      map-append (λ (m : Mark X). m.name) ms ns ∙ ap (λ a. a ++ names ns) p ∙ ap (λ a. texts xs ++ a) q
      ∙ sym (map-append (λ (x : NameAt). x.text) xs ys)

  module _ (defined : List Defined) (result : Option IntKind) where
    mutual
      marked : (w : Bool) (kind : IntKind) (here : Here) (a : Stmt) (name : List ℕ → ℕ → ℕ → X) (around : Around X) → WrittenStmt w a
          → names (marks (line defined result kind here a) name around) ≡ texts (labels_of a)
      marked w kind here (Line (Declared d) s) name around x = refl
      marked w kind here (Line (Eval e) s) name around x = refl
      marked w kind here (Line Empty s) name around x = refl
      marked w kind here (Line (Block ss) s) name around x = marked_lines false Int (entering here) ss 0 name around x
      marked w kind here (Line (If e a b) s) name around x =
          both (marks (line defined result Int here a) (λ q. name (0 ∷ q)) around)
          (marks_else (other_line defined result (past here a) b) (λ q. name (1 ∷ q)) around) (labels_of a) (labels_of_perhaps b)
          (marked false Int here a (λ q. name (0 ∷ q)) around x.1) (marked_else (past here a) b (λ q. name (1 ∷ q)) around x.2)
      marked w kind here (Line (While e a) s) name around x =
          marked false Int here a (λ q. name (0 ∷ q)) (in_while (test_part defined here.scope e) name around) x.1
      marked w kind here (Line (Do a e) s) name around x =
          marked false Int here a (λ q. name (0 ∷ q)) (in_while (test_part defined here.scope e) name around) x.0
      marked w kind here (Line (For b e f a) s) name around x =
          let inside : Here = past_perhaps (entering here) b in
          marked false Int inside a (λ q. name (0 ∷ q))
          (in_for (first_parts defined result (entering here) b) (for_test defined inside.scope s e) (third_parts defined inside.scope f) name around) x.3
          ∙ sym (ap (λ xs. texts (xs ++ labels_of a)) (first_none b x.0))
      marked w kind here (Line (Switch e ss) s) name around x = marked_lines true (switch_kind here.scope e) (entering here) ss 0 name (switching around) x.1
      marked w kind here (Line (Case e) s) name around x = refl
      marked w kind here (Line Default s) name around x = refl
      marked w kind here (Line Break s) name around x = refl
      marked w kind here (Line Continue s) name around x = refl
      marked w kind here (Line (Goto y) s) name around x = refl
      marked w kind here (Line (Label y a) s) name around x = ap (λ xs. y.text ∷ xs) (marked false Int here a (λ q. name (0 ∷ q)) around x)
      marked w kind here (Line (Return e) s) name around x = refl

      marked_else : (here : Here) (b : Perhaps) (name : List ℕ → ℕ → ℕ → X) (around : Around X) → WrittenElse b
          → names (marks_else (other_line defined result here b) name around) ≡ texts (labels_of_perhaps b)
      marked_else here NoStmt name around x = refl
      marked_else here (OneStmt a) name around x = marked false Int here a name around x

      pub marked_lines : (w : Bool) (kind : IntKind) (here : Here) (ss : Stmts) (i : ℕ) (name : List ℕ → ℕ → ℕ → X) (around : Around X)
          → WrittenLines w ss → names (marks_list (lines defined result kind here ss) i name around) ≡ texts (labels_of_lines ss)
      marked_lines w kind here NoStmts i name around x = refl
      marked_lines w kind here (MoreStmts a rest) i name around x =
          let more : StmtTrees = lines defined result kind (past here a) rest in
          let out : Around X = leaving (enter_list more (i + 1) name around) around in
          both (marks (line defined result kind here a) (λ q. name (i ∷ q)) out) (marks_list more (i + 1) name around) (labels_of a) (labels_of_lines rest)
          (marked w kind here a (λ q. name (i ∷ q)) out x.0) (marked_lines w kind (past here a) rest (i + 1) name around x.1)

-- ---- labels that a `goto` may name

regroup : (a b c : Bool) → IsTrue (b || (a || c)) → IsTrue ((a || b) || c)
regroup true b c h = refl
regroup false true c h = refl
regroup false false c h = h

-- what stands among names past others stands among those, or among the others
any_past : (p : Name → Bool) (seen : List Name) (xs : List NameAt) → IsTrue (list_any p (past_names seen xs))
    → IsTrue (list_any p (texts xs) || list_any p seen)
any_past p seen [] h = h
any_past p seen (x ∷ rest) h = regroup (p x.text) (list_any p (texts rest)) (list_any p seen) (any_past p (x.text ∷ seen) rest h)

or_none : (a : Bool) → IsTrue (a || false) → IsTrue a
or_none true h = refl
or_none false h = absurd (cc)

pub label_stands : (x : Name) (xs : List NameAt) → IsTrue (list_any (λ l. bytes_eq l x) (past_names [] xs)) → IsTrue (list_any (λ l. bytes_eq l x) (texts xs))
label_stands x xs h = or_none (list_any (λ l. bytes_eq l x) (texts xs)) (any_past (λ l. bytes_eq l x) [] xs h)

-- ---- labels that differ

differs_or : (a b : Bool) → IsTrue (not (a || b)) → IsTrue (not a) × IsTrue (not b)
differs_or true b h = absurd (cc)
differs_or false b h = (refl, h)

apart_of : (x y : Name) (b : Bool) → bytes_eq x y ≡ b → IsTrue (not b) → x ≢ y
apart_of x y true e h p = cc
apart_of x y false e h p = let same = (bytes_eq-Decides x y).1 p in cc

swapped : (a b c : Bool) → IsTrue (not (a || (b || c))) → IsTrue (not (b || (a || c)))
swapped true b c h = absurd (cc)
swapped false true c h = absurd (cc)
swapped false false c h = h

under : (a b c : Bool) → (IsTrue (not b) → IsTrue (not c)) → IsTrue (not (a || b)) → IsTrue (not (a || c))
under true b c rest h = absurd (cc)
under false b c rest h = rest h

-- the order of what is seen doesn't matter
still_new : (before : List Name) (a b z : Name) (seen : List Name) → IsTrue (not (stands_in z (before ++ a ∷ b ∷ seen)))
    → IsTrue (not (stands_in z (before ++ b ∷ a ∷ seen)))
still_new [] a b z seen h = swapped (bytes_eq a z) (bytes_eq b z) (stands_in z seen) h
still_new (c ∷ before) a b z seen h =
    under (bytes_eq c z) (stands_in z (before ++ a ∷ b ∷ seen)) (stands_in z (before ++ b ∷ a ∷ seen)) (λ e. still_new before a b z seen e) h

exchanged : (before : List Name) (a b : Name) (seen : List Name) (xs : List NameAt) → NamesDiffer (before ++ a ∷ b ∷ seen) xs
    → NamesDiffer (before ++ b ∷ a ∷ seen) xs
exchanged before a b seen [] h = tt
exchanged before a b seen (z ∷ zs) h = (still_new before a b z.text seen h.0, exchanged (z.text ∷ before) a b seen zs h.1)

-- each name is none of those that are seen
others : (x : Name) (seen : List Name) (xs : List NameAt) → NamesDiffer (x ∷ seen) xs → All (λ y. x ≢ y) (texts xs)
others x seen [] h = All-nil (λ y. x ≢ y)
others x seen (y ∷ rest) h =
    All-cons (λ z. x ≢ z) y.text (texts rest)
    (apart_of x y.text (bytes_eq x y.text) refl (differs_or (bytes_eq x y.text) (stands_in y.text seen) h.0).0)
    (others x (y.text ∷ seen) rest (exchanged [] y.text x seen rest h.1))

pub names_differ : (seen : List Name) (xs : List NameAt) → NamesDiffer seen xs → AllPairs (λ a b. a ≢ b) (texts xs)
names_differ seen [] h = λ i j d less below. absurd (omega arith)
names_differ seen (x ∷ rest) h = AllPairs-cons (λ a b. a ≢ b) x.text (texts rest) (others x.text seen rest h.1) (names_differ (x.text ∷ seen) rest h.1)
