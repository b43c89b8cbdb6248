-- The ways out of a `switch`: one for each of its case values, and behind them its Default with all of these, rising.
use Rattle.std.proofs.Common.{◌≡◌, ◌≢◌, ◌∙◌, ℕ, zero, suc, ◌+◌, ℤ, List, [], ◌∷◌, ◌++◌, Bool, true, false, ◌||◌, cond, Option, Some, None, IsTrue, All, AllPairs, append-nil, refl, sym, ap, subst, arith, int_eq}
use Rattle.std.specs.List.{AllByRecursion, list_any, slice_get}
use Rattle.std.specs.List.Sorted.{IsStrictlySortedBy}
use Rattle.std.specs.declared.cmp.Ordering.{Ordering}
use Rattle.std.specs.declared.cmp.Ordering.TheVariants.{Less, Equal, Greater}
use Rattle.std.specs.Ordering.{int_cmp, match_ordering, ordering_reverse}
use Rattle.std.specs.BTreeSet.{insert_key}
use Rattle.std.proofs.lemmas.Cmp.{int_cmp_total}
use Rattle.std.proofs.lemmas.Map.Lookups.{exact_signed}
use Rattle.std.proofs.lemmas.Map.Views.{All-insert_key}
use Rattle.std.proofs.lemmas.Option.{same_Some}
use Rattle.std.proofs.lemmas.List.Elements.{All-head, All-tail, recursion_from_All, All-from_recursion}
use Rattle.csub_semantics.specs.Points.{PointTree, on_case, on_default, exit_eq}
use Rattle.csub_semantics.specs.Syntax.{StmtTrees, no_stmt, more_stmts}
use Rattle.csub_semantics.specs.Successors.{Way, Around, way, case_of, case_list, case_values, rising, enter_list, case_way, case_ways, default_to, switch_ways}
use Rattle.csub_semantics.specs.Flows.{way_in, default_of, cases_in}
use Rattle.csub_semantics.specs.Runs.{exit_at}
use Rattle.program_laws.proofs.Lists.{each_weaker, each_at}
use Rattle.program_laws.proofs.LawsNames.{same_exit, exit_itself}
use Rattle.program_laws.proofs.LawsNodes.{Naming, LeadTo, LeadsBy}

-- ---- rising numbers

-- whether v is among numbers
abbrev pub has : ℤ → List ℤ → Bool
has v xs = list_any (λ w. int_eq w v) xs

-- x stands below each of these
abbrev Below : ℤ → List ℤ → Type 0
Below x xs = All (λ y. int_cmp x y ≡ Less) xs

in_front : (x y : Bool) → (x || y) ≡ (y || x)
in_front true true = refl
in_front true false = refl
in_front false true = refl
in_front false false = refl

twice : (x y : Bool) → (x || y) ≡ ((x || y) || x)
twice true y = refl
twice false true = refl
twice false false = refl

three : (x y z : Bool) → (x || (y || z)) ≡ ((x || y) || z)
three true y z = refl
three false y z = refl

-- a number that is put to others is among them, and so are they
put_has : (xs : List ℤ) (x v : ℤ) → has v (insert_key int_cmp xs x) ≡ (has v xs || int_eq x v)
put_has [] x v = in_front (int_eq x v) false
put_has (y ∷ ys) x v = pick (int_cmp x y) refl (put_has ys x v)
  where
    pick : (o : Ordering) → int_cmp x y ≡ o → has v (insert_key int_cmp ys x) ≡ (has v ys || int_eq x v)
        → has v (match_ordering o (x ∷ y ∷ ys) (y ∷ ys) (y ∷ insert_key int_cmp ys x)) ≡ ((int_eq y v || has v ys) || int_eq x v)
    pick Less e later = in_front (int_eq x v) (int_eq y v || has v ys)
    pick Equal e later = twice (int_eq y v) (has v ys) ∙ ap (λ z. (int_eq y v || has v ys) || int_eq z v) (sym (exact_signed x y e))
    pick Greater e later = ap (λ b. int_eq y v || b) later ∙ three (int_eq y v) (has v ys) (int_eq x v)

-- rising numbers are those that were put
pub rising_has : (before vs : List ℤ) (v : ℤ) → has v (rising before vs) ≡ (has v before || has v vs)
rising_has before [] v = in_front false (has v before)
rising_has before (x ∷ more) v =
    rising_has (insert_key int_cmp before x) more v ∙ ap (λ b. b || has v more) (put_has before x v)
    ∙ sym (three (has v before) (int_eq x v) (has v more))

put_rises : (xs : List ℤ) (x : ℤ) → IsStrictlySortedBy int_cmp xs → IsStrictlySortedBy int_cmp (insert_key int_cmp xs x)
unfolding IsStrictlySortedBy
put_rises [] x h = (tt, tt)
put_rises (y ∷ ys) x h = pick (int_cmp x y) refl (put_rises ys x h.1)
  where
    pick : (o : Ordering) → int_cmp x y ≡ o → IsStrictlySortedBy int_cmp (insert_key int_cmp ys x) → IsStrictlySortedBy int_cmp (match_ordering o (x ∷ y ∷ ys) (y ∷ ys) (y ∷ insert_key int_cmp ys x))
    pick Less e later = ((e, each_weaker (λ z. int_cmp y z ≡ Less) (λ z. int_cmp x z ≡ Less) (λ z g. int_cmp_total.trans x y z e g) ys h.0), h)
    pick Equal e later = h
    pick Greater e later =
        let above = All-from_recursion (λ z. int_cmp y z ≡ Less) ys h.0 in
        let next : int_cmp y x ≡ Less = int_cmp_total.antisymm y x ∙ ap ordering_reverse e in
        (recursion_from_All (λ z. int_cmp y z ≡ Less) (insert_key int_cmp ys x) (All-insert_key int_cmp x (λ z. int_cmp y z ≡ Less) ys above next), later)

-- and they rise
pub rising_rises : (before vs : List ℤ) → IsStrictlySortedBy int_cmp before → IsStrictlySortedBy int_cmp (rising before vs)
rising_rises before [] h = h
rising_rises before (x ∷ more) h = rising_rises (insert_key int_cmp before x) more (put_rises before x h)

-- ---- ways out by cases and a default

-- these ways out are those of these cases
abbrev pub AreWaysOf : List ℤ → List (Way PointTree) → Type 0
AreWaysOf [] [] = Unit {0}
AreWaysOf [] (w ∷ ws) = ⊥
AreWaysOf (v ∷ vs) [] = ⊥
AreWaysOf (v ∷ vs) (w ∷ ws) = (w.exit ≡ on_case v) × AreWaysOf vs ws

-- no two of these ways have one exit label
abbrev pub ExitsOnce : List (Way PointTree) → Type 0
ExitsOnce ws = (i j : ℕ) (w v : Way PointTree) → slice_get ws i ≡ Some w → slice_get ws j ≡ Some v → w.exit ≡ v.exit → i ≡ j

-- each case of these ways is one of a switch, and their Default has all its values
pub record AreCases (ws : List (Way PointTree)) : Type 0 where
  pub cased : (v : ℤ) (w : Way PointTree) → way_in ws (on_case v) ≡ Some w → IsTrue (has v (cases_in ws))
  pub defaulted : (vs : List ℤ) (w : Way PointTree) → way_in ws (on_default vs) ≡ Some w → vs ≡ cases_in ws

once_more : (w : Way PointTree) (ws : List (Way PointTree)) → AllByRecursion (λ (v : Way PointTree). v.exit ≢ w.exit) ws → ExitsOnce ws → ExitsOnce (w ∷ ws)
once_more w ws apart once zero zero a b e g h = refl
once_more w ws apart once zero (suc j) a b e g h = absurd (each_at (λ (v : Way PointTree). v.exit ≢ w.exit) ws j b apart g (sym (ap (λ (v : Way PointTree). v.exit) (same_Some w a e) ∙ h)))
once_more w ws apart once (suc i) zero a b e g h = absurd (each_at (λ (v : Way PointTree). v.exit ≢ w.exit) ws i a apart e (h ∙ sym (ap (λ (v : Way PointTree). v.exit) (same_Some w b g))))
once_more w ws apart once (suc i) (suc j) a b e g h = ap suc (once i j a b e g h)

-- behind these a Default with the values us
module _ (us : List ℤ) (to : PointTree) where
  abbrev last : Way PointTree
  last = way (on_default us) to

  values_are : (vs : List ℤ) (ws : List (Way PointTree)) → AreWaysOf vs ws → cases_in (ws ++ last ∷ []) ≡ us
  values_are [] [] h = append-nil us
  values_are [] (w ∷ ws) h = absurd h
  values_are (v ∷ vs) [] h = absurd h
  values_are (v ∷ vs) (w ∷ ws) h = ap (λ x. default_of x ++ cases_in (ws ++ last ∷ [])) h.0 ∙ values_are vs ws h.1

  by_default : (vs : List ℤ) (ws : List (Way PointTree)) → AreWaysOf vs ws → way_in (ws ++ last ∷ []) (on_default us) ≡ Some last
  by_default [] [] h = ap (λ b. cond b (Some last) None) (exit_itself (on_default us))
  by_default [] (w ∷ ws) h = absurd h
  by_default (v ∷ vs) [] h = absurd h
  by_default (v ∷ vs) (w ∷ ws) h = ap (λ x. cond (exit_eq x (on_default us)) (Some w) (way_in (ws ++ last ∷ []) (on_default us))) h.0 ∙ by_default vs ws h.1

  default_is : (vs : List ℤ) (ws : List (Way PointTree)) → AreWaysOf vs ws → (qs : List ℤ) (x : Way PointTree) → way_in (ws ++ last ∷ []) (on_default qs) ≡ Some x → qs ≡ us
  default_is [] [] h qs x e = pick (exit_eq (on_default us) (on_default qs)) refl e
    where
      pick : (b : Bool) → exit_eq (on_default us) (on_default qs) ≡ b → cond b (Some last) None ≡ Some x → qs ≡ us
      pick true t e = let same = same_exit (on_default us) (on_default qs) t in cc
      pick false t e = cc
  default_is [] (w ∷ ws) h qs x e = absurd h
  default_is (v ∷ vs) [] h qs x e = absurd h
  default_is (v ∷ vs) (w ∷ ws) h qs x e =
      default_is vs ws h.1 qs x (sym (ap (λ y. cond (exit_eq y (on_default qs)) (Some w) (way_in (ws ++ last ∷ []) (on_default qs))) h.0) ∙ e)

  by_case : (T : PointTree → Type 0) (vs : List ℤ) (ws : List (Way PointTree)) → AreWaysOf vs ws → AllByRecursion (λ (w : Way PointTree). T w.to) (ws ++ last ∷ []) → (v : ℤ) → has v vs ≡ true → LeadsBy T (on_case v) (ws ++ last ∷ [])
  by_case T [] [] h all v e = cc
  by_case T [] (w ∷ ws) h all v e = absurd h
  by_case T (u ∷ vs) [] h all v e = absurd h
  by_case T (u ∷ vs) (w ∷ ws) h all v e = pick (int_eq u v) refl e (λ g. by_case T vs ws h.1 all.1 v g)
    where
      found : (b : Bool) → int_eq u v ≡ b → way_in (w ∷ ws ++ last ∷ []) (on_case v) ≡ cond b (Some w) (way_in (ws ++ last ∷ []) (on_case v))
      found b t = ap (λ x. cond (exit_eq x (on_case v)) (Some w) (way_in (ws ++ last ∷ []) (on_case v))) h.0 ∙ ap (λ c. cond c (Some w) (way_in (ws ++ last ∷ []) (on_case v))) t

      pick : (b : Bool) → int_eq u v ≡ b → (b || has v vs) ≡ true → (has v vs ≡ true → LeadsBy T (on_case v) (ws ++ last ∷ [])) → LeadsBy T (on_case v) (w ∷ ws ++ last ∷ [])
      pick true t g later = (w, found true t, all.0)
      pick false t g later = let l = later g in (l.0, found false t ∙ l.1, l.2)

  case_is : (vs : List ℤ) (ws : List (Way PointTree)) → AreWaysOf vs ws → (v : ℤ) (x : Way PointTree) → way_in (ws ++ last ∷ []) (on_case v) ≡ Some x → has v vs ≡ true
  case_is [] [] h v x e = cc
  case_is [] (w ∷ ws) h v x e = absurd h
  case_is (u ∷ vs) [] h v x e = absurd h
  case_is (u ∷ vs) (w ∷ ws) h v x e = pick (int_eq u v) (sym (ap (λ y. cond (exit_eq y (on_case v)) (Some w) (way_in (ws ++ last ∷ []) (on_case v))) h.0) ∙ e) (case_is vs ws h.1 v x)
    where
      pick : (b : Bool) → cond b (Some w) (way_in (ws ++ last ∷ []) (on_case v)) ≡ Some x → (way_in (ws ++ last ∷ []) (on_case v) ≡ Some x → has v vs ≡ true) → (b || has v vs) ≡ true
      pick true g later = refl
      pick false g later = later g

  apart_from : (v : ℤ) (vs : List ℤ) (ws : List (Way PointTree)) → AreWaysOf vs ws → All (λ u. v ≢ u) vs → AllByRecursion (λ (w : Way PointTree). w.exit ≢ on_case v) (ws ++ last ∷ [])
  apart_from v [] [] h other = (λ e. cc, tt)
  apart_from v [] (w ∷ ws) h other = absurd h
  apart_from v (u ∷ vs) [] h other = absurd h
  apart_from v (u ∷ vs) (w ∷ ws) h other = (
    λ e. let same : on_case v ≡ on_case u = sym e ∙ h.0 in All-head (λ x. v ≢ x) u vs other cc,
    apart_from v vs ws h.1 (All-tail (λ x. v ≢ x) u vs other),
  )

  ways_once : (vs : List ℤ) (ws : List (Way PointTree)) → AreWaysOf vs ws → AllPairs (λ v w. v ≢ w) vs → ExitsOnce (ws ++ last ∷ [])
  ways_once [] [] h pairs = once_more last [] tt (λ i j w v e g h. absurd (let none : ⊥ = cc in none))
  ways_once [] (w ∷ ws) h pairs = absurd h
  ways_once (v ∷ vs) [] h pairs = absurd h
  ways_once (v ∷ vs) (w ∷ ws) h pairs =
      let other : All (λ u. v ≢ u) vs = λ k d within. pairs 0 (suc k) d (omega arith) (omega (arith, within)) in
      once_more w (ws ++ last ∷ [])
      (subst (λ x. AllByRecursion (λ (u : Way PointTree). u.exit ≢ x) (ws ++ last ∷ [])) (sym h.0) (apart_from v vs ws h.1 other))
      (ways_once vs ws h.1 (λ i j d below within. pairs (suc i) (suc j) d (omega (arith, below)) (omega (arith, within))))

last_leads : (T : PointTree → Type 0) (ws : List (Way PointTree)) (w : Way PointTree) → LeadTo T (ws ++ w ∷ []) → T w.to
last_leads T [] w h = h.0
last_leads T (v ∷ ws) w h = last_leads T ws w h.1

pub none_rise : IsStrictlySortedBy int_cmp []
unfolding IsStrictlySortedBy
none_rise = tt

-- ---- a `switch`

ways_of_cases : (stmts : StmtTrees) (i : ℕ) (name : Naming) (around : Around PointTree) → AreWaysOf (case_values stmts) (case_ways stmts i name around)
ways_of_cases no_stmt i name around = tt
ways_of_cases (more_stmts s rest) i name around = pick (case_of s) (ways_of_cases rest (i + 1) name around)
  where
    pick : (o : Option ℤ) → AreWaysOf (case_values rest) (case_ways rest (i + 1) name around)
        → AreWaysOf (case_list o ++ case_values rest) (case_way o (enter_list rest (i + 1) name around) ++ case_ways rest (i + 1) name around)
    pick None h = h
    pick (Some v) h = (refl, h)

module _ (stmts : StmtTrees) (name : Naming) (around : Around PointTree) where
  abbrev ways : List (Way PointTree)
  ways = switch_ways stmts name around

  abbrev values : List ℤ
  values = rising [] (case_values stmts)

  abbrev past : PointTree
  past = default_to stmts 0 name around

  abbrev are_ways : AreWaysOf (case_values stmts) (case_ways stmts 0 name around)
  are_ways = ways_of_cases stmts 0 name around

  -- the values of its Default are its case values, rising
  pub switch_cases : cases_in ways ≡ values
  switch_cases = values_are values past (case_values stmts) (case_ways stmts 0 name around) are_ways

  pub switch_has : (v : ℤ) → has v (cases_in ways) ≡ has v (case_values stmts)
  switch_has v = ap (has v) switch_cases ∙ rising_has [] (case_values stmts) v

  pub switch_rises : IsStrictlySortedBy int_cmp (cases_in ways)
  switch_rises = subst (IsStrictlySortedBy int_cmp) (sym switch_cases) (rising_rises [] (case_values stmts) none_rise)

  -- each of its ways by a case is by one of these, and that by Default has them all
  pub switch_are_cases : AreCases ways
  switch_are_cases = record {
    cased = λ v w e. switch_has v ∙ case_is values past (case_values stmts) (case_ways stmts 0 name around) are_ways v w e;
    defaulted = λ vs w e. default_is values past (case_values stmts) (case_ways stmts 0 name around) are_ways vs w e ∙ sym switch_cases;
  }

  -- no two of its ways have one exit label
  pub switch_once : AllPairs (λ v w. v ≢ w) (case_values stmts) → ExitsOnce ways
  switch_once pairs = ways_once values past (case_values stmts) (case_ways stmts 0 name around) are_ways pairs

  -- a value that is among the cases has its way by its case, and any other that by Default (C11 6.8.4.2p5)
  pub switch_leads_by : (T : PointTree → Type 0) → LeadTo T ways → (v : ℤ) → LeadsBy T (exit_at (cases_in ways) v) ways
  switch_leads_by T to v = pick (has v (cases_in ways)) refl
    where
      pick : (b : Bool) → has v (cases_in ways) ≡ b → LeadsBy T (cond b (on_case v) (on_default (cases_in ways))) ways
      pick true e = by_case values past T (case_values stmts) (case_ways stmts 0 name around) are_ways to v (sym (switch_has v) ∙ e)
      pick false e =
          subst (λ us. LeadsBy T (on_default us) ways) (sym switch_cases)
          (way (on_default values) past, by_default values past (case_values stmts) (case_ways stmts 0 name around) are_ways, last_leads T (case_ways stmts 0 name around) (way (on_default values) past) to)
