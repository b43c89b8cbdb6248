-- What the kind of a point says of its label and of its ways out.
use Rattle.std.proofs.Common.{◌≡◌, ◌∙◌, ℕ, zero, suc, ℤ, List, [], ◌∷◌, Bool, true, false, cond, inl, inr, Option, Some, find, refl, sym, ap, subst}
use Rattle.std.specs.List.{slice_get}
use Rattle.std.specs.Ordering.{int_cmp}
use Rattle.std.specs.List.Sorted.{IsStrictlySortedBy}
use Rattle.std.proofs.lemmas.Option.{same_Some}
use Rattle.csub_semantics.specs.declared.label.EndRule.{EndRule}
use Rattle.csub_semantics.specs.Trees.{NamedExpr}
use Rattle.csub_semantics.specs.Labels.{LabelTree, exits, branches, switches, halts, calls, CallTree, call_of}
use Rattle.csub_semantics.specs.Syntax.{FunctionTree, ProgramTree}
use Rattle.csub_semantics.specs.Points.{PointTree, exit, ExitTree, next, on_true, on_false, on_case, on_default, exit_eq}
use Rattle.csub_semantics.specs.Successors.{Way, Node, way, test_ways, switch_ways}
use Rattle.csub_semantics.specs.Flows.{end_rule, function_of, function_nodes, way_in, cases_in}
use Rattle.csub_semantics.specs.Acts.{Store, leaves}
use Rattle.csub_semantics.specs.Runs.{exit_at}
use Rattle.csub_semantics.proofs.LawsLabels.{call_is}
use Rattle.csub_validity.specs.declared.role.Role.TheVariants.{Whole, Test, Switch}
use Rattle.csub_validity.specs.Valid.{IsDefinedAs, scope_of, IsLast, AreStmts, no_loop, IsValid}
use Rattle.program_laws.specs.Outcomes.{IsOfTest, Fits}
use Rattle.program_laws.proofs.Lists.{each_at, all_at}
use Rattle.program_laws.proofs.LawsNames.{same_exit, exit_itself}
use Rattle.program_laws.proofs.LawsNodes.{MayStand, IsNode, begins, ends, goes_on, tests, chooses, jumps_on, halts_there, LeadsBy, function_are}
use Rattle.program_laws.proofs.LawsSwitches.{has, none_rise, switch_rises, switch_are_cases, switch_once, switch_leads_by}
pub use Rattle.program_laws.proofs.LawsSwitches.{AreCases, ExitsOnce}
use Rattle.program_laws.proofs.LawsStanding.{IsPoint, each_found}

-- ---- lists of ways out

-- Next is the only one of these ways out
abbrev pub OnlyNext : List (Way PointTree) → Type 0
OnlyNext ws = (x : ExitTree) (w : Way PointTree) → way_in ws x ≡ Some w → x ≡ next

one_next : (to : PointTree) → OnlyNext (way next to ∷ [])
one_next to next w e = refl
one_next to _ w e = cc

one_once : (x : ExitTree) (to : PointTree) → ExitsOnce (way x to ∷ [])
one_once x to zero zero w v e g h = refl
one_once x to zero (suc j) w v e g h = cc
one_once x to (suc i) j w v e g h = cc

exit_of : (w v : Way PointTree) → Some w ≡ Some v → w.exit ≡ v.exit
exit_of w v e = ap (λ (u : Way PointTree). u.exit) (same_Some w v e)

test_once : (a b : PointTree) → ExitsOnce (test_ways a b)
test_once a b zero zero w v e g h = refl
test_once a b zero (suc zero) w v e g h = let k : on_true ≡ on_false = exit_of (way on_true a) w e ∙ h ∙ sym (exit_of (way on_false b) v g) in cc
test_once a b (suc zero) zero w v e g h = let k : on_false ≡ on_true = exit_of (way on_false b) w e ∙ h ∙ sym (exit_of (way on_true a) v g) in cc
test_once a b (suc zero) (suc zero) w v e g h = refl
test_once a b zero (suc (suc j)) w v e g h = cc
test_once a b (suc zero) (suc (suc j)) w v e g h = cc
test_once a b (suc (suc i)) j w v e g h = cc

-- then each of them is found by its exit label
pub found_by_exit : (ws : List (Way PointTree)) → ExitsOnce ws → (i : ℕ) (w : Way PointTree) → slice_get ws i ≡ Some w → find (λ v. exit_eq v.exit w.exit) ws ≡ Some w
found_by_exit [] once i w e = absurd cc
found_by_exit (v ∷ ws) once zero w e =
    let same = same_Some v w e in
    ap (λ b. cond b (Some v) (find (λ u. exit_eq u.exit w.exit) ws)) (ap (λ (u : Way PointTree). exit_eq u.exit w.exit) same ∙ exit_itself w.exit) ∙ e
found_by_exit (v ∷ ws) once (suc i) w e = pick (exit_eq v.exit w.exit) refl (found_by_exit ws (λ j k u t p q s. let n = once (suc j) (suc k) u t p q s in cc) i w e)
  where
    pick : (b : Bool) → exit_eq v.exit w.exit ≡ b → find (λ u. exit_eq u.exit w.exit) ws ≡ Some w → cond b (Some v) (find (λ u. exit_eq u.exit w.exit) ws) ≡ Some w
    pick true is later = let clash = once 0 (suc i) v w refl e (same_exit v.exit w.exit is) in absurd cc
    pick false is later = later

-- ---- kinds of points

-- what leaves a point that isn't a test leaves along Next, and what leaves a test along one of its two ways
leaves_next : (P : ProgramTree) (f : FunctionTree) (l : LabelTree) (m : MayStand P f Whole l) (x : ExitTree) (r : Option ℤ) (s : Store) → Fits l (leaves x r s) → x ≡ next
leaves_next P f (branches e) m x r s fit = absurd m.last
leaves_next P f (switches e) m x r s fit = absurd fit
leaves_next P f (halts e) m x r s fit = absurd fit
leaves_next P f (exits rule) m x r s fit = absurd fit
leaves_next P f (calls c) m x r s fit = absurd fit
leaves_next P f _ m x r s fit = fit

leaves_test : (P : ProgramTree) (f : FunctionTree) (l : LabelTree) (m : MayStand P f Test l) (x : ExitTree) (r : Option ℤ) (s : Store) → Fits l (leaves x r s) → IsOfTest x
leaves_test P f (branches e) m x r s fit = fit
leaves_test P f _ m x r s fit = absurd m.last

-- a switch leaves by its value alone
leaves_switch : (P : ProgramTree) (f : FunctionTree) (l : LabelTree) (m : MayStand P f Switch l) (x : ExitTree) (r : Option ℤ) (s : Store) → Fits l (leaves x r s) → ⊥
leaves_switch P f (switches e) m x r s fit = fit
leaves_switch P f _ m x r s fit = absurd m.last

module _ (P : ProgramTree) (f : FunctionTree) (T : PointTree → Type 0) where
  -- a call's callee is defined, and control goes on behind it along Next
  pub call_goes_on : (p : PointTree) (l : LabelTree) (ws : List (Way PointTree)) (c : CallTree) → IsNode P f T p l ws → call_of l ≡ Some c → IsDefinedAs (function_of P c.callee) c × LeadsBy T next ws
  call_goes_on p l ws c (begins to h) e = absurd cc
  call_goes_on p l ws c ends e = absurd cc
  call_goes_on p l ws c (goes_on q k to m h) e = ((subst (λ t. IsLast P f (scope_of P f m.within.part) Whole m.stage t) (call_is k c e) m.last).defined, (way next to, refl, h))
  call_goes_on p l ws c (tests q k a b m h g) e = absurd (subst (λ t. IsLast P f (scope_of P f m.within.part) Test m.stage t) (call_is k c e) m.last)
  call_goes_on p l ws c (chooses q k stmts name around m cases to) e = absurd (subst (λ t. IsLast P f (scope_of P f m.within.part) Switch m.stage t) (call_is k c e) m.last)
  call_goes_on p l ws c (jumps_on q to h) e = absurd cc
  call_goes_on p l ws c (halts_there q a m) e = absurd cc

  -- and along nothing else
  pub call_next : (p : PointTree) (l : LabelTree) (ws : List (Way PointTree)) (c : CallTree) → IsNode P f T p l ws → call_of l ≡ Some c → OnlyNext ws
  call_next p l ws c (begins to h) e = one_next to
  call_next p l ws c ends e = absurd cc
  call_next p l ws c (goes_on q k to m h) e = one_next to
  call_next p l ws c (tests q k a b m h g) e = absurd (subst (λ t. IsLast P f (scope_of P f m.within.part) Test m.stage t) (call_is k c e) m.last)
  call_next p l ws c (chooses q k stmts name around m cases to) e = absurd (subst (λ t. IsLast P f (scope_of P f m.within.part) Switch m.stage t) (call_is k c e) m.last)
  call_next p l ws c (jumps_on q to h) e = one_next to
  call_next p l ws c (halts_there q a m) e = absurd cc

  -- the label of an exit stands at the exit alone, with the rule of its function
  pub exit_ends : (p : PointTree) (l : LabelTree) (ws : List (Way PointTree)) (rule : EndRule) → IsNode P f T p l ws → l ≡ exits rule → (p ≡ exit) × (rule ≡ end_rule f.name f.result)
  exit_ends p l ws rule (begins to h) e = absurd cc
  exit_ends p l ws rule ends e = (refl, cc)
  exit_ends p l ws rule (goes_on q k to m h) e = absurd (subst (λ t. IsLast P f (scope_of P f m.within.part) Whole m.stage t) e m.last)
  exit_ends p l ws rule (tests q k a b m h g) e = absurd (subst (λ t. IsLast P f (scope_of P f m.within.part) Test m.stage t) e m.last)
  exit_ends p l ws rule (chooses q k stmts name around m cases to) e = absurd (subst (λ t. IsLast P f (scope_of P f m.within.part) Switch m.stage t) e m.last)
  exit_ends p l ws rule (jumps_on q to h) e = absurd cc
  exit_ends p l ws rule (halts_there q a m) e = absurd cc

  -- a way out that an outcome of the label may take is there
  pub leads_on : (p : PointTree) (l : LabelTree) (ws : List (Way PointTree)) (x : ExitTree) (r : Option ℤ) (s : Store) → IsNode P f T p l ws → Fits l (leaves x r s) → LeadsBy T x ws
  leads_on p l ws x r s (begins to h) fit = subst (λ y. LeadsBy T y (way next to ∷ [])) (sym fit) (way next to, refl, h)
  leads_on p l ws x r s ends fit = absurd fit
  leads_on p l ws x r s (goes_on q k to m h) fit = subst (λ y. LeadsBy T y (way next to ∷ [])) (sym (leaves_next P f k m x r s fit)) (way next to, refl, h)
  leads_on p l ws x r s (chooses q k stmts name around m cases to) fit = absurd (leaves_switch P f k m x r s fit)
  leads_on p l ws x r s (jumps_on q to h) fit = subst (λ y. LeadsBy T y (way next to ∷ [])) (sym fit) (way next to, refl, h)
  leads_on p l ws x r s (halts_there q a m) fit = absurd fit
  leads_on p l ws x r s (tests q k a b m h g) fit = pick (leaves_test P f k m x r s fit)
    where
      pick : IsOfTest x → LeadsBy T x (test_ways a b)
      pick (inl same) = subst (λ y. LeadsBy T y (test_ways a b)) (sym same) (way on_true a, refl, h)
      pick (inr same) = subst (λ y. LeadsBy T y (test_ways a b)) (sym same) (way on_false b, refl, g)

  -- a switch has a way out for every value
  pub chooses_on : (p : PointTree) (l : LabelTree) (ws : List (Way PointTree)) (e : NamedExpr) → IsNode P f T p l ws → l ≡ switches e → (v : ℤ) → LeadsBy T (exit_at (cases_in ws) v) ws
  chooses_on p l ws e (begins to h) is v = absurd cc
  chooses_on p l ws e ends is v = absurd cc
  chooses_on p l ws e (goes_on q k to m h) is v = absurd (subst (λ t. IsLast P f (scope_of P f m.within.part) Whole m.stage t) is m.last)
  chooses_on p l ws e (tests q k a b m h g) is v = absurd (subst (λ t. IsLast P f (scope_of P f m.within.part) Test m.stage t) is m.last)
  chooses_on p l ws e (chooses q k stmts name around m cases to) is v = switch_leads_by stmts name around T to v
  chooses_on p l ws e (jumps_on q to h) is v = absurd cc
  chooses_on p l ws e (halts_there q a m) is v = absurd cc

  -- and a way out by each of its cases
  pub leads_by_case : (p : PointTree) (l : LabelTree) (ws : List (Way PointTree)) → IsNode P f T p l ws → (v : ℤ) → has v (cases_in ws) ≡ true → LeadsBy T (on_case v) ws
  leads_by_case p l ws (begins to h) v e = absurd cc
  leads_by_case p l ws ends v e = absurd cc
  leads_by_case p l ws (goes_on q k to m h) v e = absurd cc
  leads_by_case p l ws (tests q k a b m h g) v e = absurd cc
  leads_by_case p l ws (chooses q k stmts name around m cases to) v e =
      subst (λ b. LeadsBy T (cond b (on_case v) (on_default (cases_in (switch_ways stmts name around)))) (switch_ways stmts name around)) e (switch_leads_by stmts name around T to v)
  leads_by_case p l ws (jumps_on q to h) v e = absurd cc
  leads_by_case p l ws (halts_there q a m) v e = absurd cc

  -- and its case values rise
  pub cases_rise : (p : PointTree) (l : LabelTree) (ws : List (Way PointTree)) → IsNode P f T p l ws → IsStrictlySortedBy int_cmp (cases_in ws)
  cases_rise p l ws (begins to h) = none_rise
  cases_rise p l ws ends = none_rise
  cases_rise p l ws (goes_on q k to m h) = none_rise
  cases_rise p l ws (tests q k a b m h g) = none_rise
  cases_rise p l ws (chooses q k stmts name around m cases to) = switch_rises stmts name around
  cases_rise p l ws (jumps_on q to h) = none_rise
  cases_rise p l ws (halts_there q a m) = none_rise

  -- its cases are those of one switch
  pub are_cases : (p : PointTree) (l : LabelTree) (ws : List (Way PointTree)) → IsNode P f T p l ws → AreCases ws
  are_cases p l ws (begins to h) = record { cased = λ v w e. cc; defaulted = λ vs w e. cc }
  are_cases p l ws ends = record { cased = λ v w e. cc; defaulted = λ vs w e. cc }
  are_cases p l ws (goes_on q k to m h) = record { cased = λ v w e. cc; defaulted = λ vs w e. cc }
  are_cases p l ws (tests q k a b m h g) = record { cased = λ v w e. cc; defaulted = λ vs w e. cc }
  are_cases p l ws (chooses q k stmts name around m cases to) = switch_are_cases stmts name around
  are_cases p l ws (jumps_on q to h) = record { cased = λ v w e. cc; defaulted = λ vs w e. cc }
  are_cases p l ws (halts_there q a m) = record { cased = λ v w e. cc; defaulted = λ vs w e. cc }

  exits_differ : (p : PointTree) (l : LabelTree) (ws : List (Way PointTree)) → IsNode P f T p l ws → ExitsOnce ws
  exits_differ p l ws (begins to h) = one_once next to
  exits_differ p l ws ends = λ i j w v e g h. absurd (let none : ⊥ = cc in none)
  exits_differ p l ws (goes_on q k to m h) = one_once next to
  exits_differ p l ws (tests q k a b m h g) = test_once a b
  exits_differ p l ws (chooses q k stmts name around m cases to) = switch_once stmts name around cases.distinct
  exits_differ p l ws (jumps_on q to h) = one_once next to
  exits_differ p l ws (halts_there q a m) = λ i j w v e g h. absurd (let none : ⊥ = cc in none)

-- no point of a valid program has two ways out with one exit label
pub ways_differ : (P : ProgramTree) → IsValid P → (k : ℕ) (f : FunctionTree) → slice_get P.functions k ≡ Some f → (i : ℕ) (n : Node PointTree) → slice_get (function_nodes f) i ≡ Some n → ExitsOnce n.ways
ways_differ P valid k f there i n e =
    let T = IsPoint (function_nodes f) in
    let body = all_at (λ g. AreStmts P g no_loop g.body) P.functions k f valid.bodies there in
    let each = function_are T P f body (each_found (function_nodes f)) in
    exits_differ P f T n.point n.label n.ways (each_at (λ m. IsNode P f T m.point m.label m.ways) (function_nodes f) i n each e)
