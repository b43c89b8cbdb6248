-- What a point of a valid program may be: the entry, the exit, a test, a `switch`, a `goto`, an end of the run, or a stage
-- that control leaves along Next alone.
use Rattle.std.proofs.Common.{◌≡◌, ◌≤◌, ℕ, ◌+◌, sym, subst, cond, ℤ, List, [], ◌∷◌, ◌++◌, length, Option, Some, None, Bool, true, false, All, IsTrue, arith, bytes_eq}
use Rattle.std.specs.List.{AllByRecursion}
use Rattle.std.proofs.lemmas.List.Elements.{All-head, All-tail, All-weaker}
use Rattle.csub_semantics.specs.Trees.{NamedExpr}
use Rattle.csub_semantics.specs.Labels.{LabelTree, enters, exits, evaluates, initialises, returns, jumps, halts, calls}
use Rattle.csub_objects.specs.Types.{Name}
use Rattle.csub_semantics.specs.Syntax.{Stage, PartTree, StmtTree, StmtTrees, ElseTree, parts, block, conditional, while_loop, do_loop, for_loop, switch_on, case_label, default_label, breaks, continues, goes_to, marked, no_stmt, more_stmts, no_else, else_stmt, FunctionTree, ProgramTree}
use Rattle.csub_semantics.specs.Points.{PointTree, entry, exit, at, ExitTree, next}
use Rattle.csub_semantics.specs.Successors.{Way, Node, Around, Mark, way, leaving, looping, switching, enter_part, enter_parts, enter, enter_list, enter_else, own_ways, test_ways, case_of, case_way, case_ways, is_default, default_to, switch_ways, in_while, in_for, marks, marks_list, marks_else, target, part_nodes, last_ways, parts_nodes, nodes, nodes_list, nodes_else}
use Rattle.csub_semantics.specs.Flows.{end_rule, to_exit, goto_of, function_nodes, way_in}
use Rattle.csub_validity.specs.declared.role.Role.{Role}
use Rattle.csub_validity.specs.declared.role.Role.TheVariants.{Whole, Test, Switch, Effect}
use Rattle.csub_validity.specs.declared.role.Targets.{Targets}
use Rattle.csub_types.specs.declared.kind.IntKind.{IntKind}
use Rattle.csub_validity.specs.Valid.{no_loop, in_loop, in_switch, further_in, switch_kind, AreCases, IsJump, Scope, scope_of, IsLast, IsEarlier, AreStages, IsPart, IsStmt, AreStmts, IsElse}
use Rattle.program_laws.proofs.Lists.{each_append, each_left, each_right}

-- a valid part of a function, with its role
pub record PartOf (P : ProgramTree) (f : FunctionTree) : Type 0 where
  pub part : PartTree
  pub role : Role
  pub valid : IsPart P f role part

-- validity lets a label stand last, with a role, among the stages of a part, which are counted from 1
pub record MayStand (P : ProgramTree) (f : FunctionTree) (role : Role) (l : LabelTree) : Type 0 where
  pub within : PartOf P f
  pub stage : ℕ
  pub first : 1 ≤ stage
  pub last : IsLast P f (scope_of P f within.part) role stage l

-- how the points inside a statement are named: by path, part and stage
abbrev pub Naming : Type 0
Naming = List ℕ → ℕ → ℕ → PointTree

-- these ways lead to points of T
abbrev pub LeadTo : (PointTree → Type 0) → List (Way PointTree) → Type 0
LeadTo T ws = AllByRecursion (λ (w : Way PointTree). T w.to) ws

-- what a point of a function may be, by its name, its label and its ways out, each of which leads to a point of T
pub data IsNode (P : ProgramTree) (f : FunctionTree) (T : PointTree → Type 0) : PointTree → LabelTree → List (Way PointTree) → Type 0 where
  begins : (to : PointTree) → T to → IsNode P f T entry enters (way next to ∷ [])
  ends : IsNode P f T exit (exits (end_rule f.name f.result)) []
  goes_on : (p : PointTree) (l : LabelTree) (to : PointTree) → MayStand P f Whole l → T to → IsNode P f T p l (way next to ∷ [])
  tests : (p : PointTree) (l : LabelTree) (a b : PointTree) → MayStand P f Test l → T a → T b → IsNode P f T p l (test_ways a b)
  chooses : (p : PointTree) (l : LabelTree) (stmts : StmtTrees) (name : Naming) (around : Around PointTree) → MayStand P f Switch l → AreCases stmts → LeadTo T (switch_ways stmts name around) → IsNode P f T p l (switch_ways stmts name around)
  jumps_on : (p to : PointTree) → T to → IsNode P f T p jumps (way next to ∷ [])
  halts_there : (p : PointTree) (e : NamedExpr) → MayStand P f Whole (halts e) → IsNode P f T p (halts e) []

-- there is a way out along x, and it leads to a point of T
abbrev pub LeadsBy : (PointTree → Type 0) → ExitTree → List (Way PointTree) → Type 0
LeadsBy T x ws = (w : Way PointTree) × (way_in ws x ≡ Some w) × T w.to

-- the points to which ways may lead
module _ (T : PointTree → Type 0) where
  abbrev InT : Node PointTree → Type 0
  InT n = T n.point

  abbrev pub Among : List (Node PointTree) → Type 0
  Among ns = AllByRecursion InT ns

  -- each part of a statement leads to points that are among those of the statement, or past its end
  first_point : (s : Stage) (rest : PartTree) (k : ℕ) (name : ℕ → PointTree) (ways : List (Way PointTree)) → Among (part_nodes (s ∷ rest) k name ways) → T (name k)
  first_point s [] k name ways h = h.0
  first_point s (t ∷ rest) k name ways h = h.0

  parts_begin : (ps : List PartTree) (i : ℕ) (name : Naming) (around : Around PointTree) → T around.leave → Among (parts_nodes ps i name around) → T (enter_parts ps i name around.leave)
  parts_begin [] i name around out h = out
  parts_begin ([] ∷ rest) i name around out h = parts_begin rest (i + 1) name around out h
  parts_begin ((s ∷ more) ∷ rest) i name around out h =
      let past = enter_parts rest (i + 1) name around.leave in
      let ways = last_ways (s ∷ more) past around.returned in
      first_point s more 0 (λ k. name [] i k) ways (each_left InT (part_nodes (s ∷ more) 0 (λ k. name [] i k) ways) (parts_nodes rest (i + 1) name around) h)

  part_begins : (p : PartTree) (i : ℕ) (name : Naming) (past : PointTree) (ways : List (Way PointTree)) → T past → Among (part_nodes p 0 (λ k. name [] i k) ways) → T (enter_part p i name past)
  part_begins [] i name past ways out h = out
  part_begins (s ∷ rest) i name past ways out h = first_point s rest 0 (λ k. name [] i k) ways h

  record Round (to : Targets) (around : Around PointTree) : Type 0 where
    leave_in : T around.leave
    returned_in : T around.returned
    broken_in : IsTrue to.of_break → T around.broken
    continued_in : IsTrue to.of_continue → T around.continued

  looped : (to : Targets) (around : Around PointTree) (onward : PointTree) → T onward → Round to around → Round in_loop (looping onward around)
  looped to around onward h r = record { leave_in = h; returned_in = r.returned_in; broken_in = λ e. r.leave_in; continued_in = λ e. h }

  switched : (to : Targets) (kind : IntKind) (around : Around PointTree) → Round to around → Round (in_switch kind to) (switching around)
  switched to kind around r = record { leave_in = r.leave_in; returned_in = r.returned_in; broken_in = λ e. r.leave_in; continued_in = r.continued_in }

  inside_of : (to : Targets) (around : Around PointTree) → Round to around → Round (further_in to) around
  inside_of to around r = record { leave_in = r.leave_in; returned_in = r.returned_in; broken_in = r.broken_in; continued_in = r.continued_in }

  left_to : (to : Targets) (around : Around PointTree) (onward : PointTree) → T onward → Round to around → Round to (leaving onward around)
  left_to to around onward h r = record { leave_in = h; returned_in = r.returned_in; broken_in = r.broken_in; continued_in = r.continued_in }

  module _ (P : ProgramTree) (f : FunctionTree) where
    abbrev Holds : Node PointTree → Type 0
    Holds n = IsNode P f T n.point n.label n.ways

    abbrev pub AreNodes : List (Node PointTree) → Type 0
    AreNodes ns = AllByRecursion Holds ns

    -- the labels that may stand before the last of a part, last in a whole part, and last in a test
    earlier_is : (v : PartOf P f) (j : ℕ) (p to : PointTree) (l : LabelTree) → 1 ≤ j → IsEarlier P f (scope_of P f v.part) j l → T to → IsNode P f T p l (way next to ∷ [])
    earlier_is v j p to (calls c) one h out = goes_on p (calls c) to (record { within = v; stage = j; first = one; last = h }) out
    earlier_is v j p to _ one h out = absurd h

    own_is : (v : PartOf P f) (j : ℕ) (p past returned : PointTree) (l : LabelTree) → 1 ≤ j → IsLast P f (scope_of P f v.part) Whole j l → T past → T returned → IsNode P f T p l (own_ways l past returned)
    own_is v j p past returned (returns answer) one h out back = goes_on p (returns answer) returned (record { within = v; stage = j; first = one; last = h }) back
    own_is v j p past returned (halts e) one h out back = halts_there p e (record { within = v; stage = j; first = one; last = h })
    own_is v j p past returned l one h out back = goes_on p l past (record { within = v; stage = j; first = one; last = h }) out

    -- and so the points of a part, of a statement and of a list
    whole_are : (v : PartOf P f) (ps : PartTree) (j k : ℕ) (name : ℕ → PointTree) (past returned : PointTree) → 1 ≤ j → AreStages P f (scope_of P f v.part) Whole j ps → T past → T returned → Among (part_nodes ps k name (last_ways ps past returned)) → AreNodes (part_nodes ps k name (last_ways ps past returned))
    whole_are v [] j k name past returned one h out back all = tt
    whole_are v (s ∷ []) j k name past returned one h out back all = (own_is v j (name k) past returned s.label one h out back, tt)
    whole_are v (s ∷ t ∷ rest) j k name past returned one h out back all = (
      earlier_is v j (name k) (name (k + 1)) s.label one h.0 (first_point t rest (k + 1) name (last_ways (t ∷ rest) past returned) all.1),
      whole_are v (t ∷ rest) (j + 1) (k + 1) name past returned (omega arith) h.1 out back all.1,
    )

    role_are : (role : Role) (ways : List (Way PointTree)) → ((p : PointTree) (l : LabelTree) → MayStand P f role l → IsNode P f T p l ways)
        → (v : PartOf P f) (ps : PartTree) (j k : ℕ) (name : ℕ → PointTree) → 1 ≤ j → AreStages P f (scope_of P f v.part) role j ps → Among (part_nodes ps k name ways) → AreNodes (part_nodes ps k name ways)
    role_are role ways last v [] j k name one h all = tt
    role_are role ways last v (s ∷ []) j k name one h all = (last (name k) s.label (record { within = v; stage = j; first = one; last = h }), tt)
    role_are role ways last v (s ∷ t ∷ rest) j k name one h all = (
      earlier_is v j (name k) (name (k + 1)) s.label one h.0 (first_point t rest (k + 1) name ways all.1),
      role_are role ways last v (t ∷ rest) (j + 1) (k + 1) name (omega arith) h.1 all.1,
    )

    test_are : (p : PartTree) (name : ℕ → PointTree) (a b : PointTree) → IsPart P f Test p → T a → T b → Among (part_nodes p 0 name (test_ways a b)) → AreNodes (part_nodes p 0 name (test_ways a b))
    test_are p name a b h out back all = role_are Test (test_ways a b) (λ q l m. tests q l a b m out back) (record { part = p; role = Test; valid = h }) p 1 0 name (omega arith) h all

    switch_are : (p : PartTree) (stmts : StmtTrees) (name : Naming) (around : Around PointTree) → IsPart P f Switch p → AreCases stmts → LeadTo T (switch_ways stmts name around)
        → Among (part_nodes p 0 (λ k. name [] 0 k) (switch_ways stmts name around)) → AreNodes (part_nodes p 0 (λ k. name [] 0 k) (switch_ways stmts name around))
    switch_are p stmts name around h cases to all =
        role_are Switch (switch_ways stmts name around) (λ q l m. chooses q l stmts name around m cases to) (record { part = p; role = Switch; valid = h }) p 1 0 (λ k. name [] 0 k) (omega arith) h all

    jump_are : (p : PartTree) (name : ℕ → PointTree) (to : PointTree) → IsJump p → T to → AreNodes (part_nodes p 0 name (way next to ∷ []))
    jump_are [] name to h out = tt
    jump_are (s ∷ []) name to h out = (subst (λ l. IsNode P f T (name 0) l (way next to ∷ [])) (sym h) (jumps_on (name 0) to out), tt)
    jump_are (s ∷ t ∷ rest) name to h out = absurd h

    parts_are : (ps : List PartTree) (i : ℕ) (name : Naming) (around : Around PointTree) → All (λ p. IsPart P f Whole p) ps → T around.leave → T around.returned → Among (parts_nodes ps i name around) → AreNodes (parts_nodes ps i name around)
    parts_are [] i name around h out back all = tt
    parts_are (p ∷ rest) i name around h out back all =
        let past = enter_parts rest (i + 1) name around.leave in
        let here = part_nodes p 0 (λ k. name [] i k) (last_ways p past around.returned) in
        let below = parts_nodes rest (i + 1) name around in
        let later = each_right InT here below all in
        each_append Holds here below
        (whole_are (record { part = p; role = Whole; valid = All-head (λ q. IsPart P f Whole q) p rest h }) p 1 0 (λ k. name [] i k) past around.returned (omega arith) (All-head (λ q. IsPart P f Whole q) p rest h) (parts_begin rest (i + 1) name around out later) back (each_left InT here below all))
        (parts_are rest (i + 1) name around (All-tail (λ q. IsPart P f Whole q) p rest h) out back later)

    -- what is evaluated for its effects might be a whole part
    effect_whole : (sc : Scope) (j : ℕ) (l : LabelTree) → IsLast P f sc Effect j l → IsLast P f sc Whole j l
    effect_whole sc j (evaluates e) h = h
    effect_whole sc j (initialises owner t init) h = h
    effect_whole sc j (calls c) h = h
    effect_whole sc j _ h = absurd h

    effect_stages : (sc : Scope) (ps : PartTree) (j : ℕ) → AreStages P f sc Effect j ps → AreStages P f sc Whole j ps
    effect_stages sc [] j h = absurd h
    effect_stages sc (s ∷ []) j h = effect_whole sc j s.label h
    effect_stages sc (s ∷ t ∷ rest) j h = (h.0, effect_stages sc (t ∷ rest) (j + 1) h.1)

    whole_parts : (ps : List PartTree) → All (λ p. IsPart P f Effect p) ps → All (λ p. IsPart P f Whole p) ps
    whole_parts ps h = All-weaker (λ p. IsPart P f Effect p) (λ p. IsPart P f Whole p) (λ p. effect_stages (scope_of P f p) p 1) ps h

    module _ (jump : Name → PointTree) where
      for_parts : (first third : List PartTree) (p : PartTree) (s : StmtTree) (name : Naming) (around : Around PointTree) → T around.leave → Among (nodes (for_loop first p third s) name jump around) → T (enter_part p (length first) name around.leave)
      for_parts first third p s name around out all =
          let m = length first in
          let test = enter_part p m name around.leave in
          let inside = looping (enter_parts third (m + 1) name test) around in
          let ways = test_ways (enter s (λ q. name (0 ∷ q)) inside) around.leave in
          let one = parts_nodes first 0 name (leaving test around) in
          let two = part_nodes p 0 (λ k. name [] m k) ways in
          let rest = parts_nodes third (m + 1) name (leaving test around) ++ nodes s (λ q. name (0 ∷ q)) jump inside in
          part_begins p m name around.leave ways out (each_left InT two rest (each_right InT one (two ++ rest) all))

      -- the body of a loop stands among points of T
      while_round : (p : PartTree) (s : StmtTree) (to : Targets) (name : Naming) (around : Around PointTree) → Round to around → Among (nodes (while_loop p s) name jump around) → Round in_loop (in_while p name around)
      while_round p s to name around r all =
          let onward = enter_part p 0 name around.leave in
          let inside = looping onward around in
          let ways = test_ways (enter s (λ q. name (0 ∷ q)) inside) around.leave in
          looped to around onward (part_begins p 0 name around.leave ways r.leave_in (each_left InT (part_nodes p 0 (λ k. name [] 0 k) ways) (nodes s (λ q. name (0 ∷ q)) jump inside) all)) r

      do_round : (p : PartTree) (s : StmtTree) (to : Targets) (name : Naming) (around : Around PointTree) → Round to around → Among (nodes (do_loop s p) name jump around) → Round in_loop (in_while p name around)
      do_round p s to name around r all =
          let onward = enter_part p 0 name around.leave in
          let inside = looping onward around in
          let ways = test_ways (enter s (λ q. name (0 ∷ q)) inside) around.leave in
          looped to around onward (part_begins p 0 name around.leave ways r.leave_in (each_right InT (nodes s (λ q. name (0 ∷ q)) jump inside) (part_nodes p 0 (λ k. name [] 0 k) ways) all)) r

      for_behind : (first third : List PartTree) (p : PartTree) (s : StmtTree) (name : Naming) (around : Around PointTree) → Among (nodes (for_loop first p third s) name jump around)
          → Among (parts_nodes third (length first + 1) name (leaving (enter_part p (length first) name around.leave) around) ++ nodes s (λ q. name (0 ∷ q)) jump (in_for first p third name around))
      for_behind first third p s name around all =
          let m = length first in
          let test = enter_part p m name around.leave in
          let inside = in_for first p third name around in
          let one = parts_nodes first 0 name (leaving test around) in
          let two = part_nodes p 0 (λ k. name [] m k) (test_ways (enter s (λ q. name (0 ∷ q)) inside) around.leave) in
          let rest = parts_nodes third (m + 1) name (leaving test around) ++ nodes s (λ q. name (0 ∷ q)) jump inside in
          each_right InT two rest (each_right InT one (two ++ rest) all)

      for_body : (first third : List PartTree) (p : PartTree) (s : StmtTree) (name : Naming) (around : Around PointTree) → Among (nodes (for_loop first p third s) name jump around) → Among (nodes s (λ q. name (0 ∷ q)) jump (in_for first p third name around))
      for_body first third p s name around all =
          let m = length first in
          each_right InT (parts_nodes third (m + 1) name (leaving (enter_part p m name around.leave) around)) (nodes s (λ q. name (0 ∷ q)) jump (in_for first p third name around)) (for_behind first third p s name around all)

      for_round : (first third : List PartTree) (p : PartTree) (s : StmtTree) (to : Targets) (name : Naming) (around : Around PointTree) → Round to around → Among (nodes (for_loop first p third s) name jump around) → Round in_loop (in_for first p third name around)
      for_round first third p s to name around r all =
          let m = length first in
          let test = enter_part p m name around.leave in
          let three = parts_nodes third (m + 1) name (leaving test around) in
          let in_three = each_left InT three (nodes s (λ q. name (0 ∷ q)) jump (in_for first p third name around)) (for_behind first third p s name around all) in
          looped to around (enter_parts third (m + 1) name test) (parts_begin third (m + 1) name (leaving test around) (for_parts first third p s name around r.leave_in all) in_three) r

      mutual
        stmt_begins : (s : StmtTree) (to : Targets) (name : Naming) (around : Around PointTree) → IsStmt P f to s → Round to around → Among (nodes s name jump around) → T (enter s name around)
        stmt_begins (parts ps) to name around h r all = parts_begin ps 0 name around r.leave_in all
        stmt_begins (block stmts) to name around h r all = list_begins stmts 0 (further_in to) name around h.1 (inside_of to around r) all
        stmt_begins (conditional p t e) to name around h r all =
            let ways = test_ways (enter t (λ q. name (0 ∷ q)) around) (enter_else e (λ q. name (1 ∷ q)) around) in
            part_begins p 0 name around.leave ways r.leave_in (each_left InT (part_nodes p 0 (λ k. name [] 0 k) ways) (nodes t (λ q. name (0 ∷ q)) jump around ++ nodes_else e (λ q. name (1 ∷ q)) jump around) all)
        stmt_begins (while_loop p s) to name around h r all =
            let inside = looping (enter_part p 0 name around.leave) around in
            let ways = test_ways (enter s (λ q. name (0 ∷ q)) inside) around.leave in
            part_begins p 0 name around.leave ways r.leave_in (each_left InT (part_nodes p 0 (λ k. name [] 0 k) ways) (nodes s (λ q. name (0 ∷ q)) jump inside) all)
        stmt_begins (do_loop s p) to name around h r all =
            let onward = enter_part p 0 name around.leave in
            let inside = looping onward around in
            let here = nodes s (λ q. name (0 ∷ q)) jump inside in
            let ways = test_ways (enter s (λ q. name (0 ∷ q)) inside) around.leave in
            let below = part_nodes p 0 (λ k. name [] 0 k) ways in
            stmt_begins s in_loop (λ q. name (0 ∷ q)) inside h.0 (looped to around onward (part_begins p 0 name around.leave ways r.leave_in (each_right InT here below all)) r) (each_left InT here below all)
        stmt_begins (for_loop first p third s) to name around h r all =
            let m = length first in
            let test = enter_part p m name around.leave in
            let inside = looping (enter_parts third (m + 1) name test) around in
            let ways = test_ways (enter s (λ q. name (0 ∷ q)) inside) around.leave in
            let one = parts_nodes first 0 name (leaving test around) in
            let rest = part_nodes p 0 (λ k. name [] m k) ways ++ (parts_nodes third (m + 1) name (leaving test around) ++ nodes s (λ q. name (0 ∷ q)) jump inside) in
            parts_begin first 0 name (leaving test around) (for_parts first third p s name around r.leave_in all) (each_left InT one rest all)
        stmt_begins (switch_on p stmts) to name around h r all =
            let inside = switching around in
            let ways = switch_ways stmts name inside in
            part_begins p 0 name around.leave ways r.leave_in (each_left InT (part_nodes p 0 (λ k. name [] 0 k) ways) (nodes_list stmts 0 name jump inside) all)
        stmt_begins (case_label v) to name around h r all = r.leave_in
        stmt_begins default_label to name around h r all = r.leave_in
        stmt_begins breaks to name around h r all = r.broken_in h
        stmt_begins continues to name around h r all = r.continued_in h
        stmt_begins (goes_to a p) to name around h r all = part_begins p 0 name around.leave (way next (jump a) ∷ []) r.leave_in all
        stmt_begins (marked a s) to name around h r all = stmt_begins s (further_in to) (λ q. name (0 ∷ q)) around h (inside_of to around r) all

        list_begins : (stmts : StmtTrees) (i : ℕ) (to : Targets) (name : Naming) (around : Around PointTree) → AreStmts P f to stmts → Round to around → Among (nodes_list stmts i name jump around) → T (enter_list stmts i name around)
        list_begins no_stmt i to name around h r all = r.leave_in
        list_begins (more_stmts s rest) i to name around h r all =
            let onward = enter_list rest (i + 1) name around in
            let past = leaving onward around in
            let here = nodes s (λ q. name (i ∷ q)) jump past in
            let below = nodes_list rest (i + 1) name jump around in
            stmt_begins s to (λ q. name (i ∷ q)) past h.0 (left_to to around onward (list_begins rest (i + 1) to name around h.1 r (each_right InT here below all)) r) (each_left InT here below all)

      else_begins : (e : ElseTree) (to : Targets) (name : Naming) (around : Around PointTree) → IsElse P f to e → Round to around → Among (nodes_else e name jump around) → T (enter_else e name around)
      else_begins no_else to name around h r all = r.leave_in
      else_begins (else_stmt s) to name around h r all = stmt_begins s to name around h r all

      -- the ways out of a `switch` lead to lines of it or past it
      abbrev LeadIn : Way PointTree → Type 0
      LeadIn w = T w.to

      case_leads : (v : Option ℤ) (to : PointTree) → T to → LeadTo T (case_way v to)
      case_leads None to h = tt
      case_leads (Some v) to h = (h, tt)

      cases_lead : (stmts : StmtTrees) (i : ℕ) (to : Targets) (name : Naming) (around : Around PointTree) → AreStmts P f to stmts → Round to around → Among (nodes_list stmts i name jump around) → LeadTo T (case_ways stmts i name around)
      cases_lead no_stmt i to name around h r all = tt
      cases_lead (more_stmts s rest) i to name around h r all =
          let onward = enter_list rest (i + 1) name around in
          let later = each_right InT (nodes s (λ q. name (i ∷ q)) jump (leaving onward around)) (nodes_list rest (i + 1) name jump around) all in
          each_append LeadIn (case_way (case_of s) onward) (case_ways rest (i + 1) name around)
          (case_leads (case_of s) onward (list_begins rest (i + 1) to name around h.1 r later))
          (cases_lead rest (i + 1) to name around h.1 r later)

      default_leads : (stmts : StmtTrees) (i : ℕ) (to : Targets) (name : Naming) (around : Around PointTree) → AreStmts P f to stmts → Round to around → Among (nodes_list stmts i name jump around) → T (default_to stmts i name around)
      default_leads no_stmt i to name around h r all = r.leave_in
      default_leads (more_stmts s rest) i to name around h r all =
          let onward = enter_list rest (i + 1) name around in
          let later = each_right InT (nodes s (λ q. name (i ∷ q)) jump (leaving onward around)) (nodes_list rest (i + 1) name jump around) all in
          pick (is_default s) (list_begins rest (i + 1) to name around h.1 r later) (default_leads rest (i + 1) to name around h.1 r later)
        where
          pick : (b : Bool) → T (enter_list rest (i + 1) name around) → T (default_to rest (i + 1) name around) → T (cond b (enter_list rest (i + 1) name around) (default_to rest (i + 1) name around))
          pick true here later = here
          pick false here later = later

      switch_leads : (stmts : StmtTrees) (to : Targets) (name : Naming) (around : Around PointTree) → AreStmts P f to stmts → Round to around → Among (nodes_list stmts 0 name jump around) → LeadTo T (switch_ways stmts name around)
      switch_leads stmts to name around h r all =
          each_append LeadIn (case_ways stmts 0 name around) (way _ (default_to stmts 0 name around) ∷ [])
          (cases_lead stmts 0 to name around h r all) (default_leads stmts 0 to name around h r all, tt)

      -- each labelled statement begins at a point of T
      abbrev InMark : Mark PointTree → Type 0
      InMark m = T m.to

      abbrev MarksIn : List (Mark PointTree) → Type 0
      MarksIn ms = AllByRecursion InMark ms

      mutual
        marks_begin : (s : StmtTree) (to : Targets) (name : Naming) (around : Around PointTree) → IsStmt P f to s → Round to around → Among (nodes s name jump around) → MarksIn (marks s name around)
        marks_begin (parts ps) to name around h r all = tt
        marks_begin (block stmts) to name around h r all = marks_begin_list stmts 0 (further_in to) name around h.1 (inside_of to around r) all
        marks_begin (conditional p t e) to name around h r all =
            let here = part_nodes p 0 (λ k. name [] 0 k) (test_ways (enter t (λ q. name (0 ∷ q)) around) (enter_else e (λ q. name (1 ∷ q)) around)) in
            let first = nodes t (λ q. name (0 ∷ q)) jump around in
            let second = nodes_else e (λ q. name (1 ∷ q)) jump around in
            let both = each_right InT here (first ++ second) all in
            let inner = inside_of to around r in
            each_append InMark (marks t (λ q. name (0 ∷ q)) around) (marks_else e (λ q. name (1 ∷ q)) around)
            (marks_begin t (further_in to) (λ q. name (0 ∷ q)) around h.1 inner (each_left InT first second both))
            (marks_begin_else e (further_in to) (λ q. name (1 ∷ q)) around h.2 inner (each_right InT first second both))
        marks_begin (while_loop p s) to name around h r all =
            let inside = in_while p name around in
            let here = part_nodes p 0 (λ k. name [] 0 k) (test_ways (enter s (λ q. name (0 ∷ q)) inside) around.leave) in
            marks_begin s in_loop (λ q. name (0 ∷ q)) inside h.1 (while_round p s to name around r all) (each_right InT here (nodes s (λ q. name (0 ∷ q)) jump inside) all)
        marks_begin (do_loop s p) to name around h r all =
            let inside = in_while p name around in
            let below = part_nodes p 0 (λ k. name [] 0 k) (test_ways (enter s (λ q. name (0 ∷ q)) inside) around.leave) in
            marks_begin s in_loop (λ q. name (0 ∷ q)) inside h.0 (do_round p s to name around r all) (each_left InT (nodes s (λ q. name (0 ∷ q)) jump inside) below all)
        marks_begin (for_loop first p third s) to name around h r all =
            marks_begin s in_loop (λ q. name (0 ∷ q)) (in_for first p third name around) h.1 (for_round first third p s to name around r all) (for_body first third p s name around all)
        marks_begin (switch_on p stmts) to name around h r all =
            let inside = switching around in
            let here = part_nodes p 0 (λ k. name [] 0 k) (switch_ways stmts name inside) in
            marks_begin_list stmts 0 (in_switch (switch_kind p) to) name inside h.2 (switched to (switch_kind p) around r) (each_right InT here (nodes_list stmts 0 name jump inside) all)
        marks_begin (case_label v) to name around h r all = tt
        marks_begin default_label to name around h r all = tt
        marks_begin breaks to name around h r all = tt
        marks_begin continues to name around h r all = tt
        marks_begin (goes_to a p) to name around h r all = tt
        marks_begin (marked a s) to name around h r all =
            let inner = inside_of to around r in
            (stmt_begins s (further_in to) (λ q. name (0 ∷ q)) around h inner all, marks_begin s (further_in to) (λ q. name (0 ∷ q)) around h inner all)

        marks_begin_list : (stmts : StmtTrees) (i : ℕ) (to : Targets) (name : Naming) (around : Around PointTree) → AreStmts P f to stmts → Round to around → Among (nodes_list stmts i name jump around) → MarksIn (marks_list stmts i name around)
        marks_begin_list no_stmt i to name around h r all = tt
        marks_begin_list (more_stmts s rest) i to name around h r all =
            let onward = enter_list rest (i + 1) name around in
            let past = leaving onward around in
            let here = nodes s (λ q. name (i ∷ q)) jump past in
            let below = nodes_list rest (i + 1) name jump around in
            let later = each_right InT here below all in
            each_append InMark (marks s (λ q. name (i ∷ q)) past) (marks_list rest (i + 1) name around)
            (marks_begin s to (λ q. name (i ∷ q)) past h.0 (left_to to around onward (list_begins rest (i + 1) to name around h.1 r later) r) (each_left InT here below all))
            (marks_begin_list rest (i + 1) to name around h.1 r later)

        marks_begin_else : (e : ElseTree) (to : Targets) (name : Naming) (around : Around PointTree) → IsElse P f to e → Round to around → Among (nodes_else e name jump around) → MarksIn (marks_else e name around)
        marks_begin_else no_else to name around h r all = tt
        marks_begin_else (else_stmt s) to name around h r all = marks_begin s to name around h r all

      module _ (jumps_in : (a : Name) → T (jump a)) where
        mutual
          stmt_are : (s : StmtTree) (to : Targets) (name : Naming) (around : Around PointTree) → IsStmt P f to s → Round to around → Among (nodes s name jump around) → AreNodes (nodes s name jump around)
          stmt_are (parts ps) to name around h r all = parts_are ps 0 name around h.each r.leave_in r.returned_in all
          stmt_are (block stmts) to name around h r all = list_are stmts 0 (further_in to) name around h.1 (inside_of to around r) all
          stmt_are (conditional p t e) to name around h r all =
              let when_true = enter t (λ q. name (0 ∷ q)) around in
              let when_false = enter_else e (λ q. name (1 ∷ q)) around in
              let here = part_nodes p 0 (λ k. name [] 0 k) (test_ways when_true when_false) in
              let first = nodes t (λ q. name (0 ∷ q)) jump around in
              let second = nodes_else e (λ q. name (1 ∷ q)) jump around in
              let both = each_right InT here (first ++ second) all in
              let left = each_left InT first second both in
              let right = each_right InT first second both in
              let further = further_in to in
              let inner = inside_of to around r in
              each_append Holds here (first ++ second)
              (test_are p (λ k. name [] 0 k) when_true when_false h.0 (stmt_begins t further (λ q. name (0 ∷ q)) around h.1 inner left) (else_begins e further (λ q. name (1 ∷ q)) around h.2 inner right) (each_left InT here (first ++ second) all))
              (each_append Holds first second (stmt_are t further (λ q. name (0 ∷ q)) around h.1 inner left) (else_are e further (λ q. name (1 ∷ q)) around h.2 inner right))
          stmt_are (while_loop p s) to name around h r all =
              let onward = enter_part p 0 name around.leave in
              let inside = looping onward around in
              let ways = test_ways (enter s (λ q. name (0 ∷ q)) inside) around.leave in
              let here = part_nodes p 0 (λ k. name [] 0 k) ways in
              let below = nodes s (λ q. name (0 ∷ q)) jump inside in
              let left = each_left InT here below all in
              let right = each_right InT here below all in
              let round = while_round p s to name around r all in
              each_append Holds here below
              (test_are p (λ k. name [] 0 k) (enter s (λ q. name (0 ∷ q)) inside) around.leave h.0 (stmt_begins s in_loop (λ q. name (0 ∷ q)) inside h.1 round right) r.leave_in left)
              (stmt_are s in_loop (λ q. name (0 ∷ q)) inside h.1 round right)
          stmt_are (do_loop s p) to name around h r all =
              let onward = enter_part p 0 name around.leave in
              let inside = looping onward around in
              let ways = test_ways (enter s (λ q. name (0 ∷ q)) inside) around.leave in
              let here = nodes s (λ q. name (0 ∷ q)) jump inside in
              let below = part_nodes p 0 (λ k. name [] 0 k) ways in
              let left = each_left InT here below all in
              let right = each_right InT here below all in
              let round = do_round p s to name around r all in
              each_append Holds here below
              (stmt_are s in_loop (λ q. name (0 ∷ q)) inside h.0 round left)
              (test_are p (λ k. name [] 0 k) (enter s (λ q. name (0 ∷ q)) inside) around.leave h.1 (stmt_begins s in_loop (λ q. name (0 ∷ q)) inside h.0 round left) r.leave_in right)
          stmt_are (for_loop first p third s) to name around h r all =
              let m = length first in
              let test = enter_part p m name around.leave in
              let onward = enter_parts third (m + 1) name test in
              let inside = looping onward around in
              let ways = test_ways (enter s (λ q. name (0 ∷ q)) inside) around.leave in
              let one = parts_nodes first 0 name (leaving test around) in
              let two = part_nodes p 0 (λ k. name [] m k) ways in
              let three = parts_nodes third (m + 1) name (leaving test around) in
              let body = nodes s (λ q. name (0 ∷ q)) jump inside in
              let rest = each_right InT one (two ++ (three ++ body)) all in
              let last = each_right InT two (three ++ body) rest in
              let in_three = each_left InT three body last in
              let in_body = each_right InT three body last in
              let test_in = for_parts first third p s name around r.leave_in all in
              let round = for_round first third p s to name around r all in
              each_append Holds one (two ++ (three ++ body))
              (parts_are first 0 name (leaving test around) (whole_parts first h.0.begins.each) test_in r.returned_in (each_left InT one (two ++ (three ++ body)) all))
              (each_append Holds two (three ++ body)
              (test_are p (λ k. name [] m k) (enter s (λ q. name (0 ∷ q)) inside) around.leave h.0.tests (stmt_begins s in_loop (λ q. name (0 ∷ q)) inside h.1 round in_body) r.leave_in (each_left InT two (three ++ body) rest))
              (each_append Holds three body
              (parts_are third (m + 1) name (leaving test around) (whole_parts third h.0.steps) test_in r.returned_in in_three)
              (stmt_are s in_loop (λ q. name (0 ∷ q)) inside h.1 round in_body)))
          stmt_are (switch_on p stmts) to name around h r all =
              let inside = switching around in
              let ways = switch_ways stmts name inside in
              let here = part_nodes p 0 (λ k. name [] 0 k) ways in
              let below = nodes_list stmts 0 name jump inside in
              let right = each_right InT here below all in
              let kind = switch_kind p in
              let round = switched to kind around r in
              each_append Holds here below
              (switch_are p stmts name inside h.0 h.1 (switch_leads stmts (in_switch kind to) name inside h.2 round right) (each_left InT here below all))
              (list_are stmts 0 (in_switch kind to) name inside h.2 round right)
          stmt_are (case_label v) to name around h r all = tt
          stmt_are default_label to name around h r all = tt
          stmt_are breaks to name around h r all = tt
          stmt_are continues to name around h r all = tt
          stmt_are (goes_to a p) to name around h r all = jump_are p (λ k. name [] 0 k) (jump a) h.0 (jumps_in a)
          stmt_are (marked a s) to name around h r all = stmt_are s (further_in to) (λ q. name (0 ∷ q)) around h (inside_of to around r) all

          list_are : (stmts : StmtTrees) (i : ℕ) (to : Targets) (name : Naming) (around : Around PointTree) → AreStmts P f to stmts → Round to around → Among (nodes_list stmts i name jump around) → AreNodes (nodes_list stmts i name jump around)
          list_are no_stmt i to name around h r all = tt
          list_are (more_stmts s rest) i to name around h r all =
              let onward = enter_list rest (i + 1) name around in
              let past = leaving onward around in
              let here = nodes s (λ q. name (i ∷ q)) jump past in
              let below = nodes_list rest (i + 1) name jump around in
              let later = each_right InT here below all in
              each_append Holds here below
              (stmt_are s to (λ q. name (i ∷ q)) past h.0 (left_to to around onward (list_begins rest (i + 1) to name around h.1 r later) r) (each_left InT here below all))
              (list_are rest (i + 1) to name around h.1 r later)

          else_are : (e : ElseTree) (to : Targets) (name : Naming) (around : Around PointTree) → IsElse P f to e → Round to around → Among (nodes_else e name jump around) → AreNodes (nodes_else e name jump around)
          else_are no_else to name around h r all = tt
          else_are (else_stmt s) to name around h r all = stmt_are s to name around h r all

    -- a `goto` leads to one of its function's labelled statements
    target_in : (ms : List (Mark PointTree)) (other : PointTree) (a : Name) → AllByRecursion (λ (m : Mark PointTree). T m.to) ms → T other → T (target ms other a)
    target_in [] other a h out = out
    target_in (m ∷ rest) other a h out = pick (bytes_eq m.name a) (target_in rest other a h.1 out)
      where
        pick : (b : Bool) → T (target rest other a) → T (cond b m.to (target rest other a))
        pick true later = h.0
        pick false later = later

    -- all points of a valid function, if ways may lead to these
    pub function_are : AreStmts P f no_loop f.body → Among (function_nodes f) → AreNodes (function_nodes f)
    function_are h all =
        let jump = goto_of f in
        let body = nodes_list f.body 0 at jump to_exit in
        let last : Node PointTree = record { point = exit; label = exits (end_rule f.name f.result); span = f.span; ways = [] } in
        let out = (each_right InT body (last ∷ []) all.1).0 in
        let round : Round no_loop to_exit = record { leave_in = out; returned_in = out; broken_in = λ e. out; continued_in = λ e. out } in
        let inside = each_left InT body (last ∷ []) all.1 in
        let onward = enter_list f.body 0 at to_exit in
        let begun = marks_begin_list jump f.body 0 no_loop at to_exit h round inside in (
          begins onward (list_begins jump f.body 0 no_loop at to_exit h round inside),
          each_append Holds body (last ∷ []) (list_are jump (λ a. target_in (marks_list f.body 0 at to_exit) exit a begun out) f.body 0 no_loop at to_exit h round inside) (ends, tt),
        )
