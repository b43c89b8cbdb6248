-- Parts that are made of expressions that break no rule.
use Rattle.std.proofs.Common.{◌≡◌, refl, ap, subst, arith, ℕ, ◌+◌, ◌≤◌, ◌<◌, List, [], ◌∷◌, ◌++◌, length, map, slice_get, append_assoc, add-one, length-append}
use Rattle.std.proofs.Common.{Option, Some, false, IsTrue}
use Rattle.std.specs.Option.{option_and_then}
use Rattle.csub_text.specs.declared.span.Span.{Span}
use Rattle.csub_types.specs.declared.kind.IntKind.{IntKind}
use Rattle.csub_tree.specs.Expressions.{Expr}
use Rattle.csub_semantics.specs.Labels.{LabelTree, enters, exits, evaluates, initialises, branches, switches, returns, jumps, halts, calls}
use Rattle.csub_semantics.specs.Syntax.{Stage, CallAt, in_part, FunctionTree, ProgramTree}
use Rattle.csub_scopes.specs.Scopes.{Scope}
use Rattle.csub_rules.specs.Sorts.{is_number, the_kind}
use Rattle.csub_rules.specs.ExprSorts.{sort_of}
use Rattle.csub_rules.specs.Fine.{Fine}
use Rattle.csub_resolution.specs.Values.{Defined, count, calls_in, place, value}
use Rattle.csub_resolution.specs.Programs.{part_temps}
use Rattle.csub_resolution.specs.Lines.{own}
use Rattle.csub_limits.specs.Prints.{prints}
use Rattle.csub_validity.specs.declared.role.Role.{Role}
use Rattle.csub_validity.specs.declared.role.Role.TheVariants.{Whole, Test, Switch, Effect}
use Rattle.csub_validity.specs.Valid as valid
use Rattle.csub_validity.specs.Valid.{IsExpr, IsCall, IsLast, IsEarlier, AreStages, IsPart, scope_of, objects_of, stage_result, result_of, kind_of}
use Rattle.program_validity.specs.Written.{WrittenExpr}
use Rattle.program_validity.proofs.Counted.{call_temps, Stand, calls_length, part_append}
use Rattle.program_validity.proofs.Agreeing.{Agrees}
use Rattle.program_validity.proofs.Printing.{Few}
use Rattle.program_validity.proofs.Expressions.{numeric, made, Given}
use Rattle.program_validity.proofs.Calls.{CanCall, AreCallsFrom, Room, calls_made}

-- ---- the results of a part

got : (pre : List Stage) (s : Stage) (rest : List Stage) → slice_get (map stage_result (pre ++ s ∷ rest)) (length pre) ≡ Some (stage_result s)
got [] s rest = refl
got (q ∷ pre) s rest = got pre s rest

result_next : (rs : List (Option IntKind)) (k : ℕ) (r : Option IntKind) → slice_get rs k ≡ Some r → result_of rs (k + 1) ≡ r
result_next rs k r e = rw (add-one k) (ap (λ o. option_and_then (λ x. x) o) e)

stand_from : (at : Span) (pre : List Stage) (cs : List CallAt) (rest : List Stage)
    → Stand (map stage_result (pre ++ (map (in_part at) cs ++ rest))) (length pre) cs
stand_from at pre [] rest = tt
stand_from at pre (c ∷ cs) rest =
    let s : Stage = in_part at c in
    let behind : List Stage = map (in_part at) cs ++ rest in
    let more : (pre ++ s ∷ []) ++ behind ≡ pre ++ s ∷ behind = append_assoc pre (s ∷ []) behind in
    let longer : length (pre ++ s ∷ []) ≡ length pre + 1 = length-append pre (s ∷ []) in
    let next : Stand (map stage_result ((pre ++ s ∷ []) ++ behind)) (length (pre ++ s ∷ [])) cs = stand_from at (pre ++ s ∷ []) cs rest in (
      result_next (map stage_result (pre ++ s ∷ behind)) (length pre) (stage_result s) (got pre s behind),
      subst (λ k. Stand (map stage_result (pre ++ s ∷ behind)) k cs) longer
          (subst (λ ss. Stand (map stage_result ss) (length (pre ++ s ∷ [])) cs) more next),
    )

-- the calls of a part stand in it
pub stand_calls : (at : Span) (cs : List CallAt) (rest : List Stage) → Stand (map stage_result (map (in_part at) cs ++ rest)) 0 cs
stand_calls at cs rest = stand_from at [] cs rest

-- ---- the stages of a part

abbrev pub MayCall : Role → Type 0
MayCall Whole = Unit {0}
MayCall Test = ⊥
MayCall Switch = ⊥
MayCall Effect = Unit {0}

module _ (P : ProgramTree) (f : FunctionTree) (sc : valid.Scope) (role : Role) where
  stages : (at : Span) (k n : ℕ) (cs : List CallAt) (x : Stage) → n ≡ k + length cs + 1 → AreCallsFrom P f sc k cs → IsLast P f sc role n x.label
      → AreStages P f sc role (k + 1) (map (in_part at) cs ++ x ∷ [])
  stages at k n [] x e h l = let here : n ≡ k + 1 = omega arith in subst (λ i. IsLast P f sc role i x.label) here l
  stages at k n (s ∷ []) x e h l = (h.0, stages at (k + 1) n [] x (omega arith) tt l)
  stages at k n (s ∷ t ∷ rest) x e h l = (h.0, stages at (k + 1) n (t ∷ rest) x (omega arith) h.1 l)

  as_last : (k : ℕ) (l : LabelTree) → MayCall role → IsEarlier P f sc k l → IsLast P f sc role k l
  as_last k enters m h = absurd h
  as_last k (exits r) m h = absurd h
  as_last k (evaluates e) m h = absurd h
  as_last k (initialises o t i) m h = absurd h
  as_last k (branches e) m h = absurd h
  as_last k (switches e) m h = absurd h
  as_last k (returns a) m h = absurd h
  as_last k jumps m h = absurd h
  as_last k (halts e) m h = absurd h
  as_last k (calls c) m h = by role m
    where
      by : (r : Role) → MayCall r → IsLast P f sc r k (calls c)
      by Whole m = h
      by Test m = absurd m
      by Switch m = absurd m
      by Effect m = h

  pub calls_alone : (at : Span) (k : ℕ) (cs : List CallAt) → MayCall role → 0 < length cs → AreCallsFrom P f sc k cs
      → AreStages P f sc role (k + 1) (map (in_part at) cs ++ [])
  calls_alone at k [] m e h = absurd (omega arith)
  calls_alone at k (s ∷ []) m e h = as_last (k + 1) s.label m h.0
  calls_alone at k (s ∷ t ∷ rest) m e h = (h.0, calls_alone at (k + 1) (t ∷ rest) m (omega arith) h.1)

-- ---- parts

-- what is known where an expression stands in a function
pub record Stands (P : ProgramTree) (f : FunctionTree) (defined : List Defined) (scope : Scope) : Type 0 where
  pub agrees : Agrees P.globals (objects_of f) scope
  pub can : CanCall P defined scope

module _ (P : ProgramTree) (f : FunctionTree) where
  -- a part with its own point
  pub own_part : (role : Role) (cs : List CallAt) (label : LabelTree) (at : Span) (ps : List ℕ) (n : ℕ) → length cs ≡ n → Few ps
      → part_temps (map (in_part at) cs ++ own label at) ≤ f.temps
      → (Room P f (scope_of P f (map (in_part at) cs ++ own label at)) 0 ps cs → AreCallsFrom P f (scope_of P f (map (in_part at) cs ++ own label at)) 0 cs)
      → (Given (scope_of P f (map (in_part at) cs ++ own label at)) (n + 1) 0 n ps cs → IsLast P f (scope_of P f (map (in_part at) cs ++ own label at)) role (n + 1) label)
      → IsPart P f role (map (in_part at) cs ++ own label at)
  own_part role cs label at ps n e few room made_calls last =
      let sc : valid.Scope = scope_of P f (map (in_part at) cs ++ own label at) in
      let stand : Stand sc.results 0 cs = stand_calls at cs (own label at) in
      let sum = part_append at cs (own label at) in
      stages P f sc role at 0 (n + 1) cs (record { label = label; span = at; part = at }) (omega arith)
      (made_calls (record { few = few; stand = stand; room = omega arith }))
      (last (record { few = few; stand = stand; before = omega arith }))

  -- a part that is a call
  pub call_part : (role : Role) (at : Span) (cs : List CallAt) (ps : List ℕ) → MayCall role → 0 < length cs → Few ps
      → part_temps (map (in_part at) cs ++ []) ≤ f.temps
      → (Room P f (scope_of P f (map (in_part at) cs ++ [])) 0 ps cs → AreCallsFrom P f (scope_of P f (map (in_part at) cs ++ [])) 0 cs)
      → IsPart P f role (map (in_part at) cs ++ [])
  call_part role at cs ps m e few room made_calls =
      let sum : part_temps (map (in_part at) cs ++ []) ≡ call_temps cs + 0 = part_append at cs [] in
      calls_alone P f (scope_of P f (map (in_part at) cs ++ [])) role at 0 cs m e
      (made_calls (record { few = few; stand = stand_calls at cs []; room = omega arith }))

  module _ (defined : List Defined) (scope : Scope) (stands : Stands P f defined scope) where
    -- a part with an expression of a number
    pub expr_part : (role : Role) (e : Expr) (label : LabelTree) (at : Span)
        → ((sc : valid.Scope) (n : ℕ) → IsExpr sc n (value scope 0 e) → IsLast P f sc role n label)
        → Fine scope false e → IsTrue (is_number (sort_of scope e)) → WrittenExpr e → Few (prints e)
        → part_temps (map (in_part at) (calls_in defined scope 0 e) ++ own label at) ≤ f.temps
        → IsPart P f role (map (in_part at) (calls_in defined scope 0 e) ++ own label at)
    expr_part role e label at last fine number written few room =
        let sc : valid.Scope = scope_of P f (map (in_part at) (calls_in defined scope 0 e) ++ own label at) in
        own_part role (calls_in defined scope 0 e) label at (prints e) (count scope e) (calls_length defined scope 0 e) few room
        (λ r. calls_made P f sc defined scope stands.agrees stands.can false 0 e fine written r)
        (λ g. last sc (count scope e + 1)
        (numeric sc (count scope e + 1) (sort_of scope e) (place scope 0 e) (value scope 0 e) number (made defined scope sc stands.agrees (count scope e + 1) false 0 e fine written g)).valid)

    -- and the kind of the number
    pub expr_kind : (e : Expr) (label : LabelTree) (at : Span) → Fine scope false e → IsTrue (is_number (sort_of scope e)) → WrittenExpr e
        → Few (prints e) → part_temps (map (in_part at) (calls_in defined scope 0 e) ++ own label at) ≤ f.temps → kind_of (value scope 0 e) ≡ the_kind (sort_of scope e)
    expr_kind e label at fine number written few room =
        let p : List Stage = map (in_part at) (calls_in defined scope 0 e) ++ own label at in
        let sc : valid.Scope = scope_of P f p in
        let stand : Stand sc.results 0 (calls_in defined scope 0 e) = stand_calls at (calls_in defined scope 0 e) (own label at) in
        let given : Given sc (count scope e + 1) 0 (count scope e) (prints e) (calls_in defined scope 0 e) =
        record { few = few; stand = stand; before = omega arith } in
        (numeric sc (count scope e + 1) (sort_of scope e) (place scope 0 e) (value scope 0 e) number (made defined scope sc stands.agrees (count scope e + 1) false 0 e fine written given)).kind
