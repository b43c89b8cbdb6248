-- Behind the scope of a function's parameters the names are those that stood before it.
use Rattle.std.proofs.Common.{◌≡◌, ◌∙◌, refl, sym, ap, ℕ, List, [], ◌∷◌, ◌++◌, length, append_assoc, Option, Some, None}
use Rattle.csub_tree.specs.declared.name.Name.{Name as NameAt}
use Rattle.csub_tree.specs.Declarations.{Param}
use Rattle.csub_tree.specs.Statements.{Stmts}
use Rattle.csub_objects.specs.Types.{TypeTree}
use Rattle.csub_scopes.specs.Scopes.{Scope}
use Rattle.csub_rules.specs.Here.{Here}
use Rattle.csub_rules.specs.Params.{param_type}
use Rattle.csub_rules.specs.Past.{past_lines}
use Rattle.csub_bodies.specs.Views.{closed}
use Rattle.csub_bodies.proofs.LawsGrows.{Extends, grows_lines, left}
use Rattle.csub_rules.specs.Heads.{at_params, past_name, past_param, past_params}

joins : (a b c : Here) → Extends a b → Extends b c → Extends a c
joins a b c p q = record {
  added = q.added ++ p.added;
  names = q.names ∙ ap (λ n. q.added ++ n) p.names ∙ sym (append_assoc q.added p.added a.scope.names);
  tags = q.tags ∙ p.tags;
}

grows_name : (h : Here) (x : Option NameAt) (t : Option TypeTree) → Extends h (past_name h x t)
grows_name h None t = record { added = []; names = refl; tags = refl }
grows_name h (Some x) t = record { added = _ ∷ []; names = refl; tags = refl }

grows_params : (ps : List Param) (h : Here) → Extends h (past_params h ps)
grows_params [] h = record { added = []; names = refl; tags = refl }
grows_params (p ∷ ps) h =
    joins h (past_param h p) (past_params (past_param h p) ps) (grows_name h p.name (param_type h.scope p)) (grows_params ps (past_param h p))

abbrev outside : Scope → Here
outside scope = record { scope = scope; depth = 0; before = [] }

params_left : (scope : Scope) (ps : List Param)
    → (closed (past_params (at_params scope) ps) 0 (length scope.names)).scope ≡ scope
params_left scope ps = ap (λ (h : Here). h.scope) (left (outside scope) (past_params (at_params scope) ps) (grows_params ps (at_params scope)))

body_left : (scope : Scope) (ps : List Param) (ss : Stmts)
    → (closed (past_lines (past_params (at_params scope) ps) ss) 0 (length scope.names)).scope ≡ scope
body_left scope ps ss =
    let inner : Here = past_params (at_params scope) ps in
    ap (λ (h : Here). h.scope) (left (outside scope) (past_lines inner ss)
    (joins (at_params scope) inner (past_lines inner ss) (grows_params ps (at_params scope)) (grows_lines ss inner)))

-- behind a head, by what the code keeps on the way
pub params_closed : (scope new : Scope) (enter params : Here) (ps : List Param) (mark : ℕ) → mark ≡ length scope.names → enter ≡ at_params scope
    → params ≡ past_params enter ps → new ≡ (closed params 0 mark).scope → new ≡ scope
params_closed scope new enter params ps mark m e p n =
    let inner : params ≡ past_params (at_params scope) ps = p ∙ ap (λ (h : Here). past_params h ps) e in
    n ∙ ap (λ (k : ℕ). (closed params 0 k).scope) m ∙ ap (λ (h : Here). (closed h 0 (length scope.names)).scope) inner ∙ params_left scope ps

-- behind a body, by what the code keeps on the way
pub body_closed : (scope new : Scope) (enter params body : Here) (ps : List Param) (ss : Stmts) (mark : ℕ) → mark ≡ length scope.names
    → enter ≡ at_params scope → params ≡ past_params enter ps → body ≡ past_lines params ss → new ≡ (closed body 0 mark).scope → new ≡ scope
body_closed scope new enter params body ps ss mark m e p b n =
    let inner : body ≡ past_lines (past_params (at_params scope) ps) ss =
    b ∙ ap (λ (h : Here). past_lines h ss) p ∙ ap (λ (h : Here). past_lines (past_params h ps) ss) e in
    n ∙ ap (λ (k : ℕ). (closed body 0 k).scope) m ∙ ap (λ (h : Here). (closed h 0 (length scope.names)).scope) inner ∙ body_left scope ps ss
