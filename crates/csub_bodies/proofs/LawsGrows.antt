-- Declarations only come on top, and what a block that is left leaves is what stood before it. Crates above cite these lemmas.
use Rattle.std.proofs.Common.{◌≡◌, ◌∙◌, refl, sym, ap, arith, ℕ, ◌+◌, ◌-◌, List, [], ◌∷◌, ◌++◌, length, drop, length-append, append_assoc, Option}
use Rattle.std.proofs.Math.Seq.{drop-append_seam}
use Rattle.csub_tree.specs.Declarations.{Declarator}
use Rattle.csub_tree.specs.Statements.{Stmt, Perhaps, Stmts, Line, Declared, Eval, Empty, Block, If, While, Do, For, Switch}
use Rattle.csub_tree.specs.Statements.{Case, Default, Break, Continue, Goto, Label, Return, NoStmt, OneStmt, NoStmts, MoreStmts}
use Rattle.csub_objects.specs.Types.{TypeTree}
use Rattle.csub_scopes.specs.Scopes.{Declared as Named, Tagged}
use Rattle.csub_rules.specs.Declarators.{base_type}
use Rattle.csub_rules.specs.Here.{Here, entering, leaving}
use Rattle.csub_rules.specs.Locals.{past_var, past_vars}
use Rattle.csub_rules.specs.Past.{past, past_perhaps, past_lines}
use Rattle.csub_bodies.specs.Views.{closed}

pub record Extends (before after : Here) : Type 0 where
  pub added : List Named
  pub names : after.scope.names ≡ added ++ before.scope.names
  pub tags : after.scope.tags ≡ before.scope.tags

same : (h : Here) → Extends h h
same h = record { added = []; names = refl; tags = refl }

joins : (a b c : Here) → Extends a b → Extends b c → Extends a c
joins a b c p q = record {
  added = q.added ++ p.added;
  names = q.names ∙ ap (λ n. q.added ++ n) p.names ∙ sym (append_assoc q.added p.added a.scope.names);
  tags = q.tags ∙ p.tags;
}

grows_vars : (base : Option TypeTree) (ds : List Declarator) (h : Here) → Extends h (past_vars h base ds)
grows_vars base [] h = same h
grows_vars base (d ∷ ds) h =
    joins h (past_var h base d) (past_vars (past_var h base d) base ds) (record { added = _ ∷ []; names = refl; tags = refl })
    (grows_vars base ds (past_var h base d))

mutual
  pub grows : (s : Stmt) (h : Here) → Extends h (past h s)
  grows (Line (Declared d) s) h = grows_vars (base_type h.scope d.base) d.vars h
  grows (Line (Eval e) s) h = same h
  grows (Line Empty s) h = same h
  grows (Line (Block ss) s) h = record { added = []; names = refl; tags = refl }
  grows (Line (If e a b) s) h = joins h (past h a) (past_perhaps (past h a) b) (grows a h) (grows_perhaps b (past h a))
  grows (Line (While e a) s) h = grows a h
  grows (Line (Do a e) s) h = grows a h
  grows (Line (For b e f a) s) h = record { added = []; names = refl; tags = refl }
  grows (Line (Switch e ss) s) h = record { added = []; names = refl; tags = refl }
  grows (Line (Case e) s) h = same h
  grows (Line Default s) h = same h
  grows (Line Break s) h = same h
  grows (Line Continue s) h = same h
  grows (Line (Goto x) s) h = same h
  grows (Line (Label x a) s) h = grows a h
  grows (Line (Return e) s) h = same h

  pub grows_perhaps : (b : Perhaps) (h : Here) → Extends h (past_perhaps h b)
  grows_perhaps NoStmt h = same h
  grows_perhaps (OneStmt a) h = grows a h

  pub grows_lines : (ss : Stmts) (h : Here) → Extends h (past_lines h ss)
  grows_lines NoStmts h = same h
  grows_lines (MoreStmts a rest) h = joins h (past h a) (past_lines (past h a) rest) (grows a h) (grows_lines rest (past h a))

pub grows_for : (b : Perhaps) (a : Stmt) (h : Here) → Extends h (past (past_perhaps h b) a)
grows_for b a h = joins h (past_perhaps h b) (past (past_perhaps h b) a) (grows_perhaps b h) (grows a (past_perhaps h b))

-- the names in scope behind a block
restored : (names inner added : List Named) → inner ≡ added ++ names → drop (length inner - length names) inner ≡ names
restored names inner added h =
    let total : length inner ≡ length added + length names = ap length h ∙ length-append added names in
    let count : length inner - length names ≡ length added = omega arith in
    ap (λ n. drop n inner) count ∙ ap (λ d. drop (length added) d) h ∙ drop-append_seam added names

made : (h : Here) (names : List Named) (tags : List Tagged) (inner : Here) → names ≡ h.scope.names → tags ≡ h.scope.tags
    → record { scope = record { names = names; tags = tags }; depth = h.depth; before = inner.before } ≡ leaving h inner
made h names tags inner p q =
    ap (λ (n : List Named). record { scope = record { names = n; tags = tags }; depth = h.depth; before = inner.before }) p
    ∙ ap (λ (t : List Tagged). record { scope = record { names = h.scope.names; tags = t }; depth = h.depth; before = inner.before }) q

pub left : (h inner : Here) → Extends (entering h) inner → closed inner h.depth (length h.scope.names) ≡ leaving h inner
left h inner e =
    made h (drop (length inner.scope.names - length h.scope.names) inner.scope.names) inner.scope.tags inner
    (restored h.scope.names inner.scope.names e.added e.names) e.tags

-- a block, a `for` and a `switch` by what the code keeps on the way
pub block_left : (h enter inner new : Here) (ss : Stmts) (depth mark : ℕ) → depth ≡ h.depth → mark ≡ length h.scope.names → enter ≡ entering h
    → inner ≡ past_lines enter ss → new ≡ closed inner depth mark → new ≡ leaving h (past_lines (entering h) ss)
block_left h enter inner new ss depth mark d m e i n =
    let whole : inner ≡ past_lines (entering h) ss = i ∙ ap (λ (k : Here). past_lines k ss) e in
    n ∙ ap (λ x. closed inner x mark) d ∙ ap (λ x. closed inner h.depth x) m ∙ ap (λ (k : Here). closed k h.depth (length h.scope.names)) whole
    ∙ left h (past_lines (entering h) ss) (grows_lines ss (entering h))

pub for_left : (h enter first inner new : Here) (b : Perhaps) (a : Stmt) (depth mark : ℕ) → depth ≡ h.depth → mark ≡ length h.scope.names
    → enter ≡ entering h → first ≡ past_perhaps enter b → inner ≡ past first a → new ≡ closed inner depth mark
    → new ≡ leaving h (past (past_perhaps (entering h) b) a)
for_left h enter first inner new b a depth mark d m e f i n =
    let whole : inner ≡ past (past_perhaps (entering h) b) a =
    i ∙ ap (λ (k : Here). past k a) f ∙ ap (λ (k : Here). past (past_perhaps k b) a) e in
    n ∙ ap (λ x. closed inner x mark) d ∙ ap (λ x. closed inner h.depth x) m ∙ ap (λ (k : Here). closed k h.depth (length h.scope.names)) whole
    ∙ left h (past (past_perhaps (entering h) b) a) (grows_for b a (entering h))
