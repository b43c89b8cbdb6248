-- The fault of a statement is a broken rule, and no rule is broken before it.
use Rattle.std.proofs.Common.{◌≡◌, ℕ, Bool, true, false, [], Option, Some, None, refl, IsTrue, is_some, not}
use Rattle.csub_text.specs.declared.span.Span.{Span}
use Rattle.csub_types.specs.declared.kind.IntKind.{IntKind}
use Rattle.csub_tree.specs.Expressions.{Expr}
use Rattle.csub_tree.specs.Statements.{Stmt, Perhaps, Stmts, Line, Declared, Eval, Empty, Block, If, While, Do, For, Switch}
use Rattle.csub_tree.specs.Statements.{Case, Default, Break, Continue, Goto, Label, Return, NoStmt, OneStmt, NoStmts, MoreStmts}
use Rattle.csub_scopes.specs.Scopes.{Scope}
use Rattle.csub_rules.specs.Words.{word_break, word_continue, word_return}
use Rattle.csub_rules.specs.declared.fault.Fault.{Fault}
use Rattle.csub_rules.specs.Faults.{fault_if, Covers, IsFirst}
use Rattle.csub_rules.specs.Uses.{Use, as_part, as_number, as_constant, use_fault}
use Rattle.csub_rules.specs.Here.{Here, entering, is_reserved}
use Rattle.csub_rules.specs.Past.{past, past_perhaps}
use Rattle.csub_rules.specs.CaseLabels.{switch_kind, labels_fault}
use Rattle.csub_rules.specs.StmtFaults.{Surroundings, in_loop, in_switch, in_first_part, is_label, part_fault, stmt_fault, lines_fault}
use Rattle.csub_rules.specs.BrokenStmt.{Stands, itself, in_block, in_then, in_else, in_while, in_do, in_first, in_body, in_lines, in_label}
use Rattle.csub_rules.specs.BrokenStmt.{AmongLines, this_line, next_line}
use Rattle.csub_rules.specs.BrokenStmt.{IsPart, of_eval, of_if, of_while, of_do, of_condition, of_third, of_switch, of_case, of_return}
use Rattle.csub_rules.specs.BrokenStmt.{StmtBreaks, by_part, by_declaration, m3_label, m15_value, m15_none, m16_break, m16_continue, m17, m18}
use Rattle.csub_rules.specs.BrokenStmt.{BrokenStmt, BrokenLines}
use Rattle.csub_rules.proofs.LawsEarlier.{on_left, on_right, tested}
use Rattle.csub_rules.proofs.LawsSound.{Gives, nothing, join, tells}
use Rattle.csub_rules.proofs.LawsUses.{sound_use, covered_use, is_false}
use Rattle.csub_rules.proofs.LawsSlots.{none, not_some}
use Rattle.csub_rules.proofs.LawsLocals.{covered_declare, sound_declare}
use Rattle.csub_rules.proofs.LawsCases.{covered_labels, sound_labels}

some : {A : Type 0} (o : Option A) (x : A) → o ≡ Some x → IsTrue (is_some o)
some None x h = absurd (cc)
some (Some y) x h = refl

-- ---- least

-- what the fault of an expression covers, that of its statement does
of_part : (a : Surroundings) (h : Here) (t : Stmt) (scope : Scope) (u : Use) (e : Expr) (f : Fault) → IsPart a h t scope u e
    → Covers (use_fault scope u e) f → Covers (stmt_fault a h t) f
of_part a h t scope u e f (of_eval a' h' e' s) c = c
of_part a h t scope u e f (of_if a' h' e' x o s) c = search (on_left, on_right, c)
of_part a h t scope u e f (of_while a' h' e' x s) c = search (on_left, c)
of_part a h t scope u e f (of_do a' h' e' x s) c = search (on_left, c)
of_part a h t scope u e f (of_condition a' h' x e' g y s) c = search (on_left, on_right, c)
of_part a h t scope u e f (of_third a' h' x e' g y s) c = search (on_left, on_right, c)
of_part a h t scope u e f (of_switch a' h' e' ss s) c = search (on_left, on_right, c)
of_part a h t scope u e f (of_case a' h' e' s) c = c
of_part a h t scope u e f (of_return a' h' e' s) c = search (on_right, c)

own : (a : Surroundings) (h : Here) (t : Stmt) (f : Fault) → StmtBreaks a h t f → Covers (stmt_fault a h t) f
own a h t f (by_part a' h' t' scope u e g i b) = of_part a h t scope u e f i (covered_use scope u e f b)
own a h t f (by_declaration a' h' d s g b) = covered_declare h d f b
own a h t f (m3_label a' h' n x s p) = search (on_left, tested)
own a h t f (m15_value a' h' e s p) = let q = not_some a.result p in search (on_left, tested)
own a h t f (m15_none a' h' k s p) = tested (is_some a.result) 15 (word_return s) (some a.result k p)
own a h t f (m16_break a' h' s p) = tested (not a.can_break) 16 (word_break s) (is_false a.can_break p)
own a h t f (m16_continue a' h' s p) = tested (not a.can_continue) 16 (word_continue s) (is_false a.can_continue p)
own a h t f (m17 a' h' n s p) = tested (not (is_label a.labels n.text)) 17 n.span p
own a h t f (m18 a' h' e ss s at w) = search (on_right, covered_labels (switch_kind h.scope e) (entering h) [] ss at w)

mutual
  deep : (a : Surroundings) (h : Here) (t : Stmt) (b : Surroundings) (k : Here) (u : Stmt) (f : Fault) → Stands a h t b k u → StmtBreaks b k u f
      → Covers (stmt_fault a h t) f
  deep a h t b k u f itself p = own a h t f p
  deep a h (Line (Block ss) s) b k u f (in_block s' w) p = among a (entering h) ss b k u f w p
  deep a h (Line (If e x o) s) b k u f (in_then e' o' s' w) p = search (on_left, on_right, deep a h x b k u f w p)
  deep a h (Line (If e x (OneStmt y)) s) b k u f (in_else e' x' s' w) p = search (on_left, on_right, deep a (past h x) y b k u f w p)
  deep a h (Line (While e x) s) b k u f (in_while e' s' w) p = search (on_right, deep (in_loop a) h x b k u f w p)
  deep a h (Line (Do x e) s) b k u f (in_do e' s' w) p = search (on_right, deep (in_loop a) h x b k u f w p)
  deep a h (Line (For (OneStmt x) e g y) s) b k u f (in_first e' g' y' s' w) p =
      search (on_left, on_right, deep (in_first_part a) (entering h) x b k u f w p)
  deep a h (Line (For x e g y) s) b k u f (in_body x' e' g' s' w) p =
      search (on_right, deep (in_loop a) (past_perhaps (entering h) x) y b k u f w p)
  deep a h (Line (Switch e ss) s) b k u f (in_lines e' s' w) p = search (on_left, on_right, among (in_switch a) (entering h) ss b k u f w p)
  deep a h (Line (Label n x) s) b k u f (in_label n' s' w) p = search (on_right, deep a h x b k u f w p)

  among : (a : Surroundings) (h : Here) (ss : Stmts) (b : Surroundings) (k : Here) (u : Stmt) (f : Fault) → AmongLines a h ss b k u
      → StmtBreaks b k u f → Covers (lines_fault a h ss) f
  among a h NoStmts b k u f w p = elim w [ ]
  among a h (MoreStmts x rest) b k u f (this_line rest' w) p = search (on_left, deep a h x b k u f w p)
  among a h (MoreStmts x rest) b k u f (next_line x' w) p = search (on_right, among a (past h x) rest b k u f w p)

pub covered_stmt : (a : Surroundings) (h : Here) (t : Stmt) (g : Fault) → BrokenStmt a h t g → Covers (stmt_fault a h t) g
covered_stmt a h t g b = deep a h t b.around b.here b.node g b.stands b.breaks

pub covered_lines : (a : Surroundings) (h : Here) (ss : Stmts) (g : Fault) → BrokenLines a h ss g → Covers (lines_fault a h ss) g
covered_lines a h ss g b = among a h ss b.around b.here b.node g b.stands b.breaks

pub least_stmt : (a : Surroundings) (h : Here) (t : Stmt) (f g : Fault) → stmt_fault a h t ≡ Some f → BrokenStmt a h t g → IsFirst f g
least_stmt a h t f g e b = let c : Covers (stmt_fault a h t) g = covered_stmt a h t g b in rw e at c

pub complete_stmt : (a : Surroundings) (h : Here) (t : Stmt) (g : Fault) → stmt_fault a h t ≡ None → BrokenStmt a h t g → ⊥
complete_stmt a h t g e b = let c : Covers (stmt_fault a h t) g = covered_stmt a h t g b in rw e at c

pub least_lines : (a : Surroundings) (h : Here) (ss : Stmts) (f g : Fault) → lines_fault a h ss ≡ Some f → BrokenLines a h ss g → IsFirst f g
least_lines a h ss f g e b = let c : Covers (lines_fault a h ss) g = covered_lines a h ss g b in rw e at c

pub complete_lines : (a : Surroundings) (h : Here) (ss : Stmts) (g : Fault) → lines_fault a h ss ≡ None → BrokenLines a h ss g → ⊥
complete_lines a h ss g e b = let c : Covers (lines_fault a h ss) g = covered_lines a h ss g b in rw e at c

-- ---- sound

down : {o : Option Fault} {a b : Surroundings} {h k : Here} {t u : Stmt} → Gives o (BrokenStmt b k u)
    → ((c : Surroundings) (l : Here) (v : Stmt) → Stands b k u c l v → Stands a h t c l v) → Gives o (BrokenStmt a h t)
down p step = record {
  holds = λ f e.
      let x = p.holds f e in
      record { around = x.around; here = x.here; node = x.node; stands = step x.around x.here x.node x.stands; breaks = x.breaks };
}

down_lines : {o : Option Fault} {a b : Surroundings} {h k : Here} {t : Stmt} {ss : Stmts} → Gives o (BrokenLines b k ss)
    → ((c : Surroundings) (l : Here) (v : Stmt) → AmongLines b k ss c l v → Stands a h t c l v) → Gives o (BrokenStmt a h t)
down_lines p step = record {
  holds = λ f e.
      let x = p.holds f e in
      record { around = x.around; here = x.here; node = x.node; stands = step x.around x.here x.node x.stands; breaks = x.breaks };
}

self : {o : Option Fault} (a : Surroundings) (h : Here) (t : Stmt) → Gives o (StmtBreaks a h t) → Gives o (BrokenStmt a h t)
self a h t p = record { holds = λ f e. record { around = a; here = h; node = t; stands = itself; breaks = p.holds f e } }

test : (a : Surroundings) (h : Here) (t : Stmt) (b : Bool) (r : ℕ) (s : Span) → (IsTrue b → StmtBreaks a h t (record { rule = r; span = s }))
    → Gives (fault_if b r s) (BrokenStmt a h t)
test a h t b r s p = self a h t (tells {P = StmtBreaks a h t} b r s p)

part : (a : Surroundings) (h : Here) (t : Stmt) (scope : Scope) (u : Use) (e : Expr) → IsPart a h t scope u e
    → Gives (use_fault scope u e) (BrokenStmt a h t)
part a h t scope u e i = self a h t (record { holds = λ f p. by_part a h t scope u e f i ((sound_use scope u e).holds f p) })

no_flag : (b : Bool) → IsTrue (not b) → b ≡ false
no_flag true h = absurd (cc)
no_flag false h = refl

has_result : (a : Surroundings) (h : Here) (s : Span) (o : Option IntKind) → a.result ≡ o → IsTrue (is_some o)
    → StmtBreaks a h (Line (Return None) s) (record { rule = 15; span = word_return s })
has_result a h s None e p = absurd (cc)
has_result a h s (Some k) e p = m15_none a h k s e

condition : (a : Surroundings) (h : Here) (x : Perhaps) (o f : Option Expr) (y : Stmt) (s : Span)
    → Gives (part_fault (past_perhaps (entering h) x).scope as_number o) (BrokenStmt a h (Line (For x o f y) s))
condition a h x None f y s = nothing
condition a h x (Some e) f y s = part a h (Line (For x (Some e) f y) s) (past_perhaps (entering h) x).scope as_number e (of_condition a h x e f y s)

third : (a : Surroundings) (h : Here) (x : Perhaps) (e o : Option Expr) (y : Stmt) (s : Span)
    → Gives (part_fault (past_perhaps (entering h) x).scope as_part o) (BrokenStmt a h (Line (For x e o y) s))
third a h x e None y s = nothing
third a h x e (Some f) y s = part a h (Line (For x e (Some f) y) s) (past_perhaps (entering h) x).scope as_part f (of_third a h x e f y s)

labels : (a : Surroundings) (h : Here) (e : Expr) (ss : Stmts) (s : Span)
    → Gives (labels_fault (switch_kind h.scope e) (entering h) [] ss) (BrokenStmt a h (Line (Switch e ss) s))
labels a h e ss s =
    self a h (Line (Switch e ss) s) (sound_labels (switch_kind h.scope e) (StmtBreaks a h (Line (Switch e ss) s)) (entering h) [] ss
    (λ l w p. absurd (cc)) (λ at w. m18 a h e ss s at w))

mutual
  pub sound_stmt : (a : Surroundings) (h : Here) (t : Stmt) → Gives (stmt_fault a h t) (BrokenStmt a h t)
  sound_stmt a h (Line (Declared d) s) =
      self a h (Line (Declared d) s) (record { holds = λ f p. by_declaration a h d s f ((sound_declare h d).holds f p) })
  sound_stmt a h (Line (Eval e) s) = part a h (Line (Eval e) s) h.scope a.statement e (of_eval a h e s)
  sound_stmt a h (Line Empty s) = nothing
  sound_stmt a h (Line (Block ss) s) = down_lines (sound_lines a (entering h) ss) (λ c l v w. in_block s w)
  sound_stmt a h (Line (If e x NoStmt) s) =
      join (join (part a h (Line (If e x NoStmt) s) h.scope as_number e (of_if a h e x NoStmt s))
      (down (sound_stmt a h x) (λ c l v w. in_then e NoStmt s w))) nothing
  sound_stmt a h (Line (If e x (OneStmt y)) s) =
      join (join (part a h (Line (If e x (OneStmt y)) s) h.scope as_number e (of_if a h e x (OneStmt y) s))
      (down (sound_stmt a h x) (λ c l v w. in_then e (OneStmt y) s w)))
      (down (sound_stmt a (past h x) y) (λ c l v w. in_else e x s w))
  sound_stmt a h (Line (While e x) s) =
      join (part a h (Line (While e x) s) h.scope as_number e (of_while a h e x s)) (down (sound_stmt (in_loop a) h x) (λ c l v w. in_while e s w))
  sound_stmt a h (Line (Do x e) s) =
      join (part a h (Line (Do x e) s) h.scope as_number e (of_do a h e x s)) (down (sound_stmt (in_loop a) h x) (λ c l v w. in_do e s w))
  sound_stmt a h (Line (For NoStmt e f y) s) =
      join (join (join nothing (condition a h NoStmt e f y s)) (third a h NoStmt e f y s))
      (down (sound_stmt (in_loop a) (entering h) y) (λ c l v w. in_body NoStmt e f s w))
  sound_stmt a h (Line (For (OneStmt x) e f y) s) =
      join (join (join (down (sound_stmt (in_first_part a) (entering h) x) (λ c l v w. in_first e f y s w))
      (condition a h (OneStmt x) e f y s)) (third a h (OneStmt x) e f y s))
      (down (sound_stmt (in_loop a) (past (entering h) x) y) (λ c l v w. in_body (OneStmt x) e f s w))
  sound_stmt a h (Line (Switch e ss) s) =
      join (join (part a h (Line (Switch e ss) s) h.scope as_number e (of_switch a h e ss s))
      (down_lines (sound_lines (in_switch a) (entering h) ss) (λ c l v w. in_lines e s w))) (labels a h e ss s)
  sound_stmt a h (Line (Case e) s) = part a h (Line (Case e) s) h.scope as_constant e (of_case a h e s)
  sound_stmt a h (Line Default s) = nothing
  sound_stmt a h (Line Break s) = test a h (Line Break s) (not a.can_break) 16 (word_break s) (λ p. m16_break a h s (no_flag a.can_break p))
  sound_stmt a h (Line Continue s) = test a h (Line Continue s) (not a.can_continue) 16 (word_continue s) (λ p. m16_continue a h s (no_flag a.can_continue p))
  sound_stmt a h (Line (Goto n) s) = test a h (Line (Goto n) s) (not (is_label a.labels n.text)) 17 n.span (λ p. m17 a h n s p)
  sound_stmt a h (Line (Label n x) s) =
      join (test a h (Line (Label n x) s) (is_reserved n.text) 3 n.span (λ p. m3_label a h n x s p))
      (down (sound_stmt a h x) (λ c l v w. in_label n s w))
  sound_stmt a h (Line (Return None) s) =
      test a h (Line (Return None) s) (is_some a.result) 15 (word_return s) (λ p. has_result a h s a.result refl p)
  sound_stmt a h (Line (Return (Some e)) s) =
      join (test a h (Line (Return (Some e)) s) (not (is_some a.result)) 15 (word_return s) (λ p. m15_value a h e s (none a.result p)))
      (part a h (Line (Return (Some e)) s) h.scope as_number e (of_return a h e s))

  pub sound_lines : (a : Surroundings) (h : Here) (ss : Stmts) → Gives (lines_fault a h ss) (BrokenLines a h ss)
  sound_lines a h NoStmts = nothing
  sound_lines a h (MoreStmts x rest) =
      join (record {
        holds = λ f p.
            let y = (sound_stmt a h x).holds f p in
            record { around = y.around; here = y.here; node = y.node; stands = this_line rest y.stands; breaks = y.breaks };
      }) (record {
        holds = λ f p.
            let y = (sound_lines a (past h x) rest).holds f p in
            record { around = y.around; here = y.here; node = y.node; stands = next_line x y.stands; breaks = y.breaks };
      })
