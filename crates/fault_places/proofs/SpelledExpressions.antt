-- Expressions lie where the tokens that spell them lie.
use Rattle.std.proofs.Common.{ℕ, suc, List, [], ◌∷◌, ◌++◌}
use Rattle.csub_lex.specs.declared.token.Token.{Token}
use Rattle.csub_lex.specs.declared.token.Mark.TheVariants as marks
use Rattle.csub_tree.specs.declared.name.TypeName.{TypeName}
use Rattle.csub_tree.specs.Expressions.{Expr, Exprs}
use Rattle.csub_tree.specs.Tokens.{mark, id}
use Rattle.csub_tree.specs.SpellsExpressions.{Rank, assignment, conditional, binary, postfix, primary, loosest}
use Rattle.csub_tree.specs.SpellsExpressions.{Operator, Plain, Both, Either, joined, Prefix, Signed, Counted, applied}
use Rattle.csub_tree.specs.SpellsExpressions.{SpellsNumber, char, int, unsigned, unsigned_int, SpellsExpr, SpellsArgs, SpellsSome}
use Rattle.csub_tree.specs.SpellsExpressions as expressions
use Rattle.fault_places.specs.Within.{WithinType, WithinExpr, WithinKind, WithinExprs}
use Rattle.fault_places.proofs.Rising.{Rising, left_part, later, behind, at_first, whole}

-- the type of a number has no place
pub number_within : (n : ℕ) (t : TypeName) (ts : List Token) → SpellsNumber t ts → WithinType n t
number_within n t ts (char a) = tt
number_within n t ts (int a) = tt
number_within n t ts (unsigned a) = tt
number_within n t ts (unsigned_int a b) = tt

joined_within : (n : ℕ) (o : Operator) (a b : Expr) → WithinExpr n a → WithinExpr n b → WithinKind n (joined o a b)
joined_within n (Plain o) a b x y = (x, y)
joined_within n Both a b x y = (x, y)
joined_within n Either a b x y = (x, y)

applied_within : (n : ℕ) (o : Prefix) (e : Expr) → WithinExpr n e → WithinKind n (applied o e)
applied_within n (Signed o) e x = x
applied_within n (Counted o) e x = x

module _ (n : ℕ) where
  mutual
    pub expr_within : (rank : Rank) (tree : Expr) (ts : List Token) → SpellsExpr rank tree ts → Rising n ts → WithinExpr n tree
    expr_within rank tree ts (expressions.no_assignment {e} {s} p) f = expr_within conditional e s p f
    expr_within rank tree ts (expressions.assigned {o} {l} {r} {s} {t} m a is p q) f =
        ((expr_within (binary 0) l s p (left_part s (mark m a ∷ t) f), expr_within assignment r t q (behind s (mark m a) t f)), whole f)
    expr_within rank tree ts (expressions.no_choice {e} {s} p) f = expr_within (binary loosest) e s p f
    expr_within rank tree ts (expressions.choice {e} {x} {y} {s} {t} {u} a b p q k) f =
        let second : List Token = t ++ mark marks.Colon b ∷ u in
        let in_second = behind s (mark marks.Question a) second f in (
          (
            expr_within (binary loosest) e s p (left_part s (mark marks.Question a ∷ second) f),
            expr_within assignment x t q (left_part t (mark marks.Colon b ∷ u) in_second),
            expr_within conditional y u k (behind t (mark marks.Colon b) u in_second),
          ),
          whole f,
        )
    expr_within rank tree ts (expressions.tighter {k} {e} {s} p) f = expr_within (binary k) e s p f
    expr_within rank tree ts (expressions.operated {k} {o} {l} {r} {s} {t} m a is level p q) f = (
      joined_within n o l r (expr_within (binary (suc k)) l s p (left_part s (mark m a ∷ t) f)) (expr_within (binary k) r t q (behind s (mark m a) t f)),
      whole f,
    )
    expr_within rank tree ts (expressions.prefixed {o} {e} {s} m a is p) f = (applied_within n o e (expr_within (binary 0) e s p (later f)), whole f)
    expr_within rank tree ts (expressions.cast {n = t} {e} {s} {t = u} a b number p) f =
        ((number_within n t s number, expr_within (binary 0) e u p (behind s (mark marks.CloseParen b) u (later f))), whole f)
    expr_within rank tree ts (expressions.no_prefix {e} {s} p) f = expr_within postfix e s p f
    expr_within rank tree ts (expressions.no_postfix {e} {s} p) f = expr_within primary e s p f
    expr_within rank tree ts (expressions.indexed {e} {i} {s} {t} a b p q) f =
        let inside : List Token = t ++ mark marks.CloseBracket b ∷ [] in (
          (
            expr_within postfix e s p (left_part s (mark marks.OpenBracket a ∷ inside) f),
            expr_within assignment i t q (left_part t (mark marks.CloseBracket b ∷ []) (behind s (mark marks.OpenBracket a) inside f)),
          ),
          whole f,
        )
    expr_within rank tree ts (expressions.member {e} {s} a x p) f =
        let name : List Token = id x ∷ [] in
        ((expr_within postfix e s p (left_part s (mark marks.Dot a ∷ name) f), at_first (behind s (mark marks.Dot a) name f)), whole f)
    expr_within rank tree ts (expressions.stepped {o} {e} {s} m a is p) f = (expr_within postfix e s p (left_part s (mark m a ∷ []) f), whole f)
    expr_within rank tree ts (expressions.named x) f = (at_first f, at_first f)
    expr_within rank tree ts (expressions.called {es} {s} x a b p) f =
        ((at_first f, args_within es s p (left_part s (mark marks.CloseParen b ∷ []) (later (later f)))), whole f)
    expr_within rank tree ts (expressions.number v u a) f = (tt, at_first f)
    expr_within rank tree ts (expressions.character b a) f = (tt, at_first f)
    expr_within rank tree ts (expressions.string t a) f = (tt, at_first f)
    expr_within rank tree ts (expressions.enclosed {e} {s} a b p) f =
        (expr_within assignment e s p (left_part s (mark marks.CloseParen b ∷ []) (later f)), whole f)

    args_within : (trees : Exprs) (ts : List Token) → SpellsArgs trees ts → Rising n ts → WithinExprs n trees
    args_within trees ts expressions.no_args f = tt
    args_within trees ts (expressions.some_args {es} {s} p) f = some_within es s p f

    some_within : (trees : Exprs) (ts : List Token) → SpellsSome trees ts → Rising n ts → WithinExprs n trees
    some_within trees ts (expressions.last_arg {e} {s} p) f = (expr_within assignment e s p f, tt)
    some_within trees ts (expressions.next_arg {e} {es} {s} {t} a p q) f =
        (expr_within assignment e s p (left_part s (mark marks.Comma a ∷ t) f), some_within es t q (behind s (mark marks.Comma a) t f))
