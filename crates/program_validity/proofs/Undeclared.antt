-- No part of an expression declares an object.
use Rattle.std.proofs.Common.{◌≡◌, refl, ℕ, ◌+◌, List, [], ◌∷◌, ◌++◌, map, Bool, true, false, ◌||◌, if◌then◌else◌}
use Rattle.csub_text.specs.declared.span.Span.{Span}
use Rattle.csub_tree.specs.declared.name.Name.{Name as NameAt}
use Rattle.csub_tree.specs.Expressions.{Expr, Exprs, Node, Number, Char, Text, Named, Paren, Unary, Cast, Step, Binary, And, Or}
use Rattle.csub_tree.specs.Expressions.{Choose, Assign, Call, Index, Member, NoExprs, MoreExprs}
use Rattle.csub_semantics.specs.Labels.{evaluates}
use Rattle.csub_semantics.specs.Syntax.{CallAt, PartTree, in_part}
use Rattle.csub_scopes.specs.Scopes.{Scope}
use Rattle.csub_rules.specs.Callees.{Callee, no_function, user_function, getchar_function, putchar_function, printf_function, exit_function, callee_of}
use Rattle.csub_resolution.specs.Values.{Defined, count, count_all, own_call, calls_in, calls_in_all, value}
use Rattle.csub_resolution.specs.Positions.{first_token}
use Rattle.csub_resolution.specs.Lines.{own, is_call, effect_part}
use Rattle.csub_validity.specs.Valid.{declares, is_declared}

join_step : (b c d : Bool) → (c ≡ false → d ≡ false) → b || c ≡ false → b || d ≡ false
join_step true c d rest h = absurd (cc)
join_step false c d rest h = rest h

-- whether a call is a declared object
abbrev declare : List CallAt → Bool
declare [] = false
declare (c ∷ rest) = is_declared c.label || declare rest

join : (ss ts : List CallAt) → declare ss ≡ false → declare ts ≡ false → declare (ss ++ ts) ≡ false
join [] ts p q = q
join (s ∷ ss) ts p q = join_step (is_declared s.label) (declare ss) (declare (ss ++ ts)) (λ e. join ss ts e q) p

-- a part whose calls declare nothing declares what stands behind them
behind : (at : Span) (cs : List CallAt) (rest : PartTree) → declare cs ≡ false → declares rest ≡ false → declares (map (in_part at) cs ++ rest) ≡ false
behind at [] rest p q = q
behind at (c ∷ cs) rest p q =
    join_step (is_declared c.label) (declare cs) (declares (map (in_part at) cs ++ rest)) (λ e. behind at cs rest e q) p

module _ (defined : List Defined) (scope : Scope) where
  own_none : (f : NameAt) (args : Exprs) (k n : ℕ) (c : Callee) → declare (own_call defined scope f args k n c) ≡ false
  own_none f args k n no_function = refl
  own_none f args k n (user_function types result) = refl
  own_none f args k n getchar_function = refl
  own_none f args k n putchar_function = refl
  own_none f args k n printf_function = refl
  own_none f args k n exit_function = refl

  mutual
    none : (k : ℕ) (e : Expr) → declare (calls_in defined scope k e) ≡ false
    none k (Node (Number n u) s) = refl
    none k (Node (Char b) s) = refl
    none k (Node (Text t) s) = refl
    none k (Node (Named x) s) = refl
    none k (Node (Paren e) s) = none k e
    none k (Node (Unary o e) s) = none k e
    none k (Node (Cast t e) s) = none k e
    none k (Node (Step o e) s) = none k e
    none k (Node (Binary o a b) s) = join (calls_in defined scope k a) _ (none k a) (none (k + count scope a) b)
    none k (Node (And a b) s) = join (calls_in defined scope k a) _ (none k a) (none (k + count scope a) b)
    none k (Node (Or a b) s) = join (calls_in defined scope k a) _ (none k a) (none (k + count scope a) b)
    none k (Node (Choose c a b) s) =
        join (calls_in defined scope k c) _ (none k c)
        (join (calls_in defined scope (k + count scope c) a) _ (none (k + count scope c) a) (none (k + count scope c + count scope a) b))
    none k (Node (Assign o a b) s) = join (calls_in defined scope k a) _ (none k a) (none (k + count scope a) b)
    none k (Node (Call f args) s) =
        join (calls_in_all defined scope k args) _ (none_all k args) (own_none f args k (k + count_all scope args + 1) (callee_of scope f.text))
    none k (Node (Index a i) s) = join (calls_in defined scope k a) _ (none k a) (none (k + count scope a) i)
    none k (Node (Member a m) s) = none k a

    none_all : (k : ℕ) (es : Exprs) → declare (calls_in_all defined scope k es) ≡ false
    none_all k NoExprs = refl
    none_all k (MoreExprs e rest) = join (calls_in defined scope k e) _ (none k e) (none_all (k + count scope e) rest)

  pub effect_undeclared : (e : Expr) → declares (effect_part defined scope e) ≡ false
  effect_undeclared e = behind (first_token e) (calls_in defined scope 0 e) _ (none 0 e) (by (is_call scope e))
    where
      by : (b : Bool) → declares (if b then [] else own (evaluates (value scope 0 e)) (first_token e)) ≡ false
      by true = refl
      by false = refl
