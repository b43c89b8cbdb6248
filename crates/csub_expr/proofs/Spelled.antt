-- What every spelling of an expression has: tokens, their place, and how it begins.
use Rattle.std.proofs.Common.{◌≡◌, ℕ, zero, ◌<◌, max, List, [], ◌∷◌, ◌++◌, length, Some, None, Bool, true, false, refl, sym, ap, ◌∙◌, arith, append_assoc}
use Rattle.csub_text.specs.declared.span.Span.{Span}
use Rattle.csub_lex.specs.declared.token.Key.{Key}
use Rattle.csub_lex.specs.declared.token.Mark.{Mark}
use Rattle.csub_lex.specs.declared.token.Mark.TheVariants as marks
use Rattle.csub_lex.specs.declared.token.TokenKind.TheVariants as kinds
use Rattle.csub_lex.specs.declared.token.Token.{Token}
use Rattle.csub_tree.specs.Expressions.{Expr, Node, span_of}
use Rattle.csub_tree.specs.Depth.{expr_depth, kind_depth}
use Rattle.csub_tree.specs.Tokens.{mark, id, runs}
use Rattle.csub_tree.specs.SpellsExpressions.{Rank, SpellsExpr, no_assignment, assigned, no_choice, choice, tighter, operated, prefixed, cast, no_prefix, no_postfix, indexed, member, stepped, named, called, number, character, string, enclosed, Operator, Plain, Both, Either, joined, Prefix, Signed, Counted, applied, prefix_of}
use Rattle.csub_expr.specs.Looks.{begins, begins_key, same_mark, begins_number}
use Rattle.csub_expr.specs.ExprDescent.{is_unary}
use Rattle.csub_expr.proofs.SameWords.{same_mark_is}
use Rattle.csub_expr.proofs.LawsTokens.{nonempty_append}

-- what is not true is false
not_true : (b : Bool) → (b ≡ true → ⊥) → b ≡ false
not_true true h = absurd (h refl)
not_true false h = refl

-- an expression has a node
pub depth_pos : (e : Expr) → 0 < expr_depth e
depth_pos (Node k s) = omega arith

pub joined_depth : (o : Operator) (a b : Expr) → kind_depth (joined o a b) ≡ max (expr_depth a) (expr_depth b)
joined_depth (Plain o) a b = refl
joined_depth Both a b = refl
joined_depth Either a b = refl

pub applied_depth : (o : Prefix) (a : Expr) → kind_depth (applied o a) ≡ expr_depth a
applied_depth (Signed o) a = refl
applied_depth (Counted o) a = refl

pub nonempty : {rank : Rank} {e : Expr} {s : List Token} → SpellsExpr rank e s → 0 < length s
nonempty (no_assignment h) = nonempty h
nonempty (assigned {s = a} {t = b} m sp e l r) = nonempty_append a _ b
nonempty (no_choice h) = nonempty h
nonempty (choice {s = a} {t = t} {u = u} sp sq e x y) = nonempty_append a _ (t ++ mark marks.Colon sq ∷ u)
nonempty (tighter h) = nonempty h
nonempty (operated {s = a} {t = b} m sp o k l r) = nonempty_append a _ b
nonempty (prefixed m sp o h) = omega arith
nonempty (cast a b n h) = omega arith
nonempty (no_prefix h) = nonempty h
nonempty (no_postfix h) = nonempty h
nonempty (indexed {s = s} {t = t} a b h i) = nonempty_append s _ (t ++ mark marks.CloseBracket b ∷ [])
nonempty (member {s = s} a n h) = nonempty_append s _ (id n ∷ [])
nonempty (stepped {s = s} m a o h) = nonempty_append s _ []
nonempty (named n) = omega arith
nonempty (called n a b h) = omega arith
nonempty (number n u a) = omega arith
nonempty (character b a) = omega arith
nonempty (string t a) = omega arith
nonempty (enclosed a b h) = omega arith

pub spanned : {rank : Rank} {e : Expr} {s : List Token} → SpellsExpr rank e s → span_of e ≡ runs s
spanned (no_assignment h) = spanned h
spanned (assigned m sp e l r) = refl
spanned (no_choice h) = spanned h
spanned (choice sp sq e x y) = refl
spanned (tighter h) = spanned h
spanned (operated m sp o k l r) = refl
spanned (prefixed m sp o h) = refl
spanned (cast a b n h) = refl
spanned (no_prefix h) = spanned h
spanned (no_postfix h) = spanned h
spanned (indexed a b h i) = refl
spanned (member a n h) = refl
spanned (stepped m a o h) = refl
spanned (named n) = refl
spanned (called n a b h) = refl
spanned (number n u a) = refl
spanned (character b a) = refl
spanned (string t a) = refl
spanned (enclosed a b h) = refl

-- how an expression begins
pub data Lead : List Token → Type 0 where
  by_prefix : (m : Mark) (o : Prefix) (a : Span) (ts : List Token) → prefix_of m ≡ Some o → Lead (mark m a ∷ ts)
  by_open : (a : Span) (ts : List Token) → Lead (mark marks.OpenParen a ∷ ts)
  by_name : (n : List ℕ) (a : Span) (ts : List Token) → Lead (record { kind = kinds.Name n; span = a } ∷ ts)
  by_number : (n : ℕ) (u : Bool) (a : Span) (ts : List Token) → Lead (record { kind = kinds.Number n u; span = a } ∷ ts)
  by_character : (b : ℕ) (a : Span) (ts : List Token) → Lead (record { kind = kinds.Char b; span = a } ∷ ts)
  by_string : (t : List ℕ) (a : Span) (ts : List Token) → Lead (record { kind = kinds.Text t; span = a } ∷ ts)

pub lead : {rank : Rank} {e : Expr} {s : List Token} → SpellsExpr rank e s → (r : List Token) → Lead (s ++ r)
lead (no_assignment h) r = lead h r
lead (assigned {t = b} m sp e l x) r = rw append_assoc (lead l (mark m sp ∷ b ++ r))
lead (no_choice h) r = lead h r
lead (choice {t = t} {u = u} sp sq e x y) r = rw append_assoc (lead e (mark marks.Question sp ∷ (t ++ mark marks.Colon sq ∷ u) ++ r))
lead (tighter h) r = lead h r
lead (operated {t = b} m sp o k l x) r = rw append_assoc (lead l (mark m sp ∷ b ++ r))
lead (prefixed {o = o} {s = s} m sp e h) r = by_prefix m o sp (s ++ r) e
lead (cast {s = s} {t = t} a b n h) r = by_open a ((s ++ mark marks.CloseParen b ∷ t) ++ r)
lead (no_prefix h) r = lead h r
lead (no_postfix h) r = lead h r
lead (indexed {t = t} a b h i) r = rw append_assoc (lead h (mark marks.OpenBracket a ∷ (t ++ mark marks.CloseBracket b ∷ []) ++ r))
lead (member a n h) r = rw append_assoc (lead h (mark marks.Dot a ∷ id n ∷ r))
lead (stepped m a o h) r = rw append_assoc (lead h (mark m a ∷ r))
lead (named n) r = by_name n.text n.span r
lead (called {s = s} n a b h) r = by_name n.text n.span (mark marks.OpenParen a ∷ (s ++ mark marks.CloseParen b ∷ []) ++ r)
lead (number n u a) r = by_number n u a r
lead (character b a) r = by_character b a r
lead (string t a) r = by_string t a r
lead (enclosed {s = s} a b h) r = by_open a ((s ++ mark marks.CloseParen b ∷ []) ++ r)

-- no expression begins with a keyword
pub lead_no_key : {ts : List Token} → Lead ts → (k : Key) → begins_key k ts ≡ false
unfolding begins_key
lead_no_key (by_prefix m o a ts e) k = refl
lead_no_key (by_open a ts) k = refl
lead_no_key (by_name n a ts) k = refl
lead_no_key (by_number n u a ts) k = refl
lead_no_key (by_character b a ts) k = refl
lead_no_key (by_string t a ts) k = refl

pub lead_no_number : {ts : List Token} → Lead ts → begins_number ts ≡ false
unfolding begins_number
lead_no_number (by_prefix m o a ts e) = refl
lead_no_number (by_open a ts) = refl
lead_no_number (by_name n a ts) = refl
lead_no_number (by_number n u a ts) = refl
lead_no_number (by_character b a ts) = refl
lead_no_number (by_string t a ts) = refl

not_prefix : (m n : Mark) (o : Prefix) → prefix_of m ≡ Some o → prefix_of n ≡ None → same_mark m n ≡ false
not_prefix m n o e none = not_true (same_mark m n) (λ same. absurd (cc (sym e ∙ ap prefix_of (same_mark_is m n same) ∙ none)))

-- no expression begins with a mark that is neither an operator before an operand nor a parenthesis
pub lead_no_mark : {ts : List Token} → Lead ts → (m : Mark) → prefix_of m ≡ None → same_mark marks.OpenParen m ≡ false → begins m ts ≡ false
unfolding begins
lead_no_mark (by_prefix n o a ts e) m none other = not_prefix n m o e none
lead_no_mark (by_open a ts) m none other = other
lead_no_mark (by_name n a ts) m none other = refl
lead_no_mark (by_number n u a ts) m none other = refl
lead_no_mark (by_character b a ts) m none other = refl
lead_no_mark (by_string t a ts) m none other = refl

-- what is unary in spelling is so in shape
applied_unary : (o : Prefix) (e : Expr) (s : Span) → is_unary (Node (applied o e) s) ≡ true
applied_unary (Signed o) e s = refl
applied_unary (Counted o) e s = refl

pub unary_shape : {e : Expr} {s : List Token} → SpellsExpr (Rank.binary zero) e s → is_unary e ≡ true
unary_shape (prefixed {o = o} {e = e} m sp h x) = applied_unary o e _
unary_shape (cast a b n h) = refl
unary_shape (no_prefix h) = go h
  where
    primary_go : {e : Expr} {s : List Token} → SpellsExpr Rank.primary e s → is_unary e ≡ true
    primary_go (named n) = refl
    primary_go (called n a b h) = refl
    primary_go (number n u a) = refl
    primary_go (character b a) = refl
    primary_go (string t a) = refl
    primary_go (enclosed a b h) = refl

    go : {e : Expr} {s : List Token} → SpellsExpr Rank.postfix e s → is_unary e ≡ true
    go (no_postfix h) = primary_go h
    go (indexed a b h i) = refl
    go (member a n h) = refl
    go (stepped m a o h) = refl
