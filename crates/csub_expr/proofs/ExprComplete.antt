-- What is spelled so is read, whatever follows that doesn't continue it.
use Rattle.std.proofs.Common.{◌≡◌, List, ◌∷◌, ◌++◌, false, refl, append_assoc}
use Rattle.csub_lex.specs.declared.token.Mark.TheVariants as marks
use Rattle.csub_lex.specs.declared.token.Token.{Token}
use Rattle.csub_tree.specs.Expressions.{Expr, Exprs}
use Rattle.csub_tree.specs.Tokens.{mark}
use Rattle.csub_tree.specs.SpellsExpressions.{Rank, assignment, conditional, SpellsExpr, SpellsSome, no_assignment, assigned, no_choice, choice, tighter, operated, prefixed, cast, no_prefix, no_postfix, indexed, member, stepped, named, called, number, character, string, enclosed, no_args, some_args, last_arg, next_arg, loosest}
use Rattle.csub_expr.specs.Looks.{begins}
use Rattle.csub_expr.proofs.Spelled.{nonempty, spanned, lead, lead_no_mark, unary_shape}
use Rattle.csub_expr.proofs.ChainComplete.{reads_assigned, reads_binary, reads_choice, reads_no_assignment, reads_no_choice, spine_operated, spine_tighter}
use Rattle.csub_expr.proofs.UnaryComplete.{ReadsSome, heads_character, heads_name, heads_no_args, heads_number, heads_paren, heads_some, heads_string, reads_cast, reads_postfix, reads_prefixed, some_last, some_next, tails_index, tails_member, tails_primary, tails_step}
use Rattle.csub_expr.proofs.ExprReads.{Claim, Reads}

-- no argument begins with a closing parenthesis
some_opens : {es : Exprs} {s : List Token} → SpellsSome es s → (r : List Token) → begins marks.CloseParen (s ++ r) ≡ false
some_opens (last_arg h) r = lead_no_mark (lead h r) marks.CloseParen refl refl
some_opens (next_arg {t = t} a h hs) r = rw append_assoc (lead_no_mark (lead h (mark marks.Comma a ∷ t ++ r)) marks.CloseParen refl refl)

mutual
  pub claim : {rank : Rank} {e : Expr} {s : List Token} → SpellsExpr rank e s → Claim rank e s
  claim (no_assignment {e = e} {s = s} h) = reads_no_assignment e s (claim h)
  claim (assigned {o = o} {l = l} {r = r} {s = s} {t = t} m a is hl hr) = reads_assigned o l r s t m a is (claim hl) (unary_shape hl) (nonempty hl) (spanned hl) (claim hr) (nonempty hr) (spanned hr)
  claim (no_choice {e = e} {s = s} h) = reads_no_choice e s (reads_binary loosest e s (claim h))
  claim (choice {e = e} {x = x} {y = y} {s = s} {t = t} {u = u} a b he hx hy) = reads_choice e x y s t u a b (reads_binary loosest e s (claim he)) (nonempty he) (spanned he) (claim hx) (claim hy) (nonempty hy) (spanned hy)
  claim (tighter {k = k} {e = e} {s = s} h) = spine_tighter k e s (reads_binary k e s (claim h))
  claim (operated {k = k} {o = o} {l = l} {r = r} {s = s} {t = t} m a is level hl hr) = spine_operated k o l r s t m a is level (claim hl) (nonempty hl) (spanned hl) (reads_binary k r t (claim hr)) (nonempty hr) (spanned hr)
  claim (prefixed {o = o} {e = e} {s = s} m a is h) = reads_prefixed o e s m a is (claim h) (nonempty h) (spanned h)
  claim (cast {n = n} {e = e} {s = s} {t = t} a b w h) = reads_cast n e s t a b w (claim h) (nonempty h) (spanned h)
  claim (no_prefix {e = e} {s = s} h) = reads_postfix e s h (claim h)
  claim (no_postfix {e = e} {s = s} h) = tails_primary e s (claim h)
  claim (indexed {e = e} {i = i} {s = s} {t = t} a b h hi) = tails_index e i s t a b (claim h) (nonempty h) (spanned h) (claim hi)
  claim (member {e = e} {s = s} a n h) = tails_member e s a n (claim h) (nonempty h) (spanned h)
  claim (stepped {o = o} {e = e} {s = s} m a is h) = tails_step o e s m a is (claim h) (nonempty h) (spanned h)
  claim (named n) = heads_name n
  claim (called n a b no_args) = heads_no_args n a b
  claim (called n a b (some_args {es = es} {s = s} h)) = heads_some es s n a b (some_opens h) (claim_some h)
  claim (number n u a) = heads_number n u a
  claim (character b a) = heads_character b a
  claim (string t a) = heads_string t a
  claim (enclosed {e = e} {s = s} a b h) = heads_paren e s a b (claim h)

  claim_some : {es : Exprs} {s : List Token} → SpellsSome es s → ReadsSome es s
  claim_some (last_arg {e = e} {s = s} h) = some_last e s (claim h)
  claim_some (next_arg {e = e} {es = es} {s = s} {t = t} a h hs) = some_next e es s t a (claim h) (claim_some hs)

-- what is spelled so is read, within the depth
pub complete : {e : Expr} {s : List Token} → SpellsExpr assignment e s → Reads assignment e s
complete h = claim h

pub complete_conditional : {e : Expr} {s : List Token} → SpellsExpr conditional e s → Reads conditional e s
complete_conditional h = claim h
