-- The places in a tree lie in the source whose tokens spell it, and so do those of the tokens. Crates above cite these.
use Rattle.std.proofs.Common.{ℕ, List, [], ◌∷◌, ◌++◌, length}
use Rattle.csub_lex.specs.declared.token.Token.{Token}
use Rattle.csub_lex.specs.declared.token.Mark.TheVariants as marks
use Rattle.csub_lex.specs.Tokens.{Tokens}
use Rattle.csub_tree.specs.Units.{Constant, Item, Source}
use Rattle.csub_tree.specs.Tokens.{mark}
use Rattle.csub_tree.specs.SpellsExpressions.{conditional}
use Rattle.csub_tree.specs.SpellsDeclarations.{braced}
use Rattle.csub_tree.specs.Spells.{SpellsConstant, SpellsItem, Spells}
use Rattle.csub_tree.specs.Spells as units
use Rattle.fault_places.specs.Within.{IsWithin, WithinEach, WithinConstant, WithinItem, SpansWithin}
use Rattle.fault_places.proofs.Rising.{Rising, left_part, right_part, later, behind, at_first, whole, rising}
use Rattle.fault_places.proofs.Lists.{each_within, separated_within, maybe_within}
use Rattle.fault_places.proofs.SpelledExpressions.{expr_within}
use Rattle.fault_places.proofs.SpelledDeclarations.{name_within, field_within, decl_within, head_within}
use Rattle.fault_places.proofs.SpelledStatements.{lines_within}

module _ (n : ℕ) where
  constant_within : (tree : Constant) (ts : List Token) → SpellsConstant tree ts → Rising n ts → WithinConstant n tree
  constant_within tree ts (units.counted x) f = (at_first f, tt)
  constant_within tree ts (units.valued {e} {s} x a p) f = (at_first f, expr_within n conditional e s p (later (later f)))

  item_within : (tree : Item) (ts : List Token) → SpellsItem tree ts → Rising n ts → WithinItem n tree
  item_within tree ts (units.struct {d} {ds} {s} x a b c e p) f =
      let fields = left_part s (mark marks.CloseBrace c ∷ mark marks.Semicolon e ∷ []) (later (later (later f))) in
      (at_first (later f), each_within (field_within n) (d ∷ ds) s p fields)
  item_within tree ts (units.enum {n = x} {cs} {s} {t} {u} a b c d p q w) f =
      let end : List Token = mark marks.CloseBrace c ∷ mark marks.Semicolon d ∷ [] in
      let constants : List Token = t ++ u ++ end in (
        maybe_within (name_within n) x s p (left_part s (mark marks.OpenBrace b ∷ constants) (later f)),
        separated_within constant_within cs t q (left_part t u (left_part (t ++ u) end (behind s (mark marks.OpenBrace b) constants (later f)))),
      )
  item_within tree ts (units.object {d} {s} p) f = decl_within n d s p f
  item_within tree ts (units.prototype {h} {s} a p) f = head_within n h s p (left_part s (mark marks.Semicolon a ∷ []) f)
  item_within tree ts (units.function {h} {ss} {s} {t} a b p q) f = (
    head_within n h s p (left_part s (braced a t b) f),
    lines_within n ss t q (left_part t (mark marks.CloseBrace b ∷ []) (later (right_part s (braced a t b) f))),
    whole f,
  )

  unit_within : (u : Source) (ts : List Token) → Spells u ts → Rising n ts → SpansWithin n u
  unit_within u ts (units.unit {is} {s} p) f = each_within item_within is s p f

-- what the tokens of a source spell
pub spans_within : (bytes : List ℕ) (ts : List Token) (u : Source) → Tokens [] bytes ts → Spells u ts → SpansWithin (length bytes) u
spans_within bytes ts u cut spelled = unit_within (length bytes) u ts spelled (rising bytes ts cut)

each_token : (n : ℕ) (ts : List Token) → Rising n ts → WithinEach (λ (t : Token). IsWithin n t.span) ts
each_token n [] f = tt
each_token n (t ∷ ts) f = (at_first f, each_token n ts (later f))

-- the tokens of a source
pub tokens_within : (bytes : List ℕ) (ts : List Token) → Tokens [] bytes ts → WithinEach (λ (t : Token). IsWithin (length bytes) t.span) ts
tokens_within bytes ts cut = each_token (length bytes) ts (rising bytes ts cut)
