-- What a step that did not fail, and a test that held, say.
use Rattle.std.proofs.Common.{◌≡◌, List, [], Ok, Err, Bool, true, false, cond, refl, ap, inl, inr, ◌⊎◌}
use Rattle.std.specs.Prelude.{◌&&◌}
use Rattle.csub_lex.specs.declared.token.Token.{Token}
use Rattle.csub_expr.specs.Answers.{Answer, ◌>>=◌, done}

-- where two steps are answered, both are
pub bind_ok : {A B : Type 0} (r : Answer A) (f : A × List Token → Answer B) (y : B × List Token) → (r >>= f) ≡ Ok y → (x : A × List Token) × (r ≡ Ok x) × (f x ≡ Ok y)
bind_ok (Ok x) f y e = (x, refl, e)
bind_ok (Err n) f y e = absurd cc

answered : {A : Type 0} → A → Answer A → A
answered d (Ok x) = x.0
answered d (Err n) = d

left_over : {A : Type 0} → Answer A → List Token
left_over (Ok x) = x.1
left_over (Err n) = []

-- equal answers have equal values
pub ok_value : {A : Type 0} (x y : A) (a b : List Token) → done x a ≡ done y b → x ≡ y
unfolding answered
ok_value x y a b e = ap (answered x) e

-- equal answers leave equal tokens
pub ok_rest : {A : Type 0} (x y : A) (a b : List Token) → done x a ≡ done y b → a ≡ b
unfolding left_over
ok_rest x y a b e = ap left_over e

-- which way a test went
pub chosen : {A : Type 0} (b : Bool) (x y z : A) → cond b x y ≡ z → ((b ≡ true) × (x ≡ z)) ⊎ ((b ≡ false) × (y ≡ z))
chosen true x y z e = inl (refl, e)
chosen false x y z e = inr (refl, e)

-- both of two tests held
pub and_true : (a b : Bool) → (a && b) ≡ true → (a ≡ true) × (b ≡ true)
and_true true b e = (refl, e)
and_true false b e = absurd cc
