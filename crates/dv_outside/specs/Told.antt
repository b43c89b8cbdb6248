-- A shelf that tells its files answers by them: a fact that its type keeps, as the law of shelves says it.
use Rattle.std.specs.Prelude.{List, Some, unwrap_or}
use Rattle.std.proofs.Common.{ap, subst}
use Rattle.dv_outside.specs.Outside.{Files, Answer, AreOf, AreTold}

pub held_told : (held : Files) (answers : List Answer) → AreOf held answers → AreTold (Some held) answers
held_told held answers are files told =
    let P : Files → Type 0 = λ f. AreOf f answers in
    subst P (ap (λ o. unwrap_or o held) told) are
