-- The laws that tie a descent, as a function on lists of tokens, to the grammar: it is sound, complete and local.
use Rattle.std.specs.Prelude.{ℕ, ◌≡◌, ◌≤◌, ◌<◌, List, [], ◌∷◌, ◌++◌, length, Option, Some, None, Ok, Err, false}
use Rattle.csub_lex.specs.declared.token.Mark.TheVariants as marks
use Rattle.csub_lex.specs.declared.token.Token.{Token}
use Rattle.csub_tree.specs.SpellsExpressions.{Rank, assignment, conditional, binary, postfix, primary, loosest}
use Rattle.csub_expr.specs.Looks.{begins, op_at, assignment_at, tail_at}
use Rattle.csub_expr.specs.Answers.{Answer}

-- the first token, if there is one
abbrev pub head : List Token → Option Token
head [] = None
head (t ∷ ts) = Some t

-- no operator of a level below k comes
abbrev pub NoOps : ℕ → List Token → Type 0
NoOps k r = (j : ℕ) → j < k → op_at j r ≡ None

-- what comes makes no postfix expression longer
abbrev pub Shut : List Token → Type 0
Shut r = (tail_at r ≡ None) × (begins marks.OpenParen r ≡ false)

-- what comes doesn't continue an expression of the rank
abbrev pub Ends : Rank → List Token → Type 0
Ends primary r = Shut r
Ends postfix r = Shut r
Ends (binary k) r = Shut r × NoOps k r
Ends conditional r = Shut r × NoOps loosest r × (begins marks.Question r ≡ false)
Ends assignment r = Shut r × NoOps loosest r × (begins marks.Question r ≡ false) × (assignment_at r ≡ None)

-- what is read is spelled by the tokens that were taken, and is no deeper than the depth that was allowed
abbrev pub IsSound : {A : Type 0} → (A → List Token → Type 0) → (A → ℕ) → (ℕ → List Token → Answer A) → Type 0
IsSound {A} Spells depth reading =
    (d : ℕ) (ts : List Token) (x : A) (r : List Token) → reading d ts ≡ Ok (x, r)
    → (s : List Token) × (ts ≡ s ++ r) × Spells x s × (depth x ≤ d)

-- what is spelled so, and is no deeper than allowed, is read wherever what follows doesn't continue it
abbrev pub IsComplete : {A : Type 0} → (A → List Token → Type 0) → (A → ℕ) → (List Token → Type 0) → (ℕ → List Token → Answer A)
    → Type 0
IsComplete {A} Spells depth Follows reading =
    (x : A) (s : List Token) → Spells x s → (d : ℕ) → depth x ≤ d → (r : List Token) → Follows r → reading d (s ++ r) ≡ Ok (x, r)

-- what is read is read in each list that has the same tokens up to the one behind it
abbrev pub ReadsLocally : {A : Type 0} → (List Token → Answer A) → Type 0
ReadsLocally {A} reading =
    (ts : List Token) (x : A) (r : List Token) → reading ts ≡ Ok (x, r)
    → (s : List Token) × (ts ≡ s ++ r) × ((q : List Token) → head q ≡ head r → reading (s ++ q) ≡ Ok (x, q))

-- what is refused at a token is refused there in each list that has the same tokens up to it
abbrev pub RefusesLocally : {A : Type 0} → (List Token → Answer A) → Type 0
RefusesLocally reading =
    (ts : List Token) (n : ℕ) → reading ts ≡ Err n
    → (s : List Token) × (r : List Token) × (ts ≡ s ++ r) × (n ≡ length r)
    × ((q : List Token) → head q ≡ head r → reading (s ++ q) ≡ Err (length q))

-- an answer depends on no token behind the first one that is left
abbrev pub IsLocal : {A : Type 0} → (ℕ → List Token → Answer A) → Type 0
IsLocal reading = (d : ℕ) → ReadsLocally (reading d) × RefusesLocally (reading d)
