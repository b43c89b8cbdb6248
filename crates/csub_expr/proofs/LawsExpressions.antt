-- What the descents of expressions and of initialisers keep: what is read is spelled so, what is spelled so is read, and an answer
-- depends on the tokens taken and on the one after them. And what every spelling of an expression has.
use Rattle.std.proofs.Common.{◌≡◌, ℕ, ◌<◌, List, ◌++◌, length, None, Ok, false}
use Rattle.csub_lex.specs.declared.token.Key.{Key}
use Rattle.csub_lex.specs.declared.token.Mark.{Mark}
use Rattle.csub_lex.specs.declared.token.Mark.TheVariants as marks
use Rattle.csub_lex.specs.declared.token.Token.{Token}
use Rattle.csub_tree.specs.declared.name.TypeName.{TypeName}
use Rattle.csub_tree.specs.Expressions.{Expr, span_of}
use Rattle.csub_tree.specs.Declarations.{Init}
use Rattle.csub_tree.specs.Depth.{expr_depth, init_depth}
use Rattle.csub_tree.specs.Tokens.{runs}
use Rattle.csub_tree.specs.SpellsExpressions.{Rank, assignment, conditional, SpellsExpr, prefix_of}
use Rattle.csub_tree.specs.SpellsDeclarations.{SpellsInit}
use Rattle.csub_expr.specs.Looks.{begins, begins_key, begins_number, same_mark}
use Rattle.csub_expr.specs.Laws.{Ends, IsComplete}
use Rattle.csub_expr.specs.ExprDescent.{read, number_at}
use Rattle.csub_expr.specs.InitDescent.{read_init}
use Rattle.csub_expr.proofs.LawsLocal.{Local}
use Rattle.csub_expr.proofs.Spelled as spellings
use Rattle.csub_expr.proofs.ExprSound as soundness
use Rattle.csub_expr.proofs.ExprLocal as locality
use Rattle.csub_expr.proofs.ExprComplete as completeness
use Rattle.csub_expr.proofs.InitLaws as inits
-- the tokens that an expression, or an initialiser, took: they spell it, and it is no deeper than the depth that was allowed
pub use Rattle.csub_expr.proofs.ExprSound.{Took}
pub use Rattle.csub_expr.proofs.InitLaws.{TookInit}
-- the first token of an expression: an operator before its operand, a parenthesis, or a word
pub use Rattle.csub_expr.proofs.Spelled.{Lead, by_prefix, by_open, by_name, by_number, by_character, by_string}

-- an expression that is read is spelled so
pub sound : (d : ℕ) (rank : Rank) (ts : List Token) (e : Expr) (r : List Token) → read d rank ts ≡ Ok (e, r) → Took rank d ts e r
sound d rank ts e r h = soundness.sound d rank ts e r h

-- an assignment that is spelled so is read
pub complete : IsComplete (SpellsExpr assignment) expr_depth (Ends assignment) (λ d. read d assignment)
complete e s h d fits r ends = completeness.complete h d fits r ends

-- a conditional expression that is spelled so is read
pub complete_conditional : IsComplete (SpellsExpr conditional) expr_depth (Ends conditional) (λ d. read d conditional)
complete_conditional e s h d fits r ends = completeness.complete_conditional h d fits r ends

-- expressions are read locally
pub local_read : (d : ℕ) (rank : Rank) → Local Expr (read d rank)
local_read d rank = locality.local_read d rank

-- so are number types
pub local_number : Local TypeName number_at
local_number = locality.local_number

-- an initialiser that is read is spelled so
pub sound_init : (d : ℕ) (ts : List Token) (i : Init) (r : List Token) → read_init d ts ≡ Ok (i, r) → TookInit d ts i r
sound_init d ts i r h = inits.sound_init d ts i r h

-- an initialiser that is spelled so is read
pub complete_init : IsComplete SpellsInit init_depth (Ends assignment) read_init
complete_init i s h d fits r ends = inits.complete_init h d fits r ends

-- initialisers are read locally
pub local_init : (d : ℕ) → Local Init (read_init d)
local_init d = inits.local_init d

-- an expression has a node
pub depth_pos : (e : Expr) → 0 < expr_depth e
depth_pos e = spellings.depth_pos e

-- an expression has a token
pub nonempty : {rank : Rank} {e : Expr} {s : List Token} → SpellsExpr rank e s → 0 < length s
nonempty h = spellings.nonempty h

-- the place of an expression is that of its tokens
pub spanned : {rank : Rank} {e : Expr} {s : List Token} → SpellsExpr rank e s → span_of e ≡ runs s
spanned h = spellings.spanned h

-- each spelling begins with such a token
pub lead : {rank : Rank} {e : Expr} {s : List Token} → SpellsExpr rank e s → (r : List Token) → Lead (s ++ r)
lead h r = spellings.lead h r

-- so none begins with a keyword
pub lead_no_key : {ts : List Token} → Lead ts → (k : Key) → begins_key k ts ≡ false
lead_no_key h k = spellings.lead_no_key h k

-- none begins with a number type
pub lead_no_number : {ts : List Token} → Lead ts → begins_number ts ≡ false
lead_no_number h = spellings.lead_no_number h

-- none begins with a mark that is neither an operator before an operand nor a parenthesis
pub lead_no_mark : {ts : List Token} → Lead ts → (m : Mark) → prefix_of m ≡ None → same_mark marks.OpenParen m ≡ false → begins m ts ≡ false
lead_no_mark h m none other = spellings.lead_no_mark h m none other
