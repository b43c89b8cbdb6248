-- Equality of labels is decided.
use Rattle.std.proofs.Common.{◌≡◌, ℤ, List, [], ◌∷◌, Option, Some, None, Bool, true, false, int_eq, refl, sym, ap, inl, inr, true≢false}
use Rattle.std.specs.Cmp.{signed_Decides}
use Rattle.std.proofs.lemmas.Bool.{cases_eq}
use Rattle.csub_text.specs.declared.operator.UnaryOp.{UnaryOp}
use Rattle.csub_text.specs.declared.operator.UnaryOp.TheVariants.{Plus, Minus, Not, Flip}
use Rattle.csub_text.specs.declared.operator.StepOp.{StepOp}
use Rattle.csub_text.specs.declared.operator.StepOp.TheVariants.{PreUp, PreDown, PostUp, PostDown}
use Rattle.csub_text.specs.declared.operator.BinOp.{BinOp}
use Rattle.csub_text.specs.declared.operator.BinOp.TheVariants.{Mul, Div, Rem, Add, Sub, Shl, Shr, Lt, Gt, Le, Ge, Eq, Ne, BitAnd, BitXor, BitOr}
use Rattle.csub_types.specs.declared.kind.IntKind.{IntKind}
use Rattle.csub_types.specs.declared.kind.IntKind.TheVariants.{Char, Int, Unsigned}
use Rattle.csub_semantics.specs.declared.expression.Piece.{Piece}
use Rattle.csub_semantics.specs.declared.expression.Piece.TheVariants.{Byte, Signed, Plain, Letter}
use Rattle.csub_semantics.specs.declared.label.EndRule.{EndRule}
use Rattle.csub_semantics.specs.declared.label.EndRule.TheVariants.{Nothing, Value, Main, Start}
use Rattle.csub_objects.specs.Types.{Name, TypeTree, type_eq, MemberTree}
use Rattle.csub_objects.proofs.LawsTypes.{type_eq-Decides}
use Rattle.csub_semantics.specs.Types.{GlobalTree}
use Rattle.csub_semantics.specs.Trees.{NamedPlace, NamedExpr, NamedArg, variable, element_place, member_place, constant, reading, unary_operation, conversion, stepping, operation, conjunction, disjunction, choice, assignment, update, input_byte, output_byte, formatted, NamedExprs, no_expr, more_exprs, value_argument, array_argument, OwnerTree, global_owner, local_owner, Variable, object, temporary}
use Rattle.csub_semantics.specs.Labels.{LabelTree, enters, exits, evaluates, initialises, branches, switches, returns, jumps, halts, calls, AnswerTree, CallTree, InitTree, one_value, listed, InitTrees, no_init, more_inits, PointLabel}
use Rattle.program_laws.specs.Decided.{Decided}

-- what is built of one part, two or more is equal where all the parts are
one : {X Y : Type 0} (f : X → Y) (a b : X) → (f a ≡ f b → a ≡ b) → Decided a b → Decided (f a) (f b)
one f a b back (inl e) = inl (ap f e)
one f a b back (inr n) = inr (λ e. n (back e))

two : {X Y Z : Type 0} (f : X → Y → Z) (a b : X) (c d : Y) → (f a c ≡ f b d → (a ≡ b) × (c ≡ d)) → Decided a b → Decided c d → Decided (f a c) (f b d)
two f a b c d back (inl e) (inl g) = inl (λ i. f (e i) (g i))
two f a b c d back (inr n) y = inr (λ e. n (back e).0)
two f a b c d back (inl e) (inr n) = inr (λ e. n (back e).1)

three : {X Y Z W : Type 0} (f : X → Y → Z → W) (a b : X) (c d : Y) (p q : Z) → (f a c p ≡ f b d q → (a ≡ b) × (c ≡ d) × (p ≡ q)) → Decided a b → Decided c d → Decided p q → Decided (f a c p) (f b d q)
three f a b c d p q back (inl e) (inl g) (inl h) = inl (λ i. f (e i) (g i) (h i))
three f a b c d p q back (inr n) y z = inr (λ e. n (back e).0)
three f a b c d p q back (inl e) (inr n) z = inr (λ e. n (back e).1)
three f a b c d p q back (inl e) (inl g) (inr n) = inr (λ e. n (back e).2)

four : {X Y Z V W : Type 0} (f : X → Y → Z → V → W) (a b : X) (c d : Y) (p q : Z) (m n : V) → (f a c p m ≡ f b d q n → (a ≡ b) × (c ≡ d) × (p ≡ q) × (m ≡ n)) → Decided a b → Decided c d → Decided p q → Decided m n → Decided (f a c p m) (f b d q n)
four f a b c d p q m n back (inl e) (inl g) (inl h) (inl k) = inl (λ i. f (e i) (g i) (h i) (k i))
four f a b c d p q m n back (inr x) y z w = inr (λ e. x (back e).0)
four f a b c d p q m n back (inl e) (inr x) z w = inr (λ e. x (back e).1)
four f a b c d p q m n back (inl e) (inl g) (inr x) w = inr (λ e. x (back e).2)
four f a b c d p q m n back (inl e) (inl g) (inl h) (inr x) = inr (λ e. x (back e).3)

-- and so are lists and options of such values

module _ {X : Type 0} (each : (a b : X) → Decided a b) where
  pub lists : (xs ys : List X) → Decided xs ys
  lists [] [] = inl refl
  lists [] _ = inr (λ e. cc)
  lists (x ∷ xs) (y ∷ ys) = two (λ z zs. z ∷ zs) x y xs ys (λ e. (cc, cc)) (each x y) (lists xs ys)
  lists (x ∷ xs) _ = inr (λ e. cc)

  pub options : (o p : Option X) → Decided o p
  options None None = inl refl
  options None _ = inr (λ e. cc)
  options (Some a) (Some b) = one Some a b (λ e. cc) (each a b)
  options (Some a) _ = inr (λ e. cc)

pub integers : (a b : ℤ) → Decided a b
integers a b = pick (int_eq a b) (signed_Decides a b).0 (signed_Decides a b).1
  where
    pick : (t : Bool) → (t ≡ true → a ≡ b) → (a ≡ b → t ≡ true) → Decided a b
    pick true yes' no' = inl (yes' refl)
    pick false yes' no' = inr (λ e. true≢false (sym (no' e)))

pub names : (a b : Name) → Decided a b
names = lists cases_eq

pub kinds : (a b : IntKind) → Decided a b
kinds Char Char = inl refl
kinds Char _ = inr (λ e. cc)
kinds Int Int = inl refl
kinds Int _ = inr (λ e. cc)
kinds Unsigned Unsigned = inl refl
kinds Unsigned _ = inr (λ e. cc)

end_rules : (a b : EndRule) → Decided a b
end_rules Nothing Nothing = inl refl
end_rules Nothing _ = inr (λ e. cc)
end_rules Value Value = inl refl
end_rules Value _ = inr (λ e. cc)
end_rules Main Main = inl refl
end_rules Main _ = inr (λ e. cc)
end_rules Start Start = inl refl
end_rules Start _ = inr (λ e. cc)

unary_operators : (a b : UnaryOp) → Decided a b
unary_operators Plus Plus = inl refl
unary_operators Plus _ = inr (λ e. cc)
unary_operators Minus Minus = inl refl
unary_operators Minus _ = inr (λ e. cc)
unary_operators Not Not = inl refl
unary_operators Not _ = inr (λ e. cc)
unary_operators Flip Flip = inl refl
unary_operators Flip _ = inr (λ e. cc)

step_operators : (a b : StepOp) → Decided a b
step_operators PreUp PreUp = inl refl
step_operators PreUp _ = inr (λ e. cc)
step_operators PreDown PreDown = inl refl
step_operators PreDown _ = inr (λ e. cc)
step_operators PostUp PostUp = inl refl
step_operators PostUp _ = inr (λ e. cc)
step_operators PostDown PostDown = inl refl
step_operators PostDown _ = inr (λ e. cc)

operators : (a b : BinOp) → Decided a b
operators Mul Mul = inl refl
operators Mul _ = inr (λ e. cc)
operators Div Div = inl refl
operators Div _ = inr (λ e. cc)
operators Rem Rem = inl refl
operators Rem _ = inr (λ e. cc)
operators Add Add = inl refl
operators Add _ = inr (λ e. cc)
operators Sub Sub = inl refl
operators Sub _ = inr (λ e. cc)
operators Shl Shl = inl refl
operators Shl _ = inr (λ e. cc)
operators Shr Shr = inl refl
operators Shr _ = inr (λ e. cc)
operators Lt Lt = inl refl
operators Lt _ = inr (λ e. cc)
operators Gt Gt = inl refl
operators Gt _ = inr (λ e. cc)
operators Le Le = inl refl
operators Le _ = inr (λ e. cc)
operators Ge Ge = inl refl
operators Ge _ = inr (λ e. cc)
operators Eq Eq = inl refl
operators Eq _ = inr (λ e. cc)
operators Ne Ne = inl refl
operators Ne _ = inr (λ e. cc)
operators BitAnd BitAnd = inl refl
operators BitAnd _ = inr (λ e. cc)
operators BitXor BitXor = inl refl
operators BitXor _ = inr (λ e. cc)
operators BitOr BitOr = inl refl
operators BitOr _ = inr (λ e. cc)

pieces : (a b : Piece) → Decided a b
pieces (Byte m) (Byte n) = one Byte m n (λ e. cc) (cases_eq m n)
pieces (Byte m) _ = inr (λ e. cc)
pieces Signed Signed = inl refl
pieces Signed _ = inr (λ e. cc)
pieces Plain Plain = inl refl
pieces Plain _ = inr (λ e. cc)
pieces Letter Letter = inl refl
pieces Letter _ = inr (λ e. cc)

types : (a b : TypeTree) → Decided a b
types a b = by_test (type_eq a b) refl
  where
    by_test : (t : Bool) → type_eq a b ≡ t → Decided a b
    by_test true e = inl ((type_eq-Decides a b).0 e)
    by_test false e = inr (λ same. let yes : type_eq a b ≡ true = (type_eq-Decides a b).1 same in cc)

owners : (a b : OwnerTree) → Decided a b
owners (global_owner a) (global_owner b) = one global_owner a b (λ e. cc) (names a b)
owners (global_owner a) _ = inr (λ e. cc)
owners (local_owner a m) (local_owner b n) = two local_owner a b m n (λ e. (cc, cc)) (names a b) (cases_eq m n)
owners (local_owner a m) _ = inr (λ e. cc)

variables : (a b : Variable) → Decided a b
variables (object o t) (object p u) = two object o p t u (λ e. (cc, cc)) (owners o p) (types t u)
variables (object o t) _ = inr (λ e. cc)
variables (temporary m k) (temporary n j) = two temporary m n k j (λ e. (cc, cc)) (cases_eq m n) (kinds k j)
variables (temporary m k) _ = inr (λ e. cc)

mutual
  places : (a b : NamedPlace) → Decided a b
  places (variable v) (variable w) = one variable v w (λ e. cc) (variables v w)
  places (variable v) _ = inr (λ e. cc)
  places (element_place u p a) (element_place w q b) = two (element_place u) p q a b (λ e. (cc, cc)) (places p q) (exprs a b)
  places (element_place u p a) _ = inr (λ e. cc)
  places (member_place a p) (member_place b q) = two member_place a b p q (λ e. (cc, cc)) (names a b) (places p q)
  places (member_place a p) _ = inr (λ e. cc)

  pub exprs : (a b : NamedExpr) → Decided a b
  exprs (constant k v) (constant j w) = two constant k j v w (λ e. (cc, cc)) (kinds k j) (integers v w)
  exprs (constant k v) _ = inr (λ e. cc)
  exprs (reading p) (reading q) = one reading p q (λ e. cc) (places p q)
  exprs (reading p) _ = inr (λ e. cc)
  exprs (unary_operation o k a) (unary_operation u j b) = three unary_operation o u k j a b (λ e. (cc, cc, cc)) (unary_operators o u) (kinds k j) (exprs a b)
  exprs (unary_operation o k a) _ = inr (λ e. cc)
  exprs (conversion k a) (conversion j b) = two conversion k j a b (λ e. (cc, cc)) (kinds k j) (exprs a b)
  exprs (conversion k a) _ = inr (λ e. cc)
  exprs (stepping o p) (stepping u q) = two stepping o u p q (λ e. (cc, cc)) (step_operators o u) (places p q)
  exprs (stepping o p) _ = inr (λ e. cc)
  exprs (operation o k a b) (operation u j c d) = four operation o u k j a c b d (λ e. (cc, cc, cc, cc)) (operators o u) (kinds k j) (exprs a c) (exprs b d)
  exprs (operation o k a b) _ = inr (λ e. cc)
  exprs (conjunction a b) (conjunction c d) = two conjunction a c b d (λ e. (cc, cc)) (exprs a c) (exprs b d)
  exprs (conjunction a b) _ = inr (λ e. cc)
  exprs (disjunction a b) (disjunction c d) = two disjunction a c b d (λ e. (cc, cc)) (exprs a c) (exprs b d)
  exprs (disjunction a b) _ = inr (λ e. cc)
  exprs (choice k x a b) (choice j y c d) = four choice k j x y a c b d (λ e. (cc, cc, cc, cc)) (kinds k j) (exprs x y) (exprs a c) (exprs b d)
  exprs (choice k x a b) _ = inr (λ e. cc)
  exprs (assignment p a) (assignment q b) = two assignment p q a b (λ e. (cc, cc)) (places p q) (exprs a b)
  exprs (assignment p a) _ = inr (λ e. cc)
  exprs (update p o k a) (update q u j b) = four update p q o u k j a b (λ e. (cc, cc, cc, cc)) (places p q) (operators o u) (kinds k j) (exprs a b)
  exprs (update p o k a) _ = inr (λ e. cc)
  exprs input_byte input_byte = inl refl
  exprs input_byte _ = inr (λ e. cc)
  exprs (output_byte a) (output_byte b) = one output_byte a b (λ e. cc) (exprs a b)
  exprs (output_byte a) _ = inr (λ e. cc)
  exprs (formatted ps es) (formatted qs us) = two formatted ps qs es us (λ e. (cc, cc)) (lists pieces ps qs) (expr_rows es us)
  exprs (formatted ps es) _ = inr (λ e. cc)

  expr_rows : (es us : NamedExprs) → Decided es us
  expr_rows no_expr no_expr = inl refl
  expr_rows no_expr _ = inr (λ e. cc)
  expr_rows (more_exprs a es) (more_exprs b us) = two more_exprs a b es us (λ e. (cc, cc)) (exprs a b) (expr_rows es us)
  expr_rows (more_exprs a es) _ = inr (λ e. cc)

arguments : (a b : NamedArg) → Decided a b
arguments (value_argument a) (value_argument b) = one value_argument a b (λ e. cc) (exprs a b)
arguments (value_argument a) _ = inr (λ e. cc)
arguments (array_argument p) (array_argument q) = one array_argument p q (λ e. cc) (places p q)
arguments (array_argument p) _ = inr (λ e. cc)

members : (a b : MemberTree) → Decided a b
members a b = two (λ n t. record { name = n; ctype = t }) a.name b.name a.ctype b.ctype (λ e. (ap (λ (m : MemberTree). m.name) e, ap (λ (m : MemberTree). m.ctype) e)) (names a.name b.name) (types a.ctype b.ctype)

answers : (a b : AnswerTree) → Decided a b
answers a b = two (λ k v. record { kind = k; value = v }) a.kind b.kind a.value b.value (λ e. (ap (λ (r : AnswerTree). r.kind) e, ap (λ (r : AnswerTree). r.value) e)) (kinds a.kind b.kind) (exprs a.value b.value)

call_trees : (a b : CallTree) → Decided a b
call_trees a b = join (names a.callee b.callee) (lists members a.params b.params) (options kinds a.result b.result) (lists arguments a.args b.args) (options cases_eq a.temp b.temp)
  where
    join : Decided a.callee b.callee → Decided a.params b.params → Decided a.result b.result → Decided a.args b.args → Decided a.temp b.temp → Decided a b
    join (inl c) (inl p) (inl r) (inl x) (inl t) = inl (λ i. record { callee = c i; params = p i; result = r i; args = x i; temp = t i })
    join (inr n) p r x t = inr (λ e. n (ap (λ (c : CallTree). c.callee) e))
    join (inl c) (inr n) r x t = inr (λ e. n (ap (λ (c : CallTree). c.params) e))
    join (inl c) (inl p) (inr n) x t = inr (λ e. n (ap (λ (c : CallTree). c.result) e))
    join (inl c) (inl p) (inl r) (inr n) t = inr (λ e. n (ap (λ (c : CallTree). c.args) e))
    join (inl c) (inl p) (inl r) (inl x) (inr n) = inr (λ e. n (ap (λ (c : CallTree). c.temp) e))

mutual
  inits : (a b : InitTree) → Decided a b
  inits (one_value a) (one_value b) = one one_value a b (λ e. cc) (exprs a b)
  inits (one_value a) _ = inr (λ e. cc)
  inits (listed xs) (listed ys) = one listed xs ys (λ e. cc) (init_rows xs ys)
  inits (listed xs) _ = inr (λ e. cc)

  init_rows : (xs ys : InitTrees) → Decided xs ys
  init_rows no_init no_init = inl refl
  init_rows no_init _ = inr (λ e. cc)
  init_rows (more_inits a xs) (more_inits b ys) = two more_inits a b xs ys (λ e. (cc, cc)) (inits a b) (init_rows xs ys)
  init_rows (more_inits a xs) _ = inr (λ e. cc)

pub labels_alike : (a b : LabelTree) → Decided a b
labels_alike enters enters = inl refl
labels_alike enters _ = inr (λ e. cc)
labels_alike (exits r) (exits u) = one exits r u (λ e. cc) (end_rules r u)
labels_alike (exits r) _ = inr (λ e. cc)
labels_alike (evaluates a) (evaluates b) = one evaluates a b (λ e. cc) (exprs a b)
labels_alike (evaluates a) _ = inr (λ e. cc)
labels_alike (initialises o t a) (initialises p u b) = three initialises o p t u a b (λ e. (cc, cc, cc)) (owners o p) (types t u) (inits a b)
labels_alike (initialises o t a) _ = inr (λ e. cc)
labels_alike (branches a) (branches b) = one branches a b (λ e. cc) (exprs a b)
labels_alike (branches a) _ = inr (λ e. cc)
labels_alike (switches a) (switches b) = one switches a b (λ e. cc) (exprs a b)
labels_alike (switches a) _ = inr (λ e. cc)
labels_alike (returns a) (returns b) = one returns a b (λ e. cc) (options answers a b)
labels_alike (returns a) _ = inr (λ e. cc)
labels_alike jumps jumps = inl refl
labels_alike jumps _ = inr (λ e. cc)
labels_alike (halts a) (halts b) = one halts a b (λ e. cc) (exprs a b)
labels_alike (halts a) _ = inr (λ e. cc)
labels_alike (calls c) (calls d) = one calls c d (λ e. cc) (call_trees c d)
labels_alike (calls c) _ = inr (λ e. cc)

global_trees : (a b : GlobalTree) → Decided a b
global_trees a b =
    three (λ n t vs. record { name = n; ctype = t; initial = vs }) a.name b.name a.ctype b.ctype a.initial b.initial
    (λ e. (ap (λ (g : GlobalTree). g.name) e, ap (λ (g : GlobalTree). g.ctype) e, ap (λ (g : GlobalTree). g.initial) e))
    (names a.name b.name) (types a.ctype b.ctype) (lists integers a.initial b.initial)

pub labels : (a b : PointLabel) → Decided a b
labels a b = two (λ t gs. record { tree = t; globals = gs }) a.tree b.tree a.globals b.globals (λ e. (ap (λ (l : PointLabel). l.tree) e, ap (λ (l : PointLabel). l.globals) e)) (labels_alike a.tree b.tree) (lists global_trees a.globals b.globals)
