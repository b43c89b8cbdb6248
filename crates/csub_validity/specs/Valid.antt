-- Valid programs: what a program keeps at every moment.
use Rattle.std.specs.Prelude.{ℕ, ◌+◌, ◌≤◌, ◌≡◌, ◌≢◌, ◌<◌, ◌++◌, ◌⊎◌, ◌&&◌, Bool, true, false, IsTrue, nat_eq, bytes_eq}
use Rattle.std.specs.Prelude.{ℤ, List, [], ◌∷◌, map, length, sum_by, slice_get, find, All, AllPairs, Option, Some, None, IfSome, is_some}
use Rattle.std.specs.Prelude.{if◌then◌else◌}
use Rattle.std.specs.List.{list_any, flat_map}
use Rattle.std.specs.Option.{option_map, option_and_then}
use Rattle.csub_text.specs.declared.operator.BinOp.{BinOp}
use Rattle.csub_types.specs.declared.kind.IntKind.{IntKind}
use Rattle.csub_types.specs.declared.kind.IntKind.TheVariants.{Int}
use Rattle.csub_types.specs.Kinds.{IsOf, promote, common}
use Rattle.csub_types.specs.Arithmetic.{unary_kind, binary_kind, operation_kind}
use Rattle.csub_objects.specs.Types.{Name, TypeTree, number_type, array_type, struct_type, loose_type, main_name}
use Rattle.csub_objects.specs.Types.{MemberTree, MemberTrees, no_member, more_members}
use Rattle.csub_objects.specs.Types.{number_kind, IsNumber, element_type, member_type, cells, kinds, IsSized}
use Rattle.csub_objects.specs.Parts.{part_type, has_parts}
use Rattle.csub_semantics.specs.Types.{GlobalTree}
use Rattle.csub_semantics.specs.Trees.{NamedPlace, NamedExpr, Variable, OwnerTree, global_owner, local_owner, variable}
use Rattle.csub_semantics.specs.Trees.{NamedArg, value_argument, array_argument}
use Rattle.csub_semantics.specs.Trees.{element_place, member_place}
use Rattle.csub_semantics.specs.Trees.{object, temporary, constant, reading, unary_operation, conversion, stepping, operation, conjunction}
use Rattle.csub_semantics.specs.Trees.{disjunction, choice, assignment, update, input_byte, output_byte, formatted}
use Rattle.csub_semantics.specs.Trees.{NamedExprs, no_expr, more_exprs, expr_count}
use Rattle.csub_semantics.specs.declared.expression.Piece.{Piece}
use Rattle.csub_semantics.specs.Formats.{conversion_count}
use Rattle.csub_semantics.specs.Labels.{LabelTree, evaluates, initialises, branches, switches, returns, jumps, halts, calls}
use Rattle.csub_semantics.specs.Labels.{AnswerTree, CallTree, InitTree, one_value, listed, InitTrees, no_init, more_inits}
use Rattle.csub_semantics.specs.Cells.{type_of}
use Rattle.csub_semantics.specs.Syntax.{PartTree, StmtTree, StmtTrees, ElseTree, parts, block, conditional, while_loop, do_loop, for_loop}
use Rattle.csub_semantics.specs.Syntax.{switch_on, case_label, default_label, breaks, continues, goes_to, marked}
use Rattle.csub_semantics.specs.Syntax.{no_stmt, more_stmts, no_else, else_stmt, Stage, LocalTree, FunctionTree, ProgramTree}
use Rattle.csub_validity.specs.declared.role.Role.{Role}
use Rattle.csub_validity.specs.declared.role.Role.TheVariants.{Whole, Test, Switch, Effect}
use Rattle.csub_validity.specs.declared.role.Targets.{Targets}
use Rattle.csub_semantics.specs.Globals.{global_of}
use Rattle.csub_semantics.specs.Successors.{is_default, case_values, marks_list}
use Rattle.csub_semantics.specs.Points.{at}
use Rattle.csub_semantics.specs.Flows.{start_name, to_exit, function_of, point_list, edge_list}

-- the type of a place: an array alone has elements (C11 6.5.2.1p1), and a struct alone members (6.5.2.3p1)
abbrev pub place_type : NamedPlace → Option TypeTree
place_type (variable v) = Some (type_of v)
place_type (element_place u p e) = option_and_then element_type (place_type p)
place_type (member_place a p) = option_and_then (member_type a) (place_type p)

-- the kind of the number in a place
abbrev pub kind_at : Option TypeTree → IntKind
kind_at None = Int
kind_at (Some t) = number_kind t

abbrev pub place_kind : NamedPlace → IntKind
place_kind p = kind_at (place_type p)

-- a place of a number
abbrev pub IsNumberAt : Option TypeTree → Type 0
IsNumberAt None = ⊥
IsNumberAt (Some t) = IsNumber t

abbrev pub IsNumberPlace : NamedPlace → Type 0
IsNumberPlace p = IsNumberAt (place_type p)

-- whether a place is in an object, which the result of a call isn't
abbrev pub in_object : NamedPlace → Bool
in_object (variable (object owner t)) = true
in_object (variable (temporary n kind)) = false
in_object (element_place u p e) = in_object p
in_object (member_place a p) = in_object p

-- a place that may be written: that of a number in an object (a modifiable lvalue, C11 6.3.2.1p1)
abbrev pub IsModifiable : NamedPlace → Type 0
IsModifiable p = IsTrue (in_object p) × IsNumberPlace p

abbrev pub kind_of : NamedExpr → IntKind
kind_of (constant k v) = k
kind_of (reading p) = place_kind p
kind_of (unary_operation op k a) = unary_kind op k
kind_of (conversion k a) = k
kind_of (stepping op p) = place_kind p
kind_of (operation op k a b) = binary_kind op k
kind_of (conjunction a b) = Int
kind_of (disjunction a b) = Int
kind_of (choice k c a b) = k
kind_of (assignment p e) = place_kind p
kind_of (update p op k e) = place_kind p
kind_of input_byte = Int
kind_of (output_byte e) = Int
kind_of (formatted pieces es) = Int

-- the objects of a function: its parameters, each the first of its name, and its locals
abbrev pub parameter_object : MemberTree → LocalTree
parameter_object p = record { name = p.name; number = 1; ctype = p.ctype }

abbrev pub objects_of : FunctionTree → List LocalTree
objects_of f = map parameter_object f.params ++ f.locals

-- what a stage of a part gives to later ones: the result of its call
abbrev pub label_result : LabelTree → Option IntKind
label_result (calls c) = c.result
label_result label = None

abbrev pub stage_result : Stage → Option IntKind
stage_result s = label_result s.label

-- what the expressions of a part may name: the objects of file scope, those of its function, and the results of its calls
pub record Scope : Type 0 where
  pub globals : List GlobalTree
  pub objects : List LocalTree
  pub results : List (Option IntKind)

abbrev pub scope_of : ProgramTree → FunctionTree → PartTree → Scope
scope_of P f p = record { globals = P.globals; objects = objects_of f; results = map stage_result p }

-- the declared type of the object with a name and a number among those of its name
abbrev pub type_in : List LocalTree → Name → ℕ → Option TypeTree
type_in objects a n = option_map (λ (o : LocalTree). o.ctype) (find (λ (o : LocalTree). bytes_eq o.name a && nat_eq o.number n) objects)

-- the declared type of the object of file scope with a name
abbrev pub global_type : List GlobalTree → Name → Option TypeTree
global_type globals a = option_map (λ (g : GlobalTree). g.ctype) (global_of globals a)

-- an object stands with the type that it is declared with
abbrev pub IsObject : List GlobalTree → List LocalTree → OwnerTree → TypeTree → Type 0
IsObject globals objects (global_owner a) t = global_type globals a ≡ Some t
IsObject globals objects (local_owner a n) t = type_in objects a n ≡ Some t

-- the result of the n-th call of a part, counted from 1
abbrev pub result_of : List (Option IntKind) → ℕ → Option IntKind
result_of results n = option_and_then (λ r. r) (slice_get (None ∷ results) n)

-- what the k-th stage of a part may name: an object, or the result of an earlier call
abbrev pub IsVariable : Scope → ℕ → Variable → Type 0
IsVariable sc k (object owner t) = IsObject sc.globals sc.objects owner t
IsVariable sc k (temporary n kind) = (n < k) × (result_of sc.results n ≡ Some kind)

-- an array parameter refers to an array with elements of its type, or to what another such parameter refers to (C11 6.7.6.3p7)
abbrev pub RefersTo : TypeTree → Option TypeTree → Type 0
RefersTo (loose_type t) (Some u) = element_type u ≡ Some t
RefersTo t o = ⊥

-- part number i of an object, if it has one
abbrev pub part_of : Option TypeTree → ℕ → Option TypeTree
part_of o i = option_and_then (λ t. part_type t i) o

-- whether an object has parts
abbrev pub is_whole : Option TypeTree → Bool
is_whole None = false
is_whole (Some t) = has_parts t

-- a format has a value for each of its conversions (C11 7.21.6.1p2), and at most 8
abbrev pub most_values : ℕ
most_values = 8

abbrev pub IsFormat : List Piece → ℕ → Type 0
IsFormat pieces values = (conversion_count pieces ≡ values) × (values ≤ most_values)

module _ (sc : Scope) (number : ℕ) where
  abbrev mutual
    -- a place at the k-th stage of a part: its indices are expressions
    pub IsPlace : NamedPlace → Type 0
    IsPlace (variable v) = IsVariable sc number v
    IsPlace (element_place u p e) = IsPlace p × IsExpr e
    IsPlace (member_place a p) = IsPlace p

    -- An expression at the k-th stage of a part. What is read is a number (C11 6.3.2.1p2), what is written a modifiable
    -- one, and every constant a number of its kind. Every operation has the kind that its operator and operands state: a
    -- unary one the promoted kind of its operand (6.5.3.3), `?:` the common kind of its later operands (6.5.15p5), and a
    -- compound assignment that of its operation (6.5.16.2p3)
    pub IsExpr : NamedExpr → Type 0
    IsExpr (constant k v) = IsOf k v
    IsExpr (reading p) = IsNumberPlace p × IsPlace p
    IsExpr (unary_operation op k a) = (k ≡ promote (kind_of a)) × IsExpr a
    IsExpr (conversion k a) = IsExpr a
    IsExpr (stepping op p) = IsModifiable p × IsPlace p
    IsExpr (operation op k a b) = (k ≡ operation_kind op (kind_of a) (kind_of b)) × IsExpr a × IsExpr b
    IsExpr (conjunction a b) = IsExpr a × IsExpr b
    IsExpr (disjunction a b) = IsExpr a × IsExpr b
    IsExpr (choice k c a b) = (k ≡ common (kind_of a) (kind_of b)) × IsExpr c × IsExpr a × IsExpr b
    IsExpr (assignment p e) = IsModifiable p × IsPlace p × IsExpr e
    IsExpr (update p op k e) = (k ≡ operation_kind op (place_kind p) (kind_of e)) × IsModifiable p × IsPlace p × IsExpr e
    IsExpr input_byte = Unit {0}
    IsExpr (output_byte e) = IsExpr e
    IsExpr (formatted pieces es) = IsFormat pieces (expr_count es) × AreExprs es

    pub AreExprs : NamedExprs → Type 0
    AreExprs no_expr = Unit {0}
    AreExprs (more_exprs e rest) = IsExpr e × AreExprs rest

  -- an argument fits its parameter: a number goes to a number, and an array to an array parameter (C11 6.5.2.2p2)
  abbrev pub IsArg : MemberTree → NamedArg → Type 0
  IsArg p (value_argument e) = IsNumber p.ctype × IsExpr e
  IsArg p (array_argument a) = RefersTo p.ctype (place_type a) × IsPlace a

  -- the arguments of a call fit its parameters: they are as many, and each fits
  abbrev pub AreArgs : List MemberTree → List NamedArg → Type 0
  AreArgs [] [] = Unit {0}
  AreArgs [] (a ∷ args) = ⊥
  AreArgs (p ∷ params) [] = ⊥
  AreArgs (p ∷ params) (a ∷ args) = IsArg p a × AreArgs params args

  -- an initialiser of an object: a number's is an expression (C11 6.7.9p11), that of an array or a struct a list (p16) with
  -- an initialiser for each of its first parts, and none for what isn't there (p2)
  abbrev mutual
    pub IsInit : Option TypeTree → InitTree → Type 0
    IsInit o (one_value e) = IsNumberAt o × IsExpr e
    IsInit o (listed xs) = IsTrue (is_whole o) × AreInits o 0 xs

    pub AreInits : Option TypeTree → ℕ → InitTrees → Type 0
    AreInits o i no_init = Unit {0}
    AreInits o i (more_inits x rest) = IsInit (part_of o i) x × AreInits o (i + 1) rest

-- the k-th call of a part has the temporary k exactly where its callee has a result type
abbrev pub temp_of : Option IntKind → ℕ → Option ℕ
temp_of None k = None
temp_of (Some kind) k = Some k

-- the callee is defined with the parameters and the result type that the call's label has
abbrev pub IsDefinedAs : Option FunctionTree → CallTree → Type 0
IsDefinedAs None c = ⊥
IsDefinedAs (Some g) c = (g.params ≡ c.params) × (g.result ≡ c.result)

-- the k-th call of a part, in a function whose parts have at most so many temporaries
pub record IsCall (P : ProgramTree) (sc : Scope) (temps k : ℕ) (c : CallTree) : Type 0 where
  pub defined : IsDefinedAs (function_of P c.callee) c
  pub args : AreArgs sc k c.params c.args
  pub temp : c.temp ≡ temp_of c.result k
  pub few : IfSome c.temp (λ t. t ≤ temps)

-- a return has its function's result kind, and no value exactly where the function has no result type
abbrev pub IsAnswer : Scope → ℕ → Option IntKind → Option AnswerTree → Type 0
IsAnswer sc k None None = Unit {0}
IsAnswer sc k None (Some a) = ⊥
IsAnswer sc k (Some kind) None = ⊥
IsAnswer sc k (Some kind) (Some a) = (a.kind ≡ kind) × IsExpr sc k a.value

-- an initialised object is one of the function's locals (C11 6.7.9)
abbrev pub IsInitialised : FunctionTree → Scope → ℕ → OwnerTree → TypeTree → InitTree → Type 0
IsInitialised f sc k owner t init = IsObject [] f.locals owner t × IsInit sc k (Some t) init

-- what may stand last in a part: its own point, or where the whole part is a user call, that call
abbrev pub IsLast : ProgramTree → FunctionTree → Scope → Role → ℕ → LabelTree → Type 0
IsLast P f sc Whole k (calls c) = IsCall P sc f.temps k c
IsLast P f sc Whole k (evaluates e) = IsExpr sc k e
IsLast P f sc Whole k (initialises owner t init) = IsInitialised f sc k owner t init
IsLast P f sc Whole k (returns answer) = IsAnswer sc k f.result answer
IsLast P f sc Whole k (halts e) = IsExpr sc k e
IsLast P f sc Test k (branches e) = IsExpr sc k e
IsLast P f sc Switch k (switches e) = IsExpr sc k e
IsLast P f sc Effect k (calls c) = IsCall P sc f.temps k c
IsLast P f sc Effect k (evaluates e) = IsExpr sc k e
IsLast P f sc Effect k (initialises owner t init) = IsInitialised f sc k owner t init
IsLast P f sc role k label = ⊥

-- what may stand before the last: a call
abbrev pub IsEarlier : ProgramTree → FunctionTree → Scope → ℕ → LabelTree → Type 0
IsEarlier P f sc k (calls c) = IsCall P sc f.temps k c
IsEarlier P f sc k label = ⊥

-- the stages of a part from the k-th on
abbrev pub AreStages : ProgramTree → FunctionTree → Scope → Role → ℕ → PartTree → Type 0
AreStages P f sc role k [] = ⊥
AreStages P f sc role k (s ∷ []) = IsLast P f sc role k s.label
AreStages P f sc role k (s ∷ t ∷ rest) = IsEarlier P f sc k s.label × AreStages P f sc role (k + 1) (t ∷ rest)

-- every part has a call or an own point
abbrev pub IsPart : ProgramTree → FunctionTree → Role → PartTree → Type 0
IsPart P f role p = AreStages P f (scope_of P f p) role 1 p

-- whether a part is a declared object with its initialiser
abbrev pub is_declared : LabelTree → Bool
is_declared (initialises owner t init) = true
is_declared label = false

abbrev pub declares : PartTree → Bool
declares p = list_any (λ s. is_declared s.label) p

-- the most statements of a list, and the most parts of a statement
abbrev pub most_entries : ℕ
most_entries = 1048576

-- how many statements a list has
abbrev pub stmt_count : StmtTrees → ℕ
stmt_count no_stmt = 0
stmt_count (more_stmts s rest) = stmt_count rest + 1

-- at most one expression, or a declaration, which has a part for each object that it initialises (C11 6.7)
abbrev pub IsOneOrDeclares : List PartTree → Type 0
IsOneOrDeclares ps = (length ps ≤ 1) ⊎ All (λ p. declares p ≡ true) ps

-- the parts of a statement, or the first of a `for`
pub record AreParts (P : ProgramTree) (f : FunctionTree) (role : Role) (ps : List PartTree) : Type 0 where
  pub few : length ps ≤ most_entries
  pub one : IsOneOrDeclares ps
  pub each : All (λ p. IsPart P f role p) ps

-- what stands before the body of a `for`: round a test, at most one expression each that is evaluated for its effects;
-- a declaration may stand in place of the first (C11 6.8.5.3)
pub record IsForHead (P : ProgramTree) (f : FunctionTree) (first : List PartTree) (test : PartTree) (third : List PartTree) : Type 0 where
  pub begins : AreParts P f Effect first
  pub tests : IsPart P f Test test
  pub one : length third ≤ 1
  pub steps : All (λ p. IsPart P f Effect p) third
  pub undeclared : All (λ p. declares p ≡ false) third

-- a `break` stands in a loop or `switch`, and a `continue` in a loop (C11 6.8.6.2p1 and 6.8.6.3p1)
abbrev pub no_loop : Targets
no_loop = record { of_break = false; of_continue = false; of_case = None }

abbrev pub in_loop : Targets
in_loop = record { of_break = true; of_continue = true; of_case = None }

-- a `case` and a `default` stand among the lines of a `switch` alone, whose kind is given
abbrev pub in_switch : IntKind → Targets → Targets
in_switch kind to = record { of_break = true; of_continue = to.of_continue; of_case = Some kind }

-- inside a statement which is no `switch`
abbrev pub further_in : Targets → Targets
further_in to = record { of_break = to.of_break; of_continue = to.of_continue; of_case = None }

-- the kind of a `switch`, which is the promoted kind of its expression (C11 6.8.4.2p5)
abbrev pub value_kind : LabelTree → IntKind
value_kind (switches e) = promote (kind_of e)
value_kind label = Int

abbrev pub switch_kind : PartTree → IntKind
switch_kind [] = Int
switch_kind (s ∷ []) = value_kind s.label
switch_kind (s ∷ t ∷ rest) = switch_kind (t ∷ rest)

-- a case value is of the kind of its `switch`
abbrev pub IsCase : Option IntKind → ℤ → Type 0
IsCase None v = ⊥
IsCase (Some kind) v = IsOf kind v

-- how many lines are a `default`
abbrev pub default_count : StmtTrees → ℕ
default_count no_stmt = 0
default_count (more_stmts s rest) = if is_default s then default_count rest + 1 else default_count rest

-- the lines of a `switch`: no two case values are the same, and there is at most one `default` (C11 6.8.4.2p3)
pub record AreCases (stmts : StmtTrees) : Type 0 where
  pub few : stmt_count stmts ≤ most_entries
  pub distinct : AllPairs (λ v w. v ≢ w) (case_values stmts)
  pub one : default_count stmts ≤ 1

-- a `goto` is a point by itself
abbrev pub IsJump : PartTree → Type 0
IsJump [] = ⊥
IsJump (s ∷ []) = s.label ≡ jumps
IsJump (s ∷ t ∷ rest) = ⊥

-- the names of the labelled statements of a function
abbrev pub labels_of : FunctionTree → List Name
labels_of f = map (λ m. m.name) (marks_list f.body 0 at to_exit)

-- a label stands only where there is a point of its kind, and every test has its own point
abbrev mutual
  pub IsStmt : ProgramTree → FunctionTree → Targets → StmtTree → Type 0
  IsStmt P f to (parts ps) = AreParts P f Whole ps
  IsStmt P f to (block stmts) = (stmt_count stmts ≤ most_entries) × AreStmts P f (further_in to) stmts
  IsStmt P f to (conditional p t e) = IsPart P f Test p × IsStmt P f (further_in to) t × IsElse P f (further_in to) e
  IsStmt P f to (while_loop p s) = IsPart P f Test p × IsStmt P f in_loop s
  IsStmt P f to (do_loop s p) = IsStmt P f in_loop s × IsPart P f Test p
  IsStmt P f to (for_loop first p third s) = IsForHead P f first p third × IsStmt P f in_loop s
  IsStmt P f to (switch_on p stmts) = IsPart P f Switch p × AreCases stmts × AreStmts P f (in_switch (switch_kind p) to) stmts
  IsStmt P f to (case_label v) = IsCase to.of_case v
  IsStmt P f to default_label = IsTrue (is_some to.of_case)
  IsStmt P f to breaks = IsTrue to.of_break
  IsStmt P f to continues = IsTrue to.of_continue
  -- a `goto` names a label of its function (C11 6.8.6.1p1)
  IsStmt P f to (goes_to a p) = IsJump p × IsTrue (list_any (λ b. bytes_eq b a) (labels_of f))
  IsStmt P f to (marked a s) = IsStmt P f (further_in to) s

  pub AreStmts : ProgramTree → FunctionTree → Targets → StmtTrees → Type 0
  AreStmts P f to no_stmt = Unit {0}
  AreStmts P f to (more_stmts s rest) = IsStmt P f to s × AreStmts P f to rest

  pub IsElse : ProgramTree → FunctionTree → Targets → ElseTree → Type 0
  IsElse P f to no_else = Unit {0}
  IsElse P f to (else_stmt s) = IsStmt P f to s

-- `#start` has no parameters and no result, and calls `main` into the temporary 1
abbrev pub start_call : LabelTree
start_call = calls (record { callee = main_name; params = []; result = Some Int; args = []; temp = Some 1 })

abbrev pub IsStartPart : List PartTree → Type 0
IsStartPart ((s ∷ []) ∷ []) = s.label ≡ start_call
IsStartPart ps = ⊥

abbrev pub IsStartBody : StmtTrees → Type 0
IsStartBody (more_stmts (parts ps) no_stmt) = IsStartPart ps
IsStartBody stmts = ⊥

pub record IsStart (f : FunctionTree) : Type 0 where
  pub name : f.name ≡ start_name
  pub params : f.params ≡ []
  pub result : f.result ≡ None
  pub body : IsStartBody f.body
  pub locals : f.locals ≡ []
  pub temps : f.temps ≡ 1

abbrev pub BeginsWithStart : List FunctionTree → Type 0
BeginsWithStart [] = ⊥
BeginsWithStart (f ∷ rest) = IsStart f

-- `main` is defined as `int` without parameters (C11 5.1.2.2.1)
abbrev pub IsMain : Option FunctionTree → Type 0
IsMain None = ⊥
IsMain (Some f) = (f.params ≡ []) × (f.result ≡ Some Int)

-- the limits of a program: definitions, points and edges (`#start` among them), cells of the objects of file scope,
-- parameters of a function, and the cells of a frame: those of the parameters and of the locals, and one for each temporary
abbrev pub most_functions : ℕ
most_functions = 500

abbrev pub most_points : ℕ
most_points = 10000

abbrev pub most_edges : ℕ
most_edges = 10000

abbrev pub most_global_cells : ℕ
most_global_cells = 65536

abbrev pub most_parameters : ℕ
most_parameters = 16

abbrev pub most_cells : ℕ
most_cells = 4096

abbrev pub frame_cells : FunctionTree → ℕ
frame_cells f = sum_by (λ o. cells o.ctype) (objects_of f) + f.temps

-- a parameter is a number, or refers to an array, whose elements have a type that objects may have (C11 6.7.6.3p7)
abbrev pub IsParameter : TypeTree → Type 0
IsParameter (number_type k) = Unit {0}
IsParameter (array_type t n) = ⊥
IsParameter (struct_type tag ms) = ⊥
IsParameter (loose_type t) = IsSized t

-- the objects of a function: its parameters, and its locals, whose types are those that objects may have
pub record AreDeclared (f : FunctionTree) : Type 0 where
  pub params : All (λ p. IsParameter p.ctype) f.params
  pub locals : All (λ v. IsSized v.ctype) f.locals

-- two objects of a function differ in their names or in their numbers
abbrev pub AreOther : LocalTree → LocalTree → Type 0
AreOther a b = a.name ≡ b.name → a.number ≢ b.number

-- numbers of kinds, as many as there are
abbrev pub AreOf : List IntKind → List ℤ → Type 0
AreOf [] [] = Unit {0}
AreOf [] (v ∷ vs) = ⊥
AreOf (k ∷ kinds) [] = ⊥
AreOf (k ∷ kinds) (v ∷ vs) = IsOf k v × AreOf kinds vs

-- the objects of file scope: their names differ, each has a type that an object may have, and an initial number for each
-- of its cells
pub record AreGlobals (globals : List GlobalTree) : Type 0 where
  pub distinct : AllPairs (λ g h. g.name ≢ h.name) globals
  pub types : All (λ g. IsSized g.ctype) globals
  pub contents : All (λ g. AreOf (kinds g.ctype) g.initial) globals
  pub few : sum_by (λ g. cells g.ctype) globals ≤ most_global_cells

-- the members of each struct in a type have different names (C11 6.7p3)
abbrev pub names_in : MemberTrees → List Name
names_in no_member = []
names_in (more_members x t rest) = x ∷ names_in rest

abbrev mutual
  pub HasOwnNames : TypeTree → Type 0
  HasOwnNames (number_type k) = Unit {0}
  HasOwnNames (array_type t n) = HasOwnNames t
  HasOwnNames (struct_type tag ms) = AllPairs (λ x y. x ≢ y) (names_in ms) × HaveOwnNames ms
  HasOwnNames (loose_type t) = HasOwnNames t

  pub HaveOwnNames : MemberTrees → Type 0
  HaveOwnNames no_member = Unit {0}
  HaveOwnNames (more_members x t rest) = HasOwnNames t × HaveOwnNames rest

-- a struct type: its tag and its members
pub record StructTree : Type 0 where
  pub tag : Name
  pub members : MemberTrees

-- the struct types in a type
abbrev mutual
  pub structs_in : TypeTree → List StructTree
  structs_in (number_type k) = []
  structs_in (array_type t n) = structs_in t
  structs_in (struct_type tag ms) = record { tag = tag; members = ms } ∷ structs_of ms
  structs_in (loose_type t) = structs_in t

  pub structs_of : MemberTrees → List StructTree
  structs_of no_member = []
  structs_of (more_members x t rest) = structs_in t ++ structs_of rest

-- the types of all objects of a program
abbrev pub declared_types : ProgramTree → List TypeTree
declared_types P = map (λ g. g.ctype) P.globals ++ flat_map (λ f. map (λ o. o.ctype) (objects_of f)) P.functions

-- structs with one tag have the same members (C11 6.7.2.3p1)
abbrev pub AgreeOn : StructTree → StructTree → Type 0
AgreeOn a b = a.tag ≡ b.tag → a.members ≡ b.members

abbrev pub AgreeOnTags : List StructTree → Type 0
AgreeOnTags structs = All (λ a. All (AgreeOn a) structs) structs

pub record IsValid (P : ProgramTree) : Type 0 where
  pub start : BeginsWithStart P.functions
  pub main : IsMain (function_of P main_name)
  pub distinct : AllPairs (λ f g. f.name ≢ g.name) P.functions
  pub globals : AreGlobals P.globals
  pub bodies : All (λ f. AreStmts P f no_loop f.body) P.functions
  pub labels : All (λ f. AllPairs (λ a b. a ≢ b) (labels_of f)) P.functions
  pub objects : All (λ f. AllPairs AreOther (objects_of f)) P.functions
  pub types : All AreDeclared P.functions
  pub names : All HasOwnNames (declared_types P)
  pub tags : AgreeOnTags (flat_map structs_in (declared_types P))
  pub functions : length P.functions ≤ most_functions + 1
  pub points : length (point_list P) ≤ most_points
  pub edges : length (edge_list P) ≤ most_edges
  pub frames : All (λ f. frame_cells f ≤ most_cells) P.functions
  pub parameters : All (λ f. length f.params ≤ most_parameters) P.functions
  pub lists : All (λ f. stmt_count f.body ≤ most_entries) P.functions
