-- Functions as they are defined, by what the code keeps on the way.
use Rattle.std.proofs.Common.{◌≡◌, ◌∙◌, sym, ap, subst, ℕ, ◌+◌, ◌<◌, List, ◌∷◌, length, map, drop, get_or, Option}
use Rattle.csub_types.specs.declared.kind.IntKind.{IntKind}
use Rattle.csub_types.specs.declared.kind.IntKind.TheVariants.{Int}
use Rattle.csub_tree.specs.declared.unit.Item.{Item as CodeItem}
use Rattle.csub_tree.specs.Declarations.{Head}
use Rattle.csub_tree.specs.Statements.{Stmts}
use Rattle.csub_tree.specs.Units.{item_tree}
use Rattle.csub_objects.specs.Types.{Name, MemberTree}
use Rattle.csub_scopes.specs.Scopes.{Scope}
use Rattle.csub_semantics.specs.Syntax.{FunctionTree, LocalTree, StmtTrees}
use Rattle.csub_rules.specs.Bodies.{FineBody}
use Rattle.csub_rules.specs.ExprSorts.{number_of}
use Rattle.csub_rules.specs.Here.{Here}
use Rattle.csub_rules.specs.Files.{File}
use Rattle.csub_rules.specs.FineItems.{FineItems}
use Rattle.csub_rules.specs.Heads.{at_params, past_head, past_params}
use Rattle.csub_rules.specs.Items.{in_function, past_item}
use Rattle.csub_resolution.specs.Values.{Defined}
use Rattle.csub_resolution.specs.Lines.{lines, locals_lines}
use Rattle.csub_resolution.specs.Programs.{function_by, most_temps, params, params_of, parts_of_all}
use Rattle.csub_globals.proofs.LawsLists.{dropped}

-- what the lines of a body see
pub entered : (scope declared : Scope) (enter here : Here) (h : Head) → declared ≡ past_head scope h → enter ≡ at_params declared
    → here ≡ past_params enter h.params → here ≡ in_function scope h
entered scope declared enter here h d e p =
    p ∙ ap (λ (k : Here). past_params k h.params) e ∙ ap (λ (s : Scope). past_params (at_params s) h.params) d

pub named : (scope declared : Scope) (enter : Here) (h : Head) (made : List MemberTree) → declared ≡ past_head scope h → enter ≡ at_params declared
    → made ≡ params enter h.params → made ≡ params_of scope h
named scope declared enter h made d e p =
    p ∙ ap (λ (k : Here). params k h.params) e ∙ ap (λ (s : Scope). params (at_params s) h.params) d

pub fine_lines : (scope : Scope) (here : Here) (h : Head) (result : Option IntKind) (body : Stmts) → here ≡ in_function scope h → result ≡ number_of h.result
    → FineBody (number_of h.result) (in_function scope h) body → FineBody result here body
fine_lines scope here h result body e r f =
    subst (λ (k : Option IntKind). FineBody k here body) (sym r) (subst (λ (k : Here). FineBody (number_of h.result) k body) (sym e) f)

abbrev a_function : Head → List MemberTree → Option IntKind → StmtTrees → List LocalTree → ℕ → FunctionTree
a_function h made result trees locals temps =
    record { name = h.name.text; params = made; result = result; body = trees; span = h.name.span; locals = locals; temps = temps }

pub made_function : (defined : List Defined) (scope : Scope) (here : Here) (h : Head) (body : Stmts) (name : Name) (made : List MemberTree)
    (result : Option IntKind) (trees : StmtTrees) (locals : List LocalTree) (temps : ℕ) → here ≡ in_function scope h → name ≡ h.name.text
    → made ≡ params_of scope h → result ≡ number_of h.result → trees ≡ lines defined result Int here body → locals ≡ locals_lines here body
    → temps ≡ most_temps (parts_of_all (lines defined result Int here body))
    → record { name = name; params = made; result = result; body = trees; span = h.name.span; locals = locals; temps = temps }
    ≡ function_by defined scope h body
made_function defined scope here h body name made result trees locals temps e n m r t l k =
    ap (λ x. record { name = x; params = made; result = result; body = trees; span = h.name.span; locals = locals; temps = temps }) n
    ∙ ap (λ (x : List MemberTree). a_function h x result trees locals temps) m
    ∙ ap (λ (x : StmtTrees). a_function h (params_of scope h) result x locals temps) t
    ∙ ap (λ (x : List LocalTree). a_function h (params_of scope h) result (lines defined result Int here body) x temps) l
    ∙ ap (λ (x : ℕ). a_function h (params_of scope h) result (lines defined result Int here body) (locals_lines here body) x) k
    ∙ ap (λ (x : Option IntKind). a_function h (params_of scope h) x (lines defined x Int here body) (locals_lines here body)
    (most_temps (parts_of_all (lines defined x Int here body)))) r
    ∙ ap (λ (x : Here). a_function h (params_of scope h) (number_of h.result) (lines defined (number_of h.result) Int x body) (locals_lines x body)
    (most_temps (parts_of_all (lines defined (number_of h.result) Int x body)))) e

-- items that can be resolved, one after the other
pub fine_this : (f : File) (items : List CodeItem) (i : ℕ) (x : CodeItem) → i < length items → x ≡ get_or items i x
    → FineItems f (map item_tree (drop i items)) → FineItems f (item_tree x ∷ map item_tree (drop (i + 1) items))
fine_this f items i x h e p = subst (λ ys. FineItems f (map item_tree ys)) (sym (dropped items i x h e)) p

pub fine_more : (f k : File) (items : List CodeItem) (i : ℕ) (x : CodeItem) → i < length items → x ≡ get_or items i x → k ≡ past_item f (item_tree x)
    → FineItems f (map item_tree (drop i items)) → FineItems k (map item_tree (drop (i + 1) items))
fine_more f k items i x h e p fine =
    subst (λ (g : File). FineItems g (map item_tree (drop (i + 1) items))) (sym p) (fine_this f items i x h e fine).1
