-- The ways out of a point, found among its edges.
use Rattle.std.proofs.Common.{◌≡◌, ◌≢◌, ◌<◌, ◌≤◌, ◌+◌, ◌∙◌, ◌⊎◌, ◌++◌, ◌∷◌, [], inl, inr, ℕ, ℤ, List, length, All, Vec, Global, Option, Some, None, refl, sym, ap, subst, arith}
use Rattle.std.specs.Option.{option_map}
use Rattle.std.proofs.lemmas.Bool.{cases_lt}
use Rattle.std.proofs.lemmas.List.{length-append, get_or_append_left, get_or_push}
use Rattle.csub_semantics.specs.declared.label.ExitLabel.{ExitLabel}
use Rattle.csub_semantics.specs.declared.label.ExitLabel.TheVariants.{Next, True, False, Case, Default}
use Rattle.csub_semantics.specs.Points.{PointTree, ExitTree, exit_tree, on_case, on_default}
use Rattle.csub_semantics.specs.Syntax.{ProgramTree}
use Rattle.csub_semantics.specs.Flows.{point_list, Edge, edge_list, flow_of}
use Rattle.csub_semantics.specs.Numbers.{Site, site, site_at, edge_at}
use Rattle.csub_validity.specs.Valid.{IsValid}
use Rattle.program_laws.proofs.LawsFlows.{is_flow, edges_numbered}
use Rattle.flow_graph.specs.Graph.{source_at}
use Rattle.flow_graph.specs.declared.graph.WayOut.{WayOut}
use Rattle.csub_flat.specs.Sites.{site_or, place_of}
use Rattle.csub_flat.specs.Ways.{edge_along, cases_of, LeadsTo, LeadsNowhere}
use Rattle.csub_flat.specs.declared.ways.CaseWay.{CaseWay}
use Rattle.csub_flat.proofs.LawsSites.{place_is}

-- ---- the Default is looked for among the edges of a point

-- the edge with a number is no Default
abbrev pub IsNoDefault : ProgramTree → ℕ → Type 0
IsNoDefault P e = (d : Edge) (vs : List ℤ) → edge_at P e ≡ Some d → d.exit ≢ on_default vs

-- the edge with a number that leaves a point
pub leaving : (P : ProgramTree) (e : ℕ) (s : Site) → source_at P e ≡ Some s → (d : Edge) × (edge_at P e ≡ Some d) × (site d.function d.from ≡ s)
leaving P e s leaves = pick (edge_at P e) refl leaves
  where
    pick : (o : Option Edge) → edge_at P e ≡ o → option_map (λ (x : Edge). site x.function x.from) o ≡ Some s → (d : Edge) × (edge_at P e ≡ Some d) × (site d.function d.from ≡ s)
    pick None is t = absurd (let f : ⊥ = cc in f)
    pick (Some d) is t = (d, is, let same : site d.function d.from ≡ s = cc in same)

module _ (P : ProgramTree) (valid : IsValid P) (n : ℕ) (way : WayOut) (d : Edge) (here : site d.function d.from ≡ place_of P n) (is : edge_at P way.edge ≡ Some d) (inside : way.edge < length (edge_list P)) (to_is : site_at P way.to ≡ option_map (site d.function) ((flow_of P).succ d.function d.from d.exit)) (to_inside : way.to < length (point_list P)) where
  edge_is : d ≡ edge_along P n d.exit
  edge_is = ap (λ (s : Site). let x : Edge = record { function = s.function; from = s.point; exit = d.exit } in x) here

  goes : (q : PointTree) × ((flow_of P).succ d.function d.from d.exit ≡ Some q) × (place_of P way.to ≡ site d.function q)
  goes = pick ((flow_of P).succ d.function d.from d.exit) refl to_is
    where
      pick : (o : Option PointTree) → (flow_of P).succ d.function d.from d.exit ≡ o → site_at P way.to ≡ option_map (site d.function) o → (q : PointTree) × ((flow_of P).succ d.function d.from d.exit ≡ Some q) × (place_of P way.to ≡ site d.function q)
      pick None s t = absurd (let none = sym (place_is P way.to to_inside) ∙ t in let f : ⊥ = cc in f)
      pick (Some q) s t = (q, s, ap site_or t)

  pub leads : (x : ExitTree) → d.exit ≡ x → LeadsTo P n x way
  leads x same = record {
    point = to_inside;
    edge = inside;
    function = ap (λ (s : Site). s.function) goes.2 ∙ ap (λ (s : Site). s.function) here;
    leads =
        ap (λ (s : Site). (flow_of P).succ s.function s.point x) (sym here) ∙ ap ((flow_of P).succ d.function d.from) (sym same) ∙ goes.1
        ∙ ap (λ (s : Site). Some s.point) (sym goes.2);
    crosses = is ∙ ap Some (edge_is ∙ ap (edge_along P n) same);
  }

  -- a Default has all case values of its switch
  by_default : (vs : List ℤ) → d.exit ≡ on_default vs → d.exit ≡ on_default (cases_of P n)
  by_default vs same =
      let all : vs ≡ (flow_of P).cases d.function d.from = (is_flow P valid).defaulted d.function d.from goes.0 vs (ap ((flow_of P).succ d.function d.from) (sym same) ∙ goes.1) in
      same ∙ ap on_default (all ∙ ap (λ (s : Site). (flow_of P).cases s.function s.point) here)

  pub default_leads : (vs : List ℤ) → d.exit ≡ on_default vs → LeadsTo P n (on_default (cases_of P n)) way
  default_leads vs same = leads (on_default (cases_of P n)) (by_default vs same)

-- what is no Default isn't seen as one
pub not_default : (x : ExitLabel) (vs : List ℤ) → exit_tree x ≡ on_default vs → ((all : Vec ℤ Global) → x ≢ Default all) → ⊥
not_default Next vs same none = cc
not_default True vs same none = cc
not_default False vs same none = cc
not_default (Case v) vs same none = cc
not_default (Default all) vs same none = none all refl

-- what is no case isn't seen as one
pub not_case : (x : ExitLabel) (v : ℤ) → exit_tree x ≡ on_case v → ((w : ℤ) → x ≢ Case w) → ⊥
not_case Next v same none = cc
not_case True v same none = cc
not_case False v same none = cc
not_case (Case w) v same none = none w refl
not_case (Default all) v same none = cc

-- where no edge of a point goes along x there is no such way out
pub no_exit : (P : ProgramTree) (n : ℕ) (x : ExitTree) → ((e : ℕ) → source_at P e ≡ Some (place_of P n) → (d : Edge) → edge_at P e ≡ Some d → d.exit ≢ x) → LeadsNowhere P n x
no_exit P n x none = pick ((flow_of P).succ (place_of P n).function (place_of P n).point x) refl
  where
    pick : (o : Option PointTree) → (flow_of P).succ (place_of P n).function (place_of P n).point x ≡ o → o ≡ None
    pick None s = refl
    pick (Some q) s =
        let e = edges_numbered P (place_of P n).function (place_of P n).point q x s in
        absurd (none e.0 (ap (option_map (λ (y : Edge). site y.function y.from)) e.1) _ e.1 refl)

pub no_default : (P : ProgramTree) (n : ℕ) → ((e : ℕ) → source_at P e ≡ Some (place_of P n) → IsNoDefault P e) → LeadsNowhere P n (on_default (cases_of P n))
no_default P n none = no_exit P n (on_default (cases_of P n)) (λ e leaves d is. none e leaves d (cases_of P n) is)

-- ---- the cases of a point, listed edge by edge

-- no row has a value
abbrev pub HasNone : List CaseWay → ℤ → Type 0
HasNone rows v = All (λ (r : CaseWay). r.value ≢ v) rows

none_before : (rows : List CaseWay) (r : CaseWay) (v : ℤ) → HasNone (rows ++ r ∷ []) v → HasNone rows v
none_before rows r v none = λ i d less. let counted = length-append rows (r ∷ []) in
    subst (λ (x : CaseWay). x.value ≢ v) (get_or_append_left rows (r ∷ []) d i less) (none i d (omega arith))

none_last : (rows : List CaseWay) (r : CaseWay) (v : ℤ) → HasNone (rows ++ r ∷ []) v → r.value ≢ v
none_last rows r v none = let counted = length-append rows (r ∷ []) in
    subst (λ (x : CaseWay). x.value ≢ v) (get_or_push rows r r (length rows) refl) (none (length rows) r (omega arith))

-- the case of each edge of the point before one is among the rows
abbrev pub ListsBefore : ProgramTree → ℕ → List CaseWay → ℕ → Type 0
ListsBefore P n rows end = (v : ℤ) → HasNone rows v → (e : ℕ) → e < end → source_at P e ≡ Some (place_of P n) → (d : Edge) → edge_at P e ≡ Some d → d.exit ≢ on_case v

before_or_at : (e k : ℕ) → e < k + 1 → (e < k) ⊎ (e ≡ k)
before_or_at e k less = pick (cases_lt e k)
  where
    pick : (e < k) ⊎ (k ≤ e) → (e < k) ⊎ (e ≡ k)
    pick (inl l) = inl l
    pick (inr l) = inr (omega arith)

-- one edge more, which has the case of a new row
pub listed_more : (P : ProgramTree) (n : ℕ) (rows : List CaseWay) (r : CaseWay) (k : ℕ) → ListsBefore P n rows k
    → ((d : Edge) → edge_at P k ≡ Some d → d.exit ≡ on_case r.value) → ListsBefore P n (rows ++ r ∷ []) (k + 1)
listed_more P n rows r k before here v none e less leaves d is same = pick (before_or_at e k less)
  where
    pick : (e < k) ⊎ (e ≡ k) → ⊥
    pick (inl l) = before v (none_before rows r v none) e l leaves d is same
    pick (inr at) =
        let both : on_case r.value ≡ on_case v = sym (here d (ap (edge_at P) (sym at) ∙ is)) ∙ same in
        let value : r.value ≡ v = cc in
        none_last rows r v none value

-- one edge more, which has no case
pub listed_past : (P : ProgramTree) (n : ℕ) (rows : List CaseWay) (k : ℕ) → ListsBefore P n rows k
    → ((d : Edge) (v : ℤ) → edge_at P k ≡ Some d → d.exit ≢ on_case v) → ListsBefore P n rows (k + 1)
listed_past P n rows k before here v none e less leaves d is same = pick (before_or_at e k less)
  where
    pick : (e < k) ⊎ (e ≡ k) → ⊥
    pick (inl l) = before v none e l leaves d is same
    pick (inr at) = here d v (ap (edge_at P) (sym at) ∙ is) same

-- all edges of the point are listed
pub listed_all : (P : ProgramTree) (n : ℕ) (rows : List CaseWay) (k : ℕ) → ListsBefore P n rows k → ((e : ℕ) → source_at P e ≡ Some (place_of P n) → e < k)
    → (v : ℤ) → HasNone rows v → LeadsNowhere P n (on_case v)
listed_all P n rows k before inside v none = no_exit P n (on_case v) (λ e leaves d is. before v none e (inside e leaves) leaves d is)
