-- What the answers of a graph say of its program.
use Rattle.std.proofs.Common.{◌≡◌, ℕ, Option, Some, None, option_map, refl, sym, ap, ◌∙◌}
use Rattle.std.specs.Prelude.{MatchOption}
use Rattle.std.proofs.lemmas.Option.{same_Some}
use Rattle.csub_semantics.specs.declared.label.CallLabel.{CallLabel}
use Rattle.csub_objects.specs.Types.{Name}
use Rattle.csub_semantics.specs.Labels.{calls, call_of, PointLabel, call_tree}
use Rattle.csub_semantics.specs.Points.{PointTree, ExitTree}
use Rattle.csub_semantics.specs.Syntax.{ProgramTree}
use Rattle.csub_semantics.specs.Flows.{flow_of}
use Rattle.csub_semantics.specs.Numbers.{Site, site, site_at}
use Rattle.csub_semantics.specs.Books.{SameLabel, CallsAt, IsNoCallAt}
use Rattle.program_laws.proofs.LawsFlows.{is_flow}
use Rattle.flow_graph.specs.Graph.{Tables, IsGraphOf}
use Rattle.dual_walk.specs.Books.{LeavesFrom}
use Rattle.dual_walk.specs.declared.callees.Callee.{Callee}
use Rattle.dual_walk.specs.Callees.{Defines, IsFunction, IsCallee}
use Rattle.dual_walk.proofs.LawsNumbers.{callee_defined}

-- an edge leads from its point to where the graph says
pub leads_along : (P : ProgramTree) (e n m : ℕ) (x : ExitTree) (s : Site) (l : LeavesFrom P e n) → x ≡ l.edge.exit
    → site_at P m ≡ option_map (site l.edge.function) ((flow_of P).succ l.edge.function l.edge.from l.edge.exit) → site_at P n ≡ Some s
    → site_at P m ≡ option_map (site s.function) ((flow_of P).succ s.function s.point x)
leads_along P e n m x s l exit to at =
    let same : site l.edge.function l.edge.from ≡ s = same_Some _ _ (sym l.from ∙ at) in
    to ∙ ap (λ y. option_map (site l.edge.function) ((flow_of P).succ l.edge.function l.edge.from y)) (sym exit)
    ∙ ap (λ (z : Site). option_map (site z.function) ((flow_of P).succ z.function z.point x)) same

-- a label whose tree is a call stands at a point of both programs
module _ (g g' : Tables) (P P' : ProgramTree) (ok : IsGraphOf g P) (ok' : IsGraphOf g' P') (f : Name) (p p' : PointTree) (same : SameLabel (flow_of P) (flow_of P') f p p') (k : CallLabel) (l : PointLabel) (tree : l.tree ≡ calls (call_tree k)) (labelled : (flow_of P).label f p ≡ Some l) where
  pub calls_name : CallsAt (flow_of P) f p k.callee
  calls_name = record { label = l; labelled = labelled; call = call_tree k; is = ap call_of tree; callee = refl }

  pub old_defines : Defines P k.callee
  old_defines = callee_defined P (is_flow P ok.valid) f p l (call_tree k) labelled (ap call_of tree)

  pub new_defines : Defines P' k.callee
  new_defines =
      let one : same.label ≡ l = same_Some _ _ (sym same.old ∙ labelled) in
      callee_defined P' (is_flow P' ok'.valid) f p' same.label (call_tree k) same.new (ap (λ (x : PointLabel). call_of x.tree) one ∙ ap call_of tree)

  pub is_callee : (o : Option Callee) → MatchOption o ⊥ (IsFunction P P' k.callee) → MatchOption o (IsNoCallAt (flow_of P) f p) (IsCallee P P' f p)
  is_callee None h = absurd h
  is_callee (Some c) h = record { name = k.callee; calls = calls_name; numbers = h }
