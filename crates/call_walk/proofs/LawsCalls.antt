-- Where a call stands.
use Rattle.std.proofs.Common.{◌≡◌, Option, Some, None, option_map, refl, sym, ap, ◌∙◌}
use Rattle.csub_objects.specs.Types.{Name}
use Rattle.csub_semantics.specs.Labels.{CallTree, call_of, PointLabel}
use Rattle.csub_semantics.specs.Syntax.{ProgramTree}
use Rattle.csub_semantics.specs.Points.{PointTree, ExitTree, next}
use Rattle.csub_semantics.specs.Successors.{Way}
use Rattle.csub_semantics.specs.Flows.{function_nodes, way_in, flow_of}
use Rattle.csub_validity.specs.Valid.{IsValid}
use Rattle.program_laws.proofs.LawsStanding.{IsPoint, succ_at, node_is}
use Rattle.program_laws.proofs.LawsFlows.{labelled_at}
use Rattle.program_laws.proofs.LawsWays.{OnlyNext, call_next}

-- the only way out is Next
pub call_leads_by_next : (P : ProgramTree) → IsValid P → (g : Name) (p q : PointTree) (l : PointLabel) (c : CallTree) (x : ExitTree) → (flow_of P).label g p ≡ Some l → call_of l.tree ≡ Some c → (flow_of P).succ g p x ≡ Some q → x ≡ next
call_leads_by_next P valid g p q l c x e is leads =
    by_way (way_in (labelled_at P g p l e).stands.node.ways x) refl (sym (succ_at P g p (labelled_at P g p l e).stands x) ∙ leads)
  where
    only : OnlyNext (labelled_at P g p l e).stands.node.ways
    only =
        let at = labelled_at P g p l e in
        let n = at.stands.node in
        call_next P at.stands.function (IsPoint (function_nodes at.stands.function)) n.point n.label n.ways c (node_is P g p valid at.stands) (ap (λ (k : PointLabel). call_of k.tree) at.is ∙ is)

    by_way : (o : Option (Way PointTree)) → way_in (labelled_at P g p l e).stands.node.ways x ≡ o → option_map (λ (w : Way PointTree). w.to) o ≡ Some q → x ≡ next
    by_way None is_none h = cc
    by_way (Some w) is_some h = only x w is_some
