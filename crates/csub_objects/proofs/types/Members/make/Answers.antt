use Rattle.std.proofs.Common.{refl, List, ◌≡◌, ◌↔◌, ◌∙◌, map, Option, IsTrue, IsSome, IfSome, ap, sym, subst}
use Rattle.csub_objects.specs.declared.types.Member.{Member}
use Rattle.csub_objects.specs.declared.types.MemberList.{MemberList}
use Rattle.csub_objects.specs.Meaning.{member_tree}
use Rattle.csub_objects.specs.Names.{IsKept, AreFirst}
use Rattle.csub_objects.specs.Types.{Name, HaveDifferentNames, HaveArrays, IsCapped, members_of, member_cells, member_levels}
use Rattle.csub_objects.proofs.ListLemmas.{names_listed}
use Rattle.csub_objects.proofs.types.Members.make.Goals as goal

pub invariant_of-result : goal.invariant_of-result
invariant_of-result c =
    let named : c.in-Some.names ≡ map (λ m. m.name) c.as_slice.result.now =
    subst (λ (o : Option (List Name)). IfSome o (λ names. names ≡ map (λ m. m.name) c.as_slice.result.now)) c.in-Some.is c.in_ok-names.ensures.value in
    let apart = subst (λ (o : Option (List Name)). IsSome o ↔ HaveDifferentNames (map member_tree c.as_slice.result.now)) c.in-Some.is c.in_ok-names.ensures.exact in
    subst (λ (l : MemberList). IsKept (map member_tree l.items.items) l.names l.firsts.items l.cells l.levels l.arrays) (sym c.in_ok-shared.ensures.ok)
    (record {
      named = named ∙ ap (λ ms. map (λ m. m.name) ms) c.as_slice.ensures.value ∙ names_listed c.args.items.items;
      apart = subst (λ (ms : List Member). HaveDifferentNames (map member_tree ms)) c.as_slice.ensures.value (apart.0 refl);
      places = subst (λ (ms : List Member). AreFirst c.in_ok-firsts.firsts.items (map member_tree ms)) c.as_slice-2.ensures.value c.in_ok-firsts.ensures;
      cells = subst (λ (ms : List Member). IsCapped c.cells_of-cells.result (member_cells (members_of (map member_tree ms)))) c.as_slice-3.ensures.value c.cells_of-cells.ensures;
      levels = subst (λ (ms : List Member). IsCapped c.levels_of-levels.result (member_levels (members_of (map member_tree ms)))) c.as_slice-4.ensures.value c.levels_of-levels.ensures;
      arrays = subst (λ (ms : List Member). IsTrue c.have_arrays-arrays.result ↔ HaveArrays (members_of (map member_tree ms))) c.as_slice-5.ensures.value c.have_arrays-arrays.ensures;
    })
