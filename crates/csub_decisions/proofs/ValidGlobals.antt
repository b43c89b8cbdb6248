-- Validity of objects of file scope, by what is looked at in turn.
use Rattle.std.proofs.Common.{◌≡◌, ◌≢◌, ◌↔◌, ◌∙◌, ◌+◌, ◌≤◌, ℕ, List, [], ◌∷◌, map, sum_by, AllPairs, refl, ap, sym, subst}
use Rattle.std.proofs.lemmas.List.Sums.{sum_by-cons}
use Rattle.csub_semantics.specs.declared.types.GlobalVar.{GlobalVar}
use Rattle.csub_objects.specs.Types.{cells}
use Rattle.csub_semantics.specs.Types.{GlobalTree, global_tree}
use Rattle.csub_validity.specs.Valid.{AreGlobals, most_global_cells}
use Rattle.csub_validity.proofs.LawsLists.{All-of_map, AllPairs-of_map}
use Rattle.csub_decisions.specs.ProgramChecks.{IsFilled, AreFilled, cells_of}

abbrev tree_cells : GlobalTree → ℕ
tree_cells g = cells g.ctype

cells_counted : (gs : List GlobalVar) → sum_by tree_cells (map global_tree gs) ≡ sum_by cells_of gs
cells_counted [] = refl
cells_counted (g ∷ gs) =
    sum_by-cons tree_cells (global_tree g) (map global_tree gs) ∙ ap (λ n. cells_of g + n) (cells_counted gs) ∙ sym (sum_by-cons cells_of g gs)

pub AreGlobals-split : (gs : List GlobalVar) → AreGlobals (map global_tree gs) ↔ ((sum_by cells_of gs ≤ most_global_cells) × AreFilled gs × AllPairs (λ (g h : GlobalVar). g.name ≢ h.name) gs)
AreGlobals-split gs =
    let filled = All-of_map IsFilled global_tree gs in
    let names = AllPairs-of_map (λ (g h : GlobalTree). g.name ≢ h.name) global_tree gs in (
      λ h. (
        subst (λ n. n ≤ most_global_cells) (cells_counted gs) h.few,
        filled.0 (λ k d below. (h.types k d below, h.contents k d below)),
        names.0 h.distinct,
      ),
      λ h.
          let all = filled.1 h.1 in
          record {
            distinct = names.1 h.2;
            types = λ k d below. (all k d below).0;
            contents = λ k d below. (all k d below).1;
            few = subst (λ n. n ≤ most_global_cells) (sym (cells_counted gs)) h.0;
          },
    )
