-- Numbers of labels, as a row of them grows and when two are compared.
use Rattle.std.proofs.Common.{◌≡◌, ℕ, ◌++◌, ◌∷◌, [], List, length, map, Option, Some, None, option_map, refl, sym, ap, subst, ◌∙◌, ◌⊎◌, inl, inr}
use Rattle.std.specs.Prelude.{slice_get}
use Rattle.std.proofs.lemmas.List.{length-map}
use Rattle.std.proofs.lemmas.Option.{slice_get-map}
use Rattle.csub_semantics.specs.Types.{GlobalTree}
use Rattle.csub_semantics.specs.Labels.{PointLabel, label_tree}
use Rattle.csub_semantics.specs.Syntax.{ProgramTree}
use Rattle.csub_semantics.specs.Numbers.{Site, site_at}
use Rattle.edge_label.specs.Numbers.{HasNumber, HaveNumbers, whole}
use Rattle.edge_label.specs.declared.standing.Standing.{Standing}
use Rattle.edge_label.proofs.LawsNumbers.{HaveNumbers-length, HaveNumbers-at}
use Rattle.flow_graph.specs.Graph.{Tables, IsGraphOf}
use Rattle.dual_walk.specs.LabelRows.{StandsAt, IsNumbered, AreNumbered, AreLabelsOf}
use Rattle.dual_walk.proofs.LawsLists.{get_push}

-- one label more behind those of the points so far
pub labels_push : (g : Tables) (labels : List Standing) (last : Standing)
    → ((P : ProgramTree) (place : Site) → IsGraphOf g P → site_at P (length labels) ≡ Some place → StandsAt P place last)
    → ((n : ℕ) (standing : Standing) (P : ProgramTree) (place : Site) → slice_get labels n ≡ Some standing → IsGraphOf g P → site_at P n ≡ Some place → StandsAt P place standing)
    → (n : ℕ) (standing : Standing) (P : ProgramTree) (place : Site) → slice_get (labels ++ last ∷ []) n ≡ Some standing → IsGraphOf g P → site_at P n ≡ Some place → StandsAt P place standing
labels_push g labels last this before n standing P place at ok there = pick (get_push labels last n standing at)
  where
    pick : (slice_get labels n ≡ Some standing) ⊎ ((n ≡ length labels) × (standing ≡ last)) → StandsAt P place standing
    pick (inl h) = before n standing P place h ok there
    pick (inr h) = subst (StandsAt P place) (sym h.1) (this P place ok (ap (site_at P) (sym h.0) ∙ there))

-- the numbers of a book for the labels of a graph's points are those of the points
pub row_numbered : (book : List PointLabel) (row : List ℕ) (g : Tables) (labels : List Standing) (globals : List GlobalTree) → AreLabelsOf g labels
    → ((P : ProgramTree) → IsGraphOf g P → globals ≡ P.globals) → HaveNumbers book row (map (λ (standing : Standing). whole globals (label_tree standing.label.now)) labels) → AreNumbered book row g
row_numbered book row g labels globals are its have = record {
  points = HaveNumbers-length book row (map whole_of labels) have ∙ length-map labels whole_of ∙ are.points;
  each = λ n number at. numbered n number (HaveNumbers-at book row (map whole_of labels) have n number at);
}
  where
    whole_of : Standing → PointLabel
    whole_of standing = whole globals (label_tree standing.label.now)

    numbered : (n number : ℕ) → (label : PointLabel) × (slice_get (map whole_of labels) n ≡ Some label) × HasNumber book number label → IsNumbered book g n number
    numbered n number found = pick (slice_get labels n) refl (sym (slice_get-map whole_of labels n) ∙ found.1)
      where
        pick : (o : Option Standing) → slice_get labels n ≡ o → option_map whole_of o ≡ Some found.0 → IsNumbered book g n number
        pick None at is = absurd cc
        pick (Some standing) at is = record {
          label = found.0;
          has = found.2;
          labelled = λ P place ok there. (are.each n standing P place at ok there).label ∙ ap (λ gs. Some (whole gs (label_tree standing.label.now))) (sym (its P ok)) ∙ is;
        }
