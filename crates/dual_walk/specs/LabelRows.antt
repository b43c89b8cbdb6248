-- The labels of a graph's points by numbers of a book of labels: what is the same at two points is decided by numbers.
use Rattle.std.specs.Prelude.{ℕ, ◌≡◌, List, length, slice_get, Some}
use Rattle.csub_semantics.specs.Labels.{PointLabel, label_tree}
use Rattle.csub_semantics.specs.Syntax.{ProgramTree}
use Rattle.csub_semantics.specs.Flows.{flow_of}
use Rattle.csub_semantics.specs.Numbers.{Site, site_at, name_at}
use Rattle.edge_label.specs.Numbers.{HasNumber, whole}
use Rattle.edge_label.specs.declared.standing.Standing.{Standing}
use Rattle.flow_graph.specs.Graph.{Tables, IsGraphOf, point_count}

-- the label of a program's point, with the number of the function in which it stands
pub record StandsAt (P : ProgramTree) (place : Site) (standing : Standing) : Type 0 where
  pub function : name_at P standing.function ≡ Some place.function
  pub label : (flow_of P).label place.function place.point ≡ Some (whole P.globals (label_tree standing.label.now))

-- by each point of a graph, its label
pub record AreLabelsOf (g : Tables) (labels : List Standing) : Type 0 where
  pub points : length labels ≡ point_count g
  pub each : (n : ℕ) (standing : Standing) (P : ProgramTree) (place : Site) → slice_get labels n ≡ Some standing
      → IsGraphOf g P → site_at P n ≡ Some place → StandsAt P place standing

-- the book has this number for a label, which is the whole label of the graph's point n, whatever program the graph is of
pub record IsNumbered (book : List PointLabel) (g : Tables) (n number : ℕ) : Type 0 where
  pub label : PointLabel
  pub has : HasNumber book number label
  pub labelled : (P : ProgramTree) (s : Site) → IsGraphOf g P → site_at P n ≡ Some s → (flow_of P).label s.function s.point ≡ Some label

-- by each point of the graph, the number of its label
pub record AreNumbered (book : List PointLabel) (row : List ℕ) (g : Tables) : Type 0 where
  pub points : length row ≡ point_count g
  pub each : (n number : ℕ) → slice_get row n ≡ Some number → IsNumbered book g n number
