-- Lines that are written part by part.
use Rattle.std.proofs.Common.{◌≡◌, ◌<◌, ℕ, List, [], ◌∷◌, ◌++◌, Some, sym, ap, ◌∙◌, subst, append_assoc}
use Rattle.std.specs.Prelude.{codes}
use Rattle.line_text.specs.Words.{line_of_words}
use Rattle.csub_semantics.specs.Points.{ExitTree}
use Rattle.csub_semantics.specs.Syntax.{ProgramTree}
use Rattle.csub_semantics.specs.Flows.{Edge, edge_list}
use Rattle.csub_semantics.specs.Numbers.{edge_at}
use Rattle.flow_graph.specs.Graph.{Tables, IsGraphOf, edge_count}
use Rattle.flow_graph.proofs.LawsPlaces.{edges_counted}
use Rattle.dual_walk.proofs.LawsLists.{get_some}
use Rattle.explain_report.specs.WalkTexts.{exit_text}
use Rattle.command_claims.specs.Checked.{way_text}

grouped : (start a b c d : List ℕ) → (((start ++ a) ++ b) ++ c) ++ d ≡ start ++ (a ++ (b ++ (c ++ d)))
grouped start a b c d = simp append_assoc

-- a closed claim, with the numbers of its pairs and of its edges
pub closed_told : (start pairs counted edges counted' first second third : List ℕ) → first ≡ start ++ codes "closed pairs " → second ≡ first ++ counted → counted ≡ pairs → third ≡ second ++ codes " dangerous "
    → counted' ≡ edges → third ++ counted' ≡ start ++ line_of_words (codes "closed" ∷ codes "pairs" ∷ pairs ∷ codes "dangerous" ∷ edges ∷ [])
closed_told start pairs counted edges counted' first second third a b same c same' =
    (λ i. (c ∙ ap (λ text. text ++ codes " dangerous ") (b ∙ (λ j. a j ++ same j))) i ++ same' i)
    ∙ grouped start (codes "closed pairs ") pairs (codes " dangerous ") edges

-- the way out of an edge of a graph
pub way_told : (g : Tables) (P : ProgramTree) → IsGraphOf g P → (e : ℕ) (x : ExitTree) → e < edge_count g → ((edge : Edge) → edge_at P e ≡ Some edge → x ≡ edge.exit) → exit_text x ≡ way_text (edge_at P e)
way_told g P ok e x within exit =
    let edge = get_some (edge_list P) e (subst (λ n. e < n) (edges_counted g P ok) within) in
    ap exit_text (exit edge.0 edge.1) ∙ ap way_text (sym edge.1)
