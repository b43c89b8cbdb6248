-- What holds of each label that validity allows holds of each label of a valid program.
use Rattle.std.proofs.Common.{List}
use Rattle.csub_semantics.specs.declared.label.EndRule.{EndRule}
use Rattle.csub_objects.specs.Types.{Name}
use Rattle.csub_semantics.specs.Labels.{LabelTree, enters, exits, jumps, halts}
use Rattle.csub_semantics.specs.Syntax.{FunctionTree, ProgramTree}
use Rattle.csub_semantics.specs.Points.{PointTree}
use Rattle.csub_semantics.specs.Successors.{Way}
use Rattle.csub_semantics.specs.Flows.{function_nodes, end_rule}
use Rattle.csub_validity.specs.declared.role.Role.{Role}
use Rattle.csub_validity.specs.declared.role.Role.TheVariants.{Whole, Test, Switch}
use Rattle.csub_validity.specs.Valid.{IsValid}
use Rattle.program_laws.proofs.LawsNodes.{MayStand, IsNode, begins, ends, goes_on, tests, chooses, jumps_on, halts_there}
use Rattle.program_laws.proofs.LawsStanding.{IsPoint, Stands, node_is}

module _ (P : ProgramTree) (Q : LabelTree → Type 0)
    (at_entry : Q enters)
    (at_exit : (rule : EndRule) → Q (exits rule))
    (at_jump : Q jumps)
    (stands : (f : FunctionTree) (role : Role) (l : LabelTree) → MayStand P f role l → Q l) where
  of_node : (f : FunctionTree) (T : PointTree → Type 0) (p : PointTree) (l : LabelTree) (ws : List (Way PointTree)) → IsNode P f T p l ws → Q l
  of_node f T p l ws (begins to h) = at_entry
  of_node f T p l ws ends = at_exit (end_rule f.name f.result)
  of_node f T p l ws (goes_on q k to m h) = stands f Whole k m
  of_node f T p l ws (tests q k a b m h g) = stands f Test k m
  of_node f T p l ws (chooses q k stmts name around m cases leads) = stands f Switch k m
  of_node f T p l ws (jumps_on q to h) = at_jump
  of_node f T p l ws (halts_there q e m) = stands f Whole (halts e) m

  pub every_label : IsValid P → (g : Name) (p : PointTree) (s : Stands P g p) → Q s.node.label
  every_label valid g p s = of_node s.function (IsPoint (function_nodes s.function)) s.node.point s.node.label s.node.ways (node_is P g p valid s)
