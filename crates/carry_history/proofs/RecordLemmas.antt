-- A carried history is what recording on the new program gives.
use Rattle.std.proofs.Common.{◌≡◌, ℕ, suc, ◌<◌, IsTrue, List, [], ◌∷◌, length, get_or, map, All, Some, sym, ap, ◌∙◌, subst, inl, inr, arith}
use Rattle.std.specs.List.{AllZip, zip}
use Rattle.std.proofs.lemmas.Option.{slice_get_within, slice_get-get_or}
use Rattle.csub_semantics.specs.Syntax.{ProgramTree}
use Rattle.csub_semantics.specs.Flows.{Edge, edge_list, flow_of}
use Rattle.csub_semantics.specs.Numbers.{IsCrossed}
use Rattle.csub_semantics.specs.Runs.{Results, run_of}
use Rattle.csub_semantics.specs.Books.{Dangerous}
use Rattle.edge_trace.specs.Rows.{has, NoneCommon}
use Rattle.dual_walk.proofs.LawsLists.{contains_at}
use Rattle.call_walk.specs.declared.answer.WalkResult.{WalkResult}
use Rattle.call_walk.specs.Walks.{IsWalk}
use Rattle.call_walk.specs.Lockstep.{CrossesNone}
use Rattle.test_history.specs.Histories.{EntryParts}
use Rattle.test_select.specs.declared.choice.Choice.{Choice}
use Rattle.test_select.specs.Selection.{Chooses}
use Rattle.edge_images.specs.declared.image.Image.{Image}
use Rattle.edge_images.specs.declared.image.Image.TheVariants.{One}
use Rattle.edge_images.specs.Images.{AreImages}
use Rattle.edge_images.specs.Crossings.{EachHasOne, CarriesOver, RunsCarryOver}
use Rattle.edge_images.proofs.LawsLeading.{crossed_numbered}
use Rattle.test_history.specs.Entries.{IsEntry}
use Rattle.carry_history.specs.Carried.{Stays, IsMoved, Becomes}
use Rattle.carry_history.specs.Recorded.{CarriesRecords}

edge_within : (P : ProgramTree) (crossed : List Edge) (e : ℕ) → IsCrossed P crossed e → e < length (edge_list P)
edge_within P crossed e h = slice_get_within (edge_list P) e h.edge h.numbered

module _ (P P' : ProgramTree) (carries : RunsCarryOver P P') (walked : WalkResult) (walk : IsWalk P P' walked) (images : List Image) (are : AreImages P P' images) where
  -- an entry that stays
  module _ (entry after : EntryParts) (choice : Choice) (chosen : Chooses entry.crossed walked.danger choice) (recorded : IsEntry P entry.test entry) (stays : Stays images entry choice) where
    free : NoneCommon entry.crossed walked.danger
    free = subst (λ c. Chooses entry.crossed walked.danger c) stays.left chosen

    none : CrossesNone (Dangerous (flow_of P) (flow_of P')) recorded.results.crossed
    none k d l dangerous =
        let crossed = recorded.results.crossed in
        let edge = get_or crossed k d in
        let there = slice_get-get_or crossed k d l in
        let number = crossed_numbered P entry.test.input entry.test.budget recorded.results recorded.run k edge there in
        let it : IsCrossed P crossed number.0 = record { edge = edge; numbered = number.1; among = contains_at crossed k edge there } in
        free number.0 ((recorded.crossed.crossed number.0).1 it) ((walk.danger number.0 edge number.1).1 dangerous)

    one : EachHasOne P P' recorded.results.crossed
    one e crossed =
        let i = stays.one e ((recorded.crossed.crossed e).1 crossed) in
        (i.0, (are.each e (One i.0) (edge_within P recorded.results.crossed e crossed)).0 i.1)

    stayed : IsMoved (length (edge_list P')) images entry after → IsEntry P' entry.test after
    stayed moved =
        let over = carries entry.test.input entry.test.budget recorded.results recorded.run none one in
        by over.0 over.1 over.2
      where
        by : (results : Results) → run_of (flow_of P') entry.test.input entry.test.budget ≡ Some results → CarriesOver P P' recorded.results results → IsEntry P' entry.test after
        by results ran over = record {
          test = moved.test;
          results = results;
          run = ran;
          status = moved.status ∙ recorded.status ∙ over.status;
          turns = moved.turns ∙ recorded.turns ∙ over.turns;
          output = moved.output ∙ recorded.output ∙ over.output;
          crossed = record { edges = moved.crossed.edges; crossed = λ i. (λ t. to i t, λ x. from i x) };
        }
          where
            to : (i : ℕ) → IsTrue (has after.crossed i) → IsCrossed P' results.crossed i
            to i t =
                let x = (moved.crossed.each i).0 t in
                let crossed = (recorded.crossed.crossed x.0).0 x.1 in
                (over.crossed i).1 (x.0, crossed, ((are.each x.0 (One i) (edge_within P recorded.results.crossed x.0 crossed)).0 x.2).0)

            from : (i : ℕ) → IsCrossed P' results.crossed i → IsTrue (has after.crossed i)
            from i h =
                let x = (over.crossed i).0 h in
                let old = (recorded.crossed.crossed x.0).1 x.1 in
                let image = stays.one x.0 old in
                let says = (are.each x.0 (One image.0) (edge_within P recorded.results.crossed x.0 x.1)).0 image.1 in
                (moved.crossed.each i).1 (x.0, old, image.1 ∙ ap (λ n. Some (One n)) (sym (says.1 i x.2)))

  became : (entry after : EntryParts) (choice : Choice) → Chooses entry.crossed walked.danger choice → IsEntry P entry.test entry → Becomes P' images (entry, choice) after → IsEntry P' entry.test after
  became entry after choice chosen recorded (inl x) = stayed entry after choice chosen recorded x.0 x.1
  became entry after choice chosen recorded (inr x) = x.1

  all_recorded : (entries : List EntryParts) (choices : List Choice) (afters : List EntryParts) → All (λ (entry : EntryParts). IsEntry P entry.test entry) entries
      → AllZip (λ (entry : EntryParts) choice. Chooses entry.crossed walked.danger choice) entries choices → AllZip (Becomes P' images) (zip entries choices) afters
      → AllZip (IsEntry P') (map (λ (entry : EntryParts). entry.test) entries) afters
  all_recorded [] [] [] recorded chosen become = tt
  all_recorded [] [] (after ∷ afters) recorded chosen become = absurd become
  all_recorded [] (choice ∷ choices) afters recorded chosen become = absurd chosen
  all_recorded (entry ∷ entries) [] afters recorded chosen become = absurd chosen
  all_recorded (entry ∷ entries) (choice ∷ choices) [] recorded chosen become = absurd become
  all_recorded (entry ∷ entries) (choice ∷ choices) (after ∷ afters) recorded chosen become =
      (became entry after choice chosen.0 (recorded 0 entry (omega arith)) become.0, all_recorded entries choices afters (λ k d l. recorded (suc k) d (omega (arith, l))) chosen.1 become.1)

pub carries_records : (P P' : ProgramTree) → RunsCarryOver P P' → CarriesRecords P P'
carries_records P P' carries walked images choices source history after recorded walk are chosen carried =
    all_recorded P P' carries walked walk images are history.entries choices after.entries recorded chosen carried.entries
