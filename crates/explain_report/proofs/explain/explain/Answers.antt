use Rattle.std.proofs.Common.{◌≡◌, Some, sym, subst}
use Rattle.std.proofs.lemmas.Option.{slice_get_within}
use Rattle.std.proofs.lemmas.Result.{IfOk-weaker}
use Rattle.csub_semantics.specs.Syntax.{ProgramTree}
use Rattle.csub_semantics.specs.Flows.{Edge}
use Rattle.csub_semantics.specs.Numbers.{edge_at}
use Rattle.flow_graph.specs.Graph.{IsGraphOf}
use Rattle.call_walk.specs.Walks.{IsWalk}
use Rattle.explain_report.specs.declared.book.Book.{Book}
use Rattle.explain_report.specs.Trims.{RestOnEarlier}
use Rattle.dual_walk.specs.Books.{AreReasoned}
use Rattle.explain_report.specs.Dangers.{IsShown, Argues}
use Rattle.explain_report.proofs.LawsTrims.{reasoned_rest}
use Rattle.explain_report.proofs.FollowLemmas.{edge_there}
use Rattle.explain_report.proofs.ShownLemmas.{walk_reasoned, reasoned_within, reasoned_points, reasoned_tellable}
use Rattle.explain_report.proofs.explain.explain.Goals as goal
use Rattle.explain_report.proofs.explain.explain.Goals.{After-as_slice}

pub find_shown-requires-clause-within : goal.find_shown-requires-clause-within
find_shown-requires-clause-within c =
    let w = c.requires.walk in
    reasoned_within c.args.old.now c.args.new.now w.0 w.1 w.2 w.3 c.args.walked.now.facts.items (walk_reasoned w.0 w.1 c.args.walked.now w.4)

pub book_of-requires-clause-earlier : goal.book_of-requires-clause-earlier
book_of-requires-clause-earlier c =
    let w = c.requires.walk in
    subst RestOnEarlier (sym c.as_slice.ensures.value) (reasoned_rest w.0 w.1 c.args.walked.now.facts.items (walk_reasoned w.0 w.1 c.args.walked.now w.4))

-- what the book says, for each two programs
Says : After-as_slice → Book → Type 0
Says c book = (P P' : ProgramTree) (edge : Edge) → AreReasoned P P' c.as_slice.result.now → IsShown P P' c.as_slice.result.now edge c.in_ok-shown.shown → Argues P P' book.facts.items edge book.shown

argues : (c : After-as_slice) (book : Book) → Says c book → (P P' : ProgramTree) (edge : Edge) → IsGraphOf c.args.old.now P → IsGraphOf c.args.new.now P' → IsWalk P P' c.args.walked.now → edge_at P c.args.edge ≡ Some edge → Argues P P' book.facts.items edge book.shown
unfolding Says
argues c book says P P' edge ok ok' walk numbered =
    says P P' edge (subst (AreReasoned P P') (sym c.as_slice.ensures.value) (walk_reasoned P P' c.args.walked.now walk))
    (subst (λ seen. IsShown P P' seen edge c.in_ok-shown.shown) (sym c.as_slice.ensures.value) (c.in_ok-shown.ensures.shown P P' edge ok ok' walk numbered))

some_argues : (c : After-as_slice) (book : Book) → Says c book → (edge : Edge) × Argues c.requires.walk.0 c.requires.walk.1 book.facts.items edge book.shown
some_argues c book says =
    let w = c.requires.walk in
    let there = edge_there c.args.old.now w.0 w.2 c.args.edge c.requires.edge in
    (there.0, argues c book says w.0 w.1 there.0 w.2 w.3 w.4 there.1)

pub returns-clause-argues : goal.returns-clause-argues
unfolding Says
returns-clause-argues c = IfOk-weaker c.book_of.result _ _ (λ book says. argues (goal.at.returns-clause-argues c).After-as_slice book says) c.book_of.ensures

pub returns-clause-tellable : goal.returns-clause-tellable
unfolding Says
returns-clause-tellable c =
    let w = c.requires.walk in
    IfOk-weaker c.book_of.result _ _
    (λ book says. reasoned_tellable c.args.old.now c.args.new.now w.0 w.1 w.2 w.3 book.facts.items (some_argues (goal.at.returns-clause-tellable c).After-as_slice book says).1.book) c.book_of.ensures

pub returns-clause-place : goal.returns-clause-place
unfolding Says
returns-clause-place c =
    IfOk-weaker c.book_of.result _ _
    (λ book says. let shows = (some_argues (goal.at.returns-clause-place c).After-as_slice book says).1.shows.1 in slice_get_within book.facts.items book.shown.place shows.fact shows.stands) c.book_of.ensures

pub returns-clause-points : goal.returns-clause-points
unfolding Says
returns-clause-points c =
    let w = c.requires.walk in
    IfOk-weaker c.book_of.result _ _
    (λ book says. reasoned_points c.args.old.now c.args.new.now w.0 w.1 w.2 w.3 book.facts.items (some_argues (goal.at.returns-clause-points c).After-as_slice book says).1.book) c.book_of.ensures
