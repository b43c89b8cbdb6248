use Rattle.std.proofs.Common.{◌≡◌, ◌++◌, refl, sym, ap, ◌∙◌, ℕ, List, [], map, length, replicate, None, arith}
use Rattle.csub_semantics.specs.declared.types.GlobalVar.{GlobalVar}
use Rattle.csub_semantics.specs.Types.{global_tree}
use Rattle.csub_semantics.specs.Flows.{edge_list}
use Rattle.csub_semantics.specs.Syntax.{program_tree}
use Rattle.csub_slots.specs.Layout.{empty, Slot}
use Rattle.csub_slots.specs.Begins.{opening_slots}
use Rattle.csub_slots.specs.Acts.{FlatStore}
use Rattle.csub_slots.proofs.LawsBegins.{opening_size}
use Rattle.csub_machine.specs.declared.frames.Frame.{Frame}
use Rattle.csub_machine.proofs.RowLemmas.{none_crossed}
use Rattle.csub_machine.proofs.Moves.{began}
use Rattle.csub_machine.proofs.run.begin.Goals as goal

pub returns-clause-at : goal.returns-clause-at
returns-clause-at c =
    let P = program_tree c.args.program.now in
    let top = c.in_ok-frames.ensures.top ∙ ap (λ (b : ℕ). let f : Frame = record { point = 0; result = None; base = b } in f) c.requires.copies.globals in
    let cells : opening_slots (map global_tree c.globals.result.now) ++ replicate c.first_slots-first.result empty ≡ opening_slots P.globals ++ replicate _ empty =
    ap (λ (gs : List GlobalVar). opening_slots (map global_tree gs) ++ replicate c.first_slots-first.result empty) c.globals.ensures ∙ ap (λ (n : ℕ). opening_slots P.globals ++ replicate n empty) c.first_slots-first.ensures.value in
    began P _ c.args.input.now c.requires.graph.valid top c.in_ok-frames.ensures.below (c.in_ok-store.ensures.state ∙ ap (λ (slots : List Slot). let s : FlatStore = record { input = c.args.input.now; output = []; cells = slots } in s) cells) c.in_ok-store.ensures.input
    (c.in_ok-new.ensures ∙ none_crossed (edge_list P) c.edges.result (sym (c.edges.ensures.listed P c.requires.graph))) refl refl refl

pub make_store-requires-clause-globals : goal.make_store-requires-clause-globals
make_store-requires-clause-globals c =
    let P = program_tree c.args.program.now in
    let size = ap (λ (gs : List GlobalVar). length (opening_slots (map global_tree gs))) c.globals.ensures ∙ opening_size P c.requires.graph.valid.globals in
    let count = c.requires.copies.globals in
    omega arith

pub make_store-requires-clause-first : goal.make_store-requires-clause-first
make_store-requires-clause-first c = c.first_slots-first.ensures.within c.args.flat.now.sizes.most c.requires.copies.most
