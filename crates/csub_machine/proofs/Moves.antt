-- A run of the code from one moment to another.
use Rattle.std.proofs.Common.{◌≡◌, ◌≤◌, ◌<◌, ◌+◌, ◌-◌, ◌∙◌, ap, sym, ℕ, List, [], ◌∷◌, ◌++◌, length, map, replicate, reverse, All, cond, true, Option, Some, None, IsSome, subst, refl, arith}
use Rattle.std.proofs.Math.Nat.{add-sub_of_le}
use Rattle.std.proofs.lemmas.List.Elements.{All-nil}
use Rattle.csub_objects.specs.Types.{Name}
use Rattle.csub_semantics.specs.Types.{GlobalTree}
use Rattle.csub_semantics.specs.Syntax.{FunctionTree, ProgramTree}
use Rattle.csub_semantics.specs.Points.{entry}
use Rattle.csub_semantics.specs.Flows.{Edge, flow_of, start_name, function_in, point_list}
use Rattle.csub_semantics.specs.Numbers.{Site, site, site_at}
use Rattle.csub_semantics.specs.Runs as the
use Rattle.csub_semantics.specs.Runs.{Standing, goes, turn, Moment, running, ended, nowhere, crossing, after, opening, initial_cells}
use Rattle.csub_validity.specs.Valid.{IsValid, BeginsWithStart}
use Rattle.csub_flat.specs.Sites.{site_or, place_of}
use Rattle.csub_machine.specs.Moments.{IsRunningAt, status_at, output_of, turns_of, crossed_of}
use Rattle.csub_machine.specs.Crossed.{edge_of, crossed_row}
use Rattle.csub_machine.proofs.MomentLemmas.{after_goes, after_ended}
use Rattle.program_laws.proofs.LawsNames.{name_itself}
use Rattle.csub_slots.specs.Layout.{empty, StandsFor, live_size, live}
use Rattle.csub_slots.specs.Begins.{opening_slots}
use Rattle.csub_flat.specs.Frames.{objects_size, frame_size, globals_of}
use Rattle.csub_slots.specs.States.{state_of}
use Rattle.csub_slots.specs.Acts.{FlatStore}
use Rattle.csub_slots.specs.Like.{Like}
use Rattle.csub_slots.proofs.LawsBegins.{begin_stands}
use Rattle.csub_machine.specs.declared.frames.Frame.{Frame}
use Rattle.csub_machine.specs.declared.run.Run.{Run}
use Rattle.csub_machine.specs.Standings.{function_or, live_function, live_of, frame_of, below_of, standing_of, AreBased, GoesTo, moment_at, IsAt}
use Rattle.csub_flat.specs.Copies.{first_size}

module _ (P : ProgramTree) (old new : Run) where
  as_many : IsAt P old → old.going ≡ true → old.turns ≡ old.done
  as_many a g = a.turns ∙ ap (turns_of old.done) (a.standing g).moment

  one_more : new.store.input.items ≡ old.store.input.items → new.done ≡ old.done + 1 → moment_at P new ≡ after (flow_of P) old.store.input.items (old.done + 1)
  one_more i d = ap (λ (x : List ℕ). after (flow_of P) x new.done) i ∙ ap (after (flow_of P) old.store.input.items) d

  -- a run goes on by a turn
  pub went_on : (c : Option ℕ) (a : IsAt P old) (g : old.going ≡ true) → GoesTo P (turn (flow_of P) (standing_of P old.frames (a.standing g).store)) c new.frames (state_of new.store)
      → new.store.input.items ≡ old.store.input.items
      → new.crossed ≡ crossed_row P (crossing (edge_of P c) (crossed_of (moment_at P old)))
      → new.turns ≡ old.turns + 1 → new.done ≡ old.done + 1 → new.going ≡ true → IsAt P new × IsRunningAt (moment_at P new)
  went_on c a g to i row turns done going =
      let m = one_more i done ∙ after_goes (flow_of P) old.store.input.items old.done (crossed_of (moment_at P old)) (standing_of P old.frames (a.standing g).store) (standing_of P new.frames to.store) (edge_of P c) (a.standing g).moment to.goes in (
        record {
          standing = λ _. record { store = to.store; moment = m ∙ ap (λ (es : List Edge). running es (standing_of P new.frames to.store)) (sym (ap crossed_of m)); like = to.like; frames = to.ready };
          onward = λ _. going;
          output = sym to.like.output ∙ sym (ap output_of m);
          turns = turns ∙ ap (λ n. n + 1) (as_many a g) ∙ sym done ∙ sym (ap (turns_of new.done) m);
          crossed = row ∙ ap (crossed_row P) (sym (ap crossed_of m));
        },
        subst IsRunningAt (sym m) tt,
      )

  -- a run that has ended is where it was, however many more turns are asked for
  ended_before : (m : Moment) → moment_at P old ≡ m → IsSome (status_at m) → old.done ≤ new.done → new.store.input.items ≡ old.store.input.items
      → (moment_at P new ≡ m) × (turns_of old.done m ≡ turns_of new.done m) × (IsRunningAt m → ⊥) × (old.going ≡ true → IsAt P old → ⊥)
  ended_before (running es at) e h l i = absurd (let f : ⊥ = cc in f)
  ended_before nowhere e h l i = absurd (let f : ⊥ = cc in f)
  ended_before (ended es n t s) e h l i = (
    ap (λ (x : List ℕ). after (flow_of P) x new.done) i
        ∙ ap (after (flow_of P) old.store.input.items) (sym (add-sub_of_le l))
        ∙ after_ended (flow_of P) old.store.input.items old.done (new.done - old.done) es n t s e,
    refl,
    λ x. x,
    λ g a. let c = sym e ∙ (a.standing g).moment in cc,
  )

  pub settled : IsAt P old → IsSome (status_at (moment_at P old)) → old.done ≤ new.done → new.going ≡ old.going → new.store.input.items ≡ old.store.input.items
      → new.store.output.items ≡ old.store.output.items → new.crossed ≡ old.crossed → new.turns ≡ old.turns → IsAt P new
  settled a h l g i o row turns =
      let w = ended_before (moment_at P old) refl h l i in
      record {
        standing = λ e. absurd (w.3 (sym g ∙ e) a);
        onward = λ r. absurd (w.2 (subst IsRunningAt w.0 r));
        output = o ∙ a.output ∙ ap output_of (sym w.0);
        turns = turns ∙ a.turns ∙ w.1 ∙ ap (turns_of new.done) (sym w.0);
        crossed = row ∙ a.crossed ∙ ap (λ (x : Moment). crossed_row P (crossed_of x)) (sym w.0);
      }

-- the frame with which a run begins: its slots stand behind those of the globals
abbrev bottom : ProgramTree → Frame
bottom P = record { point = 0; result = None; base = objects_size (globals_of P) }

-- the first point, and the function there
pub record Begins (P : ProgramTree) : Type 0 where
  pub site : site_at P 0 ≡ Some (site start_name entry)
  pub point : 0 < length (point_list P)
  pub size : frame_size (live_function P (bottom P)) ≡ first_size P

begins : (fs : List FunctionTree) (gs : List GlobalTree) → BeginsWithStart fs → Begins (record { functions = fs; globals = gs })
begins [] gs h = absurd h
begins (f ∷ rest) gs h = record {
  site = ap (λ (n : Name). Some (site n entry)) h.name;
  point = omega arith;
  size = ap (λ (o : Option FunctionTree). frame_size (function_or o)) (ap (λ b. cond b (Some f) (function_in rest f.name)) (name_itself f.name));
}

module _ (P : ProgramTree) (run : Run) (input : List ℕ) where
  pub began : IsValid P → run.frames.top ≡ bottom P → run.frames.below.items ≡ []
      → state_of run.store ≡ record { input = input; output = []; cells = opening_slots P.globals ++ replicate (first_size P) empty } → run.store.input.items ≡ input → run.crossed ≡ crossed_row P [] → run.turns ≡ 0 → run.done ≡ 0 → run.going ≡ true → IsAt P run
  began valid top below state i row turns done going =
      let start = begins P.functions P.globals valid.start in
      let f = live_function P (bottom P) in
      let lives : live_of P run.frames ≡ f ∷ [] = ap (λ (x : Frame). live_function P x ∷ map (live_function P) (reverse run.frames.below.items)) top ∙ ap (λ (xs : List Frame). f ∷ map (live_function P) (reverse xs)) below in
      let slots : opening_slots P.globals ++ replicate (first_size P) empty ≡ (state_of run.store).cells = ap (λ (s : FlatStore). s.cells) (sym state) in
      let m : moment_at P run ≡ running [] (opening (flow_of P) run.store.input.items) = ap (after (flow_of P) run.store.input.items) done in
      let here : place_of P 0 ≡ site start_name entry = ap site_or start.site in
      let first : frame_of P run.frames.top ≡ record { function = start_name; point = entry; result = None } =
      ap (frame_of P) top ∙ ap (λ (s : Site). let g : the.Frame = record { function = s.function; point = s.point; result = None } in g) here in
      let frames : frame_of P run.frames.top ∷ below_of P run.frames.below.items ≡ record { function = start_name; point = entry; result = None } ∷ [] =
      ap (λ (g : the.Frame). g ∷ below_of P run.frames.below.items) first ∙ ap (λ (l : List Frame). record { function = start_name; point = entry; result = None } ∷ below_of P l) below in
      let store = (opening (flow_of P) run.store.input.items).store in
      let stands : StandsFor (live (globals_of P) (f ∷ [])) (live_size (globals_of P) (f ∷ [])) (initial_cells (flow_of P)) (state_of run.store).cells =
      subst (StandsFor (live (globals_of P) (f ∷ [])) (live_size (globals_of P) (f ∷ [])) (initial_cells (flow_of P))) (ap (λ (n : ℕ). opening_slots P.globals ++ replicate n empty) start.size ∙ slots) (begin_stands P f valid.globals) in
      let like : Like (globals_of P) (live_of P run.frames) store (state_of run.store) =
      subst (λ fs. Like (globals_of P) fs store (state_of run.store)) (sym lives) (record { input = i ∙ sym (ap (λ (s : FlatStore). s.input) state); output = sym (ap (λ (s : FlatStore). s.output) state); cells = stands }) in
      record {
        standing = λ _. record {
          store = store;
          moment =
              m ∙ ap (λ (fs : List the.Frame). let at : Standing = record { frames = fs; store = store } in running [] at) (sym frames)
              ∙ ap (λ (es : List Edge). running es (standing_of P run.frames store)) (sym (ap crossed_of m));
          like = like;
          frames = record {
            top = subst (λ (g : Frame). g.point < length (point_list P)) (sym top) start.point;
            below = subst (All (λ (g : Frame). g.point < length (point_list P))) (sym below) (All-nil (λ (g : Frame). g.point < length (point_list P)));
            few = let none = ap length below in omega arith;
            based =
                let B : List Frame → Type 0 = λ xs. (run.frames.top.base ≡ live_size (globals_of P) (map (live_function P) (reverse xs))) × AreBased P (reverse xs) in
                subst B (sym below) (ap (λ (g : Frame). g.base) top, tt);
            count = like.cells.size;
          };
        };
        onward = λ _. going;
        output = ap (λ (s : FlatStore). s.output) state ∙ sym (ap output_of m);
        turns = turns ∙ sym done ∙ sym (ap (turns_of run.done) m);
        crossed = row ∙ sym (ap (λ (x : Moment). crossed_row P (crossed_of x)) m);
      }
