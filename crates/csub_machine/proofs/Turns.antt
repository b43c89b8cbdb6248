-- Turns over slots lead where turns over named cells lead.
use Rattle.std.proofs.Common.{◌≡◌, ◌<◌, ◌≤◌, ◌+◌, ◌*◌, ◌∙◌, get_or, ℕ, ℤ, List, [], ◌∷◌, ◌++◌, map, length, reverse, All, Option, Some, None, refl, ap, sym, subst, arith}
use Rattle.std.specs.Option.{option_map}
use Rattle.std.proofs.lemmas.List.{length-map, length-append, length-reverse, reverse-append}
use Rattle.std.proofs.Math.Nat.{mul-le-mul_right}
use Rattle.std.proofs.lemmas.List.Elements.{All-map, All-push, All-nil, All-cons, All-head, All-tail}
use Rattle.csub_semantics.specs.declared.status.Status.{Status}
use Rattle.csub_objects.specs.Types.{Name}
use Rattle.csub_semantics.specs.Labels.{LabelTree, enters, exits, evaluates, initialises, branches, switches, returns, jumps, halts, calls, CallTree, call_of, PointLabel}
use Rattle.csub_semantics.specs.Syntax.{FunctionTree, ProgramTree}
use Rattle.csub_semantics.specs.Points.{PointTree, entry, ExitTree, next}
use Rattle.csub_semantics.specs.Flows.{Flow, flow_of, point_list, function_of}
use Rattle.csub_semantics.specs.Numbers.{Site, site}
use Rattle.csub_semantics.specs.Acts.{Store, act, most_frames}
use Rattle.csub_semantics.specs.Runs as the
use Rattle.csub_semantics.specs.Runs.{Standing, exit_at, cross, put_result, come_back, come_back_to, pop, follow, turn_at, turn}
use Rattle.csub_validity.specs.Valid.{AreGlobals, IsValid}
use Rattle.csub_machine.specs.Crossed.{edge_of}
use Rattle.csub_flat.specs.Sites.{place_of, site_or}
use Rattle.csub_flat.specs.Frames.{objects_size, frame_size, globals_of}
use Rattle.csub_slots.specs.Layout.{live_size}
use Rattle.csub_slots.specs.Memory.{most_referred}
use Rattle.csub_flat.specs.Fits.{FitsLabel, FitsTemp}
use Rattle.csub_slots.specs.Acts.{FlatStore, FlatOutcome, leaves, gives, pushes, pops, ends, flat_act, flat_result}
use Rattle.csub_flat.specs.Trees.{FlatCall, FlatLabel, enters_callee}
use Rattle.csub_flat.specs.Flatten.{temp_slot}
use Rattle.csub_flat.specs.Copies.{IsFlat, IsFlatCall, IsCopyAt, IsPointAt, IsFlatOf}
use Rattle.csub_flat.specs.declared.program.FlatPoint.{FlatPoint}
use Rattle.csub_flat.specs.declared.program.FlatProgram.{FlatProgram}
use Rattle.csub_slots.specs.Like.{Like}
use Rattle.csub_slots.proofs.LawsFrames.{result_stands}
use Rattle.csub_slots.proofs.LawsActs.{LikeOutcome, act_like, left, valued, pushed, popped, ended}
use Rattle.csub_slots.proofs.LawsBounds.{PushesBelow, act_few, live_room}
use Rattle.csub_flat.proofs.LawsSites.{found_has}
use Rattle.csub_machine.specs.declared.frames.Frame.{Frame}
use Rattle.csub_machine.specs.declared.frames.Frames.{Frames}
use Rattle.csub_machine.specs.declared.turn.Turn.{Turn}
use Rattle.csub_machine.specs.declared.turn.Turn.TheVariants.{Goes, Stops, Lost}
use Rattle.csub_machine.specs.Standings.{function_or, live_function, live_below, live_of, frame_of, below_of, standing_of, AreBased, AreFrames, GoesTo, StopsWith, Moves, Crosses, Resumes}

-- the row of a point in a flat copy
pub row_at : (P : ProgramTree) (flat : FlatProgram) → IsFlatOf P flat → (n : ℕ) (m : FlatPoint) → n < length (point_list P) → m ≡ get_or flat.points.items n m → IsPointAt P n m
row_at P flat copies n m inside is = let count = copies.count in copies.each n m (omega arith) is

map_push : {X Y : Type 0} (g : X → Y) (xs : List X) (x : X) → map g (xs ++ x ∷ []) ≡ map g xs ++ g x ∷ []
map_push g [] x = refl
map_push g (y ∷ ys) x = ap (λ zs. g y ∷ zs) (map_push g ys x)

reverse_push : {X : Type 0} (xs : List X) (x : X) → reverse (xs ++ x ∷ []) ≡ x ∷ reverse xs
reverse_push xs x = reverse-append xs (x ∷ [])

All-left : {X : Type 0} (Q : X → Type 0) (xs ys : List X) → All Q (xs ++ ys) → All Q xs
All-left Q [] ys h = All-nil Q
All-left Q (x ∷ xs) ys h = All-cons Q x xs (All-head Q x (xs ++ ys) h) (All-left Q xs ys (All-tail Q x (xs ++ ys) h))

-- what acts ask for: valid globals, and so few live slots that a slot can refer to each
pub record CanAct (P : ProgramTree) (frames : Frames) : Type 0 where
  pub globals : AreGlobals P.globals
  pub few : live_size (globals_of P) (live_of P frames) ≤ most_referred

module _ (P : ProgramTree) where
  abbrev F : Flow
  F = flow_of P

  below_push : (xs : List Frame) (x : Frame) → below_of P (xs ++ x ∷ []) ≡ frame_of P x ∷ below_of P xs
  below_push xs x = ap reverse (map_push (frame_of P) xs x) ∙ reverse_push (map (frame_of P) xs) (frame_of P x)

  live_push : (xs : List Frame) (x : Frame) → live_below P (xs ++ x ∷ []) ≡ live_function P x ∷ live_below P xs
  live_push xs x = ap (map (live_function P)) (reverse_push xs x)

  same_standing : (fs gs : List the.Frame) (s : Store) → fs ≡ gs → ◌≡◌ {A = Standing} (record { frames = fs; store = s }) (record { frames = gs; store = s })
  same_standing fs gs s e = ap (λ (x : List the.Frame). let at : Standing = record { frames = x; store = s } in at) e

  length_below : (xs : List Frame) → length (below_of P xs) ≡ length xs
  length_below xs = length-reverse (map (frame_of P) xs) ∙ length-map xs (frame_of P)

  length_live : (xs : List Frame) → length (live_below P xs) ≡ length xs
  length_live xs = length-map (reverse xs) (live_function P) ∙ length-reverse xs

  same_function : (f g : Frame) → (place_of P f.point).function ≡ (place_of P g.point).function → live_function P f ≡ live_function P g
  same_function f g e = ap (λ (n : Name). function_or (function_of P n)) e

  module _ (frames : Frames) (n cnt : ℕ) (ready : AreFrames P frames n) (able : CanAct P frames) (m : FlatLabel) (k : IsCopyAt P frames.top.point m) (s : Store) (s' : FlatStore) (counted : cnt ≡ length frames.below.items + 1) (like : Like (globals_of P) (live_of P frames) s s') where
    abbrev items : List Frame
    items = frames.below.items

    abbrev top : the.Frame
    top = frame_of P frames.top

    abbrev f : FunctionTree
    f = live_function P frames.top

    acted : LikeOutcome P f (live_below P items) (act k.label (length (below_of P items) + 1) frames.top.result s) (flat_act m cnt frames.top.base frames.top.result s')
    acted =
        let r = frames.top.result in
        let function_is : f ≡ k.function = ap function_or k.defined in
        subst (λ (j : ℕ). LikeOutcome P f (live_below P items) (act k.label (length (below_of P items) + 1) r s) (flat_act m j frames.top.base r s')) (sym counted)
        (subst (λ (j : ℕ). LikeOutcome P f (live_below P items) (act k.label (j + 1) r s) (flat_act m (length items + 1) frames.top.base r s')) (sym (length_below items))
        (subst (λ (b : ℕ). LikeOutcome P f (live_below P items) (act k.label (length items + 1) r s) (flat_act m (length items + 1) b r s')) (sym ready.based.0)
        (subst (λ (j : ℕ). LikeOutcome P f (live_below P items) (act k.label (j + 1) r s) (flat_act m (j + 1) (live_size (globals_of P) (live_below P items)) r s')) (length_live items)
        (act_like P able.globals f (live_below P items) able.few k.label m r s s' (subst (λ (g : FunctionTree). FitsLabel P g k.label) (sym function_is) k.fits) (subst (λ (g : FunctionTree). IsFlat P g k.label m) (sym function_is) k.copy) like))))

    turned : turn F (standing_of P frames s) ≡ follow F top (below_of P items) (act k.label (length (below_of P items) + 1) frames.top.result s)
    turned = ap (turn_at F top (below_of P items) s) k.labelled

    abbrev does : FlatOutcome
    does = flat_act m cnt frames.top.base frames.top.result s'

    pub ends_on : (t : Status) (t' : FlatStore) → does ≡ ends t t' → StopsWith (turn F (standing_of P frames s)) t t'
    ends_on t t' e =
        let o = ended P f (live_below P items) _ does t t' acted e in
        record { store = o.store; stops = turned ∙ ap (follow F top (below_of P items)) o.is; text = o.text }

    -- the frames above the same ones, where the top one goes on
    still_ready : (new : Frames) (k : ℕ) → new.below.items ≡ items → new.top.point < length (point_list P) → new.top.base ≡ frames.top.base → k ≡ live_size (globals_of P) (live_of P new) → AreFrames P new k
    still_ready new k same point base count = record {
      top = point;
      below = subst (All (λ (f : Frame). f.point < length (point_list P))) (sym same) ready.below;
      few = let l = ap length same in let h = ready.few in omega arith;
      based = let B : List Frame → Type 0 = λ xs. (new.top.base ≡ live_size (globals_of P) (map (live_function P) (reverse xs))) × AreBased P (reverse xs) in subst B (sym same) (base ∙ ready.based.0, ready.based.1);
      count = count;
    }

    -- the top frame goes on along a way out
    crosses_on : (x : ExitTree) (r : Option ℤ) (u : Store) (t' : FlatStore) → turn F (standing_of P frames s) ≡ cross top (below_of P items) x r u (F.succ top.function top.point x) → Like (globals_of P) (f ∷ live_below P items) u t'
        → (new : Frames) → new.below.items ≡ items → new.top.point < length (point_list P) → (place_of P new.top.point).function ≡ (place_of P frames.top.point).function → new.top.base ≡ frames.top.base
        → (result : Turn) → Crosses P (cross top (below_of P items) x r u (F.succ top.function top.point x)) result (record { frames = frame_of P new.top ∷ below_of P items; store = u })
        → Moves P (turn F (standing_of P frames s)) result new t'
    crosses_on x r u t' to alike new same point fn base result crosses = by_result result crosses
      where
        live_same : live_of P new ≡ live_of P frames
        live_same = ap (λ (g : FunctionTree). g ∷ live_below P new.below.items) (same_function new.top frames.top fn) ∙ ap (λ (xs : List Frame). f ∷ live_below P xs) same

        l : Like (globals_of P) (live_of P new) u t'
        l = subst (λ fs. Like (globals_of P) fs u t') (sym live_same) alike

        by_result : (result : Turn) → Crosses P (cross top (below_of P items) x r u (F.succ top.function top.point x)) result (record { frames = frame_of P new.top ∷ below_of P items; store = u }) → Moves P (turn F (standing_of P frames s)) result new t'
        by_result (Goes e) c = record {
          store = u;
          goes = to ∙ c ∙ ap (the.goes (edge_of P e)) (same_standing (frame_of P new.top ∷ below_of P items) (frame_of P new.top ∷ below_of P new.below.items) u (ap (λ (xs : List Frame). frame_of P new.top ∷ below_of P xs) (sym same)));
          like = l;
          ready = still_ready new (length t'.cells) same point base l.cells.size;
        }
        by_result (Stops status) c = record { store = u; stops = to ∙ c; text = record { input = l.input; output = l.output } }
        by_result Lost c = to ∙ c

    pub leaves_on : (x : ExitTree) (r : Option ℤ) (t' : FlatStore) → does ≡ leaves x r t' → (new : Frames) (result : Turn)
        → ((below : List the.Frame) (t : Store) → Crosses P (cross top below x r t (F.succ top.function top.point x)) result (record { frames = frame_of P new.top ∷ below; store = t }))
        → new.below.items ≡ items → new.top.point < length (point_list P) → (place_of P new.top.point).function ≡ (place_of P frames.top.point).function → new.top.base ≡ frames.top.base
        → Moves P (turn F (standing_of P frames s)) result new t'
    leaves_on x r t' e new result crosses same point fn base =
        let o = left P f (live_below P items) _ does x r t' acted e in
        crosses_on x r o.store t' (turned ∙ ap (follow F top (below_of P items)) o.is) o.like new same point fn base result (crosses (below_of P items) o.store)

    pub gives_on : (v : ℤ) (t' : FlatStore) → does ≡ gives v t' → (new : Frames) (result : Turn)
        → ((below : List the.Frame) (t : Store) → let x = exit_at (F.cases top.function top.point) v in Crosses P (cross top below x top.result t (F.succ top.function top.point x)) result (record { frames = frame_of P new.top ∷ below; store = t }))
        → new.below.items ≡ items → new.top.point < length (point_list P) → (place_of P new.top.point).function ≡ (place_of P frames.top.point).function → new.top.base ≡ frames.top.base
        → Moves P (turn F (standing_of P frames s)) result new t'
    gives_on v t' e new result crosses same point fn base =
        let o = valued P f (live_below P items) _ does v t' acted e in
        crosses_on (exit_at (F.cases top.function top.point) v) top.result o.store t' (turned ∙ ap (follow F top (below_of P items)) o.is) o.like new same point fn base result (crosses (below_of P items) o.store)

    pub pushes_on : (p b : ℕ) (t' : FlatStore) → does ≡ pushes p b t' → (new : Frames) → new.top ≡ record { point = p; result = None; base = b } → new.below.items ≡ items ++ frames.top ∷ [] → GoesTo P (turn F (standing_of P frames s)) None new t'
    pushes_on p b t' e new is below_is =
        let o = pushed P f (live_below P items) _ does p b t' acted e in
        let here : place_of P p ≡ site o.name entry = ap site_or o.entry.entry in
        let first : frame_of P new.top ≡ record { function = o.name; point = entry; result = None } =
        ap (frame_of P) is ∙ ap (λ (x : Site). let g : the.Frame = record { function = x.function; point = x.point; result = None } in g) here in
        let lower : below_of P new.below.items ≡ top ∷ below_of P items = ap (below_of P) below_is ∙ below_push items frames.top in
        let callee : live_function P new.top ≡ o.callee = ap (live_function P) is ∙ ap (λ (x : Site). function_or (function_of P x.function)) here ∙ ap function_or o.defined in
        let live_is : live_of P new ≡ o.callee ∷ f ∷ live_below P items =
        ap (λ (g : FunctionTree). g ∷ live_below P new.below.items) callee ∙ ap (λ (gs : List FunctionTree). o.callee ∷ gs) (ap (live_below P) below_is ∙ live_push items frames.top) in
        let l : Like (globals_of P) (live_of P new) o.store t' = subst (λ gs. Like (globals_of P) gs o.store t') (sym live_is) o.like in
        let few : cnt < most_frames = subst (PushesBelow cnt) e (act_few m cnt frames.top.base frames.top.result s') in
        record {
          store = o.store;
          goes =
              turned ∙ ap (follow F top (below_of P items)) o.is
              ∙ ap (the.goes None) (same_standing _ (frame_of P new.top ∷ below_of P new.below.items) o.store (sym (ap (λ (g : the.Frame). g ∷ below_of P new.below.items) first ∙ ap (λ (gs : List the.Frame). record { function = o.name; point = entry; result = None } ∷ gs) lower)));
          like = l;
          ready = record {
            top = subst (λ (g : Frame). g.point < length (point_list P)) (sym is) o.entry.point;
            below = subst (All (λ (g : Frame). g.point < length (point_list P))) (sym below_is) (All-push (λ (g : Frame). g.point < length (point_list P)) items frames.top ready.below ready.top);
            few = let more = ap length below_is ∙ length-append items (frames.top ∷ []) in omega arith;
            based =
                let B : List Frame → Type 0 = λ xs. (new.top.base ≡ live_size (globals_of P) (map (live_function P) xs)) × AreBased P xs in
                subst B (sym (ap reverse below_is ∙ reverse_push items frames.top)) (ap (λ (g : Frame). g.base) is ∙ o.base, ready.based);
            count = l.cells.size;
          };
        }

    pub pops_on : (r : Option ℤ) (t' : FlatStore) → does ≡ pops r t' → (frame : Frame) (rest : List Frame) → items ≡ rest ++ frame ∷ [] → (new : Frames) (result : Turn) (u' : FlatStore)
        → ((below : List the.Frame) (fs : List FunctionTree) (t : Store) → length below ≡ length fs → frame.base ≡ live_size (globals_of P) fs → Like (globals_of P) (live_function P frame ∷ fs) t t' → Resumes P (pop F (frame_of P frame ∷ below) r t) result new.top below fs u')
        → new.below.items ≡ rest → new.top.point < length (point_list P) → new.top.base ≡ frame.base
        → Moves P (turn F (standing_of P frames s)) result new u'
    pops_on r t' e frame rest split new result u' resumes same point base =
        let o = popped P f (live_below P items) _ does r t' acted e in
        let lower : below_of P items ≡ frame_of P frame ∷ below_of P rest = ap (below_of P) split ∙ below_push rest frame in
        let live_is : live_below P items ≡ live_function P frame ∷ live_below P rest = ap (live_below P) split ∙ live_push rest frame in
        let based : AreBased P (frame ∷ reverse rest) = subst (AreBased P) (ap reverse split ∙ reverse_push rest frame) ready.based.1 in
        let to = turned ∙ ap (follow F top (below_of P items)) o.is ∙ ap (λ (gs : List the.Frame). pop F gs r o.store) lower in
        by_result o.store to based result (resumes (below_of P rest) (live_below P rest) o.store (length_below rest ∙ sym (length_live rest)) based.0 (subst (λ gs. Like (globals_of P) gs o.store t') live_is o.like))
      where
        by_result : (t : Store) → turn F (standing_of P frames s) ≡ pop F (frame_of P frame ∷ below_of P rest) r t → AreBased P (frame ∷ reverse rest) → (result : Turn) → Resumes P (pop F (frame_of P frame ∷ below_of P rest) r t) result new.top (below_of P rest) (live_below P rest) u' → Moves P (turn F (standing_of P frames s)) result new u'
        by_result t to based (Goes c) h =
            let l : Like (globals_of P) (live_of P new) h.store u' = subst (λ (xs : List Frame). Like (globals_of P) (live_function P new.top ∷ live_below P xs) h.store u') (sym same) h.like in
            record {
              store = h.store;
              goes = to ∙ h.goes ∙ ap (the.goes (edge_of P c)) (same_standing (frame_of P new.top ∷ below_of P rest) (frame_of P new.top ∷ below_of P new.below.items) h.store (ap (λ (xs : List Frame). frame_of P new.top ∷ below_of P xs) (sym same)));
              like = l;
              ready = record {
                top = point;
                below = subst (All (λ (g : Frame). g.point < length (point_list P))) (sym same) (All-left (λ (g : Frame). g.point < length (point_list P)) rest (frame ∷ []) (subst (All (λ (g : Frame). g.point < length (point_list P))) split ready.below));
                few = let l = ap length same in let h = ready.few in let more = ap length split ∙ length-append rest (frame ∷ []) in omega arith;
                based = let B : List Frame → Type 0 = λ xs. (new.top.base ≡ live_size (globals_of P) (map (live_function P) (reverse xs))) × AreBased P (reverse xs) in subst B (sym same) (base ∙ based.0, based.1);
                count = l.cells.size;
              };
            }
        by_result t to based (Stops status) h = absurd h
        by_result t to based Lost h = to ∙ h

  -- a call's copy is that of a call
  is_call : (g : FunctionTree) (l : LabelTree) (m : FlatLabel) (d : FlatCall) → IsFlat P g l m → m ≡ enters_callee d → (c : CallTree) × (l ≡ calls c) × IsFlatCall P g c d
  is_call g enters m d h e = let x : ⊥ = cc in absurd x
  is_call g (exits rule) m d h e = let x : ⊥ = cc in absurd x
  is_call g (evaluates y) m d h e = let x : ⊥ = cc in absurd x
  is_call g (initialises owner t init) m d h e = let x : ⊥ = cc in absurd x
  is_call g (branches y) m d h e = let x : ⊥ = cc in absurd x
  is_call g (switches y) m d h e = let x : ⊥ = cc in absurd x
  is_call g (returns None) m d h e = let x : ⊥ = cc in absurd x
  is_call g (returns (Some a)) m d h e = let x : ⊥ = cc in absurd x
  is_call g jumps m d h e = let x : ⊥ = cc in absurd x
  is_call g (halts y) m d h e = let x : ⊥ = cc in absurd x
  is_call g (calls c) m d h e = let same : h.0 ≡ d = let both = sym h.1 ∙ e in cc in (c, refl, subst (IsFlatCall P g c) same h.2)

  no_stop : (f : the.Frame) (below : List the.Frame) (x : ExitTree) (r : Option ℤ) (s t : Store) (status : Status) (o : Option PointTree) → cross f below x r s o ≡ the.stops status t → ⊥
  no_stop f below x r s t status None e = cc
  no_stop f below x r s t status (Some q) e = cc

  pub resumed : (old new : Frame) (m : FlatLabel) (d : FlatCall) (k : IsCopyAt P old.point m) (r : Option ℤ) (result : Turn) (s' t' : FlatStore) → m ≡ enters_callee d → t' ≡ flat_result old.base d.temp r s'
      → ((below : List the.Frame) (t : Store) → Crosses P (cross (frame_of P old) below next old.result t (F.succ (place_of P old.point).function (place_of P old.point).point next)) result (record { frames = frame_of P new ∷ below; store = t }))
      → (place_of P new.point).function ≡ (place_of P old.point).function
      → (below : List the.Frame) (fs : List FunctionTree) (s : Store) → length below ≡ length fs → old.base ≡ live_size (globals_of P) fs → Like (globals_of P) (live_function P old ∷ fs) s s' → Resumes P (pop F (frame_of P old ∷ below) r s) result new below fs t'
  resumed old new m d k r result s' t' is put crosses fn below fs s len base like =
      let g = live_function P old in
      let function_is : g ≡ k.function = ap function_or k.defined in
      let call = is_call k.function k.label m d k.copy is in
      let c = call.0 in
      let fit = subst (FitsLabel P k.function) call.1 k.fits in
      let temp : FitsTemp (globals_of P) g c.temp = subst (λ (h : FunctionTree). FitsTemp (globals_of P) h c.temp) (sym function_is) fit.temp in
      let slot : d.temp ≡ option_map (temp_slot g) c.temp = call.2.temp ∙ ap (λ (h : FunctionTree). option_map (temp_slot h) c.temp) (sym function_is) in
      let along = F.succ (place_of P old.point).function (place_of P old.point).point next in
      let comes : pop F (frame_of P old ∷ below) r s ≡ cross (frame_of P old) below next old.result (put_result (length below) c.temp r s) along =
      ap (λ (o : Option PointLabel). come_back (frame_of P old) below r s o along) k.labelled ∙ ap (λ (l : LabelTree). come_back_to (frame_of P old) below r s (call_of l) along) call.1 in
      let l : Like (globals_of P) (g ∷ fs) (put_result (length below) c.temp r s) t' =
      subst (λ (j : ℕ). Like (globals_of P) (g ∷ fs) (put_result j c.temp r s) t') (sym len)
      (subst (λ (z : FlatStore). Like (globals_of P) (g ∷ fs) (put_result (length fs) c.temp r s) z) (sym (put ∙ ap (λ (b : ℕ). flat_result b d.temp r s') base ∙ ap (λ (o : Option ℕ). flat_result (live_size (globals_of P) fs) o r s') slot))
      (result_stands (globals_of P) g fs c.temp r s s' temp like)) in
      by_result (put_result (length below) c.temp r s) comes (subst (λ (h : FunctionTree). Like (globals_of P) (h ∷ fs) (put_result (length below) c.temp r s) t') (sym (same_function new old fn)) l) result (crosses below (put_result (length below) c.temp r s))
    where
      by_result : (u : Store) → pop F (frame_of P old ∷ below) r s ≡ cross (frame_of P old) below next old.result u (F.succ (place_of P old.point).function (place_of P old.point).point next) → Like (globals_of P) (live_function P new ∷ fs) u t'
          → (result : Turn) → Crosses P (cross (frame_of P old) below next old.result u (F.succ (place_of P old.point).function (place_of P old.point).point next)) result (record { frames = frame_of P new ∷ below; store = u }) → Resumes P (pop F (frame_of P old ∷ below) r s) result new below fs t'
      by_result u to l (Goes e) h = record { store = u; goes = to ∙ h; like = l }
      by_result u to l (Stops status) h = absurd (no_stop (frame_of P old) below next old.result u u status (F.succ (place_of P old.point).function (place_of P old.point).point next) h)
      by_result u to l Lost h = to ∙ h

  module _ (most : ℕ) (sizes : All (λ f. frame_size f ≤ most) P.functions) where
    size_or : (a : Name) (o : Option FunctionTree) → function_of P a ≡ o → frame_size (function_or o) ≤ most
    size_or a None e = omega arith
    size_or a (Some g) e = found_has P (λ f. frame_size f ≤ most) a g sizes e

    -- live frames have room
    pub lives_room : (frames : Frames) (n : ℕ) → AreFrames P frames n → n ≤ objects_size (globals_of P) + (length frames.below.items + 1) * most
    lives_room frames n ready =
        let all : List Frame = frames.top ∷ reverse frames.below.items in
        let each : All (λ f. frame_size f ≤ most) (map (live_function P) all) = All-map (λ f. frame_size f ≤ most) (live_function P) all (λ k d below. size_or (place_of P (get_or all k d).point).function (function_of P (place_of P (get_or all k d).point).function) refl) in
        let room = live_room (globals_of P) (map (live_function P) all) most each in
        let count : length (map (live_function P) all) ≡ length frames.below.items + 1 = (let a = length-map all (live_function P) in let b = length-reverse frames.below.items in omega arith) in
        let whole = ready.count in
        let scaled = ap (λ k. k * most) count in
        omega arith

  pub can_act : IsValid P → (flat : FlatProgram) → IsFlatOf P flat → (frames : Frames) (n : ℕ) → AreFrames P frames n → CanAct P frames
  can_act valid flat copies frames n ready =
      let most = flat.sizes.most in
      let room = lives_room most copies.most frames n ready in
      let few = ready.few in
      let scaled : (length frames.below.items + 1) * most ≤ 256 * most = mul-le-mul_right most few in
      let globals = copies.globals in let fewer = copies.few in let small = copies.small in let whole = ready.count in
      record { globals = valid.globals; few = omega arith }
