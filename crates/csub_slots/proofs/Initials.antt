-- Initialisers over slots write what they write into named cells.
use Rattle.std.proofs.Common.{ℕ, zero, suc, ◌+◌, ◌-◌, ◌*◌, ◌≡◌, ◌≢◌, ◌<◌, ◌≤◌, ℤ, pos, List, [], ◌∷◌, ◌++◌, length, get_or, All, AllPairs, Bool, true, false, Option}
use Rattle.std.proofs.Common.{Some, None, nat_lt, bytes_eq, option_map, slice_set, if◌then◌else◌, refl, sym, ◌∙◌, ap, subst, arith}
use Rattle.std.proofs.lemmas.Bool.{ltb-true}
use Rattle.std.proofs.Math.Nat.{suc-mul}
use Rattle.csub_types.specs.declared.kind.IntKind.{IntKind}
use Rattle.csub_types.specs.declared.kind.IntKind.TheVariants.{Int}
use Rattle.csub_types.specs.Kinds.{convert}
use Rattle.csub_objects.specs.Types.{Name, TypeTree, number_type, array_type, struct_type, loose_type, MemberTrees, no_member, more_members}
use Rattle.csub_objects.specs.Types.{number_kind, element_type, find_member, member_type, find_cell, cells, member_cells, HasArrays, HaveArrays}
use Rattle.csub_objects.specs.Parts.{member_at}
use Rattle.csub_objects.specs.Paths.{inside_at}
use Rattle.csub_semantics.specs.Labels.{InitTree, one_value, listed, InitTrees, no_init, more_inits}
use Rattle.csub_semantics.specs.Syntax.{LocalTree, FunctionTree}
use Rattle.csub_semantics.specs.Memory.{Answer, value, trapped, then_do}
use Rattle.csub_semantics.specs.Evaluation.{eval, store}
use Rattle.csub_semantics.specs.Cells.{Cells, number, written, Spot, type_or, element_spot, member_spot, named}
use Rattle.csub_semantics.specs.Initialising.{each_from, zeroed, zeroed_members, initialise, initialise_elements, initialise_members}
use Rattle.csub_semantics.specs.Acts.{Store}
use Rattle.program_laws.proofs.LawsNames.{same_name, name_itself}
use Rattle.csub_flat.specs.Frames.{plain}
use Rattle.csub_flat.specs.Trees.{FlatWrite}
use Rattle.csub_flat.specs.Flatten.{flattened, flat_writes, element_writes, member_writes, cleared}
use Rattle.csub_flat.specs.Fits.{FitsInit, FitInits}
use Rattle.csub_validity.specs.Valid.{names_in, HasOwnNames, HaveOwnNames}
use Rattle.csub_slots.specs.Layout.{Slot, holding, Layout, slot_of, StandsFor, live_size, live}
use Rattle.csub_slots.specs.Memory.{most_slot, flat}
use Rattle.csub_slots.specs.Acts.{FlatStore, flat_cleared, flat_write, flat_begins}
use Rattle.csub_slots.specs.Like.{Like}
use Rattle.csub_slots.proofs.Clears.{cleared_more}
use Rattle.csub_slots.proofs.Layouts.{IsLayout, live_is_layout}
use Rattle.csub_slots.proofs.Parts.{element_there, member_there}
use Rattle.csub_slots.proofs.Writes.{number_stands}
use Rattle.csub_slots.proofs.Evals.{LikeAnswer, both_values, both_trapped, then_same, like_eval}
use Rattle.csub_slots.proofs.Memories.{flat_like}
use Rattle.csub_slots.proofs.Copied.{HasSize, expr_flat}

-- the members of a struct from one of a number on, before which there are so many cells
record Among (all : MemberTrees) (i k : ℕ) (ms : MemberTrees) : Type 0 where
  numbered : (j : ℕ) → member_at all (i + j) ≡ member_at ms j
  found : (a : Name) (t : TypeTree) (n : ℕ) → find_member a ms ≡ Some t → find_cell a ms ≡ Some n
      → (find_member a all ≡ Some t) × (find_cell a all ≡ Some (k + n))

among_all : (ms : MemberTrees) → Among ms 0 0 ms
among_all ms = record {
  numbered = λ j. ap (member_at ms) (omega arith);
  found = λ a t n e g. (e, g ∙ ap (λ (m : ℕ). Some m) (omega arith));
}

-- no two of these members have one name
abbrev Differ : MemberTrees → Type 0
Differ ms = AllPairs (λ (x y : Name). x ≢ y) (names_in ms)

differ_rest : (x : Name) (t : TypeTree) (rest : MemberTrees) → Differ (more_members x t rest) → Differ rest
differ_rest x t rest differ = λ i j d less l. differ (suc i) (suc j) d (omega arith) (omega arith)

-- the name of a member that is found is one of the names
name_found : (ms : MemberTrees) (a : Name) (t : TypeTree) → find_member a ms ≡ Some t → (k : ℕ) × (k < length (names_in ms)) × (get_or (names_in ms) k a ≡ a)
name_found no_member a t e = cc
name_found (more_members x u rest) a t e = pick (bytes_eq x a) refl e (λ h. name_found rest a t h)
  where
    pick : (b : Bool) → bytes_eq x a ≡ b → (if b then Some u else find_member a rest) ≡ Some t
        → (find_member a rest ≡ Some t → (k : ℕ) × (k < length (names_in rest)) × (get_or (names_in rest) k a ≡ a))
        → (k : ℕ) × (k < length (x ∷ names_in rest)) × (get_or (x ∷ names_in rest) k a ≡ a)
    pick true g h later = (0, omega arith, same_name x a g)
    pick false g h later = let w = later h in (suc w.0, omega arith, w.2)

-- a later member has another name than this one
later_name : (x a : Name) (t u : TypeTree) (rest : MemberTrees) → Differ (more_members x u rest) → find_member a rest ≡ Some t → bytes_eq x a ≡ false
later_name x a t u rest differ some = by_test (bytes_eq x a) refl
  where
    by_test : (b : Bool) → bytes_eq x a ≡ b → bytes_eq x a ≡ false
    by_test false e = e
    by_test true e = let w = name_found rest a t some in absurd (differ 0 (suc w.0) a (omega arith) (omega arith) (same_name x a e ∙ sym w.2))

among_next : (all : MemberTrees) (i k : ℕ) (x : Name) (t : TypeTree) (rest : MemberTrees) → Differ (more_members x t rest) → Among all i k (more_members x t rest)
    → Among all (i + 1) (k + cells t) rest
among_next all i k x t rest differ among = record {
  numbered = λ j. ap (member_at all) (omega arith) ∙ among.numbered (suc j);
  found = λ a u n e g.
      let other = later_name x a u t rest differ e in
      let w = among.found a u (cells t + n) (ap (λ b. if b then Some t else find_member a rest) other ∙ e)
      (ap (λ b. if b then Some 0 else option_map (λ m. cells t + m) (find_cell a rest)) other ∙ ap (option_map (λ m. cells t + m)) g) in
      (w.0, w.1 ∙ ap (λ (m : ℕ). Some m) (omega arith));
}

-- where this member is
among_first : (all : MemberTrees) (i k : ℕ) (x : Name) (t : TypeTree) (rest : MemberTrees) → Among all i k (more_members x t rest)
    → (find_member x all ≡ Some t) × (find_cell x all ≡ Some k)
among_first all i k x t rest among =
    let same = name_itself x in
    let w = among.found x t 0 (ap (λ b. if b then Some t else find_member x rest) same)
    (ap (λ b. if b then Some 0 else option_map (λ m. cells t + m) (find_cell x rest)) same) in
    (w.0, w.1 ∙ ap (λ (m : ℕ). Some m) (omega arith))

-- one element more
cleared_row : (at i k c : ℕ) (slots : List Slot)
    → flat_cleared (at + i * c) (suc k * c) slots ≡ flat_cleared (at + (i + 1) * c) (k * c) (flat_cleared (at + i * c) c slots)
cleared_row at i k c slots =
    let row : suc k * c ≡ c + k * c = let m = suc-mul k c in omega arith in
    let next : at + i * c + c ≡ at + (i + 1) * c = let m = suc-mul i c in let n : suc i * c ≡ (i + 1) * c = ap (λ j. j * c) (omega arith) in omega arith in
    ap (λ n. flat_cleared (at + i * c) n slots) row ∙ cleared_more (at + i * c) c (k * c) slots
    ∙ ap (λ n. flat_cleared n (k * c) (flat_cleared (at + i * c) c slots)) next

module _ (layout : Layout) (count : ℕ) (is_layout : IsLayout layout count) where
  abbrev Stand : Cells → List Slot → Type 0
  Stand held slots = StandsFor layout count held slots

  -- so many parts of one size, from one on
  each_stands : (f : ℕ → Cells → Cells) (at c n : ℕ)
      → ((i : ℕ) (held : Cells) (slots : List Slot) → i < n → Stand held slots → Stand (f i held) (flat_cleared (at + i * c) c slots))
      → (k i : ℕ) (held : Cells) (slots : List Slot) → i + k ≤ n → Stand held slots
      → Stand (each_from f k i held) (flat_cleared (at + i * c) (k * c) slots)
  each_stands f at c n one zero i held slots l stands =
      let none : 0 * c ≡ 0 = omega arith in subst (λ m. Stand held (flat_cleared (at + i * c) m slots)) (sym none) stands
  each_stands f at c n one (suc k) i held slots l stands =
      let rest = each_stands f at c n one k (i + 1) (f i held) (flat_cleared (at + i * c) c slots) (omega arith) (one i held slots (omega arith) stands) in
      subst (Stand (each_from f k (i + 1) (f i held))) (sym (cleared_row at i k c slots)) rest

  mutual
    -- 0 in every number of an object
    zeroed_stands : (t : TypeTree) (l : Spot) (at : ℕ) (held : Cells) (slots : List Slot) → HasArrays t → HasOwnNames t → l.ctype ≡ t
        → slot_of layout l.cell ≡ Some (inside_at at (plain t)) → Stand held slots → Stand (zeroed t l held) (flat_cleared at (cells t) slots)
    zeroed_stands (number_type k) l at held slots a o e there stands = number_stands layout count is_layout l.cell at Int (pos 0) held slots there stands
    zeroed_stands (array_type t n) l at held slots a o e there stands =
        let first : at + 0 * cells t ≡ at = omega arith in
        subst (λ m. Stand (each_from (λ i. zeroed t (element_spot l i)) n 0 held) (flat_cleared m (n * cells t) slots)) first
        (each_stands (λ i. zeroed t (element_spot l i)) at (cells t) n
        (λ i g xs less st.
        let here = element_there layout count is_layout l.cell at t n i there less in
        zeroed_stands t (element_spot l i) (at + i * cells t) g xs a.3 o (ap (λ (w : TypeTree). type_or w (element_type w)) e) here.there st)
        n 0 held slots (omega arith) stands)
    zeroed_stands (struct_type tag ms) l at held slots a o e there stands =
        let first : at + 0 ≡ at = omega arith in
        subst (λ m. Stand (zeroed_members ms l held) (flat_cleared m (member_cells ms) slots)) first
        (members_zeroed ms ms tag l at 0 0 held slots (among_all ms) a o.0 o.1 e there stands)
    zeroed_stands (loose_type t) l at held slots a o e there stands = absurd a

    -- and in the members of a struct from one on
    members_zeroed : (ms all : MemberTrees) (tag : Name) (l : Spot) (at i k : ℕ) (held : Cells) (slots : List Slot) → Among all i k ms → HaveArrays ms
        → Differ ms → HaveOwnNames ms → l.ctype ≡ struct_type tag all → slot_of layout l.cell ≡ Some (inside_at at (plain (struct_type tag all))) → Stand held slots
        → Stand (zeroed_members ms l held) (flat_cleared (at + k) (member_cells ms) slots)
    members_zeroed no_member all tag l at i k held slots among a d o e there stands = stands
    members_zeroed (more_members x t rest) all tag l at i k held slots among a d o e there stands =
        let w = among_first all i k x t rest among in
        let here = member_there layout count is_layout l.cell at tag all x t k there w.0 w.1 in
        let typed = ap (λ (u : TypeTree). type_or u (member_type x u)) e ∙ ap (type_or (struct_type tag all)) w.0 in
        let one = zeroed_stands t (member_spot l x) (at + k) held slots a.0 o.0 typed here.there stands in
        let more = members_zeroed rest all tag l at (i + 1) (k + cells t) (zeroed t (member_spot l x) held) (flat_cleared (at + k) (cells t) slots)
        (among_next all i k x t rest d among) a.1 (differ_rest x t rest d) o.1 e there one in
        let next : at + (k + cells t) ≡ at + k + cells t = omega arith in
        subst (Stand (zeroed_members rest l (zeroed t (member_spot l x) held)))
        (ap (λ n. flat_cleared n (member_cells rest) (flat_cleared (at + k) (cells t) slots)) next ∙ sym (cleared_more (at + k) (cells t) (member_cells rest) slots)) more

-- the steps of two parts of an initialiser, one behind the other
begins_append : (base : ℕ) (ws vs : List FlatWrite) (s : FlatStore) → flat_begins base (ws ++ vs) s ≡ then_do (flat_begins base ws s) (λ x t. flat_begins base vs t)
begins_append base [] vs s = refl
begins_append base (w ∷ ws) vs s = after (flat_write base w s) (λ t. begins_append base ws vs t)
  where
    after : (a : Answer (Unit {0}) FlatStore)
        → ((t : FlatStore) → flat_begins base (ws ++ vs) t ≡ then_do (flat_begins base ws t) (λ x u. flat_begins base vs u))
        → then_do a (λ x t. flat_begins base (ws ++ vs) t) ≡ then_do (then_do a (λ x t. flat_begins base ws t)) (λ x t. flat_begins base vs t)
    after (value x t) later = later t
    after (trapped r t) later = refl

-- the step that clears so many slots, if any
begins_cleared : (base s n : ℕ) (t : FlatStore) → flat_begins base (cleared s n) t ≡ value tt (record t { cells = flat_cleared (base + s) n t.cells })
begins_cleared base s zero t = refl
begins_cleared base s (suc n) t = refl

module _ (gs : List LocalTree) (sized : All HasSize gs) (f : FunctionTree) (below : List FunctionTree) (few : live_size gs (f ∷ below) ≤ most_slot) where
  abbrev layout : Layout
  layout = live gs (f ∷ below)

  abbrev count : ℕ
  count = live_size gs (f ∷ below)

  abbrev base : ℕ
  base = live_size gs below

  is_layout : IsLayout layout count
  is_layout = live_is_layout gs (f ∷ below)

  abbrev Both : Store → FlatStore → Type 0
  Both s s' = Like gs (f ∷ below) s s'

  abbrev Alike : Answer (Unit {0}) Store → Answer (Unit {0}) FlatStore → Type 0
  Alike a a' = LikeAnswer (λ (x y : Unit {0}). x ≡ y) Both a a'

  -- a number is written
  value_like : (k : IntKind) (l : Spot) (s : ℕ) (a : Answer ℤ Store) (a' : Answer ℤ FlatStore) → l.ctype ≡ number_type k
      → slot_of layout l.cell ≡ Some (inside_at (base + s) (number_type Int)) → LikeAnswer (λ (x y : ℤ). x ≡ y) Both a a'
      → Alike (then_do a (λ v u. then_do (store (named (length below)) l v u) (λ w x. value (tt {0}) x)))
      (then_do (then_do a' (λ v t. value (tt {0}) (record t { cells = slice_set t.cells (base + s) (holding (convert k v)) }))) (λ x t. flat_begins base [] t))
  value_like k l s a a' typed there (both_values {x = v} {x' = w} {s = u} {s' = u'} e r) =
      let number_is : convert (number_kind l.ctype) v ≡ convert k w = ap (λ (t : TypeTree). convert (number_kind t) v) typed ∙ ap (convert k) e in
      let stands = number_stands layout count is_layout l.cell (base + s) Int (convert (number_kind l.ctype) v) u.cells u'.cells there r.cells in
      both_values refl (record {
        input = r.input;
        output = r.output;
        cells =
            subst (λ (z : ℤ). StandsFor layout count (written u.cells l.cell (number (convert (number_kind l.ctype) v))) (slice_set u'.cells (base + s) (holding z)))
            number_is stands;
      })
  value_like k l s a a' typed there (both_trapped r) = both_trapped r

  -- the part that an entry of a list is for
  some_part : (x : InitTree) (b : Bool) (t : TypeTree) → FitsInit gs f (if b then Some t else None) x → (b ≡ true) × FitsInit gs f (Some t) x
  some_part x true t h = (refl, h)
  some_part (one_value e) false t h = absurd h.0
  some_part (listed xs) false t h = let k = h.0 in cc

  no_part : (x : InitTree) → FitsInit gs f None x → ⊥
  no_part (one_value e) h = absurd h.0
  no_part (listed xs) h = let k = h.0 in cc

  mutual
    -- an initialiser of an object, or of a part of one
    pub init_like : (x : InitTree) (t : TypeTree) (l : Spot) (s : ℕ) (u : Store) (u' : FlatStore) → FitsInit gs f (Some t) x → HasArrays t
        → HasOwnNames t → l.ctype ≡ t → slot_of layout l.cell ≡ Some (inside_at (base + s) (plain t)) → Both u u'
        → Alike (initialise (length below) x t l u) (flat_begins base (flat_writes gs f t s x) u')
    init_like (one_value e) (number_type k) l s u u' fit a o typed there like =
        value_like k l s (eval (named (length below)) e u) (eval (flat base) (flattened gs f e) u') typed there
        (like_eval (flat_like layout count is_layout (length below) base few) e (flattened gs f e) u u' (expr_flat gs sized f below e fit.1) like)
    init_like (one_value e) (array_type t n) l s u u' fit a o typed there like = absurd fit.0
    init_like (one_value e) (struct_type tag ms) l s u u' fit a o typed there like = absurd fit.0
    init_like (one_value e) (loose_type t) l s u u' fit a o typed there like = absurd fit.0
    init_like (listed xs) (number_type k) l s u u' fit a o typed there like = let h = fit.0 in let f : ⊥ = cc in absurd f
    init_like (listed xs) (array_type t n) l s u u' fit a o typed there like =
        elements_like xs t n 0 l (base + s) s u u' (omega arith) (omega arith) fit.1 a.3 o typed there like
    init_like (listed xs) (struct_type tag ms) l s u u' fit a o typed there like =
        members_like xs ms ms tag 0 0 l (base + s) s u u' (among_all ms) (omega arith) fit.1 a o.0 o.1 typed there like
    init_like (listed xs) (loose_type t) l s u u' fit a o typed there like = absurd a

    -- the elements of an array from one on
    elements_like : (xs : InitTrees) (t : TypeTree) (n i : ℕ) (l : Spot) (at s : ℕ) (u : Store) (u' : FlatStore) → base + s ≡ at + i * cells t → i ≤ n
        → FitInits gs f (Some (array_type t n)) i xs → HasArrays t → HasOwnNames t → l.ctype ≡ array_type t n
        → slot_of layout l.cell ≡ Some (inside_at at (plain (array_type t n))) → Both u u'
        → Alike (initialise_elements (length below) xs t n i l u) (flat_begins base (element_writes gs f t n i s xs) u')
    elements_like no_init t n i l at s u u' place within fit a o typed there like =
        subst (Alike (initialise_elements (length below) no_init t n i l u)) (sym (begins_cleared base s ((n - i) * cells t) u'))
        (both_values refl (record {
          input = like.input;
          output = like.output;
          cells =
              subst (λ m. StandsFor layout count (each_from (λ j. zeroed t (element_spot l j)) (n - i) i u.cells) (flat_cleared m ((n - i) * cells t) u'.cells))
              (sym place)
              (each_stands layout count is_layout (λ j. zeroed t (element_spot l j)) at (cells t) n
              (λ j g xs less st.
              let here = element_there layout count is_layout l.cell at t n j there less in
              zeroed_stands layout count is_layout t (element_spot l j) (at + j * cells t) g xs a o (ap (λ (w : TypeTree). type_or w (element_type w)) typed) here.there st)
              (n - i) i u.cells u'.cells (omega arith) like.cells);
        }))
    elements_like (more_inits x rest) t n i l at s u u' place within fit a o typed there like =
        let part = some_part x (nat_lt i n) t fit.0 in
        let less : i < n = ltb-true i n part.0 in
        let here = element_there layout count is_layout l.cell at t n i there less in
        let slot : slot_of layout (element_spot l i).cell ≡ Some (inside_at (base + s) (plain t)) =
        subst (λ m. slot_of layout (element_spot l i).cell ≡ Some (inside_at m (plain t))) (sym place) here.there in
        let next : base + (s + cells t) ≡ at + (i + 1) * cells t =
        let m = suc-mul i (cells t) in let n : suc i * cells t ≡ (i + 1) * cells t = ap (λ j. j * cells t) (omega arith) in omega arith in
        subst (Alike (initialise_elements (length below) (more_inits x rest) t n i l u))
        (sym (begins_append base (flat_writes gs f t s x) (element_writes gs f t n (i + 1) (s + cells t) rest) u'))
        (then_same (init_like x t (element_spot l i) s u u' part.1 a o (ap (λ (w : TypeTree). type_or w (element_type w)) typed) slot like)
        (λ y v v' both. elements_like rest t n (i + 1) l at (s + cells t) v v' next (omega arith) fit.1 a o typed there both))

    -- the members of a struct from one on
    members_like : (xs : InitTrees) (ms all : MemberTrees) (tag : Name) (i k : ℕ) (l : Spot) (at s : ℕ) (u : Store) (u' : FlatStore) → Among all i k ms
        → base + s ≡ at + k → FitInits gs f (Some (struct_type tag all)) i xs → HaveArrays ms → Differ ms → HaveOwnNames ms → l.ctype ≡ struct_type tag all
        → slot_of layout l.cell ≡ Some (inside_at at (plain (struct_type tag all))) → Both u u'
        → Alike (initialise_members (length below) xs ms l u) (flat_begins base (member_writes gs f ms s xs) u')
    members_like no_init ms all tag i k l at s u u' among place fit a d o typed there like =
        subst (Alike (initialise_members (length below) no_init ms l u)) (sym (begins_cleared base s (member_cells ms) u'))
        (both_values refl (record {
          input = like.input;
          output = like.output;
          cells =
              subst (λ m. StandsFor layout count (zeroed_members ms l u.cells) (flat_cleared m (member_cells ms) u'.cells)) (sym place)
              (members_zeroed layout count is_layout ms all tag l at i k u.cells u'.cells among a d o typed there like.cells);
        }))
    members_like (more_inits x rest) no_member all tag i k l at s u u' among place fit a d o typed there like =
        let none : member_at all i ≡ None = ap (member_at all) (omega arith) ∙ among.numbered 0 in
        absurd (no_part x (subst (λ (o : Option TypeTree). FitsInit gs f o x) none fit.0))
    members_like (more_inits x rest) (more_members a t ms) all tag i k l at s u u' among place fit arrays d o typed there like =
        let some : member_at all i ≡ Some t = ap (member_at all) (omega arith) ∙ among.numbered 0 in
        let w = among_first all i k a t ms among in
        let here = member_there layout count is_layout l.cell at tag all a t k there w.0 w.1 in
        let slot : slot_of layout (member_spot l a).cell ≡ Some (inside_at (base + s) (plain t)) =
        subst (λ m. slot_of layout (member_spot l a).cell ≡ Some (inside_at m (plain t))) (sym place) here.there in
        let type = ap (λ (v : TypeTree). type_or v (member_type a v)) typed ∙ ap (type_or (struct_type tag all)) w.0 in
        subst (Alike (initialise_members (length below) (more_inits x rest) (more_members a t ms) l u))
        (sym (begins_append base (flat_writes gs f t s x) (member_writes gs f ms (s + cells t) rest) u'))
        (then_same (init_like x t (member_spot l a) s u u' (subst (λ (o : Option TypeTree). FitsInit gs f o x) some fit.0) arrays.0 o.0 type slot like)
        (λ y v v' both.
        members_like rest ms all tag (i + 1) (k + cells t) l at (s + cells t) v v' (among_next all i k a t ms d among) (omega arith) fit.1 arrays.1 (differ_rest a t ms d) o.1 typed there both))
