-- A turn of the loop that places one test after another.
use Rattle.std.proofs.Common.{◌≡◌, ◌==◌, ◌<◌, ℕ, Bool, true, false, List, [], ◌∷◌, ◌++◌, length, get_or, map, replicate, Result, Ok, Err, IfOk, Vec, refl, sym, ap, ◌∙◌, subst, arith}
use Rattle.std.specs.Prelude.{All}
use Rattle.std.specs.declared.alloc.Global.{Global}
use Rattle.std.specs.declared.alloc.AllocError.{AllocError}
use Rattle.std.specs.List.{list_any}
use Rattle.std.proofs.lemmas.Bool.{eq-eqb}
use Rattle.std.proofs.lemmas.List.{nil_from_length, length-replicate}
use Rattle.std.proofs.lemmas.List.Folds.{list_any_at}
use Rattle.edge_trace.specs.Rows.{has, union}
use Rattle.edge_trace.proofs.Laws.{same_rows, length-below, has-below, has-replicate}
use Rattle.test_history.specs.Histories.{EntryParts, HaveRows}
use Rattle.test_select.specs.declared.choice.Choice.{Choice}
use Rattle.test_order.specs.declared.placed.Placed.{Placed}
use Rattle.test_order.specs.Orders.{row_of, covered, IsNext, IsOrder}
use Rattle.test_order.specs.Counts.{without, without_gain, IsFirstOfTests, is_among, AreWaiting}
use Rattle.test_order.proofs.GainLemmas.{covered_more}
use Rattle.test_order.proofs.WaitingLemmas.{waiting_less, without_shorter}
use Rattle.test_order.proofs.OrderLemmas.{IsBegun, begun_none, begun_more, order_all, waits_within, counted_among, comes_next, rest_placed, none_adds}

-- what holds of the places holds of an `Ok` that has them
pub ok_placed : (P : List Placed → Type 0) (places : List Placed) (result : Result (Vec Placed Global) AllocError) → IfOk result (λ all. all.items ≡ places) → P places → IfOk result (λ all. P all.items)
ok_placed P places (Ok all) same held = subst P (sym same) held
ok_placed P places (Err e) same held = tt

-- what holds between two turns
pub record Turn (entries : List EntryParts) (choices : List Choice) (edges : ℕ) (seen : List Bool) (placed : List Placed) (tests : List ℕ) : Type 0 where
  pub rows : HaveRows edges entries
  pub long : length choices ≡ length entries
  pub begun : IsBegun entries choices placed tests
  pub same : seen ≡ covered entries edges placed

-- no edge is covered by no test
covered_none : (entries : List EntryParts) (edges : ℕ) → replicate edges false ≡ covered entries edges []
covered_none entries edges =
    same_rows (replicate edges false) (covered entries edges []) (length-replicate edges false ∙ sym (length-below edges (λ edge. false)))
    (λ edge below. has-replicate edges edge ∙ sym (has-below edges (λ e. false) edge (omega (arith, below, length-replicate edges false))))

-- before the first turn
pub turn_none : (entries told : List EntryParts) (choices : List Choice) (bound edges : ℕ) (seen : List Bool) (placed : List Placed) (tests : List ℕ) → entries ≡ told → HaveRows edges told → length choices ≡ length told
    → bound ≡ edges → seen ≡ replicate bound false → placed ≡ [] → AreWaiting choices [] tests → Turn entries choices edges seen placed tests
turn_none entries told choices bound edges seen placed tests is_told rows long is_bound empty none waits = record {
  rows = subst (HaveRows edges) (sym is_told) rows;
  long = long ∙ ap length (sym is_told);
  begun = rw none (begun_none entries choices tests waits);
  same = empty ∙ ap (λ n. replicate n false) is_bound ∙ covered_none entries edges ∙ ap (covered entries edges) (sym none);
}

module _ {entries : List EntryParts} {choices : List Choice} {edges : ℕ} {seen : List Bool} {placed : List Placed} {tests : List ℕ} (turn : Turn entries choices edges seen placed tests) where
  pub turn_bound : length seen ≡ edges
  turn_bound = ap length turn.same ∙ length-below edges (λ edge. list_any (λ (place : Placed). has (row_of entries place.at) edge) placed)

  pub turn_rows : HaveRows (length seen) entries
  turn_rows = λ k d below. turn.rows k d below ∙ sym turn_bound

  all_stand : All (λ test. test < length entries) tests
  all_stand = λ k d below.
      let among : is_among tests (get_or tests k d) ≡ true = list_any_at (λ one. one == get_or tests k d) tests k d below (eq-eqb (get_or tests k d) (get_or tests k d) refl) in
      omega (arith, waits_within choices placed (get_or tests k d) (sym (turn.begun.waiting.members (get_or tests k d)) ∙ among), turn.long)

  pub turn_stand : (slice : List ℕ) → slice ≡ tests → All (λ test. test < length entries) slice
  turn_stand slice is_slice = subst (λ list. All (λ test. test < length entries) list) (sym is_slice) all_stand

  -- no test waits any more
  pub turn_end : length tests ≡ 0 → (told : List EntryParts) → entries ≡ told → IsOrder told choices placed
  turn_end none told is_told =
      subst (λ list. IsOrder list choices placed) is_told (order_all entries choices placed (subst (IsBegun entries choices placed) (nil_from_length tests none) turn.begun))

  -- the place that was found among them, as the code has it: from a slice of the tests
  module _ (next : Placed) (slice : List ℕ) (is_slice : slice ≡ tests) (found : IsFirstOfTests entries seen slice next) where
    first_of_all : IsFirstOfTests entries seen tests next
    first_of_all = subst (λ some. IsFirstOfTests entries seen some next) is_slice found

    turn_next : IsNext entries choices placed next
    turn_next = comes_next entries choices edges seen placed tests next turn.rows turn.long turn.same turn.begun.waiting first_of_all

    pub turn_within : next.at < length entries
    turn_within = omega (arith, waits_within choices placed next.at turn_next.waits, turn.long)

    pub turn_smaller : (rest : List ℕ) → rest ≡ without next.at tests → length rest < length tests
    turn_smaller rest left = omega (arith, ap length left, without_shorter next.at tests (counted_among entries seen tests next first_of_all).0)

    -- the next test adds nothing: so do the others, which the code has as another slice
    pub turn_rest : next.gain ≡ 0 → (others : List ℕ) → others ≡ tests → (told : List EntryParts) → entries ≡ told → IsOrder told choices (placed ++ map without_gain others)
    turn_rest none others are told is_told =
        let rest = rest_placed entries choices placed tests turn.long turn.begun (none_adds entries choices placed tests next turn.begun.waiting turn_next none) in
        subst (λ list. IsOrder list choices (placed ++ map without_gain others)) is_told (subst (λ list. IsOrder entries choices (placed ++ map without_gain list)) (sym are) rest)

    -- the row of its entry
    module _ (entry : EntryParts) (row : List Bool) (is_entry : entry ≡ get_or entries next.at entry) (is_row : row ≡ entry.crossed) where
      row_is : (get_or entries next.at entry).crossed ≡ row
      row_is = ap (λ (one : EntryParts). one.crossed) (sym is_entry) ∙ sym is_row

      pub turn_join : length seen ≡ length row
      turn_join = turn_bound ∙ sym (turn.rows next.at entry turn_within) ∙ ap length row_is

      pub turn_more : (more : List Bool) (places : List Placed) (rest : List ℕ) → more ≡ union seen row → places ≡ placed ++ next ∷ [] → rest ≡ without next.at tests → Turn entries choices edges more places rest
      turn_more more places rest joined pushed left =
          let begun = begun_more entries choices placed tests (without next.at tests) next turn.begun turn_next turn_within (waiting_less choices placed tests next turn.begun.waiting) in
          let whole : union seen (get_or entries next.at entry).crossed ≡ covered entries edges (placed ++ next ∷ []) = covered_more entries edges entry seen placed next turn.rows turn_within turn.same in
          record {
            rows = turn.rows;
            long = turn.long;
            begun = rw (pushed, left) begun;
            same = joined ∙ ap (union seen) (sym row_is) ∙ whole ∙ ap (covered entries edges) (sym pushed);
          }
