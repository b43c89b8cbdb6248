-- The table of the cases of all `switch`es.
use Rattle.std.proofs.Common.{◌≡◌, ◌≢◌, ◌∙◌, ℕ, ◌+◌, ◌<◌, ◌≤◌, ℤ, List, length, get_or, Bool, Option, Some, None, IfSome, sym, ap, subst, subst₂, arith, ◌⊎◌, inl, inr}
use Rattle.std.specs.List.{slice_get, find}
use Rattle.std.specs.Option.{option_and_then}
use Rattle.std.proofs.lemmas.Bool.{cases_lt}
use Rattle.std.proofs.lemmas.Option.{slice_get-get_or, same_Some}
use Rattle.csub_semantics.specs.Points.{exit_tree, exit_eq, on_case}
use Rattle.flow_graph.specs.declared.node.GraphWay.{GraphWay}
use Rattle.flow_graph.specs.declared.node.GraphPoint.{GraphPoint}
use Rattle.flow_graph.specs.Cases.{ArePlaces}

-- whether a way out is by a case value, and the first that is
abbrev pub is_by : ℤ → GraphWay → Bool
is_by v w = exit_eq (exit_tree w.exit) (on_case v)

abbrev pub first_by : ℤ → List GraphWay → Option GraphWay
first_by v ways = find (λ w. exit_eq (exit_tree w.exit) (on_case v)) ways

-- what is entered, where it is the same by each value
pub same_places : (ways : List GraphWay) (before after : ℤ → Option ℕ) → ((v : ℤ) → after v ≡ before v) → ArePlaces ways before → ArePlaces ways after
same_places ways before after same are = record {
  found = λ v. ap (option_and_then (slice_get ways)) (same v) ∙ are.found v;
  within = λ v. subst (λ o. IfSome o (λ n. n < length ways)) (sym (same v)) (are.within v);
}

-- one point more, behind those whose cases are entered
module _ (points : List GraphPoint) (i : ℕ) (q : GraphPoint) (inside : i < length points) (is : q ≡ get_or points i q) (before after : ℕ → ℤ → Option ℕ)
    (own : ArePlaces q.node.ways.items (after i)) (others : (n : ℕ) (v : ℤ) → n ≢ i → after n v ≡ before n v) where
  pub entered_more : ((n : ℕ) (p : GraphPoint) → n < i → slice_get points n ≡ Some p → ArePlaces p.node.ways.items (before n))
      → (n : ℕ) (p : GraphPoint) → n < i + 1 → slice_get points n ≡ Some p → ArePlaces p.node.ways.items (after n)
  entered_more entered n p below there = pick (cases_lt n i)
    where
      pick : (n < i) ⊎ (i ≤ n) → ArePlaces p.node.ways.items (after n)
      pick (inl less) = same_places p.node.ways.items (before n) (after n) (λ v. others n v (λ e. absurd (omega (arith, less, e)))) (entered n p less there)
      pick (inr not_less) =
          let here : i ≡ n = omega (arith, below, not_less) in
          let at_i : slice_get points i ≡ Some q = slice_get-get_or points i q inside ∙ ap Some (sym is) in
          let point : q ≡ p = same_Some q p (sym at_i ∙ ap (slice_get points) here ∙ there) in
          subst₂ (λ (m : ℕ) (x : GraphPoint). ArePlaces x.node.ways.items (after m)) here point own

  pub fresh_more : ((n : ℕ) (v : ℤ) → i ≤ n → before n v ≡ None) → (n : ℕ) (v : ℤ) → i + 1 ≤ n → after n v ≡ None
  fresh_more fresh n v above = others n v (λ e. absurd (omega (arith, above, e))) ∙ fresh n v (omega (arith, above))
