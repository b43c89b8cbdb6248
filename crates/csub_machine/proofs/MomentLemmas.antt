-- One moment after another.
use Rattle.std.proofs.Common.{◌≡◌, ◌∙◌, ap, ℕ, zero, suc, ◌+◌, List, add-one, Option}
use Rattle.std.proofs.Math.Nat.{add-zero, add-suc}
use Rattle.csub_semantics.specs.declared.status.Status.{Status}
use Rattle.csub_semantics.specs.Flows.{Flow, Edge}
use Rattle.csub_semantics.specs.Acts.{Store}
use Rattle.csub_semantics.specs.Runs.{Standing, goes, lost, turn, running, ended, nowhere, crossing, after_turn, go_on, after}

module _ (F : Flow) (input : List ℕ) where
  pub after_goes : (k : ℕ) (es : List Edge) (at to : Standing) (c : Option Edge) → after F input k ≡ running es at → turn F at ≡ goes c to → after F input (k + 1) ≡ running (crossing c es) to
  after_goes k es at to c e t = ap (after F input) (add-one k) ∙ ap (go_on F k) e ∙ ap (after_turn k es) t

  pub after_lost : (k : ℕ) (es : List Edge) (at : Standing) → after F input k ≡ running es at → turn F at ≡ lost → after F input (k + 1) ≡ nowhere
  after_lost k es at e t = ap (after F input) (add-one k) ∙ ap (go_on F k) e ∙ ap (after_turn k es) t

  -- a run that has ended stays as it is
  pub after_ended : (k j : ℕ) (es : List Edge) (n : ℕ) (status : Status) (s : Store) → after F input k ≡ ended es n status s → after F input (k + j) ≡ ended es n status s
  after_ended k zero es n status s e = ap (after F input) (add-zero k) ∙ e
  after_ended k (suc j) es n status s e = ap (after F input) (add-suc k j) ∙ ap (go_on F (k + j)) (after_ended k j es n status s e)
