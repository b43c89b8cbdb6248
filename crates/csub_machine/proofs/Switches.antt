-- The way out of a switch at a value: by its case, or else by its Default.
use Rattle.std.proofs.Common.{◌≡◌, ◌∙◌, ℕ, ℤ, Bool, true, false, cond, refl, sym, ap}
use Rattle.csub_semantics.specs.Points.{ExitTree, on_case, on_default}
use Rattle.csub_semantics.specs.Syntax.{ProgramTree}
use Rattle.csub_semantics.specs.Runs.{exit_at}
use Rattle.csub_validity.specs.Valid.{IsValid}
use Rattle.program_laws.proofs.LawsSwitches.{has}
use Rattle.program_laws.proofs.LawsFlows.{is_flow, case_leads}
use Rattle.flow_graph.specs.declared.graph.WayOut.{WayOut}
use Rattle.csub_flat.specs.Sites.{place_of}
use Rattle.csub_flat.specs.Ways.{cases_of, LeadsTo, LeadsNowhere}

module _ (P : ProgramTree) (valid : IsValid P) (n : ℕ) (v : ℤ) where
  abbrev at_value : Bool → ExitTree
  at_value b = cond b (on_case v) (on_default (cases_of P n))

  pub leaves_by_case : (way : WayOut) → LeadsTo P n (on_case v) way → on_case v ≡ exit_at (cases_of P n) v
  leaves_by_case way l =
      let among : has v (cases_of P n) ≡ true = (is_flow P valid).cased (place_of P n).function (place_of P n).point (place_of P way.to).point v l.leads in
      sym (ap at_value among)

  pub leaves_by_default : LeadsNowhere P n (on_case v) → on_default (cases_of P n) ≡ exit_at (cases_of P n) v
  leaves_by_default none = pick (has v (cases_of P n)) refl
    where
      pick : (b : Bool) → has v (cases_of P n) ≡ b → on_default (cases_of P n) ≡ exit_at (cases_of P n) v
      pick true e = let some = case_leads P valid (place_of P n).function (place_of P n).point v e in absurd (let both = sym none ∙ some.1 in let f : ⊥ = cc in f)
      pick false e = sym (ap at_value e)
