-- A whole run.
use Rattle.std.proofs.Common.{◌≡◌, ◌≤◌, ◌∙◌, ℕ, ◌-◌, Some, refl, sym, ap}
use Rattle.std.proofs.Math.Nat.{add-sub_of_le}
use Rattle.std.proofs.lemmas.Option.{same_Some}
use Rattle.csub_semantics.specs.declared.status.Status.{Status}
use Rattle.csub_semantics.specs.Flows.{flow_of}
use Rattle.csub_semantics.specs.Runs.{Moment, running, ended, nowhere, after, Results, results_at, run_of}
use Rattle.csub_semantics.specs.Syntax.{program_tree}
use Rattle.csub_machine.specs.Moments.{Seen, moment_of, status_at, status_of, output_of, turns_of, crossed_of, results_of}
use Rattle.csub_machine.proofs.MomentLemmas.{after_ended}

abbrev pub asked : Seen → ℕ → Seen
asked m n = record { program = m.program; input = m.input; done = n }

-- the results that a moment shows with a status
abbrev shown : ℕ → Status → Moment → Results
shown k status x = record { status = status; output = output_of x; turns = turns_of k x; crossed = crossed_of x }

ended_results : (m : Seen) (b : ℕ) (status : Status) (x : Moment) → moment_of m ≡ x → status_at x ≡ Some status → m.done ≤ b
    → results_at b (moment_of (asked m b)) ≡ Some (shown b status (moment_of (asked m b)))
ended_results m b status (running es at) e h l = absurd (let f : ⊥ = cc in f)
ended_results m b status nowhere e h l = absurd (let f : ⊥ = cc in f)
ended_results m b status (ended es n t s) e h l =
    let F = flow_of (program_tree m.program) in
    let later : after F m.input b ≡ ended es n t s = ap (after F m.input) (sym (add-sub_of_le l)) ∙ after_ended F m.input m.done (b - m.done) es n t s e in
    ap (results_at b) later ∙ ap (λ (u : Status). Some (shown b u (ended es n t s))) (same_Some t status h) ∙ ap (λ (x : Moment). Some (shown b status x)) (sym later)

pub results_ended : (m : Seen) (b : ℕ) (status : Status) → status_of m ≡ Some status → m.done ≤ b → run_of (flow_of (program_tree m.program)) m.input b ≡ Some (results_of status (asked m b))
results_ended m b status h l = ended_results m b status (moment_of m) refl h l

-- where a run ends after k turns, the rest of its budget changes nothing
pub whole_ended : (first m last : Seen) (k b : ℕ) (status : Status) → m ≡ asked first k → last ≡ asked m b → status_of m ≡ Some status → k ≤ b
    → run_of (flow_of (program_tree first.program)) first.input b ≡ Some (results_of status last)
whole_ended first m last k b status e g h l =
    results_ended (asked first k) b status (ap status_of (sym e) ∙ h) l
    ∙ ap (λ (x : Seen). Some (results_of status x)) (sym (g ∙ ap (λ (x : Seen). asked x b) e))
