-- What is told of a head, and what it declares, by what the code keeps on the way.
use Rattle.std.proofs.Common.{◌≡◌, ◌∙◌, ap, List, Option, if◌then◌else◌}
use Rattle.csub_tree.specs.Declarations.{Head}
use Rattle.csub_objects.specs.Types.{TypeTree}
use Rattle.csub_scopes.specs.Scopes.{Scope, a_function}
use Rattle.csub_rules.specs.declared.fault.Fault.{Fault}
use Rattle.csub_rules.specs.Faults.{◌or_earlier◌}
use Rattle.csub_rules.specs.ExprSorts.{number_of}
use Rattle.csub_rules.specs.Files.{is_known, naming}
use Rattle.csub_rules.specs.Heads.{at_params, head_fault, head_name_fault, param_types, params_fault, past_head}

pub head_told : (scope left : Scope) (h : Head) (named params told : Option Fault) → left ≡ scope → named ≡ head_name_fault left h
    → params ≡ params_fault (at_params scope) h.params → told ≡ (named or_earlier params) → told ≡ head_fault scope h
head_told scope left h named params told l n p f =
    f ∙ ap (λ o. o or_earlier params) (n ∙ ap (λ (s : Scope). head_name_fault s h) l) ∙ ap (λ o. head_name_fault scope h or_earlier o) p

pub head_declared : (scope left new : Scope) (h : Head) (ts : List TypeTree) → left ≡ scope → ts ≡ param_types (at_params scope) h.params
    → new ≡ (if is_known left h.name.text then left else naming left h.name.text (a_function ts (number_of h.result))) → new ≡ past_head scope h
head_declared scope left new h ts l t n =
    n ∙ ap (λ (s : Scope). if is_known s h.name.text then s else naming s h.name.text (a_function ts (number_of h.result))) l
    ∙ ap (λ us. if is_known scope h.name.text then scope else naming scope h.name.text (a_function us (number_of h.result))) t
