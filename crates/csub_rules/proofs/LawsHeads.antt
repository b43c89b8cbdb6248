-- The laws of declared functions.
use Rattle.std.proofs.Common.{◌≡◌, List, [], ◌∷◌, Option, Some, None, refl, sym, subst, IsTrue}
use Rattle.csub_tree.specs.declared.name.Name.{Name as NameAt}
use Rattle.csub_tree.specs.Declarations.{Param, Head}
use Rattle.csub_scopes.specs.Scopes.{Scope, find}
use Rattle.csub_rules.specs.declared.fault.Fault.{Fault}
use Rattle.csub_rules.specs.Faults.{◌or_earlier◌, Covers}
use Rattle.csub_rules.specs.Params.{param_fault, BrokenParam}
use Rattle.csub_rules.specs.Here.{Here, is_declared, is_reserved}
use Rattle.csub_rules.proofs.LawsEarlier.{on_left, on_right, tested}
use Rattle.csub_rules.proofs.LawsSound.{Gives, nothing, join, tells}
use Rattle.csub_rules.proofs.LawsParams.{sound_param, least_param, complete_param}
use Rattle.csub_rules.specs.Heads.{at_params, past_param, param_name_fault, params_fault, is_taken, contradicts, head_fault}
use Rattle.csub_rules.specs.BrokenItem.{ParamAt, this_param, next_param, BrokenHead, m2_head, m3_head, m19_other, m2_param, m3_param, by_param}
use Rattle.csub_rules.proofs.LawsNames.{covers}

-- ---- least

among : (h : Here) (ps : List Param) (k : Here) (p : Param) (g : Fault) → ParamAt h ps k p
    → Covers (param_name_fault k p.name or_earlier param_fault k.scope p) g → Covers (params_fault h ps) g
among h ps k p g (this_param h' p' rest) c = search (on_left, c)
among h ps k p g (next_param h' k' q p' rest w) c = search (on_right, among (past_param h q) rest k p g w c)

declared : (k : Here) (x : NameAt) → IsTrue (is_declared k x.text) → Covers (param_name_fault k (Some x)) (record { rule = 2; span = x.span })
declared k x p = search (on_left, tested)

reserved : (k : Here) (x : NameAt) → IsTrue (is_reserved x.text) → Covers (param_name_fault k (Some x)) (record { rule = 3; span = x.span })
reserved k x p = search (on_right, tested)

named : (k : Here) (o : Option NameAt) (x : NameAt) (g : Fault) → o ≡ Some x → Covers (param_name_fault k (Some x)) g
    → Covers (param_name_fault k o) g
named k o x g e c = subst (λ (y : Option NameAt). Covers (param_name_fault k y) g) (sym e) c

covered_param : (k : Here) (p : Param) (g : Fault) → BrokenParam k.scope p g → Covers (param_fault k.scope p) g
covered_param k p g b = covers (param_fault k.scope p) g (λ e. complete_param k.scope p g e b) (λ f e. least_param k.scope p f g e b)

pub covered_head : (s : Scope) (h : Head) (g : Fault) → BrokenHead s h g → Covers (head_fault s h) g
covered_head s h g (m2_head p) = search (on_left, on_right, tested)
covered_head s h g (m3_head p) = search (on_left, on_right, tested)
covered_head s h g (m19_other p) = search (on_left, on_right, tested)
covered_head s h g (m2_param k p x w e q) =
    search (on_right, among (at_params s) h.params k p g w (on_left _ _ g (named k p.name x g e (declared k x q))))
covered_head s h g (m3_param k p x w e q) =
    search (on_right, among (at_params s) h.params k p g w (on_left _ _ g (named k p.name x g e (reserved k x q))))
covered_head s h g (by_param k p f w b) =
    search (on_right, among (at_params s) h.params k p g w (on_right _ _ g (covered_param k p g b)))

-- ---- sound

module _ (s : Scope) (h : Head) where
  sound_name : (k : Here) (p : Param) (o : Option NameAt) → p.name ≡ o → ParamAt (at_params s) h.params k p
      → Gives (param_name_fault k o) (BrokenHead s h)
  sound_name k p None e w = nothing
  sound_name k p (Some x) e w =
      join (tells {P = BrokenHead s h} (is_declared k x.text) 2 x.span (λ q. m2_param k p x w e q))
      (tells {P = BrokenHead s h} (is_reserved x.text) 3 x.span (λ q. m3_param k p x w e q))

  sound_params : (k : Here) (ps : List Param) → ((j : Here) (p : Param) → ParamAt k ps j p → ParamAt (at_params s) h.params j p)
      → Gives (params_fault k ps) (BrokenHead s h)
  sound_params k [] step = nothing
  sound_params k (p ∷ ps) step =
      join (join (sound_name k p p.name refl (step k p (this_param k p ps)))
      (record { holds = λ f g. by_param k p f (step k p (this_param k p ps)) ((sound_param k.scope p).holds f g) }))
      (sound_params (past_param k p) ps (λ j q w. step j q (next_param k j p q ps w)))

  pub sound_head : Gives (head_fault s h) (BrokenHead s h)
  sound_head =
      join (join (join (tells {P = BrokenHead s h} (is_taken (find h.name.text s.names)) 2 h.name.span (λ p. m2_head p))
      (tells {P = BrokenHead s h} (is_reserved h.name.text) 3 h.name.span (λ p. m3_head p)))
      (tells {P = BrokenHead s h} (contradicts s h) 19 h.name.span (λ p. m19_other p))) (sound_params (at_params s) h.params (λ j p w. w))
