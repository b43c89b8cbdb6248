-- The laws of enumerations.
use Rattle.std.proofs.Common.{ℤ, pos, List, [], ◌∷◌, Option, Some, None}
use Rattle.csub_tree.specs.declared.name.Name.{Name as NameAt}
use Rattle.csub_tree.specs.Units.{Constant}
use Rattle.csub_scopes.specs.Scopes.{Scope}
use Rattle.csub_rules.specs.declared.fault.Fault.{Fault}
use Rattle.csub_rules.specs.Faults.{Covers}
use Rattle.csub_rules.specs.Constants.{enum_value}
use Rattle.csub_rules.proofs.LawsEarlier.{on_left, on_right}
use Rattle.csub_rules.proofs.LawsSound.{Gives, nothing, join}
use Rattle.csub_rules.proofs.LawsUses.{sound_enum, covered_enum}
use Rattle.csub_rules.specs.Enums.{value_after, past_constant, constant_fault, constants_fault, past_tag, perhaps_tag_fault, enumeration_fault}
use Rattle.csub_rules.specs.BrokenObject.{ConstantAt, this_constant, next_constant, BrokenEnumeration}
use Rattle.csub_rules.specs.BrokenObject.{by_enum_tag, by_constant_name, by_constant_value}
use Rattle.csub_rules.proofs.LawsNames.{sound_name, covered_name, sound_tag, covered_tag}

-- ---- least

among : (s : Scope) (next : ℤ) (cs : List Constant) (k : Scope) (n : ℤ) (c : Constant) (g : Fault) → ConstantAt s next cs k n c
    → Covers (constant_fault k n c) g → Covers (constants_fault s next cs) g
among s next cs k n c g (this_constant s' m c' rest) h = search (on_left, h)
among s next cs k n c g (next_constant s' k' m after b c' rest w) h =
    search (on_right, among (past_constant s next b) (value_after next (enum_value s next b.value)) rest k n c g w h)

pub covered_enumeration : (s : Scope) (tag : Option NameAt) (cs : List Constant) (g : Fault) → BrokenEnumeration s tag cs g
    → Covers (enumeration_fault s tag cs) g
covered_enumeration s tag cs g (by_enum_tag t cs' f b) = search (on_left, covered_tag s t g b)
covered_enumeration s tag cs g (by_constant_name tag' cs' k n c f w b) =
    search (on_right, among (past_tag s tag) (pos 0) cs k n c g w (on_left _ _ g (covered_name k c.name g b)))
covered_enumeration s tag cs g (by_constant_value tag' cs' k n c f w b) =
    search (on_right, among (past_tag s tag) (pos 0) cs k n c g w (on_right _ _ g (covered_enum k n c.name.span c.value g b)))

-- ---- sound

module _ (top : Scope) (tag : Option NameAt) (all : List Constant) where
  sound_constants : (s : Scope) (next : ℤ) (cs : List Constant)
      → ((k : Scope) (n : ℤ) (c : Constant) → ConstantAt s next cs k n c → ConstantAt (past_tag top tag) (pos 0) all k n c)
      → Gives (constants_fault s next cs) (BrokenEnumeration top tag all)
  sound_constants s next [] step = nothing
  sound_constants s next (c ∷ cs) step =
      join (join (record {
        holds = λ f g. by_constant_name tag all s next c f (step s next c (this_constant s next c cs)) ((sound_name s c.name).holds f g);
      }) (record {
        holds = λ f g.
            by_constant_value tag all s next c f (step s next c (this_constant s next c cs)) ((sound_enum s next c.name.span c.value).holds f g);
      }))
      (sound_constants (past_constant s next c) (value_after next (enum_value s next c.value)) cs
      (λ k n b w. step k n b (next_constant s k next n c b cs w)))

sound_perhaps : (s : Scope) (tag : Option NameAt) (cs : List Constant) → Gives (perhaps_tag_fault s tag) (BrokenEnumeration s tag cs)
sound_perhaps s None cs = nothing
sound_perhaps s (Some tag) cs = record { holds = λ f g. by_enum_tag tag cs f ((sound_tag s tag).holds f g) }

pub sound_enumeration : (s : Scope) (tag : Option NameAt) (cs : List Constant) → Gives (enumeration_fault s tag cs) (BrokenEnumeration s tag cs)
sound_enumeration s tag cs = join (sound_perhaps s tag cs) (sound_constants s tag cs (past_tag s tag) (pos 0) cs (λ k n c w. w))
