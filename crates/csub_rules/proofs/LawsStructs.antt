-- The laws of structs.
use Rattle.std.proofs.Common.{List, [], ◌∷◌, Option, IsTrue}
use Rattle.csub_tree.specs.declared.name.Name.{Name as NameAt}
use Rattle.csub_tree.specs.Declarations.{Declarator, Declare}
use Rattle.csub_objects.specs.Types.{TypeTree}
use Rattle.csub_scopes.specs.Scopes.{Scope}
use Rattle.csub_rules.specs.declared.fault.Fault.{Fault}
use Rattle.csub_rules.specs.Faults.{◌or_earlier◌, Covers}
use Rattle.csub_rules.specs.Declarators.{base_type, base_fault, is_too_large}
use Rattle.csub_rules.specs.Here.{is_reserved}
use Rattle.csub_rules.proofs.LawsEarlier.{on_left, on_right, tested}
use Rattle.csub_rules.proofs.LawsSizes.{large, is_large}
use Rattle.csub_rules.proofs.LawsSound.{Gives, nothing, join, tells}
use Rattle.csub_rules.proofs.LawsSlots.{sound_base, covered_base, sound_slot, covered_slot}
use Rattle.csub_rules.proofs.LawsBodies.{sound_twice, covered_twice}
use Rattle.csub_rules.specs.Structs.{field_names, field_fault, line_fault, fields_fault, defined_struct, struct_fault}
use Rattle.csub_rules.specs.BrokenObject.{IsIn, this_one, next_one, BrokenStruct, by_struct_tag, m10_struct, by_field_base}
use Rattle.csub_rules.specs.BrokenObject.{m3_field, by_field_slot, m2_field}
use Rattle.csub_rules.proofs.LawsNames.{sound_tag, covered_tag}

module _ (scope : Scope) where
  -- ---- least

  in_line : (base : Option TypeTree) (v : Declarator) (g : Fault) (vs : List Declarator) → IsIn v vs → Covers (field_fault scope base v) g
      → Covers (line_fault scope base vs) g
  in_line base v g vs (this_one rest) c = search (on_left, c)
  in_line base v g vs (next_one w rest i) c = search (on_right, in_line base v g rest i c)

  in_fields : (d : Declare) (g : Fault) (ds : List Declare) → IsIn d ds
      → Covers (base_fault scope d.base or_earlier line_fault scope (base_type scope d.base) d.vars) g → Covers (fields_fault scope ds) g
  in_fields d g ds (this_one rest) c = search (on_left, c)
  in_fields d g ds (next_one e rest i) c = search (on_right, in_fields d g rest i c)

  by_line : (d : Declare) (v : Declarator) (g : Fault) → IsIn v d.vars → Covers (field_fault scope (base_type scope d.base) v) g
      → Covers (base_fault scope d.base or_earlier line_fault scope (base_type scope d.base) d.vars) g
  by_line d v g i c = search (on_right, in_line (base_type scope d.base) v g d.vars i c)

  reserved : (base : Option TypeTree) (v : Declarator) → IsTrue (is_reserved v.name.text)
      → Covers (field_fault scope base v) (record { rule = 3; span = v.name.span })
  reserved base v p = search (on_left, tested)

  pub covered_struct : (tag : NameAt) (ds : List Declare) (g : Fault) → BrokenStruct scope tag ds g → Covers (struct_fault scope tag ds) g
  covered_struct tag ds g (by_struct_tag f b) = search (on_left, covered_tag scope tag g b)
  covered_struct tag ds g (m10_struct t e n) =
      let p : IsTrue (is_too_large (defined_struct scope tag.text ds)) = is_large (defined_struct scope tag.text ds) t e n in
      search (on_left, on_right, tested)
  covered_struct tag ds g (by_field_base d f i b) =
      search (on_left, on_right, in_fields d g ds i (on_left (base_fault scope d.base) _ g (covered_base scope d.base g b)))
  covered_struct tag ds g (m3_field d v i j p) =
      search (on_left, on_right, in_fields d g ds i (by_line d v g j (reserved (base_type scope d.base) v p)))
  covered_struct tag ds g (by_field_slot d v f i j b) =
      search (
        on_left,
        on_right,
        in_fields d g ds i (by_line d v g j (on_right _ _ g (covered_slot scope (base_type scope d.base) v.name.span v.dims g b))),
      )
  covered_struct tag ds g (m2_field at w) = search (on_right, covered_twice [] (field_names ds) at w)

  -- ---- sound

  module _ (tag : NameAt) (ds : List Declare) where
    sound_line : (d : Declare) → IsIn d ds → (vs : List Declarator) → ((v : Declarator) → IsIn v vs → IsIn v d.vars)
        → Gives (line_fault scope (base_type scope d.base) vs) (BrokenStruct scope tag ds)
    sound_line d i [] step = nothing
    sound_line d i (v ∷ vs) step =
        join (join (tells {P = BrokenStruct scope tag ds} (is_reserved v.name.text) 3 v.name.span (λ p. m3_field d v i (step v (this_one vs)) p))
        (record {
          holds = λ f g. by_field_slot d v f i (step v (this_one vs)) ((sound_slot scope (base_type scope d.base) v.name.span v.dims).holds f g);
        })) (sound_line d i vs (λ w j. step w (next_one v vs j)))

    sound_fields : (rest : List Declare) → ((d : Declare) → IsIn d rest → IsIn d ds) → Gives (fields_fault scope rest) (BrokenStruct scope tag ds)
    sound_fields [] step = nothing
    sound_fields (d ∷ rest) step =
        join (join (record { holds = λ f g. by_field_base d f (step d (this_one rest)) ((sound_base scope d.base).holds f g) })
        (sound_line d (step d (this_one rest)) d.vars (λ v j. j))) (sound_fields rest (λ e j. step e (next_one d rest j)))

    too_large : IsTrue (is_too_large (defined_struct scope tag.text ds)) → BrokenStruct scope tag ds (record { rule = 10; span = tag.span })
    too_large p = let x = large (defined_struct scope tag.text ds) p in m10_struct x.ctype x.is x.unsized

    pub sound_struct : Gives (struct_fault scope tag ds) (BrokenStruct scope tag ds)
    sound_struct =
        join (join (join (record { holds = λ f g. by_struct_tag f ((sound_tag scope tag).holds f g) })
        (tells {P = BrokenStruct scope tag ds} (is_too_large (defined_struct scope tag.text ds)) 10 tag.span too_large))
        (sound_fields ds (λ d i. i)))
        (sound_twice (BrokenStruct scope tag ds) [] (field_names ds) (λ y i s. absurd (cc)) (λ at w. m2_field at w))
