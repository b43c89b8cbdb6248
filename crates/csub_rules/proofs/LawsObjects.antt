-- The laws of objects of file scope.
use Rattle.std.proofs.Common.{◌≡◌, true, List, [], ◌∷◌, Option, Some, None, refl}
use Rattle.csub_tree.specs.Declarations.{Init, Declarator, Declare}
use Rattle.csub_objects.specs.Types.{TypeTree}
use Rattle.csub_scopes.specs.Scopes.{Scope}
use Rattle.csub_rules.specs.declared.fault.Fault.{Fault}
use Rattle.csub_rules.specs.Faults.{Covers}
use Rattle.csub_rules.specs.Declarators.{base_type, object_type}
use Rattle.csub_rules.specs.Initialisers.{init_fault}
use Rattle.csub_rules.proofs.LawsEarlier.{on_left, on_right}
use Rattle.csub_rules.proofs.LawsSound.{Gives, nothing, join}
use Rattle.csub_rules.proofs.LawsSlots.{sound_base, covered_base, sound_slot, covered_slot}
use Rattle.csub_rules.proofs.LawsInits.{no_part, sound_init, covered_init}
use Rattle.csub_rules.specs.Objects.{past_object, initial_fault, object_fault, objects_fault, declaration_fault}
use Rattle.csub_rules.specs.BrokenObject.{ObjectAt, this_object, next_object, ObjectBreaks, by_object_name, by_object_slot, by_object_init}
use Rattle.csub_rules.specs.BrokenObject.{BrokenDeclaration, by_object_base, by_object}
use Rattle.csub_rules.proofs.LawsNames.{sound_name, covered_name}

-- ---- least

of_init : (scope : Scope) (o : Option TypeTree) (i : Option Init) (t : TypeTree) (x : Init) (f : Fault) → o ≡ Some t → i ≡ Some x
    → Covers (init_fault scope true (Some t) x) f → Covers (initial_fault scope o i) f
of_init scope o i t x f p q c = rw (p, q) c

own : (base : Option TypeTree) (s : Scope) (d : Declarator) (f : Fault) → ObjectBreaks base s d f → Covers (object_fault s base d) f
own base s d f (by_object_name g b) = search (on_left, covered_name s d.name f b)
own base s d f (by_object_slot g b) = search (on_left, on_right, covered_slot s base d.name.span d.dims f b)
own base s d f (by_object_init t x g p q b) =
    search (
      on_right,
      of_init (past_object s base d) (object_type s base d.dims) d.init t x f p q (covered_init (past_object s base d) true t x f b),
    )

among : (base : Option TypeTree) (s : Scope) (ds : List Declarator) (k : Scope) (d : Declarator) (f : Fault) → ObjectAt base s ds k d
    → ObjectBreaks base k d f → Covers (objects_fault s base ds) f
among base s ds k d f (this_object s' d' rest) b = search (on_left, own base s d f b)
among base s ds k d f (next_object s' k' c d' rest w) b = search (on_right, among base (past_object s base c) rest k d f w b)

pub covered_declaration : (s : Scope) (d : Declare) (f : Fault) → BrokenDeclaration s d f → Covers (declaration_fault s d) f
covered_declaration s d f (by_object_base g b) = search (on_left, covered_base s d.base f b)
covered_declaration s d f (by_object k v g w b) = search (on_right, among (base_type s d.base) s d.vars k v f w b)

-- ---- sound

of_value : (base : Option TypeTree) (s : Scope) (d : Declarator) (o : Option TypeTree) (i : Option Init) → object_type s base d.dims ≡ o
    → d.init ≡ i → Gives (initial_fault (past_object s base d) o i) (ObjectBreaks base s d)
of_value base s d o None p q = nothing
of_value base s d None (Some x) p q = record {
  holds = λ f g. let n : init_fault (past_object s base d) true None x ≡ None = no_part (past_object s base d) true x in absurd (cc);
}
of_value base s d (Some t) (Some x) p q =
    record { holds = λ f g. by_object_init t x f p q ((sound_init (past_object s base d) true t x).holds f g) }

sound_object : (base : Option TypeTree) (s : Scope) (d : Declarator) → Gives (object_fault s base d) (ObjectBreaks base s d)
sound_object base s d =
    join (join (record { holds = λ f g. by_object_name f ((sound_name s d.name).holds f g) })
    (record { holds = λ f g. by_object_slot f ((sound_slot s base d.name.span d.dims).holds f g) }))
    (of_value base s d (object_type s base d.dims) d.init refl refl)

sound_objects : (top : Scope) (decl : Declare) (s : Scope) (ds : List Declarator)
    → ((k : Scope) (d : Declarator) → ObjectAt (base_type top decl.base) s ds k d → ObjectAt (base_type top decl.base) top decl.vars k d)
    → Gives (objects_fault s (base_type top decl.base) ds) (BrokenDeclaration top decl)
sound_objects top decl s [] step = nothing
sound_objects top decl s (d ∷ ds) step =
    let base : Option TypeTree = base_type top decl.base in
    join (record { holds = λ f g. by_object s d f (step s d (this_object s d ds)) ((sound_object base s d).holds f g) })
    (sound_objects top decl (past_object s base d) ds (λ k e w. step k e (next_object s k d e ds w)))

pub sound_declaration : (s : Scope) (d : Declare) → Gives (declaration_fault s d) (BrokenDeclaration s d)
sound_declaration s d =
    join (record { holds = λ f g. by_object_base f ((sound_base s d.base).holds f g) }) (sound_objects s d s d.vars (λ k e w. w))
