-- The laws of sources as wholes.
use Rattle.std.proofs.Common.{◌≡◌, List, [], ◌∷◌, Option, Some, None, IsTrue, not}
use Rattle.std.specs.Option.{option_or}
use Rattle.csub_tree.specs.Declarations.{Head}
use Rattle.csub_tree.specs.Units.{Item, Struct, Enum, Object, Prototype, Function, Source}
use Rattle.csub_rules.specs.declared.fault.Fault.{Fault}
use Rattle.csub_rules.specs.Faults.{Covers, IsFirst}
use Rattle.csub_rules.specs.Labels.{stands_in}
use Rattle.csub_rules.proofs.LawsEarlier.{on_left, on_right, tested}
use Rattle.csub_rules.proofs.LawsSound.{Gives, nothing, join, tells}
use Rattle.csub_rules.specs.Files.{no_file}
use Rattle.csub_objects.specs.Types.{main_name}
use Rattle.csub_rules.specs.Units.{undefined_fault, undefineds_fault, all_defined, placed_fault, no_place, main_fault, unit_fault}
use Rattle.csub_rules.specs.BrokenObject.{IsIn, this_one, next_one}
use Rattle.csub_rules.specs.BrokenItem.{BrokenPlaced, by_item, m19_undefined, BrokenUnit, placed, m19_missing}
use Rattle.csub_rules.proofs.LawsItems.{covered_items, sound_items}

-- ---- least

undefined : (items : List Item) (h : Head) (rest : List Item) → IsIn (Prototype h) rest → IsTrue (not (stands_in h.name.text (all_defined items)))
    → Covers (undefineds_fault (all_defined items) rest) (record { rule = 19; span = h.name.span })
undefined items h rest (this_one r) p = search (on_left, tested)
undefined items h rest (next_one i r w) p = search (on_right, undefined items h r w p)

pub covered_placed : (items : List Item) (g : Fault) → BrokenPlaced items g → Covers (placed_fault items) g
covered_placed items g (by_item k i f w b) = search (on_left, covered_items no_file items k i g w b)
covered_placed items g (m19_undefined h w p) = search (on_right, undefined items h items w p)

-- ---- sound

sound_undefined : (items : List Item) (i : Item) → IsIn i items → Gives (undefined_fault (all_defined items) i) (BrokenPlaced items)
sound_undefined items (Struct tag ds) w = nothing
sound_undefined items (Enum tag cs) w = nothing
sound_undefined items (Object d) w = nothing
sound_undefined items (Prototype h) w =
    tells {P = BrokenPlaced items} (not (stands_in h.name.text (all_defined items))) 19 h.name.span (λ p. m19_undefined h w p)
sound_undefined items (Function h body s) w = nothing

sound_undefineds : (items rest : List Item) → ((i : Item) → IsIn i rest → IsIn i items)
    → Gives (undefineds_fault (all_defined items) rest) (BrokenPlaced items)
sound_undefineds items [] step = nothing
sound_undefineds items (i ∷ rest) step =
    join (sound_undefined items i (step i (this_one rest))) (sound_undefineds items rest (λ j w. step j (next_one i rest w)))

sound_placed : (items : List Item) → Gives (placed_fault items) (BrokenPlaced items)
sound_placed items = join (sound_items items no_file items (λ k i w. w)) (sound_undefineds items items (λ i w. w))

-- ---- with what is told last

sound_last : (items : List Item) (o : Option Fault) → Gives o (BrokenPlaced items) → (f : Fault) → option_or o (main_fault items) ≡ Some f → BrokenUnit items f
sound_last items None p f h =
    (tells {P = BrokenUnit items} (not (stands_in main_name (all_defined items))) 19 no_place (λ q. m19_missing q)).holds f h
sound_last items (Some g) p f h = placed f (p.holds f h)

pub sound_unit : (u : Source) (f : Fault) → unit_fault u ≡ Some f → BrokenUnit u.items f
sound_unit u f h = sound_last u.items (placed_fault u.items) (sound_placed u.items) f h

least_last : (items : List Item) (o last : Option Fault) (f g : Fault) → Gives o (BrokenPlaced items) → Covers o g → option_or o last ≡ Some f
    → BrokenPlaced items f × IsFirst f g
least_last items None last f g p c h = absurd c
least_last items (Some k) last f g p c h = let same : k ≡ f = cc in (p.holds f h, rw same at c)

pub least_unit : (u : Source) (f g : Fault) → unit_fault u ≡ Some f → BrokenPlaced u.items g → BrokenPlaced u.items f × IsFirst f g
least_unit u f g h b =
    least_last u.items (placed_fault u.items) (main_fault u.items) f g (sound_placed u.items) (covered_placed u.items g b) h

no_place_last : (o last : Option Fault) (g : Fault) → option_or o last ≡ None → Covers o g → ⊥
no_place_last None last g h c = c
no_place_last (Some k) last g h c = cc

nothing_last : (o last : Option Fault) (g : Fault) → option_or o last ≡ None → Covers last g → ⊥
nothing_last None last g h c = rw h at c
nothing_last (Some k) last g h c = cc

pub complete_unit : (u : Source) (g : Fault) → unit_fault u ≡ None → BrokenUnit u.items g → ⊥
complete_unit u g h (placed f b) =
    no_place_last (placed_fault u.items) (main_fault u.items) g h (covered_placed u.items g b)
complete_unit u g h (m19_missing p) =
    nothing_last (placed_fault u.items) (main_fault u.items) g h
    (tested (not (stands_in main_name (all_defined u.items))) 19 no_place p)
