-- The laws of items.
use Rattle.std.proofs.Common.{List, [], ◌∷◌, IsTrue, inl, inr, ◌||◌}
use Rattle.csub_text.specs.declared.span.Span.{Span}
use Rattle.csub_tree.specs.Declarations.{Head}
use Rattle.csub_tree.specs.Statements.{Stmts}
use Rattle.csub_tree.specs.Units.{Item, Struct, Enum, Object, Prototype, Function}
use Rattle.csub_rules.specs.declared.fault.Fault.{Fault}
use Rattle.csub_rules.specs.Faults.{Covers}
use Rattle.csub_rules.specs.ExprSorts.{number_of}
use Rattle.csub_rules.specs.Labels.{stands_in}
use Rattle.csub_rules.specs.Bodies.{body_fault, BrokenBody}
use Rattle.csub_rules.proofs.LawsEarlier.{on_left, on_right, tested}
use Rattle.csub_rules.proofs.LawsSound.{Gives, nothing, join, tells}
use Rattle.csub_rules.proofs.LawsSlots.{one_of, in_first, in_second}
use Rattle.csub_rules.proofs.LawsBodies.{sound_body, least_body, complete_body}
use Rattle.csub_rules.specs.Files.{File, no_file}
use Rattle.csub_rules.specs.Items.{past_item, lacks_names, is_other_main, is_misdefined, in_function, item_fault, items_fault}
use Rattle.csub_rules.specs.BrokenItem.{BrokenItem, by_struct, by_enum, by_declaration, by_prototype, by_head, m19_twice, m19_unnamed}
use Rattle.csub_rules.specs.BrokenItem.{m19_main, by_body, ItemAt, this_item, next_item, BrokenPlaced, by_item}
use Rattle.csub_rules.proofs.LawsNames.{covers}
use Rattle.csub_rules.proofs.LawsObjects.{sound_declaration, covered_declaration}
use Rattle.csub_rules.proofs.LawsStructs.{sound_struct, covered_struct}
use Rattle.csub_rules.proofs.LawsEnums.{sound_enumeration, covered_enumeration}
use Rattle.csub_rules.proofs.LawsHeads.{sound_head, covered_head}

-- ---- least

misdefined : (file : File) (h : Head) (body : Stmts) (s : Span) → IsTrue (is_misdefined file h)
    → Covers (item_fault file (Function h body s)) (record { rule = 19; span = h.name.span })
misdefined file h body s p = search (on_left, on_right, tested)

covered_body : (file : File) (h : Head) (body : Stmts) (g : Fault) → BrokenBody (number_of h.result) (in_function file.scope h) body g
    → Covers (body_fault (number_of h.result) (in_function file.scope h) body) g
covered_body file h body g b =
    covers (body_fault (number_of h.result) (in_function file.scope h) body) g
    (λ e. complete_body (number_of h.result) (in_function file.scope h) body g e b)
    (λ f e. least_body (number_of h.result) (in_function file.scope h) body f g e b)

pub covered_item : (file : File) (i : Item) (g : Fault) → BrokenItem file i g → Covers (item_fault file i) g
covered_item file i g (by_struct tag ds f b) = covered_struct file.scope tag ds g b
covered_item file i g (by_enum tag cs f b) = covered_enumeration file.scope tag cs g b
covered_item file i g (by_declaration d f b) = covered_declaration file.scope d g b
covered_item file i g (by_prototype h f b) = covered_head file.scope h g b
covered_item file i g (by_head h body s f b) = search (on_left, covered_head file.scope h g b)
covered_item file i g (m19_twice h body s p) =
    misdefined file h body s (in_first (stands_in h.name.text file.defined) (lacks_names h.params || is_other_main h) p)
covered_item file i g (m19_unnamed h body s p) =
    misdefined file h body s
    (in_second (stands_in h.name.text file.defined) (lacks_names h.params || is_other_main h) (in_first (lacks_names h.params) (is_other_main h) p))
covered_item file i g (m19_main h body s p) =
    misdefined file h body s
    (in_second (stands_in h.name.text file.defined) (lacks_names h.params || is_other_main h) (in_second (lacks_names h.params) (is_other_main h) p))
covered_item file i g (by_body h body s f b) = search (on_right, covered_body file h body g b)

pub covered_items : (file : File) (items : List Item) (k : File) (i : Item) (g : Fault) → ItemAt file items k i → BrokenItem k i g
    → Covers (items_fault file items) g
covered_items file items k i g (this_item k' i' rest) b = search (on_left, covered_item file i g b)
covered_items file items k i g (next_item j k' h i' rest w) b = search (on_right, covered_items (past_item file h) rest k i g w b)

-- ---- sound

sound_misdefined : (file : File) (h : Head) (body : Stmts) (s : Span) → IsTrue (is_misdefined file h)
    → BrokenItem file (Function h body s) (record { rule = 19; span = h.name.span })
sound_misdefined file h body s p =
    elim (one_of (stands_in h.name.text file.defined) (lacks_names h.params || is_other_main h) p) [
      | inl q ↦ m19_twice h body s q
      | inr q ↦ elim (one_of (lacks_names h.params) (is_other_main h) q) [ inl r ↦ m19_unnamed h body s r | inr r ↦ m19_main h body s r ]
    ]

pub sound_item : (file : File) (i : Item) → Gives (item_fault file i) (BrokenItem file i)
sound_item file (Struct tag ds) = record { holds = λ f g. by_struct tag ds f ((sound_struct file.scope tag ds).holds f g) }
sound_item file (Enum tag cs) = record { holds = λ f g. by_enum tag cs f ((sound_enumeration file.scope tag cs).holds f g) }
sound_item file (Object d) = record { holds = λ f g. by_declaration d f ((sound_declaration file.scope d).holds f g) }
sound_item file (Prototype h) = record { holds = λ f g. by_prototype h f ((sound_head file.scope h).holds f g) }
sound_item file (Function h body s) =
    join (join (record { holds = λ f g. by_head h body s f ((sound_head file.scope h).holds f g) })
    (tells {P = BrokenItem file (Function h body s)} (is_misdefined file h) 19 h.name.span (sound_misdefined file h body s)))
    (record { holds = λ f g. by_body h body s f ((sound_body (number_of h.result) (in_function file.scope h) body).holds f g) })

pub sound_items : (all : List Item) (file : File) (items : List Item) → ((k : File) (i : Item) → ItemAt file items k i → ItemAt no_file all k i)
    → Gives (items_fault file items) (BrokenPlaced all)
sound_items all file [] step = nothing
sound_items all file (i ∷ rest) step =
    join (record { holds = λ f g. by_item file i f (step file i (this_item file i rest)) ((sound_item file i).holds f g) })
    (sound_items all (past_item file i) rest (λ k j w. step k j (next_item file k i j rest w)))
