-- The acts of two valid programs keep that their stores agree on what is shared.
use Rattle.std.proofs.Common.{◌≡◌, ℕ, ℤ, List, Option, Some, None, refl, ap₂, IsTrue}
use Rattle.std.specs.List.{slice_get}
use Rattle.std.specs.Option.{option_map, option_and_then}
use Rattle.std.specs.Ordering.{int_eq}
use Rattle.std.specs.Cmp.Lexicographic.{pointwise}
use Rattle.std.proofs.lemmas.Bool.{and_parts}
use Rattle.std.specs.Cmp.Rules.{signed_items}
use Rattle.csub_objects.specs.Types.{type_eq}
use Rattle.csub_semantics.specs.Types.{GlobalTree}
use Rattle.csub_semantics.specs.Syntax.{ProgramTree}
use Rattle.csub_semantics.specs.Flows.{Flow, flow_of}
use Rattle.csub_objects.specs.Paths.{Inner, cell_number}
use Rattle.csub_semantics.specs.Cells.{Root, global_root, local_root, temp_root, Cell, number, reference}
use Rattle.csub_semantics.specs.Runs.{initial_content, initial_at}
use Rattle.csub_validity.specs.Valid.{IsValid}
use Rattle.program_laws.proofs.LawsFlows.{is_flow}
use Rattle.program_laws.proofs.LawsGlobals.{same_type}
use Rattle.call_walk.specs.Shared.{declared_alike, shared, Agree}
use Rattle.call_walk.proofs.Agreeing.{agree_put}
use Rattle.call_walk.proofs.Acting.{same_act}
use Rattle.call_walk.proofs.Covering.{label_lists, label_covers}
use Rattle.call_walk.proofs.Turns.{Respects}

-- globals that are declared alike have the same contents at first
contents_alike : (o o' : Option GlobalTree) (path : List Inner) → IsTrue (declared_alike o o') → initial_content o path ≡ initial_content o' path
contents_alike None o' path e = cc
contents_alike (Some g) None path e = cc
contents_alike (Some g) (Some h) path e =
    let both = and_parts (type_eq g.ctype h.ctype) (pointwise int_eq g.initial h.initial) e in
    ap₂ (λ t vs. option_map number (option_and_then (slice_get vs) (cell_number t path))) (same_type g.ctype h.ctype both.0) ((signed_items g.initial h.initial).0 both.1)

is_number : (o : Option ℤ) (d : Cell) (n : ℕ) → option_map number o ≡ Some (reference d n) → ⊥
is_number None d n e = cc
is_number (Some v) d n e = cc

no_reference : (o : Option GlobalTree) (path : List Inner) (d : Cell) (n : ℕ) → initial_content o path ≡ Some (reference d n) → ⊥
no_reference None path d n e = cc
no_reference (Some g) path d n e = is_number (option_and_then (slice_get g.initial) (cell_number g.ctype path)) d n e

-- no cell holds a reference at first
none_at_first : (P : Flow) (r : Root) (path : List Inner) (d : Cell) (n : ℕ) → initial_at P r path ≡ Some (reference d n) → ⊥
none_at_first P (global_root g) path d n e = no_reference (P.global g) path d n e
none_at_first P (local_root h a m) path d n e = cc
none_at_first P (temp_root h m) path d n e = cc

-- shared cells hold the same at first
same_at_first : (P P' : Flow) (r : Root) (path : List Inner) → IsTrue (shared P P' r) → initial_at P r path ≡ initial_at P' r path
same_at_first P P' (global_root g) path e = contents_alike (P.global g) (P'.global g) path e
same_at_first P P' (local_root h a m) path e = refl
same_at_first P P' (temp_root h m) path e = refl

module _ (P P' : ProgramTree) (valid : IsValid P) (valid' : IsValid P') where
  abbrev F : Flow
  F = flow_of P

  abbrev F' : Flow
  F' = flow_of P'

  pub respects : Respects F F' (Agree (shared F F'))
  respects = record {
    acts = λ f p p' l n r s s' e e' agree. same_act (shared F F') (record { objects = λ h a m. refl; temporaries = λ h m. refl }) l.tree (label_covers F F' l ((is_flow P valid).named f p l e) ((is_flow P' valid').named f p' l e') (label_lists P valid f p l e)) n r s s' agree;
    puts = λ h t r s s' agree. agree_put (shared F F') h t r s s' agree;
    opens = λ input. record {
      cells = λ c e. same_at_first F F' c.root c.path e;
      refers = λ c d n e. absurd (none_at_first F c.root c.path d n e);
      refers' = λ c d n e. absurd (none_at_first F' c.root c.path d n e);
      input = refl;
      output = refl;
    };
    outputs = λ s s' agree. agree.output;
  }
