use Rattle.std.proofs.Common.{◌≡◌, ◌∙◌, ℕ, ℤ, refl, ap, sym, slice_set, w64, to_z, of_z, rules}
use Rattle.csub_types.specs.declared.kind.IntKind.{IntKind}
use Rattle.csub_types.specs.Kinds.{convert}
use Rattle.csub_semantics.specs.Memory.{Answer, value}
use Rattle.csub_semantics.specs.Evaluation as the
use Rattle.csub_slots.specs.Layout.{holding}
use Rattle.csub_slots.specs.Memory.{FlatSpot, spots}
use Rattle.csub_slots.specs.Seen.{spot_seen}
use Rattle.csub_slots.specs.Acts.{FlatStore}
use Rattle.csub_slots.specs.States.{state_of}
use Rattle.csub_slots.proofs.eval.put.Goals as goal

stored_at : (l : FlatSpot) (number : ℤ) (s t : FlatStore) (k : IntKind) (at : ℕ) (z : ℤ) → k ≡ l.form.kind → at ≡ l.slot → z ≡ convert k number → t ≡ record s { cells = slice_set s.cells at (holding z) }
    → the.store spots l number s ≡ value z t
stored_at l number s t k at z kind slot number_is state =
    let converted : convert l.form.kind number ≡ z = ap (λ (j : IntKind). convert j number) (sym kind) ∙ sym number_is in
    ap (λ (v : ℤ). let a : Answer ℤ FlatStore = value v (record s { cells = slice_set s.cells l.slot (holding v) }) in a) converted
    ∙ ap (λ (j : ℕ). let a : Answer ℤ FlatStore = value z (record s { cells = slice_set s.cells j (holding z) }) in a) (sym slot)
    ∙ ap (λ (u : FlatStore). let a : Answer ℤ FlatStore = value z u in a) (sym state)

pub returns-clause-value : goal.returns-clause-value
returns-clause-value c =
    let z = to_z w64 (of_z w64 c.convert-stored.result) in
    let number : z ≡ convert c.args.spot.form.kind c.args.number = search rules in
    stored_at (spot_seen c.args.spot) c.args.number (state_of c.args.store.now) _ c.args.spot.form.kind c.args.spot.slot z refl refl number c.put_at.ensures.value
