use Rattle.std.proofs.Common.{◌≡◌, ◌+◌, pos, drop, get_or, Result, Err, true, refl, sym, subst, w64, to_z, of_z, rules}
use Rattle.csub_types.specs.declared.trap.Trap.{Trap}
use Rattle.csub_semantics.specs.declared.expression.Piece.TheVariants.{Byte}
use Rattle.csub_semantics.specs.Formats.{shown, text_of, is_conversion}
use Rattle.csub_semantics.specs.Memory.{put_bytes, value, trapped}
use Rattle.csub_slots.specs.States.{state_of, Gives, nothing}
use Rattle.csub_slots.proofs.Texts.{value_text, piece_more, piece_stops}
use Rattle.csub_slots.proofs.output.write_pieces.Goals as goal

pub returns-in_err-write_piece-2-clause-value : goal.returns-in_err-write_piece-2-clause-value
returns-in_err-write_piece-2-clause-value c =
    let l = c.loop-piece in
    let p = get_or c.args.pieces.now l.piece-index (Byte 0) in
    let v = to_z w64 (of_z w64 (get_or l.rest.now 0 (pos 0))) in
    let takes : is_conversion p ≡ true = search rules in
    let first : v ≡ get_or l.rest.now 0 (pos 0) = search rules in
    let text = value_text p (drop (l.piece-index + 1) c.args.pieces.now) l.rest.now v _ takes c.in-len1-up.len_at_least first refl in
    let trap = c.in_err-write_piece-2.field-0.0 in
    let stops : put_bytes (shown p v) (state_of l.store) ≡ trapped trap (state_of c.write_piece-in-loop-piece.new.store) = search rules in
    let err : c.from_residual-in_err-write_piece-2.result ≡ Err trap = search rules in
    let whole = put_bytes (text_of c.args.pieces.now c.args.values.now) (state_of c.args.store.now) in
    subst (λ (r : Result (Unit {0}) Trap). Gives nothing whole r (state_of c.write_piece-in-loop-piece.new.store)) (sym err)
    (piece_stops c.args.pieces.now l.piece-index l.rest.now (state_of l.store) whole l.invariant.written p c.loop-piece-test.true refl (shown p v) _ trap (state_of c.write_piece-in-loop-piece.new.store) text stops)

pub loop-piece-preserved : goal.loop-piece-preserved
loop-piece-preserved c =
    let l = c.loop-piece in
    let p = get_or c.args.pieces.now l.piece-index (Byte 0) in
    let v = to_z w64 (of_z w64 (get_or l.rest.now 0 (pos 0))) in
    let takes : is_conversion p ≡ true = search rules in
    let first : v ≡ get_or l.rest.now 0 (pos 0) = search rules in
    let text = value_text p (drop (l.piece-index + 1) c.args.pieces.now) l.rest.now v _ takes c.in-len1-up.len_at_least first refl in
    let made : put_bytes (shown p v) (state_of l.store) ≡ value tt (state_of c.write_piece-in-loop-piece.new.store) = search rules in
    record {
      written = piece_more c.args.pieces.now l.piece-index l.rest.now (state_of l.store) _ l.invariant.written p c.loop-piece-test.true refl (shown p v) _ (state_of c.write_piece-in-loop-piece.new.store) text made;
      kept = search rules;
    }
