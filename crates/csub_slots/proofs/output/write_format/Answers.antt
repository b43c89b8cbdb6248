use Rattle.std.proofs.Common.{◌≡◌, ◌∙◌, ◌-◌, ◌<◌, ℕ, ℤ, pos, ap, sym, length, w64, to_z, arith, rules}
use Rattle.std.proofs.lemmas.Int.{to_z_pos}
use Rattle.csub_semantics.specs.Formats.{text_of}
use Rattle.csub_semantics.specs.Memory.{put_bytes, value, then_do, Answer}
use Rattle.csub_slots.specs.States.{state_of}
use Rattle.csub_slots.specs.Acts.{FlatStore}
use Rattle.csub_slots.proofs.Texts.{bytes_written}
use Rattle.csub_slots.proofs.output.write_format.Goals as goal

pub overflow_sub-result : goal.overflow_sub-result
overflow_sub-result c =
    let text = text_of c.args.pieces.now c.args.values.now in
    let made : put_bytes text (state_of c.args.store.now) ≡ value tt (state_of c.write_pieces.new.store) = search rules in
    let written = bytes_written text (state_of c.args.store.now) (state_of c.write_pieces.new.store) made in
    let before : c.len-before.result ≡ length c.args.store.now.output.items = search rules in
    let after : c.len.result ≡ length c.write_pieces.new.store.output.items = search rules in
    omega arith

pub returns-clause-value : goal.returns-clause-value
returns-clause-value c =
    let text = text_of c.args.pieces.now c.args.values.now in
    let made : put_bytes text (state_of c.args.store.now) ≡ value tt (state_of c.write_pieces.new.store) = search rules in
    let written = bytes_written text (state_of c.args.store.now) (state_of c.write_pieces.new.store) made in
    let before : c.len-before.result ≡ length c.args.store.now.output.items = search rules in
    let after : c.len.result ≡ length c.write_pieces.new.store.output.items = search rules in
    let count : c.len.result - c.len-before.result ≡ length text = omega arith in
    let few : c.len.result - c.len-before.result < 9223372036854775808 = omega arith in
    let same : pos (length text) ≡ to_z w64 (c.len.result - c.len-before.result) = sym (to_z_pos w64 (c.len.result - c.len-before.result) few ∙ ap (λ (n : ℕ). pos n) count) in
    ap (λ (a : Answer (Unit {0}) FlatStore). then_do a (λ x u. value (pos (length text)) u)) made
    ∙ ap (λ (v : ℤ). let a : Answer ℤ FlatStore = value v (state_of c.write_pieces.new.store) in a) same
