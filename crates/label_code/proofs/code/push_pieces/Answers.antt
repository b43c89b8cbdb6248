use Rattle.std.proofs.Common.{◌∙◌, ◌++◌, ◌∷◌, [], ap, refl}
use Rattle.std.specs.List.{flat_map}
use Rattle.label_code.specs.Codes.{piece_code}
use Rattle.label_code.proofs.WriteLemmas.{next_written}
use Rattle.label_code.proofs.code.push_pieces.Goals as goal

pub loop-piece-preserved : goal.loop-piece-preserved
loop-piece-preserved c =
    let old = c.loop-piece.out.items in
    next_written (flat_map piece_code) piece_code (λ x rest. refl) c.args.pieces.now c.loop-piece.piece-index _ _ old c.push-in-loop-piece.new.self.items _
    c.loop-piece-test.true refl (c.in_ok-push-2.ensures.items ∙ ap (λ n. old ++ n ∷ []) c.piece_number.ensures) c.loop-piece.invariant
