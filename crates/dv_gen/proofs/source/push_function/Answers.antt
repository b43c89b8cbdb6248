use Rattle.std.proofs.Common.{[], ◌∷◌, ◌++◌, codes}
use Rattle.dv_gen.proofs.TextLemmas.{last_piece, function_pushed}
use Rattle.dv_gen.proofs.source.push_function.Goals as goal

pub returns : goal.returns
returns c =
    last_piece c.extend_from_slice-5.result c.push_decimal-4.new.out.items c.extend_from_slice-5.new.self.items (codes "; } return x; }" ++ 10 ∷ []) _ c.extend_from_slice-5.ensures.items
    (function_pushed c.args.place c.args.function.now.bound c.args.function.now.taken c.args.added _ _ _ _ _ _ _ _ _ _ _
    c.in_ok-extend_from_slice.ensures.items c.in_ok-push_decimal.ensures.ok c.in_ok-extend_from_slice-2.ensures.items c.in_ok-push_decimal-2.ensures.ok
    c.in_ok-extend_from_slice-3.ensures.items c.in_ok-push_decimal-3.ensures.ok c.in_ok-extend_from_slice-4.ensures.items c.in_ok-push_decimal-4.ensures.ok
    c.from.ensures c.from-2.ensures)
