use Rattle.std.proofs.Common.{refl}
use Rattle.line_text.specs.Lines.{text_of_lines}
use Rattle.dv_gen.specs.Pairs.{call_line}
use Rattle.dv_gen.proofs.TextLemmas.{last_piece, line_pushed, lines_behind, main_pushed}
use Rattle.dv_gen.proofs.source.push_main.Goals as goal

pub loop-place-preserved : goal.loop-place-preserved
loop-place-preserved c = line_pushed call_line c.loop-place.place _ _ _ _ c.loop-place.invariant c.in_ok-push_call.ensures refl

pub returns : goal.returns
returns c =
    last_piece c.extend_from_slice-2.result c.loop-place.text.items c.extend_from_slice-2.new.self.items (text_of_lines lines_behind) _ c.extend_from_slice-2.ensures.items
    (main_pushed c.args.count c.loop-place.place c.args.text.now.items _ _ c.loop-place.auto.place-end c.loop-place-test.false c.in_ok-extend_from_slice.ensures.items c.loop-place.invariant)
