use Rattle.std.proofs.Common.{◌∙◌, sym}
use Rattle.line_text.proofs.HexadecimalLemmas.{upper-not_encoded, unsized-not_encoded, sized_is}
use Rattle.line_text.proofs.hexadecimal.read_digest.Goals as goal

pub returns-then-has_upper_case : goal.returns-then-has_upper_case
returns-then-has_upper_case c = λ digest size bytes.
    upper-not_encoded c.args.text.now digest (sym c.has_upper_case.ensures ∙ c.if-has_upper_case.true) bytes

pub returns-in_err-ok : goal.returns-in_err-ok
returns-in_err-ok c =
    let none = sym c.ok.ensures.value ∙ c.in_err-ok.was in
    rw c.from_residual.ensures (λ digest size bytes. unsized-not_encoded c.decode_to_slice.result c.decode_to_slice.new.out c.args.text.now digest 32 c.decode_to_slice.ensures.value none size bytes)

pub returns : goal.returns
returns c =
    let some = sym c.ok.ensures.value ∙ c.in_ok-ok.was in
    let lower = sym c.has_upper_case.ensures ∙ c.if-has_upper_case.false in
    sized_is c.decode_to_slice.result c.decode_to_slice.new.out c.args.text.now 32 c.decode_to_slice.ensures.value some lower
