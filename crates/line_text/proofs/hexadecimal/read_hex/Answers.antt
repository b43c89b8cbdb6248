use Rattle.std.proofs.Common.{◌∙◌, sym, inl, inr}
use Rattle.line_text.proofs.HexadecimalLemmas.{upper-not_encoded, refused-not_encoded, decoded_is}
use Rattle.line_text.proofs.hexadecimal.read_hex.Goals as goal

pub returns-then-has_upper_case : goal.returns-then-has_upper_case
returns-then-has_upper_case c = λ bytes h.
    upper-not_encoded c.args.text.now bytes (sym c.has_upper_case.ensures ∙ c.if-has_upper_case.true) h

pub returns-in-Ok : goal.returns-in-Ok
returns-in-Ok c =
    decoded_is c.args.text.now c.in-Ok.bytes.items (sym c.has_upper_case.ensures ∙ c.if-has_upper_case.false) c.in-Ok.ensures.ok

pub returns-in_default : goal.returns-in_default
returns-in_default c = λ bytes h.
    elim c.in-Err.ensures.err [
      | inl memory ↦ absurd (c.in_default.not-OutOfMemory memory)
      | inr refused ↦ refused-not_encoded c.args.text.now bytes c.in-Err.error refused h
    ]
