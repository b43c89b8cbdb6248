use Rattle.std.proofs.Common.{◌≡◌, drop}
use Rattle.csub_lex.specs.declared.key.TheConstants.{KEYS}
use Rattle.csub_lex.specs.Finding.{key_among}
use Rattle.csub_lex.proofs.key.key_of.Given as goal

abbrev pub invariant-loop-key : goal.invariant-loop-key
invariant-loop-key l = key_among KEYS l.text ≡ key_among (drop l.key-index KEYS) l.text
