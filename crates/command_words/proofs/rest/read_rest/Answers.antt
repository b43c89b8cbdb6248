use Rattle.std.proofs.Common.{◌∙◌}
use Rattle.command_words.proofs.RestLemmas.{matches_are, refused_is}
use Rattle.command_words.proofs.rest.read_rest.Goals as goal

pub returns-in-Ok : goal.returns-in-Ok
returns-in-Ok c = matches_are c.args.words.now c.in-Ok.rest c.in-Ok.ensures.rows c.in-Ok.ensures.fault

pub returns : goal.returns
returns c = refused_is c.args.words.now c.in-Err.error c.in-Err.ensures.fault (λ e. c.in_default.not-OutOfMemory (c.kind.ensures ∙ e))
