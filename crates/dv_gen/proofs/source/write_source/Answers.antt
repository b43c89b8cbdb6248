use Rattle.std.proofs.Common.{length}
use Rattle.dv_gen.proofs.TextLemmas.{whole_source}
use Rattle.dv_gen.proofs.source.write_source.Goals as goal

pub returns : goal.returns
returns c seed are =
    whole_source seed (length c.args.functions.now) c.args.changed _ _ _ c.new-text.ensures.items (c.in_ok-push_functions.ensures seed are) c.in_ok-push_main.ensures
