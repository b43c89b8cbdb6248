use Rattle.std.proofs.Common.{refl}
use Rattle.test_history.proofs.NamesLemmas.{name_inserted}
use Rattle.test_history.proofs.reader.is_new.Goals as goal

pub returns : goal.returns
returns c = name_inserted (λ name. name.now) c.args.names.now.keys c.insert.new.self.keys c.args.name c.args.name.now _ c.in_ok-is_new.is_new refl refl c.in_ok-is_new.ensures.added c.in_ok-is_new.ensures.keys
