use Rattle.std.proofs.Common.{rules}
use Rattle.csub_flat.proofs.Lookups.{put_at}
use Rattle.csub_flat.proofs.frame.put_slot.Goals as goal

pub returns : goal.returns
returns c = λ a n.
    put_at c.args.slots.now _ _ c.new.result c.or_insert-named.result.now c.insert.new.self c.args.name.now c.in_ok-name.name c.args.number c.args.slot
    c.in_ok-name.ensures c.in_ok-slots.ensures.value c.new.ensures.empty c.or_insert-named.ensures.value c.in_ok-insert.ensures.updates.0 (λ q. search rules) a n
