use Rattle.std.proofs.Common.{[], ◌∷◌, refl}
use Rattle.label_code.proofs.WriteLemmas.{next_written}
use Rattle.label_code.proofs.code.push_name.Goals as goal

pub loop-byte-preserved : goal.loop-byte-preserved
loop-byte-preserved c =
    next_written (λ bytes. bytes) (λ byte. byte ∷ []) (λ x rest. refl) c.args.name.now c.loop-byte.byte-index c.from.result 0 c.loop-byte.out.items c.push-in-loop-byte.new.self.items _
    c.loop-byte-test.true c.from.ensures c.in_ok-push-2.ensures.items c.loop-byte.invariant
