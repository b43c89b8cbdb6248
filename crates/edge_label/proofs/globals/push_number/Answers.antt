use Rattle.std.proofs.Common.{subst, sym}
use Rattle.csub_semantics.specs.Globals.{global_of}
use Rattle.edge_label.specs.Indices.{Agree}
use Rattle.edge_label.specs.Tables.{IsGlobalNumber}
use Rattle.edge_label.proofs.IndexLemmas.{found_number}
use Rattle.edge_label.proofs.globals.push_number.Goals as goal

pub returns-in_ok-push-in-Some : goal.returns-in_ok-push-in-Some
returns-in_ok-push-in-Some c = λ tables globals index.
    let here = subst (λ o. Agree (IsGlobalNumber tables) o (global_of globals c.args.name.now)) (sym c.in-Some.ensures.value) (index c.args.name.now) in
    found_number tables globals c.args.name.now c.in-Some.number.now c.args.code.now.items c.push.new.self.items here c.in_ok-push-in-Some.ensures.items
