use Rattle.std.proofs.Common.{refl, Some, IfOk, rules}
use Rattle.dv_outside.specs.Held.{files_of}
use Rattle.dv_outside.specs.Outside.{IsFetched}
use Rattle.dv_outside.proofs.AnswerLemmas.{AreOf-and, Rose-and}
use Rattle.dv_outside.proofs.shelves.FailingShelfShelf.fetch.Goals as goal
use Rattle.dv_outside.proofs.shelves.FailingShelfShelf.fetch.Goals.{then-chosen, else-chosen}

pub invariant_of-self : goal.invariant_of-self
invariant_of-self c =
    let fetched : IfOk c.if-chosen.answer (λ bytes. IsFetched (Some (files_of c.args.self.now.files.items)) c.args.name.now c.args.most bytes.items) =
    elim c.if-chosen.branch [ then-chosen w ↦ search rules | else-chosen w ↦ search rules ] in
    record {
      agree = rw (c.and-self.ensures, c.as_bytes.ensures.value)
          (AreOf-and (files_of c.args.self.now.files.items) c.args.self.now.log.answers c.args.name.now c.args.most c.if-chosen.answer c.args.self.now.agree fetched);
    }

pub returns-clause-cause : goal.returns-clause-cause
returns-clause-cause c =
    Rose-and c.args.self.now.log.answers c.and-self.result.answers c.args.name.now c.args.most c.if-chosen.answer (rw (c.and-self.ensures, c.as_bytes.ensures.value) refl)
