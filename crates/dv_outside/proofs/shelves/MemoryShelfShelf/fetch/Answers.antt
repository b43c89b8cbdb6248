use Rattle.std.proofs.Common.{refl, Some, IfOk, rules}
use Rattle.dv_outside.specs.Held.{files_of}
use Rattle.dv_outside.specs.Outside.{IsFetched}
use Rattle.dv_outside.proofs.AnswerLemmas.{AreOf-and, Rose-and}
use Rattle.dv_outside.proofs.shelves.MemoryShelfShelf.fetch.Goals as goal

pub invariant_of-self : goal.invariant_of-self
invariant_of-self c =
    let fetched : IfOk c.beginning-answer.result (λ bytes. IsFetched (Some (files_of c.args.self.now.files.items)) c.args.name.now c.args.most bytes.items) = search rules in
    record {
      agree = rw (c.and-self.ensures, c.as_bytes.ensures.value)
          (AreOf-and (files_of c.args.self.now.files.items) c.args.self.now.log.answers c.args.name.now c.args.most c.beginning-answer.result c.args.self.now.agree fetched);
    }

pub returns-clause-cause : goal.returns-clause-cause
returns-clause-cause c =
    Rose-and c.args.self.now.log.answers c.and-self.result.answers c.args.name.now c.args.most c.beginning-answer.result (rw (c.and-self.ensures, c.as_bytes.ensures.value) refl)
