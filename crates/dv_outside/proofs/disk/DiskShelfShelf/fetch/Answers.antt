use Rattle.std.proofs.Common.{refl}
use Rattle.dv_outside.proofs.AnswerLemmas.{Rose-and}
use Rattle.dv_outside.proofs.disk.DiskShelfShelf.fetch.Goals as goal

pub returns-clause-cause : goal.returns-clause-cause
returns-clause-cause g c =
    Rose-and c.args.self.now.log.answers c.and-self.result.answers c.args.name.now c.args.most c.map_err-answer.result (rw (c.and-self.ensures, c.as_bytes.ensures.value) refl)
