use Rattle.csub_machine.proofs.ways.way_by.Goals as goal

pub returns-in-Next-clause-some : goal.returns-in-Next-clause-some
returns-in-Next-clause-some c = rw c.in-Next.is c.requires.ways.onward.some

pub returns-in-Next-clause-none : goal.returns-in-Next-clause-none
returns-in-Next-clause-none c = rw c.in-Next.is c.requires.ways.onward.none

pub returns-in-True-clause-some : goal.returns-in-True-clause-some
returns-in-True-clause-some c = rw c.in-True.is c.requires.ways.if_true.some

pub returns-in-True-clause-none : goal.returns-in-True-clause-none
returns-in-True-clause-none c = rw c.in-True.is c.requires.ways.if_true.none

pub returns-in-False-clause-some : goal.returns-in-False-clause-some
returns-in-False-clause-some c = rw c.in-False.is c.requires.ways.if_false.some

pub returns-in-False-clause-none : goal.returns-in-False-clause-none
returns-in-False-clause-none c = rw c.in-False.is c.requires.ways.if_false.none
