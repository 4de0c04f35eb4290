use Rattle.klp_watch.proofs.ComparedLemmas.{premise_reported}
use Rattle.klp_watch.proofs.comparing.compare_item.Goals as goal

pub returns-in-Err-clause-reported : goal.returns-in-Err-clause-reported
returns-in-Err-clause-reported g c = λ stacks are.
    rw c.in-Seen.is (premise_reported c.args.manager.now c.watch_item.new.manager stacks c.in-Seen.item c.in-Err.cause (c.in-Err.ensures.reported stacks are))

pub returns-in-Err-take_answered-clause-reported : goal.returns-in-Err-take_answered-clause-reported
returns-in-Err-take_answered-clause-reported g c = rw c.in-Answered.is c.in-Err-take_answered.ensures.reported
