use Rattle.klp_watch.proofs.DoneLemmas.{called_done, returned_done}
use Rattle.klp_watch.proofs.watching.watch_item.Goals as goal

pub returns-in-Event-clause-reported : goal.returns-in-Event-clause-reported
returns-in-Event-clause-reported g c = rw c.in-Event.is c.happen.ensures.reported

pub returns-in-Ok-clause-done : goal.returns-in-Ok-clause-done
returns-in-Ok-clause-done g c =
    rw c.in-Call.is (λ stacks are. called_done c.args.manager.now stacks c.call.new.inside.rows c.in-Call.task c.in-Call.site (c.in-Ok.ensures.called stacks are))

pub returns-in-Ok-come_back-clause-done : goal.returns-in-Ok-come_back-clause-done
returns-in-Ok-come_back-clause-done g c =
    rw c.in-Return.is (λ stacks are. returned_done c.args.manager.now stacks c.come_back.new.inside.rows c.in-Return.task (c.in-Ok-come_back.ensures.returned stacks are))
