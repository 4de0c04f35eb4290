use Rattle.std.proofs.Common.{ap, sym, ◌∙◌}
use Rattle.std.specs.Result.{is_err, result_err}
use Rattle.klp_watch.proofs.DoneLemmas.{refused_done, accepted_done}
use Rattle.klp_watch.proofs.event.happen.Goals as goal

pub returns-in-Err-clause-done : goal.returns-in-Err-clause-done
returns-in-Err-clause-done g c = λ stacks are.
    refused_done c.args.manager.now c.apply_without_reply.new.self stacks c.args.event.now c.args.inside.now.rows c.apply_without_reply.result c.apply_without_reply.ensures.taken
    (ap is_err c.in-Err.is) are

pub returns-in-Err-clause-refused : goal.returns-in-Err-clause-refused
returns-in-Err-clause-refused g c = sym (ap result_err (sym c.apply_without_reply.ensures.taken.answered ∙ c.in-Err.is))

pub returns-clause-done : goal.returns-clause-done
returns-clause-done g c = λ stacks are.
    accepted_done c.args.manager.now c.apply_without_reply.new.self stacks c.args.event.now c.begin.new.inside.rows c.apply_without_reply.result c.apply_without_reply.ensures.taken
    (ap is_err c.in_default.is) c.apply_without_reply.ensures.setting (c.in_default-against.ensures.none stacks are) (c.begin.ensures stacks are)

pub returns-clause-refused : goal.returns-clause-refused
returns-clause-refused g c = sym (ap result_err (sym c.apply_without_reply.ensures.taken.answered ∙ c.in_default.is))
