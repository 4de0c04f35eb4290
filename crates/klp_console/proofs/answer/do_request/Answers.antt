use Rattle.std.proofs.Common.{◌≡◌, rules, sym, ap, ◌∙◌}
use Rattle.klp_console_commands.specs.Asked.{asked_with}
use Rattle.klp_console.specs.Outcomes.{is_refusal, other_outcome}
use Rattle.klp_console.proofs.OutcomeLemmas.{other_refused, asks_none, none_outcome}
use Rattle.klp_console.proofs.answer.do_request.Goals as goal

pub returns-in_default-clause-said : goal.returns-in_default-clause-said
returns-in_default-clause-said g c =
    let refused : is_refusal c.other_outcome.result ≡ c.done.result =
    ap is_refusal (c.other_outcome.ensures c.args.event.now) ∙ other_refused (asked_with c.args.asked.now c.args.event.now) c.done.result
    in
    rw refused c.done.ensures

pub returns-in_default-clause-outcome : goal.returns-in_default-clause-outcome
returns-in_default-clause-outcome g c =
    let request = asked_with c.args.asked.now c.args.event.now in
    let sent = c.other_outcome.ensures c.args.event.now in
    let refused : is_refusal c.other_outcome.result ≡ c.done.result = ap is_refusal sent ∙ other_refused request c.done.result in
    none_outcome c.args.manager.now c.done.new.manager request c.other_outcome.result
    (asks_none c.args.asked.now c.args.event.now (search rules))
    (sent ∙ ap (other_outcome request) (sym refused))
