use Rattle.std.proofs.Common.{◌≡◌, subst, rules}
use Rattle.klp_console_commands.specs.Asked.{asked_with}
use Rattle.klp_console_commands.specs.Lines.{request_of}
use Rattle.klp_console.specs.Answered.{Answer, IsAnswered, IsDoneIf, names_in}
use Rattle.klp_console.specs.Outcomes.{is_refusal, IsOutcome}
use Rattle.klp_console.proofs.answer.take_line.Goals as goal

pub returns-clause-said : goal.returns-clause-said
returns-clause-said g c =
    let is_asked : asked_with c.read_request-asked.result c.read_request-asked.new.event ≡ request_of (names_in c.args.manager.now) c.args.line.now = search rules in
    let said = c.do_request-outcome.ensures.said in
    let answer : Answer = record { text = said.0; is_refused = is_refusal c.do_request-outcome.result } in
    let answered : IsAnswered c.args.manager.now c.do_request-outcome.new.manager c.args.line.now answer =
    record {
      done = subst (λ request. IsDoneIf c.args.manager.now c.do_request-outcome.new.manager request answer) is_asked said.1;
      well_formed = c.mark-for_its_clause.ensures.well_formed;
    } in
    (said.0, answered, said.2)

pub returns-clause-outcome : goal.returns-clause-outcome
returns-clause-outcome g c =
    let is_asked : asked_with c.read_request-asked.result c.read_request-asked.new.event ≡ request_of (names_in c.args.manager.now) c.args.line.now = search rules in
    subst (λ request. IsOutcome c.args.manager.now c.do_request-outcome.new.manager request c.do_request-outcome.result) is_asked c.do_request-outcome.ensures.outcome
