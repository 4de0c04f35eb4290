use Rattle.std.proofs.Common.{map, option_map, string_bytes, ap, sym, ◌∙◌}
use Rattle.clap.specs.Words.{App, found_of, matches_of, rows_of}
use Rattle.klp_arguments.specs.Asked.{see_meaning, seen_in}
use Rattle.klp_arguments.specs.Commands.{see_app}
use Rattle.klp_arguments.proofs.CommandLemmas.{asks, ends, refused}
use Rattle.klp_arguments.proofs.reading.see_asked.Goals as goal

pub returns : goal.returns
returns c =
    let words = map string_bytes c.args.given.now in
    ends see_app c.in_ok-see_command.field-0 words c.in_ok-see_command.ensures (seen_in (matches_of see_app words)) c.in-Err.ending c.in-Err.ensures

-- what is asked for is what is found
pub returns-in-Some : goal.returns-in-Some
returns-in-Some c =
    let words = map string_bytes c.args.given.now in
    asks see_app c.in_ok-see_command.field-0 words c.in_ok-see_command.ensures seen_in (rows_of (found_of c.in-Ok.matches))
    (see_meaning c.in-Some.asked) c.in-Ok.ensures.0 c.in-Ok.ensures.1
    (sym c.in_ok-asked-in-Ok.ensures ∙ ap (option_map see_meaning) c.in-Some.is)

-- what doesn't go together is refused
pub returns-in-Ok : goal.returns-in-Ok
returns-in-Ok c =
    let words = map string_bytes c.args.given.now in
    refused see_app c.in_ok-see_command.field-0 words c.in_ok-see_command.ensures (seen_in (matches_of see_app words)) c.in-Ok.ensures.0
    (ap seen_in (sym (c.in-Ok.ensures.1 ∙ ap (λ (app : App). matches_of app words) c.in_ok-see_command.ensures))
    ∙ sym c.in_ok-asked-in-Ok.ensures ∙ ap (option_map see_meaning) c.in-None.is)
