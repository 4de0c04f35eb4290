use Rattle.std.proofs.Common.{map, option_map, string_bytes, ap, sym, ◌∙◌}
use Rattle.clap.specs.Words.{App, found_of, matches_of, rows_of}
use Rattle.klp_arguments.specs.Asked.{module_meaning, modules_in}
use Rattle.klp_arguments.specs.Commands.{module_app}
use Rattle.klp_arguments.proofs.CommandLemmas.{asks, ends, refused}
use Rattle.klp_arguments.proofs.reading.module_asked.Goals as goal

pub returns : goal.returns
returns c =
    let words = map string_bytes c.args.given.now in
    ends module_app c.in_ok-module_command.field-0 words c.in_ok-module_command.ensures (modules_in (matches_of module_app words)) c.in-Err.ending c.in-Err.ensures

-- what is asked for is what is found
pub returns-in-Some : goal.returns-in-Some
returns-in-Some c =
    let words = map string_bytes c.args.given.now in
    asks module_app c.in_ok-module_command.field-0 words c.in_ok-module_command.ensures modules_in (rows_of (found_of c.in-Ok.matches))
    (module_meaning c.in-Some.asked) c.in-Ok.ensures.0 c.in-Ok.ensures.1
    (sym c.in_ok-asked-in-Ok.ensures ∙ ap (option_map module_meaning) c.in-Some.is)

-- what doesn't go together is refused
pub returns-in-Ok : goal.returns-in-Ok
returns-in-Ok c =
    let words = map string_bytes c.args.given.now in
    refused module_app c.in_ok-module_command.field-0 words c.in_ok-module_command.ensures (modules_in (matches_of module_app words)) c.in-Ok.ensures.0
    (ap modules_in (sym (c.in-Ok.ensures.1 ∙ ap (λ (app : App). matches_of app words) c.in_ok-module_command.ensures))
    ∙ sym c.in_ok-asked-in-Ok.ensures ∙ ap (option_map module_meaning) c.in-None.is)
