use Rattle.std.proofs.Common.{map, string_bytes, ap, sym, ◌∙◌}
use Rattle.clap.specs.Words.{matches_of}
use Rattle.klp_arguments.specs.Asked.{paged_in}
use Rattle.klp_arguments.specs.Commands.{page_app}
use Rattle.klp_arguments.proofs.CommandLemmas.{ends, refused}
use Rattle.klp_arguments.proofs.reading.page_asked.Goals as goal

pub returns : goal.returns
returns c =
    let words = map string_bytes c.args.given.now in
    ends page_app c.in_ok-page_command.field-0 words c.in_ok-page_command.ensures (paged_in (matches_of page_app words)) c.in-Err.ending c.in-Err.ensures

pub returns-in-Ok : goal.returns-in-Ok
returns-in-Ok c =
    let words = map string_bytes c.args.given.now in
    let is_app = c.in_ok-page_command.ensures in
    let matched = ap (λ app. matches_of app words) (sym is_app) ∙ sym c.in-Ok.ensures.1 in
    refused page_app c.in_ok-page_command.field-0 words is_app (paged_in (matches_of page_app words)) c.in-Ok.ensures.0
    (ap paged_in matched ∙ sym c.in-None.ensures)
