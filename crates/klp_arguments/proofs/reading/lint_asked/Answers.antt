use Rattle.std.proofs.Common.{map, string_bytes}
use Rattle.clap.specs.Words.{matches_of}
use Rattle.klp_arguments.specs.Asked.{linted_in}
use Rattle.klp_arguments.specs.Commands.{lint_app}
use Rattle.klp_arguments.proofs.CommandLemmas.{ends}
use Rattle.klp_arguments.proofs.reading.lint_asked.Goals as goal

pub returns : goal.returns
returns c =
    let words = map string_bytes c.args.given.now in
    ends lint_app c.in_ok-lint_command.field-0 words c.in_ok-lint_command.ensures (linted_in (matches_of lint_app words)) c.in-Err.ending c.in-Err.ensures
