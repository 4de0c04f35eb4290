use Rattle.std.proofs.Common.{map, string_bytes}
use Rattle.clap.specs.Words.{matches_of}
use Rattle.klp_arguments.specs.Asked.{watched_in}
use Rattle.klp_arguments.specs.Commands.{watch_app}
use Rattle.klp_arguments.proofs.CommandLemmas.{ends}
use Rattle.klp_arguments.proofs.reading.watch_asked.Goals as goal

pub returns : goal.returns
returns c =
    let words = map string_bytes c.args.given.now in
    ends watch_app c.in_ok-watch_command.field-0 words c.in_ok-watch_command.ensures (watched_in (matches_of watch_app words)) c.in-Err.ending c.in-Err.ensures
