use Rattle.std.proofs.Common.{[]}
use Rattle.klp_console_io.proofs.SaysLemmas.{says-append}
use Rattle.klp_console_io.proofs.answers.Answers.say.Goals as goal

pub returns : goal.returns
returns g c = says-append _ _ _ [] c.args.text.now c.make_room.ensures.says c.take.ensures
