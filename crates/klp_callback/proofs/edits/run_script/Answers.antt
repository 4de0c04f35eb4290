use Rattle.std.proofs.Common.{rules}
use Rattle.klp_callback.proofs.edits.run_script.Goals as goal

pub make_edits-requires : goal.make_edits-requires
make_edits-requires c = search rules
