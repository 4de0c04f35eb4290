use Rattle.std.proofs.Common.{rules}
use Rattle.klp_patch.proofs.module_parts.run_unless_moving.Goals as goal

pub run_at-requires : goal.run_at-requires
run_at-requires g c = search rules
