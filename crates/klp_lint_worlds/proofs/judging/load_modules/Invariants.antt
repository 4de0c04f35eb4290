-- The modules up to the last one are loaded.
use Rattle.std.proofs.Common.{◌≡◌}
use Rattle.klp_manager_state.specs.Managed.{setting_of}
use Rattle.klp_lint_worlds.specs.Worlds.{with_modules}
use Rattle.klp_lint_worlds.proofs.judging.load_modules.Given as goal

abbrev pub invariant-loop-last : goal.invariant-loop-last
invariant-loop-last g l = record {
  setting : setting_of l.manager.managed ≡ setting_of l.fn.manager.managed;
  state : l.manager.managed.state ≡ with_modules (setting_of l.fn.manager.managed) l.fn.manager.managed.state l.last;
}
