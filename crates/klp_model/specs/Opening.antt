-- The state with which a manager is booted.
use Rattle.std.specs.Prelude.{true, false, [], length, None, slice_set, replicate}
use Rattle.std.specs.FinMap as finite
use Rattle.klp_types.specs.Setting.{Setting}
use Rattle.klp_types.specs.declared.limits.TheConstants.{MAX_TASKS}
use Rattle.klp_model.specs.State.{State}

-- only `vmlinux` is loaded; there are no tasks, patches, pins and shadow variables
abbrev pub opening_state : Setting → State
opening_state setting = record {
  loaded = slice_set (replicate (length setting.image.objects) false) 0 true;
  world = record { installed = []; shadow = finite.empty };
  moving = None;
  pinned = replicate (length setting.patches) false;
  tasks = replicate MAX_TASKS None;
}
