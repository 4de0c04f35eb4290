-- The functions that a task is inside of.
use Rattle.std.specs.Prelude.{List, [], Option, Some, None}
use Rattle.klp_types.specs.declared.version.Version.{Version}
use Rattle.klp_types.specs.declared.task.Task.{Task}

-- the frames of the task in a row; none if there is no task
abbrev pub frames_of : Option Task → List Version
frames_of None = []
frames_of (Some task) = task.frames
