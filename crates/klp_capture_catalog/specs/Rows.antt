-- What the rows of a sample say of the files of patches.
use Rattle.std.specs.Prelude.{Bool, false, Option, Some, None}
use Rattle.klp_capture.specs.declared.capture.PatchRow.{PatchRow}
use Rattle.klp_capture.specs.declared.capture.PatchRow.TheVariants.{Patch}

-- what the files `enabled` and `transition` read by the row of a patch; none if there is no such row
abbrev pub files_of : Option PatchRow → Option (Bool × Bool)
files_of (Some (Patch name enabled moving newer)) = Some (enabled, moving)
files_of other = None

-- the row of a patch in transition
abbrev pub is_moving : PatchRow → Bool
is_moving (Patch name enabled moving newer) = moving
is_moving row = false

-- the target of the transition: what the file `enabled` of its patch reads
abbrev pub target_of : Option PatchRow → Option Bool
target_of (Some (Patch name enabled moving newer)) = Some enabled
target_of other = None
