-- What tasks are inside of, as a table of versions keeps it.
use Rattle.std.specs.Prelude.{◌≡◌, ℕ, Bool, List, [], get_or}
use Rattle.std.specs.List.{list_any}
use Rattle.klp_types.specs.declared.version.Version.{Version}
use Rattle.klp_types.specs.Setting.{Setting}
use Rattle.klp_model.specs.Frames.{is_object, object_of_version}
use Rattle.klp_model.specs.Observed.{Stacks, versions}

-- the versions that a task is inside of, innermost last
abbrev pub frames_at : List (List Version) → ℕ → List Version
frames_at table task = get_or table task []

-- the table has the versions of each task's frames, and a task without a place there is inside of nothing
abbrev pub AreInside : List (List Version) → Stacks → Type 0
AreInside table stacks = (task : ℕ) → frames_at table task ≡ versions (stacks task)

-- whether one of the versions lies in the object
abbrev pub are_in : Setting → ℕ → List Version → Bool
are_in setting object frames = list_any (λ v. is_object object (object_of_version setting v)) frames
