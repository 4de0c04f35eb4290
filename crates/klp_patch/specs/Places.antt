-- The callbacks of a patch for its object at a place, a number among the patch's objects.
use Rattle.std.specs.Prelude.{ℕ, List, [], ◌++◌, Option, if◌then◌else◌}
use Rattle.klp_types.specs.declared.callback.Which.{Which}
use Rattle.klp_types.specs.declared.callback.Which.TheVariants.{Pre, Post, PreUn, PostUn}
use Rattle.klp_types.specs.declared.version.Transition.{Transition}
use Rattle.klp_types.specs.Pick.{moves}
use Rattle.klp_types.specs.Callbacks.{Call, call_of, is_refusing}
use Rattle.klp_catalog.specs.Catalog.{Catalog}
use Rattle.klp_catalog.specs.Runs.{script_at}

-- the callback of a kind, if the patch has one
abbrev pub call_at : Catalog → ℕ → ℕ → Which → List Call
call_at catalog patch place which = call_of patch place which (script_at catalog patch place which)

-- the callback of a kind, if the patch has one and is not in transition
abbrev pub call_unless_moving : Option Transition → Catalog → ℕ → ℕ → Which → List Call
call_unless_moving moving catalog patch place which = if moves moving patch then [] else call_at catalog patch place which

-- the module is loaded: pre-patch, and then, unless it refuses, post-patch if the patch isn't in transition
abbrev pub coming_at : Option Transition → Catalog → ℕ → ℕ → List Call
coming_at moving catalog patch place =
    call_at catalog patch place Pre ++ (if is_refusing (script_at catalog patch place Pre) then [] else call_unless_moving moving catalog patch place Post)

-- the module is unloaded, or its refused load cleaned up: pre-unpatch if the patch isn't in transition, then
-- post-unpatch
abbrev pub going_at : Option Transition → Catalog → ℕ → ℕ → List Call
going_at moving catalog patch place = call_unless_moving moving catalog patch place PreUn ++ call_at catalog patch place PostUn
