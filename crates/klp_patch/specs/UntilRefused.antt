-- The callbacks for a module that is loaded, patch by patch, in the form in which a loop over the patches runs them.
use Rattle.std.specs.Prelude.{ℕ, ℤ, List, [], ◌∷◌, ◌++◌, Option, if◌then◌else◌}
use Rattle.klp_types.specs.declared.callback.Which.TheVariants.{Pre, Post}
use Rattle.klp_types.specs.declared.version.Transition.{Transition}
use Rattle.klp_types.specs.Callbacks.{Call, script_for}
use Rattle.klp_model.specs.Callbacks.{status_of}
use Rattle.klp_model.specs.ModuleCalls.{Part, part_call, still_call, part_refuses}

-- for each part pre-patch, and post-patch unless its patch is in transition; up to and including the first pre-patch
-- that refuses
abbrev pub calls_until_refused : Option Transition → List Part → List Call
calls_until_refused moving [] = []
calls_until_refused moving (part ∷ parts) = part_call Pre part ++ (if part_refuses part then [] else still_call moving Post part ++ calls_until_refused moving parts)

-- what a refused load reports: the number of the patch that refuses, and the status of its pre-patch
abbrev pub refusal : Part → ℕ × ℤ
refusal part = (part.0, status_of (script_for Pre part.1.1.callbacks))
