-- The objects of the patches of a catalog.
use Rattle.std.specs.Prelude.{ℕ, Bool, false, List, [], Option, Some, None, option_and_then, slice_get, slice_index_or}
use Rattle.klp_types.specs.Setting.{Callback}
use Rattle.klp_modules.specs.Names.{ObjectNames}
use Rattle.klp_catalog_text.specs.Plan.{PlanFunction, PlanPatch, PlanTarget}
use Rattle.klp_catalog.specs.Catalog.{site_of, targets_of_patch}
use Rattle.klp_lint_findings.specs.declared.lists.FunctionSet.{FunctionSet}

-- the target of a patch at this place among the patch's targets, if there is one
abbrev pub target_at : List PlanPatch → ℕ → ℕ → Option PlanTarget
target_at patches patch place = slice_get (targets_of_patch (slice_get patches patch)) place

-- the callbacks for a target; none if there is no target
abbrev pub callbacks_for : Option PlanTarget → List Callback
callbacks_for None = []
callbacks_for (Some target) = target.callbacks

-- the function with this number among the target's functions, if there is one
abbrev pub function_at : Option PlanTarget → ℕ → Option PlanFunction
function_at None number = None
function_at (Some target) number = slice_get target.functions number

-- the site of the symbol that a function of a target replaces, if its name and position pick a symbol of the target's object
abbrev pub site_at : List ObjectNames → Option PlanTarget → ℕ → Option ℕ
site_at names None number = None
site_at names (Some target) number = option_and_then (site_of names target.object) (slice_get target.functions number)

-- whether the function with this number is in the set
abbrev pub has_function : FunctionSet → ℕ → Bool
has_function set number = slice_index_or set.flags number false
