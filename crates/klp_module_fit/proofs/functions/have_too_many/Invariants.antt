use Rattle.std.proofs.Common.{◌≡◌, ◌+◌, length}
use Rattle.klp_types.specs.declared.limits.TheConstants.{MAX_FUNCTIONS}
use Rattle.klp_module_fit.specs.Fit.{function_count}
use Rattle.klp_module_fit.proofs.functions.have_too_many.Given as goal

-- what is left of the room and of the functions is as far apart as all of both
abbrev pub invariant-loop-rest : goal.invariant-loop-rest
invariant-loop-rest l = function_count l.fn.objects + l.room ≡ MAX_FUNCTIONS + function_count l.rest

-- how many objects are left
abbrev pub decreases-loop-rest : goal.decreases-loop-rest
decreases-loop-rest l = length l.rest
