use Rattle.std.proofs.Common.{◌≡◌, ◌-◌, length}
use Rattle.klp_catalog_text.specs.Scripts.{scripts_of}
use Rattle.klp_boot.proofs.BoxLemmas.{first_made}
use Rattle.klp_boot.proofs.over.over_plan.Given as goal

-- there is a callback for each script so far
abbrev pub invariant-loop-callbacks : goal.invariant-loop-callbacks
invariant-loop-callbacks g l = l.callbacks.items ≡ first_made l.callbacks.items (scripts_of l.plan-inside.patches.items)

-- how many scripts are left
abbrev pub decreases-loop-callbacks : goal.decreases-loop-callbacks
decreases-loop-callbacks g l = length (scripts_of l.plan-inside.patches.items) - length l.callbacks.items
