use Rattle.std.proofs.Common.{◌≡◌, length}
use Rattle.klp_catalog.specs.Catalog as catalog
use Rattle.klp_catalog.proofs.assemble.has_same_site.Given as goal

-- no function so far is for the site of a later one
abbrev pub invariant-loop-function : goal.invariant-loop-function
invariant-loop-function l = catalog.has_same_site l.left ≡ catalog.has_same_site l.functions

abbrev pub decreases-loop-function : goal.decreases-loop-function
decreases-loop-function l = length l.left
