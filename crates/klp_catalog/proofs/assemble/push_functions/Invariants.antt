use Rattle.std.proofs.Common.{◌≡◌, ◌++◌, map}
use Rattle.klp_catalog.specs.Catalog.{resolved_function}
use Rattle.klp_catalog.proofs.assemble.push_functions.Given as goal

-- with the functions that are left these are all
abbrev pub invariant-loop-function : goal.invariant-loop-function
invariant-loop-function l =
    l.functions.items ++ map (resolved_function l.modules.names l.object) l.function-iterator
    ≡ l.fn.functions.items ++ map (resolved_function l.fn.modules.names l.fn.object) l.fn.given.items
