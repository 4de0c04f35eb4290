use Rattle.std.proofs.Common.{◌≡◌, map, take}
use Rattle.klp_types.specs.Setting.{Callback}
use Rattle.klp_catalog.proofs.assemble.kinds_of.Given as goal

-- the kinds of the callbacks so far
abbrev pub invariant-loop-callback : goal.invariant-loop-callback
invariant-loop-callback l = l.kinds.items ≡ map (λ (c : Callback). c.which) (take l.callback-index l.callbacks)
