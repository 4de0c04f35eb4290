use Rattle.std.proofs.Common.{◌≡◌, map, take}
use Rattle.klp_types.specs.Compatible.{SystemState}
use Rattle.klp_catalog.proofs.patch.CatalogPatch.state_ids.Given as goal

-- the ids of the states so far
abbrev pub invariant-loop-state : goal.invariant-loop-state
invariant-loop-state l = l.ids.items ≡ map (λ (s : SystemState). s.id) (take l.state-index l.state-items)
