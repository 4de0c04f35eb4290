-- What a shadow event does to the world, and which variables it concerns.
use Rattle.std.specs.Prelude.{ℕ, ◌-◌, Bool, false, ◌==◌, List, [], ◌∷◌}
use Rattle.std.specs.FinMap as finite
use Rattle.klp_types.specs.declared.shadow.ShadowKey.{ShadowKey}
use Rattle.klp_model.specs.declared.event.Event.{Event}
use Rattle.klp_model.specs.declared.event.Event.TheVariants.{ShadowAlloc, ShadowGetOrAlloc, ShadowFree, ShadowFreeAll}
use Rattle.klp_types.specs.World.{World, variable, with_variable, without_variable, without_id}
use Rattle.klp_types.specs.Script.{is_key, allocated}

-- the world after a shadow event; the same world after any other event
abbrev pub shadow_changed : World → Event → World
shadow_changed world (ShadowAlloc key value) = with_variable world key value
shadow_changed world (ShadowGetOrAlloc key value) = allocated world key value (variable world key)
shadow_changed world (ShadowFree key) = without_variable world key
shadow_changed world (ShadowFreeAll id) = without_id world id
shadow_changed world other = world

-- how many shadow variables have the id, and so are removed when it is freed
abbrev pub freed_count : World → ℕ → ℕ
freed_count world id = finite.len world.shadow - finite.len (without_id world id).shadow

-- the world after the shadow events of a list, in order
abbrev pub shadow_changes : World → List Event → World
shadow_changes world [] = world
shadow_changes world (event ∷ events) = shadow_changes (shadow_changed world event) events

-- whether a shadow event concerns the variable
abbrev pub concerns : Event → ShadowKey → Bool
concerns (ShadowAlloc own value) key = is_key own key
concerns (ShadowGetOrAlloc own value) key = is_key own key
concerns (ShadowFree own) key = is_key own key
concerns (ShadowFreeAll id) key = id == key.id
concerns other key = false
