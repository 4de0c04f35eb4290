-- What a shadow event makes of one variable.
use Rattle.std.proofs.Common.{◌≡◌, false, cond, Option, Some, None, refl, ap, ◌∙◌}
use Rattle.std.specs.Prelude.{◌==◌, unwrap_or}
use Rattle.std.specs.FinMap as finite
use Rattle.klp_types.specs.declared.shadow.ShadowKey.{ShadowKey}
use Rattle.klp_types.specs.declared.edit.Edit.TheVariants.{Alloc, Free, FreeAll}
use Rattle.klp_model.specs.declared.event.Event.{Event}
use Rattle.klp_model.specs.declared.event.Event.TheVariants.{ShadowAlloc, ShadowGetOrAlloc, ShadowFree, ShadowFreeAll}
use Rattle.klp_types.specs.World.{World, ShadowValue, variable}
use Rattle.klp_types.specs.Script.{is_key, allocated}
use Rattle.klp_model.specs.ShadowStep.{shadow_changed, concerns}
use Rattle.klp_types.proofs.KeyLemmas.{key_total, tied_if_same}
use Rattle.klp_types.proofs.ScriptLemmas.{key_by_key}

-- what a shadow event makes of one variable
abbrev pub shadow_at : ShadowKey → Option ShadowValue → Event → Option ShadowValue
shadow_at key was (ShadowAlloc own value) = cond (is_key own key) (Some value) was
shadow_at key was (ShadowGetOrAlloc own value) = cond (is_key own key) (Some (unwrap_or was value)) was
shadow_at key was (ShadowFree own) = cond (is_key own key) None was
shadow_at key was (ShadowFreeAll id) = cond (id == key.id) None was
shadow_at key was other = was

pub shadow_changed_at : (world : World) (event : Event) (key : ShadowKey) → variable (shadow_changed world event) key ≡ shadow_at key (variable world key) event
shadow_changed_at world (ShadowAlloc own value) key =
    finite.get-insert key_total world.shadow own value key ∙ ap (λ b. cond b (Some value) (variable world key)) (tied_if_same key own)
shadow_changed_at world (ShadowGetOrAlloc own value) key = key_by_key 0 world (Alloc own value) key
shadow_changed_at world (ShadowFree own) key = key_by_key 0 world (Free own) key
shadow_changed_at world (ShadowFreeAll id) key = key_by_key 0 world (FreeAll id) key
shadow_changed_at world other key = refl

-- a variable that the event doesn't concern stays
pub shadow_leaves : (key : ShadowKey) (was : Option ShadowValue) (event : Event) → concerns event key ≡ false → shadow_at key was event ≡ was
shadow_leaves key was (ShadowAlloc own value) e = ap (λ b. cond b (Some value) was) e
shadow_leaves key was (ShadowGetOrAlloc own value) e = ap (λ b. cond b (Some (unwrap_or was value)) was) e
shadow_leaves key was (ShadowFree own) e = ap (λ b. cond b None was) e
shadow_leaves key was (ShadowFreeAll id) e = ap (λ b. cond b None was) e
shadow_leaves key was other e = refl

allocated_installed : (world : World) (key : ShadowKey) (value : ShadowValue) (o : Option ShadowValue) → (allocated world key value o).installed ≡ world.installed
allocated_installed world key value None = refl
allocated_installed world key value (Some there) = refl

pub shadow_installed : (world : World) (event : Event) → (shadow_changed world event).installed ≡ world.installed
shadow_installed world (ShadowGetOrAlloc own value) = allocated_installed world own value (variable world own)
shadow_installed world other = refl
