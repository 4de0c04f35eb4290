-- Shadow events leave which patches are installed.
use Rattle.std.proofs.Common.{◌≡◌, Option, Some, None, refl}
use Rattle.klp_types.specs.declared.shadow.ShadowKey.{ShadowKey}
use Rattle.klp_types.specs.World.{World, ShadowValue, variable}
use Rattle.klp_types.specs.Script.{allocated}
use Rattle.klp_model.specs.declared.event.Event.{Event}
use Rattle.klp_model.specs.declared.event.Event.TheVariants.{ShadowGetOrAlloc}
use Rattle.klp_model.specs.ShadowStep.{shadow_changed}

allocated_installed : (world : World) (key : ShadowKey) (value : ShadowValue) (o : Option ShadowValue) → (allocated world key value o).installed ≡ world.installed
allocated_installed world key value None = refl
allocated_installed world key value (Some there) = refl

pub shadow_installed : (world : World) (event : Event) → (shadow_changed world event).installed ≡ world.installed
shadow_installed world (ShadowGetOrAlloc own value) = allocated_installed world own value (variable world own)
shadow_installed world other = refl
