-- Which manager a plan boots.
use Rattle.std.specs.Prelude.{◌≡◌, ◌⊎◌, [], length, map, Some, None}
use Rattle.klp_types.specs.Image as types
use Rattle.klp_text.specs.declared.fault.ImageFault.TheVariants as image
use Rattle.klp_text.specs.Faults.{image_fault}
use Rattle.klp_types.specs.Script.{Script}
use Rattle.klp_modules.specs.Names.{names_of}
use Rattle.klp_callback.specs.LentCallback.{LentCallback}
use Rattle.klp_catalog_text.specs.Plan.{Plan}
use Rattle.klp_catalog_text.specs.Scripts.{scripts_of}
use Rattle.klp_catalog.specs.Assembled.{without_scripts, lent_counts, IsAssembleFault}
use Rattle.klp_catalog.specs.Runs.{HasCounts}
use Rattle.klp_core.specs.declared.fault.BootFault.TheVariants as boot
use Rattle.klp_model.specs.Opening.{opening_state}
use Rattle.klp_core.specs.Journaled.{Journaled}
use Rattle.klp_manager_state.specs.Managed.{setting_of}
use Rattle.klp_boot.specs.declared.fault.Fault.{Fault}
use Rattle.klp_boot.specs.declared.fault.Fault.TheVariants.{NoMemory, Image, Assemble, Boot}

-- a callback that runs this script and never ran
abbrev pub never_ran : Script → LentCallback
never_ran script = record { script = script; runs = 0 }

-- the image that a plan tells of
abbrev pub image_of : Plan → types.Image
image_of plan = record { handler = plan.handler; objects = plan.objects }

-- the manager is that of a plan: over the image of its objects, with its patches over the names of that
-- image and its scripts in the order of the text; there is a count for each callback, none ran, and the state is the opening one.
-- No event stands, and what events will be taken back to is this state
pub record IsBootedOver (plan : Plan) (manager : Journaled) : Type 0 where
  pub image : manager.managed.image ≡ image_of plan
  pub names : manager.managed.catalog.names ≡ names_of plan.objects
  pub patches : map without_scripts manager.managed.catalog.patches ≡ map without_scripts plan.patches
  pub scripts : scripts_of manager.managed.catalog.patches ≡ scripts_of plan.patches
  pub shape : HasCounts manager.managed.catalog.patches manager.managed.catalog.runs
  pub counts : manager.managed.catalog.runs ≡ lent_counts (map never_ran (scripts_of plan.patches))
  pub state : manager.managed.state ≡ opening_state (setting_of manager.managed)
  pub base : manager.base ≡ manager.managed.state
  pub groups : manager.groups ≡ []

-- why the objects of a plan make no image: for a fault of theirs, in place of which want of memory may stand
abbrev pub IsImageFault : Plan → Fault → Type 0
IsImageFault plan NoMemory = Unit {0}
IsImageFault plan (Image fault) = (fault ≡ image.NoMemory) ⊎ (image_fault plan.handler plan.objects ≡ Some fault)
IsImageFault plan other = ⊥

-- why a plan isn't booted: a fault of the image; else one of the catalog, which has the names of that image and a
-- callback for each script; want of memory may stand in place of the others
abbrev pub IsBootFault : Plan → Fault → Type 0
IsBootFault plan NoMemory = Unit {0}
IsBootFault plan (Image fault) = (fault ≡ image.NoMemory) ⊎ (image_fault plan.handler plan.objects ≡ Some fault)
IsBootFault plan (Assemble fault) =
    (image_fault plan.handler plan.objects ≡ None) × IsAssembleFault (names_of plan.objects) plan.patches (length (scripts_of plan.patches)) fault
IsBootFault plan (Boot fault) = fault ≡ boot.NoMemory
IsBootFault plan other = ⊥
