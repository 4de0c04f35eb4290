-- When a plan becomes a catalog, and where the functions of a catalog are.
use Rattle.std.specs.Prelude.{◌≡◌, ℕ, ◌+◌, ◌<◌, ◌≤◌, ◌≢◌, pos, true, List, [], length, map, slice_get, IfSome}
use Rattle.klp_modules.specs.Names.{ObjectNames, first_site, symbol_names}
use Rattle.klp_catalog.specs.declared.assemble.AssembleFault.{AssembleFault}
use Rattle.klp_catalog.specs.declared.assemble.AssembleFault.TheVariants.{WrongCallbacks, SameSite, NoMemory}
use Rattle.klp_types.specs.Setting.{Callback}
use Rattle.klp_types.specs.Script.{Script}
use Rattle.klp_callback.specs.LentCallback.{LentCallback}
use Rattle.klp_catalog_text.specs.Plan.{PlanTarget, PlanPatch}
use Rattle.klp_catalog_text.specs.Scripts.{scripts_of}
use Rattle.klp_catalog.specs.Catalog.{CatalogFunction, some_same_site}

-- a callback, an object and a patch with every script replaced by the empty one
abbrev pub without_script : Callback → Callback
without_script callback = record callback { script = record { edits = []; status = pos 0 } }

abbrev pub target_without_scripts : PlanTarget → PlanTarget
target_without_scripts target = record target { callbacks = map without_script target.callbacks }

abbrev pub without_scripts : PlanPatch → PlanPatch
without_scripts patch = record patch { targets = map target_without_scripts patch.targets }

-- the scripts and the counts of runs of these callbacks
abbrev pub lent_scripts : List LentCallback → List Script
lent_scripts callbacks = map (λ (t : LentCallback). t.script) callbacks

abbrev pub lent_counts : List LentCallback → List ℕ
lent_counts callbacks = map (λ (t : LentCallback). t.runs) callbacks

-- why a plan is refused, given the number of callbacks: it isn't the number of scripts; or else two functions are
-- for one site; or memory ran out, which may be reported in place of the others
abbrev pub IsAssembleFault : List ObjectNames → List PlanPatch → ℕ → AssembleFault → Type 0
IsAssembleFault names patches callbacks WrongCallbacks = length (scripts_of patches) ≢ callbacks
IsAssembleFault names patches callbacks SameSite = (length (scripts_of patches) ≡ callbacks) × (some_same_site names patches ≡ true)
IsAssembleFault names patches callbacks NoMemory = Unit {0}

-- why callbacks can't be numbered: there are fewer callbacks than scripts, or memory ran out
abbrev pub IsShort : ℕ → ℕ → AssembleFault → Type 0
IsShort scripts callbacks WrongCallbacks = callbacks < scripts
IsShort scripts callbacks SameSite = ⊥
IsShort scripts callbacks NoMemory = Unit {0}

-- the site belongs to one of the object's symbols
pub record IsInObject (names : List ObjectNames) (object site : ℕ) : Type 0 where
  pub from : first_site names object ≤ site
  pub below : site < first_site names object + length (symbol_names (slice_get names object))

-- a function's site, if it has one, is in the function's object
abbrev pub LiesInObject : List ObjectNames → CatalogFunction → Type 0
LiesInObject names function = IfSome function.site (λ site. IsInObject names function.object site)
