-- The manager that is booted step by step is that of the plan.
use Rattle.std.proofs.Common.{◌≡◌, ◌⊎◌, ℕ, List, [], ◌∷◌, length, map, None, Result, Ok, Err, refl, sym, ap, subst, ◌∙◌, inl, inr}
use Rattle.std.proofs.lemmas.List.{length-map}
use Rattle.klp_types.specs.Image.{Object, Symbol}
use Rattle.klp_types.specs.Script.{Script}
use Rattle.klp_text.specs.Faults.{image_fault}
use Rattle.klp_text.specs.TextImage as text
use Rattle.klp_text.specs.TextImage.{TextImage}
use Rattle.klp_modules.specs.Names as names
use Rattle.klp_modules.specs.Names.{ModuleTable, ObjectNames}
use Rattle.klp_callback.specs.LentCallback.{LentCallback}
use Rattle.klp_catalog_text.specs.Plan.{Plan}
use Rattle.klp_catalog_text.specs.Scripts.{scripts_of}
use Rattle.klp_catalog.specs.declared.assemble.AssembleFault.{AssembleFault}
use Rattle.klp_catalog.specs.Assembled.{without_scripts, lent_scripts, lent_counts, IsAssembleFault}
use Rattle.klp_catalog.specs.Catalog.{Catalog, patches_of}
use Rattle.klp_catalog.specs.Runs.{HasCounts}
use Rattle.klp_core.specs.declared.fault.BootFault.{BootFault}
use Rattle.klp_core.specs.declared.fault.BootFault.TheVariants as boot
use Rattle.klp_core.specs.Boot.{symbol_counts, name_counts, IsMatch}
use Rattle.klp_model.specs.Opening.{opening_state}
use Rattle.klp_core.specs.Journaled.{Journaled}
use Rattle.klp_manager_state.specs.Managed.{setting_of}
use Rattle.std.specs.Result.{IsErrAnd, IfErr}
use Rattle.klp_boot.specs.declared.fault.Fault.{Fault}
use Rattle.klp_boot.specs.declared.fault.Fault.TheVariants as faults
use Rattle.klp_boot.specs.Booted.{IsBootedOver, IsBootFault, never_ran}

-- callbacks that never ran tell the scripts that they were made of
pub scripts_made : (scripts : List Script) → lent_scripts (map never_ran scripts) ≡ scripts
scripts_made [] = refl
scripts_made (script ∷ scripts) = ap (λ (l : List Script). script ∷ l) (scripts_made scripts)

pub booted_over : (plan after : Plan) (callbacks : List LentCallback) (image : TextImage) (modules : ModuleTable) (catalog : Catalog) (manager : Journaled)
    → after ≡ record plan { objects = [] } → callbacks ≡ map never_ran (scripts_of plan.patches)
    → image ≡ text.opening plan.handler plan.objects → modules ≡ names.opening plan.objects
    → catalog.names ≡ modules.names → map without_scripts catalog.patches ≡ map without_scripts after.patches
    → scripts_of catalog.patches ≡ lent_scripts callbacks → HasCounts catalog.patches catalog.runs → catalog.runs ≡ lent_counts callbacks
    → manager ≡ record {
      managed = record { image = image.image; catalog = catalog; state = opening_state (record { image = image.image; patches = patches_of catalog }) };
      base = opening_state (record { image = image.image; patches = patches_of catalog });
      groups = [];
    }
    → IsBootedOver plan manager
booted_over plan after callbacks image modules catalog manager rest given made numbered named patched scripted shaped counted booted =
    record {
      image = ap (λ (m : Journaled). m.managed.image) booted ∙ ap (λ (t : TextImage). t.image) made;
      names = ap (λ (m : Journaled). m.managed.catalog.names) booted ∙ named ∙ ap (λ (m : ModuleTable). m.names) numbered;
      patches = ap (λ (m : Journaled). map without_scripts m.managed.catalog.patches) booted ∙ patched ∙ ap (λ (p : Plan). map without_scripts p.patches) rest;
      scripts = ap (λ (m : Journaled). scripts_of m.managed.catalog.patches) booted ∙ scripted ∙ ap lent_scripts given ∙ scripts_made (scripts_of plan.patches);
      shape = subst (λ (m : Journaled). HasCounts m.managed.catalog.patches m.managed.catalog.runs) (sym booted) shaped;
      counts = ap (λ (m : Journaled). m.managed.catalog.runs) booted ∙ counted ∙ ap lent_counts given;
      state = subst (λ (m : Journaled). m.managed.state ≡ opening_state (setting_of m.managed)) (sym booted) refl;
      base = subst (λ (m : Journaled). m.base ≡ m.managed.state) (sym booted) refl;
      groups = ap (λ (m : Journaled). m.groups) booted;
    }

-- a fault of the catalog is one of the plan
pub assemble_faulty : (plan after : Plan) (callbacks : List LentCallback) (modules : ModuleTable) (fault : AssembleFault)
    → after ≡ record plan { objects = [] } → callbacks ≡ map never_ran (scripts_of plan.patches)
    → image_fault plan.handler plan.objects ≡ None → modules ≡ names.opening plan.objects
    → IsAssembleFault modules.names after.patches (length callbacks) fault → IsBootFault plan (faults.Assemble fault)
assemble_faulty plan after callbacks modules fault rest given sound numbered why =
    let count : length callbacks ≡ length (scripts_of plan.patches) = ap length given ∙ length-map (scripts_of plan.patches) never_ran in (
      sound,
      subst (λ (ns : List ObjectNames). IsAssembleFault ns plan.patches (length (scripts_of plan.patches)) fault) (ap (λ (m : ModuleTable). m.names) numbered)
          (subst (λ (p : Plan). IsAssembleFault modules.names p.patches (length (scripts_of plan.patches)) fault) rest
          (subst (λ (n : ℕ). IsAssembleFault modules.names after.patches n fault) count why)),
    )

counts_named : (objects : List Object) → name_counts (names.names_of objects) ≡ symbol_counts objects
counts_named [] = refl
counts_named (object ∷ objects) = λ i. length-map object.symbols (λ (s : Symbol). s.name) i ∷ counts_named objects i

-- the manager that is booted step by step always matches, so only memory may be wanting
pub boot_faulty : (image : TextImage) (modules : ModuleTable) (catalog : Catalog) (fault : BootFault) → modules ≡ names.opening image.image.objects → catalog.names ≡ modules.names
    → ((IsMatch image.image modules catalog → ⊥) × (fault ≡ boot.Mismatch)) ⊎ (IsMatch image.image modules catalog × (fault ≡ boot.NoMemory)) → fault ≡ boot.NoMemory
boot_faulty image modules catalog fault numbered named why =
    let objects = image.image.objects in
    let counted : name_counts modules.names ≡ symbol_counts objects = ap (λ (m : ModuleTable). name_counts m.names) numbered ∙ counts_named objects in
    let matches : IsMatch image.image modules catalog = record { modules_match = counted; catalog_matches = ap name_counts named ∙ counted } in
    elim why as (λ _. fault ≡ boot.NoMemory) [
      | inl mismatch ↦ absurd (mismatch.0 matches)
      | inr wanting ↦ wanting.1
    ]

-- what is told of a fault that a conversion gives
pub reported_fault : {A : Type 0} (plan : Plan) (result : Result A Fault) (fault : Fault) → IsErrAnd result (λ why. why ≡ fault) → IsBootFault plan fault → IfErr result (IsBootFault plan)
reported_fault plan (Ok value) fault given is = tt
reported_fault plan (Err why) fault given is = subst (IsBootFault plan) (sym given) is
