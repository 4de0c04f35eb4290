-- What the catalog says of the patch is what the model asks: whether it can live with the installed ones, and whether it lacks a symbol.
use Rattle.std.proofs.Common.{◌≡◌, ℕ, ◌<◌, Bool, List, false, length, sym, ap, subst, ◌∙◌, arith}
use Rattle.std.specs.Prelude.{is_none, slice_index_or, ◌&&◌}
use Rattle.std.specs.List.{list_any}
use Rattle.std.proofs.lemmas.Grind.{common_steps}
use Rattle.std.proofs.lemmas.List.{length-map}
use Rattle.klp_modules.specs.Names.{ModuleTable}
use Rattle.klp_model.specs.Refusals.{is_compatible, lacks_symbol}
use Rattle.klp_catalog.specs.Catalog.{Catalog, CatalogFunction, setting_patch}
use Rattle.klp_catalog.specs.Stored.{StoredPatch}
use Rattle.klp_catalog.specs.Patch.{IsPatch}
use Rattle.klp_catalog.specs.States as states
use Rattle.klp_manager_state.specs.declared.state.ManagerState.{ManagerState}
use Rattle.klp_manager_state.specs.Invariant.{Invariant}
use Rattle.klp_manager_state.specs.Managed.{managed_of, setting_in, state_in}
use Rattle.klp_manager_state.proofs.InstalledLemmas.{known_each, numbers_of}
use Rattle.klp_patch_events.proofs.SymbolLemmas.{lacks_symbol-any}
use Rattle.klp_patch_events.proofs.enabling.enable_refusal.Goals as goal

pub is_compatible-requires-clause-installed : goal.is_compatible-requires-clause-installed
is_compatible-requires-clause-installed g c = λ k d below.
    let parts = c.args.state.now in
    let catalog = c.args.catalog.now in
    let many = length-map catalog.patches (setting_patch catalog.names) in
    subst (λ (ps : List ℕ). k < length ps → slice_index_or ps k d < length catalog.patches) (sym c.installed.ensures.value)
    (λ there. subst (λ n. slice_index_or (numbers_of parts.world) k d < n) many
    (known_each (setting_in parts catalog) (numbers_of parts.world) c.requires.allowed.known k d there)) below

lives : (manager : ManagerState) (catalog : Catalog) (patch : ℕ) (result : Bool) (installed : List ℕ) → result ≡ states.is_compatible catalog patch installed → installed ≡ numbers_of manager.world
    → result ≡ is_compatible (setting_in manager catalog) (state_in manager catalog) patch
lives manager catalog patch result installed is same = is ∙ ap (states.is_compatible catalog patch) same

lacks : (manager : ManagerState) (catalog : Catalog) (patch : ℕ) (found : StoredPatch) (result : Bool)
    → result ≡ list_any (λ (f : CatalogFunction). slice_index_or manager.modules.loaded f.object false && is_none f.site) found.functions
    → Invariant manager catalog → IsPatch catalog patch found → result ≡ lacks_symbol (setting_in manager catalog) manager.sites.loaded patch
lacks manager catalog patch found result is holds there =
    let lacks = λ (l : List Bool) (fs : List CatalogFunction). list_any (λ (f : CatalogFunction). slice_index_or l f.object false && is_none f.site) fs in
    is
    ∙ ap (λ (m : ModuleTable). lacks m.loaded found.functions) holds.modules_are
    ∙ ap (lacks manager.sites.loaded) there.functions
    ∙ lacks_symbol-any (managed_of manager catalog) manager.sites.loaded patch

pub returns-then-lacks_symbol-clause-refusal : goal.returns-then-lacks_symbol-clause-refusal
returns-then-lacks_symbol-clause-refusal g c =
    let there = c.in-Some.ensures.found.there in
    let compatible = lives c.args.state.now c.args.catalog.now c.args.patch c.is_compatible.result c.installed.result.now c.is_compatible.ensures c.installed.ensures.value in
    let symbol = lacks c.args.state.now c.args.catalog.now c.args.patch c.in-Some.found.now c.lacks_symbol.result c.lacks_symbol.ensures c.requires c.in-Some.ensures.found in
    grind (arith, common_steps)

pub returns-then-lacks_room-clause-refusal : goal.returns-then-lacks_room-clause-refusal
returns-then-lacks_room-clause-refusal g c =
    let there = c.in-Some.ensures.found.there in
    let compatible = lives c.args.state.now c.args.catalog.now c.args.patch c.is_compatible.result c.installed.result.now c.is_compatible.ensures c.installed.ensures.value in
    let symbol = lacks c.args.state.now c.args.catalog.now c.args.patch c.in-Some.found.now c.lacks_symbol.result c.lacks_symbol.ensures c.requires c.in-Some.ensures.found in
    grind (arith, common_steps)

pub returns-else-lacks_room-clause-refusal : goal.returns-else-lacks_room-clause-refusal
returns-else-lacks_room-clause-refusal g c =
    let there = c.in-Some.ensures.found.there in
    let compatible = lives c.args.state.now c.args.catalog.now c.args.patch c.is_compatible.result c.installed.result.now c.is_compatible.ensures c.installed.ensures.value in
    let symbol = lacks c.args.state.now c.args.catalog.now c.args.patch c.in-Some.found.now c.lacks_symbol.result c.lacks_symbol.ensures c.requires c.in-Some.ensures.found in
    grind (arith, common_steps)
