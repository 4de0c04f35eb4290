use Rattle.std.proofs.Common.{◌≡◌, ◌+◌, ◌*◌, ◌≤◌, length, take}
use Rattle.std.specs.List.{count_by}
use Rattle.klp_types.specs.declared.limits.TheConstants.{MAX_FUNCTIONS, MAX_RECORDS, MAX_SITES}
use Rattle.klp_catalog.specs.States.{is_cumulative}
use Rattle.klp_patch.specs.Changes.{hooked_count}
use Rattle.klp_manager_state.specs.Rows.{SitesGoBack}
use Rattle.klp_patch_events.proofs.ModuleLemmas.{HaveCome}
use Rattle.klp_patch_events.proofs.module_sites.patch_object.Given as goal

abbrev pub invariant-loop-patch : goal.invariant-loop-patch
invariant-loop-patch g l = record {
  come : HaveCome l.catalog (take l.patch-index l.patches) l.object l.initial.sites l.sites;
  logged : length l.log.logged + hooked_count l.initial.sites
      ≤ 2048 + hooked_count l.sites + MAX_FUNCTIONS * l.patch-index + MAX_SITES * count_by (is_cumulative l.catalog) (take l.patch-index l.patches);
  back : SitesGoBack l.initial.sites l.sites l.initial.log l.log;
  room : l.log.room ≡ MAX_RECORDS;
}
