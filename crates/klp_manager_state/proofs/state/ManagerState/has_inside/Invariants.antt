use Rattle.std.proofs.Common.{◌≡◌, drop}
use Rattle.std.specs.List.{list_any}
use Rattle.klp_model.specs.Frames.{is_object, object_of_version}
use Rattle.klp_types.specs.declared.version.Version.{Version}
use Rattle.klp_manager_state.specs.Managed.{setting_in}
use Rattle.klp_manager_state.proofs.state.ManagerState.has_inside.Given as goal

-- whether one of those that are left lies in the object
abbrev pub invariant-loop-version : goal.invariant-loop-version
invariant-loop-version g l =
    list_any (λ (v : Version). is_object l.object (object_of_version (setting_in l.self l.catalog) v)) (drop l.version-index l.versions)
    ≡ list_any (λ (v : Version). is_object l.object (object_of_version (setting_in l.self l.catalog) v)) l.versions
