-- What the rules say where a kernel was looked at, and what it showed, in the same words.
use Rattle.std.specs.Prelude.{ℕ, ℤ, Bool, List, ◌++◌, codes, Option, Some, None, option_map, if◌then◌else◌}
use Rattle.std.specs.Fmt.{decimal, signed_decimal}
use Rattle.klp_types.specs.declared.task.Task.{Task}
use Rattle.klp_types.specs.declared.version.Target.{Target}
use Rattle.klp_types.specs.declared.version.Version.{Version}
use Rattle.klp_types.specs.declared.version.Version.TheVariants.{Original, New}
use Rattle.klp_types.specs.Setting.{Setting}
use Rattle.klp_model.specs.State.{State}
use Rattle.klp_model.specs.Task.{task_at}
use Rattle.klp_model.specs.Pick.{pick}
use Rattle.klp_model.specs.Entries.{is_site_loaded, is_hooked}
use Rattle.klp_catalog.specs.Catalog.{Catalog}
use Rattle.klp_console.specs.Names.{patch_name}
use Rattle.klp_manager_state.specs.Managed.{setting_of}
use Rattle.klp_core.specs.Journaled.{Journaled}
use Rattle.klp_watch.specs.declared.observed.Sight.{Sight}
use Rattle.klp_watch.specs.declared.observed.Sight.TheVariants.{State as StateSeen, Files as FilesSeen, Version as VersionSeen, Text as TextSeen}
use Rattle.klp_watch.specs.declared.observed.PatchFiles.{PatchFiles}
use Rattle.klp_watch.specs.Compared.{files_of}

abbrev pub flag_text : Bool → List ℕ
flag_text flag = if flag then codes "1" else codes "0"

-- what both files of a patch read
abbrev pub files_text : Option PatchFiles → List ℕ
files_text None = codes "gone"
files_text (Some files) = flag_text files.enabled ++ codes " " ++ flag_text files.transition

-- the patch state of a task
abbrev pub state_text : Option ℤ → List ℕ
state_text None = codes "no task"
state_text (Some state) = signed_decimal state

-- the version that a task runs when it calls a site
abbrev pub picked_text : Catalog → Option Version → List ℕ
picked_text catalog None = codes "no call"
picked_text catalog (Some (Original site)) = codes "the original"
picked_text catalog (Some (New patch function)) = patch_name catalog patch ++ codes ":" ++ decimal function

abbrev pub hook_text : Bool → List ℕ
hook_text hooked = if hooked then codes "hooked" else codes "plain"

-- the text of a site, which only a loaded object has
abbrev pub text_text : Bool → Bool → List ℕ
text_text loaded hooked = if loaded then hook_text hooked else codes "not loaded"

abbrev pub rules_text_in : Catalog → Setting → State → Sight → List ℕ
rules_text_in catalog setting state (StateSeen task own) = state_text (option_map (λ (t : Task). t.state) (task_at state.tasks task))
rules_text_in catalog setting state (FilesSeen patch files) = files_text (files_of state patch)
rules_text_in catalog setting state (VersionSeen task site version) = picked_text catalog (option_map (λ (t : Target). t.version) (pick setting state task site))
rules_text_in catalog setting state (TextSeen site hooked) = text_text (is_site_loaded setting state site) (is_hooked setting state site)

-- what the rules say where this was seen
abbrev pub rules_text : Journaled → Sight → List ℕ
rules_text manager sight = rules_text_in manager.managed.catalog (setting_of manager.managed) manager.managed.state sight

-- what was seen
abbrev pub sight_text : Catalog → Sight → List ℕ
sight_text catalog (StateSeen task own) = state_text own
sight_text catalog (FilesSeen patch files) = files_text files
sight_text catalog (VersionSeen task site version) = picked_text catalog (Some version)
sight_text catalog (TextSeen site hooked) = hook_text hooked
