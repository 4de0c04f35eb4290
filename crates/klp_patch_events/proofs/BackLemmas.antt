-- What callbacks and patches note gives the rows before.
use Rattle.std.proofs.Common.{ℕ, List}
use Rattle.klp_types.specs.Callbacks.{Call}
use Rattle.klp_types.specs.Records.{RecordList}
use Rattle.klp_types.specs.World.{World}
use Rattle.klp_catalog.specs.Catalog.{Catalog}
use Rattle.klp_sites.specs.Table.{SiteTable}
use Rattle.klp_patch.specs.Calls.{HaveRun}
use Rattle.klp_patch.specs.Changes.{Notes}
use Rattle.klp_manager_state.specs.Rows.{WorldGoesBack, SitesGoBack}
use Rattle.klp_manager_state.proofs.RowLemmas.{world_back, sites_back}

-- callbacks ran
pub callbacks_back : (before after : Catalog) (world now : World) (l0 l1 : RecordList) (calls : List Call) → HaveRun before after world now l0 l1 calls → WorldGoesBack world now l0 l1
callbacks_back before after world now l0 l1 calls ran = world_back world now l0 l1 ran.rows ran.of_world ran.logged ran.undo ran.effective

-- a patch came to sites, or left them
pub patch_back : (before after : SiteTable) (l0 l1 : RecordList) (most from to : ℕ) → Notes before after l0 l1 most from to → SitesGoBack before after l0 l1
patch_back before after l0 l1 most from to notes = sites_back before after l0 l1 notes.rows notes.of_sites notes.logged notes.undo notes.effective
