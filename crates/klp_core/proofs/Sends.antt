-- A manager may cross threads: each of its fields may.
use denote.RattleType.{RattleType}
use denote.Struct.Field.{row_field}
use Rattle.std.specs.Prelude.{ℕ}
use mir.Syntax.{Ty, Dict, Slots}
use denote.Exit.{Kept}
use denote.Param.{param, arg}
use denote.Param.Table.{Table, Lawful}
use denote.Param.Object.{Ghosts, table_of, Vt, ghosts_of}
use denote.Param.Sent.{Sends, code_send}
use denote.Param.Send.{IsSend, sendable, view_send, param_send, arg_send}
use denote.Param.SendFields.{declared_send, as_row_send}
use denote.Hole.{as_row}
use Rattle.std.proofs.Crossing.{crosses, dyn_box_send, Vec-send}
use Rattle.klp_journal.specs.contracts.journal.Journal as journal
use Rattle.klp_sites.specs.contracts.sites.Sites as sites
use Rattle.klp_modules.specs.contracts.modules.Modules as modules
use Rattle.klp_world.specs.contracts.world.World as world
use Rattle.klp_tasks.specs.contracts.tasks.Tasks as tasks
use Rattle.klp_tasks.specs.contracts.version_set.VersionSet as version_set
use Rattle.klp_manager_state.specs.contracts.pins.Pins as pins
use Rattle.klp_journal.specs.contracts.records.Records as records
use Rattle.klp_manager_state.specs.contracts.state.ManagerState as parts
use Rattle.klp_callback.specs.contracts.boxed.Boxed as boxed
use Rattle.klp_callback.specs.contracts.boxed.Boxed.TheInside as boxed_inside
use Rattle.klp_callback.specs.contracts.counted_box.CountedBox as counted_box
use Rattle.klp_catalog.specs.contracts.patch.CatalogPatch as patch
use Rattle.klp_catalog.specs.contracts.catalog.Catalog as catalog
use Rattle.klp_catalog.specs.contracts.catalog.Catalog.TheInside as catalog_inside
use Rattle.klp_core.specs.contracts.manager.Manager as manager
use Rattle.klp_core.specs.contracts.manager.Manager.TheInside as inside

row : (R : RattleType) → IsSend R → IsSend (as_row (row_field R))
row R s = as_row_send (row_field R) s

pub journal_send : IsSend journal.the_row
journal_send = search (sendable, crosses) depth 60 fits 100000

sites_send : IsSend sites.the_row
sites_send = search (sendable, crosses) depth 60 fits 100000

modules_send : IsSend modules.the_row
modules_send = search (sendable, crosses) depth 60 fits 100000

world_send : IsSend world.the_row
world_send = search (sendable, crosses) depth 60 fits 100000

tasks_send : IsSend tasks.the_row
tasks_send = search (sendable, crosses) depth 60 fits 100000

version_set_send : IsSend version_set.the_row
version_set_send = search (sendable, crosses) depth 60 fits 100000

pins_send : IsSend pins.the_row
pins_send = search (sendable, crosses) depth 60 fits 100000

records_send : IsSend records.the_row
records_send = search (sendable, crosses) depth 60 fits 100000

patch_send : IsSend patch.the_row
patch_send = search (sendable, crosses) depth 60 fits 100000

pub parts_send : IsSend parts.the_row
parts_send = declared_send
    parts.the_type
    (row _ sites_send, (row _ modules_send, (row _ world_send, (row _ tasks_send, (search (sendable, crosses) depth 60 fits 100000, (row _ pins_send, (row _ version_set_send, (row _ records_send, tt))))))))

module _ (T : RattleType) (g : Ghosts T.Denot) (s : Sends (table_of T.Denot g)) (t : IsSend T) where
  counted_send : IsSend (counted_box.the_row T g)
  counted_send = declared_send
      (counted_box.the_type T g)
      (search (sendable, crosses) depth 60 fits 100000, (search (sendable, crosses) depth 60 fits 100000, (row _ (dyn_box_send T g s t), tt)))

  boxed_send : IsSend (boxed.the_row T g)
  boxed_send = view_send _ _ _ _ _ (declared_send (boxed_inside.the_type T g) (counted_send, tt))

  pub catalog_send : IsSend (catalog.the_row T g)
  catalog_send = view_send _ _ _ _ _ (declared_send (catalog_inside.the_type T g) (search (sendable, crosses) depth 60 fits 100000, (search (sendable, crosses) depth 60 fits 100000, (row _ (Vec-send _ patch_send), (row _ (Vec-send _ boxed_send), tt)))))

  pub manager_send : IsSend (manager.the_row T g)
  manager_send = view_send _ _ _ _ _ (declared_send (inside.the_type T g) (parts_send, (row _ catalog_send, (row _ journal_send, tt))))

module _ {G : Type 0 → Type 1} (slots : Dict → Slots) (O : Table G Dict) (l : Lawful O) (s : Sends O) where
  pub manager_crosses : IsSend (manager.the_row (Vt slots O) (ghosts_of slots O l))
  manager_crosses = manager_send (Vt slots O) (ghosts_of slots O l) s (code_send _ _ _)

  pub manager_given : (i : ℕ) (δ : Ty) (k : Kept) → IsSend (param i (arg δ k (manager.the_row (Vt slots O) (ghosts_of slots O l))))
  manager_given i δ k = param_send i _ (arg_send δ k _ manager_crosses)
