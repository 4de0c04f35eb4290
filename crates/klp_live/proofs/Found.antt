-- A table answers what the machine picks.
use Rattle.std.proofs.Common.{◌≡◌, ℕ, ℤ, ◌==◌, ◌&&◌, Bool, true, false, List, [], ◌∷◌, Option, Some, None, option_map, Ok, refl, ap, if◌then◌else◌}
use Rattle.std.specs.Option.{option_to_list}
use Rattle.klp_types.specs.declared.version.Entry.{Entry}
use Rattle.klp_types.specs.declared.version.Transition.{Transition}
use Rattle.klp_types.specs.declared.task.Task.{Task}
use Rattle.klp_types.specs.Setting.{Setting}
use Rattle.klp_types.specs.Pick.{is_unpatched, entries_for, newest_version}
use Rattle.klp_model.specs.State.{State}
use Rattle.klp_model.specs.Rows.{row_among, newest, newest_address}
use Rattle.klp_model.specs.Entries.{is_site_loaded, entries_of}
use Rattle.klp_model.specs.Task.{task_at}
use Rattle.klp_live.specs.declared.table.Table.{Table}
use Rattle.klp_live.specs.Dispatch.{IsDispatch}
use Rattle.klp_live.specs.Entering.{target_by, found_by, found}
use Rattle.klp_live.specs.Found.{begun, entered_if, entered}

module _ (setting : Setting) where
  choice : (site : ℕ) (b : Bool) (entry : Entry) (older : List Entry)
      → record { version = newest_version site (option_to_list (if b then newest older else Some entry)); address = if b then newest_address setting site older else newest_address setting site (entry ∷ older) }
      ≡ begun setting (newest_version site (if b then older else entry ∷ older))
  choice site true entry [] = refl
  choice site true entry (next ∷ older) = refl
  choice site false entry older = refl

  target_is : (site : ℕ) (moving : Option Transition) (own : ℤ) (entries : List Entry)
      → target_by site (row_among setting moving site entries) own ≡ begun setting (newest_version site (entries_for moving own entries))
  target_is site None own [] = refl
  target_is site (Some move) own [] = refl
  target_is site None own (entry ∷ older) = refl
  target_is site (Some move) own (entry ∷ older) = choice site ((move.patch == entry.patch) && is_unpatched own) entry older

  found_if : (state : State) (site : ℕ) (b : Bool) (own : Option Task)
      → found_by site (if b then Some (row_among setting state.moving site (entries_of setting state site)) else None) (option_map (λ (t : Task). t.state) own) ≡ entered_if setting state site b own
  found_if state site false own = refl
  found_if state site true None = refl
  found_if state site true (Some task) = ap Ok (target_is site state.moving task.state (entries_of setting state site))

  pub found_is : (state : State) (table : Table) (task site : ℕ) → IsDispatch setting state table → found table task site ≡ entered setting state task site
  found_is state table task site was = rw (was.sites site, was.tasks task) (found_if state site (is_site_loaded setting state site) (task_at state.tasks task))
