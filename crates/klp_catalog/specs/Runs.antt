-- The callbacks of a catalog's patches, and how often each of them ran.
use Rattle.std.specs.Prelude.{◌≡◌, ℕ, ◌+◌, ◌==◌, not, Bool, List, [], ◌∷◌, ◌++◌, length, map, position, slice_get, Option, Some, None, option_and_then}
use Rattle.std.specs.List.{list_any}
use Rattle.klp_types.specs.declared.callback.Which.{Which}
use Rattle.klp_types.specs.declared.record.Record.{Record}
use Rattle.klp_types.specs.Setting.{PatchObject, Callback, patch_objects}
use Rattle.klp_types.specs.Callbacks.{Call, script_for, call_of, after_calls}
use Rattle.klp_types.specs.Entries.{is_empty}
use Rattle.klp_types.specs.Records.{RecordList}
use Rattle.klp_types.specs.Script.{Script, alloc_count}
use Rattle.klp_types.specs.World.{World}
use Rattle.klp_world.specs.Changes.{Changes}
use Rattle.klp_world.specs.StoredEvent.{rows_of_script}
use Rattle.klp_catalog_text.specs.Plan.{PlanTarget, PlanPatch}
use Rattle.klp_catalog.specs.Catalog.{Catalog, patches_of}
use Rattle.klp_catalog.specs.Counts.{CallbackId, is_callback, runs_after}

-- the callbacks of an object of a patch; none if there is no such object
abbrev pub callbacks_of : Option PatchObject → List Callback
callbacks_of None = []
callbacks_of (Some object) = object.callbacks

-- the objects of a patch of the catalog, in order
abbrev pub objects_at : Catalog → ℕ → List PatchObject
objects_at catalog patch = patch_objects (slice_get (patches_of catalog) patch)

-- the callbacks that a patch has for the object at this index, from 0
abbrev pub callbacks_at : Catalog → ℕ → ℕ → List Callback
callbacks_at catalog patch place = callbacks_of (slice_get (objects_at catalog patch) place)

-- whether the patch has a callback for one of its objects
abbrev pub has_callbacks : Catalog → ℕ → Bool
has_callbacks catalog patch = list_any (λ (o : PatchObject). not (is_empty o.callbacks)) (objects_at catalog patch)

-- the script of the callback of this kind, if the patch has one for the object
abbrev pub script_at : Catalog → ℕ → ℕ → Which → Option Script
script_at catalog patch place which = script_for which (callbacks_at catalog patch place)

-- how many variables a script adds at most
abbrev pub allocs_if : Option Script → ℕ
allocs_if None = 0
allocs_if (Some script) = alloc_count script.edits

-- the records that a run of a script logs; none without a script
abbrev pub rows_if : ℕ → World → Option Script → List Record
rows_if patch world None = []
rows_if patch world (Some script) = rows_of_script patch world script

-- The callback of this kind ran, if the patch has one: world and log are as its script leaves them. Without a callback
-- both are as before.
abbrev pub IsRun : ℕ → ℕ → Which → Option Script → World → World → RecordList → RecordList → Type 0
IsRun patch place which script before after log_before log_after =
    Changes before after log_before log_after (after_calls before (call_of patch place which script)) (rows_if patch before script)

-- the lists that `gives` makes of each item and its number, joined; the first item has the number n
abbrev pub by_number : {A B : Type 0} → (ℕ → A → List B) → ℕ → List A → List B
by_number gives n [] = []
by_number gives n (item ∷ items) = gives n item ++ by_number gives (n + 1) items

abbrev pub target_ids : ℕ → ℕ → PlanTarget → List CallbackId
target_ids patch place target = map (λ (c : Callback). record { patch = patch; place = place; which = c.which }) target.callbacks

abbrev pub patch_ids : ℕ → PlanPatch → List CallbackId
patch_ids number patch = by_number (target_ids number) 0 patch.targets

-- the callbacks of patches, in the order of the text
abbrev pub callback_ids : List PlanPatch → List CallbackId
callback_ids patches = by_number patch_ids 0 patches

-- there is a count for each callback
abbrev pub HasCounts : List PlanPatch → List ℕ → Type 0
HasCounts patches runs = length runs ≡ length (callback_ids patches)

-- the catalog after callbacks ran: each count grows by how often its callback is among them, and all else stays
abbrev pub after_runs : Catalog → List Call → Catalog
after_runs catalog calls = record catalog { runs = runs_after calls (callback_ids catalog.patches) catalog.runs }

-- how often the callback of this kind ran, if the patch has one for the object at this index
abbrev pub runs_of : Catalog → ℕ → ℕ → Which → Option ℕ
runs_of catalog patch place which =
    option_and_then (slice_get catalog.runs) (position (is_callback patch place which) (callback_ids catalog.patches))

-- the index of an object among those of a patch
abbrev pub place_of : ℕ → List PatchObject → Option ℕ
place_of object objects = position (λ (o : PatchObject). o.object == object) objects

-- how often the callback of this kind ran for this object, if the patch has one
abbrev pub callback_runs : Catalog → ℕ → ℕ → Which → Option ℕ
callback_runs catalog patch object which = option_and_then (λ place. runs_of catalog patch place which) (place_of object (objects_at catalog patch))

-- two lists of runs, one after the other, grow the counts as the joined list does, and the empty list changes
-- nothing
pub record RunsAddUp : Type 0 where
  pub none : (catalog : Catalog) → after_runs catalog [] ≡ catalog
  pub more : (catalog : Catalog) (calls others : List Call) → after_runs catalog (calls ++ others) ≡ after_runs (after_runs catalog calls) others
