-- Pre-patch up to a refusal, and the clean-up behind it.
use Rattle.std.proofs.Common.{◌≡◌, ℕ, ◌+◌, ◌++◌, List, take, Some, None, sym, ap, ◌∙◌, length, arith}
use Rattle.std.specs.Prelude.{find}
use Rattle.std.specs.List.{before_first}
use Rattle.std.proofs.lemmas.List.{append-nil}
use Rattle.klp_types.specs.declared.callback.Which.TheVariants.{Pre, PostUn}
use Rattle.klp_types.specs.Records.{RecordList}
use Rattle.klp_types.specs.Setting.{PatchObject}
use Rattle.klp_types.specs.World.{World}
use Rattle.klp_types.specs.Script.{alloc_count}
use Rattle.klp_types.specs.Callbacks.{Call, calls_of, refuses, enable_calls}
use Rattle.klp_modules.specs.Names.{ModuleTable}
use Rattle.klp_catalog.specs.Catalog.{Catalog}
use Rattle.klp_catalog.specs.Runs.{objects_at}
use Rattle.klp_patch.specs.Loaded.{is_loaded_in, loaded_from, loaded_in}
use Rattle.klp_patch.specs.Refusing.{loaded_calls, pre_calls}
use Rattle.klp_patch.specs.Calls.{HaveRun, HasRoomFor}
use Rattle.klp_patch.proofs.CallLemmas.{allocs-append, clean_calls, enable-parts, before-refusing, clean-few}
use Rattle.klp_patch.proofs.RanLemmas.{records-append, pre_adds_few, pre_notes_few}

module _ (patch : ℕ) (objects : List (ℕ × PatchObject)) where
  -- none refuses
  pub enable-passed : find refuses objects ≡ None → enable_calls patch objects ≡ pre_calls patch objects
  enable-passed none =
      enable-parts patch objects ∙ ap (λ found. pre_calls patch objects ++ clean_calls patch (before_first refuses objects) found) none
      ∙ append-nil (pre_calls patch objects)

  -- one refuses
  pub enable-refused : (object : ℕ × PatchObject) → find refuses objects ≡ Some object
      → enable_calls patch objects ≡ pre_calls patch objects ++ calls_of patch PostUn (before_first refuses objects)
  enable-refused object is = enable-parts patch objects ∙ ap (λ found. pre_calls patch objects ++ clean_calls patch (before_first refuses objects) found) is

  -- where there is room for both kinds at all objects, there is room for pre-patch, and after it for the clean-up
  module _ (world : World) (log : RecordList) (room : HasRoomFor world log (calls_of patch Pre objects ++ calls_of patch PostUn objects)) where
    pub room_for_pre : HasRoomFor world log (pre_calls patch objects)
    room_for_pre =
        let allocs = allocs-append (calls_of patch Pre objects) (calls_of patch PostUn objects) in
        let records = records-append (calls_of patch Pre objects) (calls_of patch PostUn objects) in
        let few = pre_adds_few patch objects in
        let short = pre_notes_few patch objects in
        record { variables = omega (arith, allocs, few, room.variables); records = omega (arith, records, short, room.records) }

    pub room_to_clean : (first now : Catalog) (later : World) (logged : RecordList) → HaveRun first now world later log logged (pre_calls patch objects)
        → HasRoomFor later logged (calls_of patch PostUn (before_first refuses objects))
    room_to_clean first now later logged ran =
        let allocs = allocs-append (calls_of patch Pre objects) (calls_of patch PostUn objects) in
        let records = records-append (calls_of patch Pre objects) (calls_of patch PostUn objects) in
        let few = pre_adds_few patch objects in
        let short = pre_notes_few patch objects in
        let clean_allocs = clean-few (λ (c : Call). alloc_count c.script.edits) patch objects in
        let clean_records = clean-few (λ (c : Call). length c.script.edits + alloc_count c.script.edits) patch objects in
        record {
          variables = omega (arith, allocs, few, clean_allocs, room.variables, ran.variables);
          records = omega (arith, records, short, clean_records, room.records, ran.records, ran.room);
        }

-- the clean-up is of the loaded ones of the objects before the place of the one that refuses
pub clean-first : (first now : Catalog) (modules : ModuleTable) (patch place : ℕ) (object : PatchObject) → objects_at now patch ≡ objects_at first patch
    → find refuses (loaded_in first modules patch) ≡ Some (place, object)
    → loaded_calls now modules patch PostUn place ≡ calls_of patch PostUn (before_first refuses (loaded_in first modules patch))
clean-first first now modules patch place object same is =
    let zero : place ≡ 0 + place = omega arith in
    ap (λ os. calls_of patch PostUn (loaded_from (is_loaded_in modules) 0 (take place os))) same
    ∙ sym (ap (calls_of patch PostUn) (before-refusing (is_loaded_in modules) (objects_at first patch) 0 place object (is ∙ ap (λ k. Some (k, object)) zero)))
