use Rattle.std.proofs.Common.{◌≡◌, ◌+◌, ◌*◌, ◌≤◌}
use Rattle.klp_types.specs.Callbacks.{allocs_of, calls_of}
use Rattle.klp_patch.specs.Loaded.{is_loaded_in, loaded_from}
use Rattle.klp_patch.specs.Calls.{records_of}
use Rattle.klp_catalog.specs.Runs.{objects_at}
use Rattle.klp_patch.proofs.LoopLemmas.{left_from}
use Rattle.klp_patch.proofs.patch_callbacks.sum_allocs.Given as goal

-- what is counted and what is left are all
abbrev pub invariant-loop-place : goal.invariant-loop-place
invariant-loop-place g l = record {
  sum : l.sum + allocs_of (left_from (is_loaded_in l.modules) l.patch l.which l.place (objects_at l.catalog l.patch))
      ≡ allocs_of (calls_of l.patch l.which (loaded_from (is_loaded_in l.modules) 0 (objects_at l.catalog l.patch)));
  few : l.sum ≤ 16 * l.place;
  records : records_of (calls_of l.patch l.which (loaded_from (is_loaded_in l.modules) 0 (objects_at l.catalog l.patch)))
      ≤ 32 * l.place + records_of (left_from (is_loaded_in l.modules) l.patch l.which l.place (objects_at l.catalog l.patch));
}
