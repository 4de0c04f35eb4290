use Rattle.std.proofs.Common.{map, drop, length, ◌≡◌, ◌≤◌, ◌&&◌, ◌++◌, false}
use Rattle.klp_types.specs.Setting.{function_for}
use Rattle.klp_types.specs.Entries.{entry_of}
use Rattle.klp_catalog.specs.Catalog.{setting_function}
use Rattle.klp_catalog.specs.Patch.{objects_in_order}
use Rattle.klp_patch.specs.Covered.{is_covered}
use Rattle.klp_patch.specs.Changes.{AreMade, Notes, hooked_count}
use Rattle.klp_patch.proofs.FunctionLemmas.{is_below}
use Rattle.klp_patch.proofs.OrderLemmas.{objects_of}
use Rattle.klp_patch.proofs.entries.put_functions.Given as goal

-- the functions of the objects so far are put, and those left are of the other objects
abbrev pub invariant-loop-target : goal.invariant-loop-target
invariant-loop-target l = record {
  within : l.start ≤ length l.fn.functions;
  left : drop l.start (objects_of l.fn.functions) ≡ objects_in_order (drop l.target-index l.fn.targets);
  entries : AreMade l.fn.sites l.sites (λ site. is_covered l.fn.sites l.fn.only site && is_below (function_for (map setting_function l.fn.functions) site) l.start) (λ site entries. entry_of l.fn.patch (function_for (map setting_function l.fn.functions) site) false ++ entries);
  notes : Notes l.fn.sites l.sites l.fn.log l.log l.start (hooked_count l.fn.sites) (hooked_count l.sites);
}

abbrev pub invariant-loop-number : goal.invariant-loop-number
invariant-loop-number l = record {
  entries : AreMade l.fn.sites l.sites (λ site. is_covered l.fn.sites l.fn.only site && is_below (function_for (map setting_function l.fn.functions) site) l.number) (λ site entries. entry_of l.fn.patch (function_for (map setting_function l.fn.functions) site) false ++ entries);
  notes : Notes l.fn.sites l.sites l.fn.log l.log l.number (hooked_count l.fn.sites) (hooked_count l.sites);
}
