use Rattle.std.proofs.Common.{◌≡◌, ◌+◌, ◌≤◌, ◌++◌, length}
use Rattle.klp_catalog_text.specs.Scripts.{scripts_of_targets}
use Rattle.klp_catalog.specs.Catalog.{functions_of_patch}
use Rattle.klp_catalog.specs.Stored.{stored_targets}
use Rattle.klp_catalog.proofs.assemble.assemble_patch.Given as goal

-- with the targets that are left these are all
abbrev pub invariant-loop-target : goal.invariant-loop-target
invariant-loop-target l = record {
  targets : l.targets.items ++ stored_targets l.numbers.next l.target-iterator.rest.items ≡ stored_targets l.fn.numbers.next l.fn.patch.targets;
  functions : l.functions.items ++ functions_of_patch l.modules.names l.target-iterator.rest.items ≡ functions_of_patch l.fn.modules.names l.fn.patch.targets;
  next : l.numbers.next + length (scripts_of_targets l.target-iterator.rest.items) ≡ l.fn.numbers.next + length (scripts_of_targets l.fn.patch.targets);
  within : l.numbers.next ≤ l.numbers.end;
  end : l.numbers.end ≡ l.fn.numbers.end;
}
