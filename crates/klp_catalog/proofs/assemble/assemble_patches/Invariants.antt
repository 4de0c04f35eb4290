use Rattle.std.proofs.Common.{◌≡◌, ◌+◌, ◌≤◌, ◌++◌, ◌||◌, length}
use Rattle.klp_catalog_text.specs.Scripts.{scripts_of}
use Rattle.klp_catalog.specs.Catalog.{some_same_site}
use Rattle.klp_catalog.specs.Stored.{stored_patches}
use Rattle.klp_catalog.proofs.assemble.assemble_patches.Given as goal

-- with the patches that are left these are all, and it is known whether a patch so far has two functions for one site
abbrev pub invariant-loop-patch : goal.invariant-loop-patch
invariant-loop-patch l = record {
  patches : l.patches.items ++ stored_patches l.modules.names l.numbers.next l.patch-iterator.rest.items ≡ stored_patches l.fn.modules.names 0 l.fn.given.items;
  next : l.numbers.next + length (scripts_of l.patch-iterator.rest.items) ≡ length (scripts_of l.fn.given.items);
  within : l.numbers.next ≤ l.numbers.end;
  end : l.numbers.end ≡ l.callbacks;
  apart : (l.same_site || some_same_site l.modules.names l.patch-iterator.rest.items) ≡ some_same_site l.fn.modules.names l.fn.given.items;
}
